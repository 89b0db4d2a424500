-- Examples that were worked out by hand: the definitions compute them.
use Rattle.std.proofs.Common.{◌≡◌, refl, List, [], ◌∷◌, None, Some}
use Rattle.point_core.specs.declared.entry.Point.{Point}
use Rattle.point_core.specs.declared.entry.Entry.{Entry}
use Rattle.point_core.specs.declared.entry.Usage.TheVariants.{Kernel, Write, Read, Bookkeep}
use Rattle.point_core.specs.Agreement.{top, as_entries, contexts, point_of, listing, merged}

three_points : List Point
three_points = point_of 1 5 ∷ point_of 1 3 ∷ point_of 2 2 ∷ []

-- the greatest of each context, by rising context
listing-of_three : listing (as_entries three_points) 0 [] ≡ point_of 1 5 ∷ point_of 2 2 ∷ []
unfolding three_points contexts
listing-of_three = refl

-- points that the reach has signalled are not listed
listing-of_three_at_five : listing (as_entries three_points) 0 (5 ∷ []) ≡ point_of 2 2 ∷ []
unfolding three_points contexts
listing-of_three_at_five = refl

-- the listing of nothing
listing-of_nothing : listing [] 0 [] ≡ []
unfolding contexts
listing-of_nothing = refl

-- a merge keeps the later point of a shared context
merged-shared_context : merged [] (point_of 1 5 ∷ []) (point_of 1 3 ∷ point_of 2 2 ∷ []) ≡ point_of 1 5 ∷ point_of 2 2 ∷ []
unfolding contexts
merged-shared_context = refl

-- a reader's fence at 9 and the kernel's at 5, in one context
reader_and_kernel : List Entry
reader_and_kernel = record { point = point_of 1 9; usage = Read } ∷ record { point = point_of 1 5; usage = Kernel } ∷ []

-- asking for a usage gives the stronger ones too, and no weaker one
listing-for_writers : listing reader_and_kernel 1 [] ≡ point_of 1 5 ∷ []
unfolding reader_and_kernel contexts
listing-for_writers = refl

listing-for_readers : listing reader_and_kernel 2 [] ≡ point_of 1 9 ∷ []
unfolding reader_and_kernel contexts
listing-for_readers = refl

listing-for_readers_at_nine : listing reader_and_kernel 2 (9 ∷ []) ≡ []
unfolding reader_and_kernel contexts
listing-for_readers_at_nine = refl

-- a later write fence beside a read fence
top-of_a_later_write : top (record { point = point_of 1 4; usage = Read } ∷ record { point = point_of 1 7; usage = Write } ∷ []) 2 1 ≡ Some 7
top-of_a_later_write = refl

top-of_weaker_entries : top (record { point = point_of 1 4; usage = Bookkeep } ∷ []) 2 1 ≡ None
top-of_weaker_entries = refl
