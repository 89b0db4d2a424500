-- What compares as equal is equal: what can be seen of a desk.
use Rattle.std.proofs.Common.{◌≡◌, ℕ, nat_eq, Bool, true, false, ◌&&◌, refl, sym, ap, ◌∙◌, List, [], ◌∷◌}
use Rattle.std.specs.Cmp.Lexicographic.{same_text}
use Rattle.std.proofs.lemmas.Bool.{eqb-true, eq-eqb, and_parts, and_from, false≢true}
use lib.Pointwise.{pointwise}
use Rattle.std.specs.contracts.prelude.BoolPartialEq.TheImpl as of_flag
use Rattle.point_core.specs.declared.entry.Point.{Point}
use Rattle.point_core.specs.declared.entry.Usage.{Usage}
use Rattle.point_core.specs.declared.entry.Usage.TheVariants as usage
use Rattle.point_core.specs.declared.listing.TopRow.{TopRow}
use Rattle.point_core.specs.declared.timeline_row.TimelineRow.{TimelineRow}
use Rattle.point_core.specs.Named.{same_name}
use Rattle.point_core.specs.contracts.entry.UsagePartialEq.TheImpl as of_usage
use Rattle.explore_core.specs.declared.look.BufferLook.{BufferLook}
use Rattle.explore_core.specs.declared.look.FileLook.{FileLook}

pub pointwise-is : {X : Type 0} (same : X → X → Bool) → ((x y : X) → same x y ≡ true → x ≡ y) → (xs ys : List X) → pointwise same xs ys ≡ true → xs ≡ ys
pointwise-is same is [] [] h = refl
pointwise-is same is [] (y ∷ ys) h = absurd (false≢true h)
pointwise-is same is (x ∷ xs) [] h = absurd (false≢true h)
pointwise-is same is (x ∷ xs) (y ∷ ys) h =
    let parts = and_parts (same x y) (pointwise same xs ys) h in
    ap (λ z. z ∷ xs) (is x y parts.0) ∙ ap (λ zs. y ∷ zs) (pointwise-is same is xs ys parts.1)

pub pointwise-refl : {X : Type 0} (same : X → X → Bool) → ((x : X) → same x x ≡ true) → (xs : List X) → pointwise same xs xs ≡ true
pointwise-refl same is [] = refl
pointwise-refl same is (x ∷ xs) = and_from (same x x) (pointwise same xs xs) (is x) (pointwise-refl same is xs)

pub number-refl : (n : ℕ) → nat_eq n n ≡ true
number-refl n = eq-eqb n n refl

pub name-refl : (a : List ℕ) → same_name a a ≡ true
name-refl a = pointwise-refl nat_eq number-refl a

pub name-is : (a b : List ℕ) → same_name a b ≡ true → a ≡ b
name-is a b h = same_text a b (sym h)

abbrev same_flag : Bool → Bool → Bool
same_flag = of_flag.ghosts.eq

flag-is : (a b : Bool) → same_flag a b ≡ true → a ≡ b
flag-is true true h = refl
flag-is false false h = refl
flag-is _ _ h = absurd (false≢true h)

flag-refl : (a : Bool) → same_flag a a ≡ true
flag-refl true = refl
flag-refl false = refl

-- points, and what is pending

abbrev pub same_point : Point → Point → Bool
same_point a b = nat_eq a.ctx b.ctx && nat_eq a.value b.value

pub point-is : (a b : Point) → same_point a b ≡ true → a ≡ b
point-is a b h =
    let parts = and_parts (nat_eq a.ctx b.ctx) (nat_eq a.value b.value) h in
    let ctx : a.ctx ≡ b.ctx = eqb-true a.ctx b.ctx parts.0 in
    let value : a.value ≡ b.value = eqb-true a.value b.value parts.1 in
    λ i. record { ctx = ctx i; value = value i }

abbrev pub same_usage : Usage → Usage → Bool
same_usage = of_usage.ghosts.eq

pub usage-is : (a b : Usage) → same_usage a b ≡ true → a ≡ b
usage-is usage.Kernel usage.Kernel h = refl
usage-is usage.Write usage.Write h = refl
usage-is usage.Read usage.Read h = refl
usage-is usage.Bookkeep usage.Bookkeep h = refl
usage-is _ _ h = absurd (false≢true h)

pub usage-refl : (a : Usage) → same_usage a a ≡ true
usage-refl usage.Kernel = refl
usage-refl usage.Write = refl
usage-refl usage.Read = refl
usage-refl usage.Bookkeep = refl

abbrev pub same_top : TopRow → TopRow → Bool
same_top a b = same_usage a.usage b.usage && (nat_eq a.ctx b.ctx && nat_eq a.point b.point)

pub top-is : (a b : TopRow) → same_top a b ≡ true → a ≡ b
top-is a b h =
    let parts = and_parts (same_usage a.usage b.usage) (nat_eq a.ctx b.ctx && nat_eq a.point b.point) h in
    let rest = and_parts (nat_eq a.ctx b.ctx) (nat_eq a.point b.point) parts.1 in
    let usage : a.usage ≡ b.usage = usage-is a.usage b.usage parts.0 in
    let ctx : a.ctx ≡ b.ctx = eqb-true a.ctx b.ctx rest.0 in
    let point : a.point ≡ b.point = eqb-true a.point b.point rest.1 in
    λ i. record { usage = usage i; ctx = ctx i; point = point i }

-- what can be seen of a desk

abbrev pub same_file : FileLook → FileLook → Bool
same_file a b = same_name a.name b.name && pointwise same_point a.points b.points

pub file-is : (a b : FileLook) → same_file a b ≡ true → a ≡ b
file-is a b h =
    let parts = and_parts (same_name a.name b.name) (pointwise same_point a.points b.points) h in
    let name : a.name ≡ b.name = name-is a.name b.name parts.0 in
    let points : a.points ≡ b.points = pointwise-is same_point point-is a.points b.points parts.1 in
    λ i. record { name = name i; points = points i }

abbrev pub same_buffer : BufferLook → BufferLook → Bool
same_buffer a b = same_name a.name b.name && pointwise same_top a.tops b.tops

pub buffer-is : (a b : BufferLook) → same_buffer a b ≡ true → a ≡ b
buffer-is a b h =
    let parts = and_parts (same_name a.name b.name) (pointwise same_top a.tops b.tops) h in
    let name : a.name ≡ b.name = name-is a.name b.name parts.0 in
    let tops : a.tops ≡ b.tops = pointwise-is same_top top-is a.tops b.tops parts.1 in
    λ i. record { name = name i; tops = tops i }

abbrev pub same_row : TimelineRow → TimelineRow → Bool
same_row a b = same_name a.name b.name && (nat_eq a.value b.value && same_flag a.closed b.closed)

pub row-is : (a b : TimelineRow) → same_row a b ≡ true → a ≡ b
row-is a b h =
    let parts = and_parts (same_name a.name b.name) (nat_eq a.value b.value && same_flag a.closed b.closed) h in
    let rest = and_parts (nat_eq a.value b.value) (same_flag a.closed b.closed) parts.1 in
    let name : a.name ≡ b.name = name-is a.name b.name parts.0 in
    let value : a.value ≡ b.value = eqb-true a.value b.value rest.0 in
    let closed : a.closed ≡ b.closed = flag-is a.closed b.closed rest.1 in
    λ i. record { name = name i; value = value i; closed = closed i }

pub row-refl : (a : TimelineRow) → same_row a a ≡ true
row-refl a =
    and_from (same_name a.name a.name) (nat_eq a.value a.value && same_flag a.closed a.closed) (name-refl a.name)
    (and_from (nat_eq a.value a.value) (same_flag a.closed a.closed) (number-refl a.value) (flag-refl a.closed))
