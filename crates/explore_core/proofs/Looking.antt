-- The worlds of desks that look alike are alike.
use Rattle.std.proofs.Common.{◌≡◌, ℕ, ◌+◌, Bool, cond, refl, sym, ap, ◌∙◌, subst, List, [], ◌∷◌, map, count_by}
use Rattle.std.specs.List.{AllZip}
use Rattle.std.proofs.lemmas.List.Sums.{sum_by-cons}
use Rattle.point_core.specs.declared.entry.Entry.{Entry}
use Rattle.point_core.specs.Agreement.{AgreesAbove}
use Rattle.point_core.specs.Named.{is_named, same_name}
use Rattle.point_core.proofs.Agreement.{AgreesAbove-sym, AgreesAbove-trans}
use Rattle.timeline_core.specs.Timeline.{Timeline, reach_of}
use Rattle.syncfile_core.specs.SyncFile.{File}
use Rattle.fence_core.specs.Watch.{Watch, IsWatchOf}
use Rattle.desk_core.specs.theorem.World.{World, MadeFile, MadeWatch}
use Rattle.desk_core.specs.theorem.Desk.{DeskState, AreWatchesOf}
use Rattle.desk_core.specs.Keeping.{Keeps}
use Rattle.desk_core.proofs.Keeping.{AgreesAbove-keeps, length-names, sync_file_at-points}
use Rattle.explore_core.specs.Alike.{AreAlike, IsSameWatch}
use Rattle.explore_core.specs.Looks.{LooksAlike, WaitsAlike}

module _ {X Y : Type 0} (f : X → List ℕ) (g : Y → List ℕ) where
  -- of lists with the same names, as many have a name
  count-same_names : (xs : List X) (ys : List Y) (name : List ℕ) → map f xs ≡ map g ys → count_by (is_named f name) xs ≡ count_by (is_named g name) ys
  count-same_names [] [] name is = refl
  count-same_names [] (y ∷ ys) name is = absurd (cc)
  count-same_names (x ∷ xs) [] name is = absurd (cc)
  count-same_names (x ∷ xs) (y ∷ ys) name is =
      let same : f x ≡ g y = cc in
      let rest : map f xs ≡ map g ys = cc in
      sum_by-cons (λ z. cond (is_named f name z) 1 0) x xs
      ∙ ap (λ n. cond (same_name n name) 1 0 + count_by (is_named f name) xs) same
      ∙ ap (λ n. cond (is_named g name y) 1 0 + n) (count-same_names xs ys name rest)
      ∙ sym (sum_by-cons (λ z. cond (is_named g name z) 1 0) y ys)

watches-between : (reach : List ℕ) (ws vs : List Watch) (xs ys : List MadeWatch)
    → AllZip (IsWatchOf (λ (x : MadeWatch). x.cookie) (λ (x : MadeWatch). x.put) reach) ws xs
    → AllZip (IsWatchOf (λ (x : MadeWatch). x.cookie) (λ (x : MadeWatch). x.put) reach) vs ys
    → AllZip (WaitsAlike reach) ws vs → AllZip (IsSameWatch reach) xs ys
watches-between reach [] [] [] [] h k a = tt
watches-between reach [] [] [] (y ∷ ys) h k a = absurd k
watches-between reach [] [] (x ∷ xs) ys h k a = absurd h
watches-between reach [] (v ∷ vs) xs ys h k a = absurd a
watches-between reach (w ∷ ws) [] xs ys h k a = absurd a
watches-between reach (w ∷ ws) (v ∷ vs) [] ys h k a = absurd h
watches-between reach (w ∷ ws) (v ∷ vs) (x ∷ xs) [] h k a = absurd k
watches-between reach (w ∷ ws) (v ∷ vs) (x ∷ xs) (y ∷ ys) h k a = (
  record {
    cookie = sym h.0.cookie ∙ a.0.cookie ∙ k.0.cookie;
    put = AgreesAbove-trans (AgreesAbove-sym h.0.agrees) (AgreesAbove-trans a.0.points k.0.agrees);
  },
  watches-between reach ws vs xs ys h.1 k.1 a.1,
)

module _ {asked : List ℕ → Bool} {d e : DeskState} {w v : World} (k : Keeps d w) (l : Keeps e v) (looks : LooksAlike asked d e) where
  same_timelines : w.timelines ≡ v.timelines
  same_timelines = sym k.holds.timelines ∙ looks.timelines ∙ l.holds.timelines

  -- the other's reach is ours, and so is the desk's
  theirs : {es fs : List Entry} → AgreesAbove (reach_of v.timelines) es fs → AgreesAbove (reach_of w.timelines) es fs
  theirs {es} {fs} h = let P : List Timeline → Type 0 = λ ts. AgreesAbove (reach_of ts) es fs in subst P (sym same_timelines) h

  ours : {es fs : List Entry} → AgreesAbove (reach_of d.timelines) es fs → AgreesAbove (reach_of w.timelines) es fs
  ours {es} {fs} h = let P : List Timeline → Type 0 = λ ts. AgreesAbove (reach_of ts) es fs in subst P k.holds.timelines h

  their-watches : AreWatchesOf (reach_of w.timelines) e.watches.pending v.watches
  their-watches = let P : List Timeline → Type 0 = λ ts. AreWatchesOf (reach_of ts) e.watches.pending v.watches in subst P (sym same_timelines) l.holds.watches

  our-watches : AllZip (WaitsAlike (reach_of w.timelines)) d.watches.pending e.watches.pending
  our-watches = let P : List Timeline → Type 0 = λ ts. AllZip (WaitsAlike (reach_of ts)) d.watches.pending e.watches.pending in subst P k.holds.timelines looks.watches

  pub alike-looks : AreAlike asked w v
  alike-looks = record {
    timelines = same_timelines;
    file_counts = λ n.
        sym (count-same_names (λ (f : File). f.name) (λ (f : MadeFile). f.name) d.files w.files n k.holds.names)
        ∙ looks.file_counts n
        ∙ count-same_names (λ (f : File). f.name) (λ (f : MadeFile). f.name) e.files v.files n l.holds.names;
    files_made = sym (length-names d.files w.files k.holds.names) ∙ looks.files_made ∙ length-names e.files v.files l.holds.names;
    files = λ n. AgreesAbove-trans (AgreesAbove-sym (AgreesAbove-keeps k n)) (AgreesAbove-trans (ours (looks.files n)) (theirs (AgreesAbove-keeps l n)));
    lists = λ n is.
        sym (sync_file_at-points d.files w.files n k.holds.names k.holds.points) ∙ looks.lists n is ∙ sync_file_at-points e.files v.files n l.holds.names l.holds.points;
    buffer_names = sym k.holds.buffers ∙ looks.buffer_names ∙ l.holds.buffers;
    buffers = λ n. AgreesAbove-trans (AgreesAbove-sym (k.holds.tables n)) (AgreesAbove-trans (ours (looks.buffers n)) (theirs (l.holds.tables n)));
    watches = watches-between (reach_of w.timelines) d.watches.pending e.watches.pending w.watches v.watches k.holds.watches their-watches our-watches;
    watches_made = sym k.holds.watches_made ∙ looks.watches_made ∙ l.holds.watches_made;
  }
