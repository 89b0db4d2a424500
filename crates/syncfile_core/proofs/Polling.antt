-- Status of files beside running timelines.
use Rattle.std.proofs.Common.{◌≡◌, ℕ, suc, ◌+◌, ◌<◌, ◌≤◌, ◌≢◌, ◌↔◌, true, false, nat_le, refl, sym, ◌∙◌, subst, List, [], ◌∷◌, ◌++◌, All, Ok, Err, Result, arith}
use Rattle.std.specs.Prelude.{IfErr, IfOk, OnOk}
use Rattle.std.specs.List.{list_all}
use Rattle.std.proofs.lemmas.Bool.{false≢true, and_parts, and_from, leb-true, le-leb}
use Rattle.std.proofs.lemmas.List.Elements.{All-nil, All-cons, All-head, All-tail}
use Rattle.point_core.specs.declared.entry.Point.{Point}
use Rattle.point_core.specs.declared.entry.Entry.{Entry}
use Rattle.point_core.specs.Agreement.{as_entries, merged, HasContexts, AgreesAbove}
use Rattle.point_core.specs.Reach.{IsAtLeast}
use Rattle.point_core.proofs.Agreement.{as_entries-append, HasContexts-append, AgreesAbove-trans, AgreesAbove-append, AgreesAbove-same, AgreesAbove-later, AgreesAbove-listing}
use Rattle.point_core.specs.Status.{is_signalled}
use Rattle.point_core.specs.declared.refusal.Refusal.{Refusal}
use Rattle.point_core.specs.declared.refusal.Refusal.TheVariants.{Foreign}
use Rattle.point_core.specs.declared.status.Status.{Status}
use Rattle.point_core.specs.declared.status.Status.TheVariants.{Active, Signalled, Cancelled}
use Rattle.point_core.specs.Agreement.{IsReached}
use Rattle.point_core.specs.Clocks.{common_status}
use Rattle.words_core.proofs.LoadingAll.{reach_seen-is}
use Rattle.words_core.proofs.Staying.{common_status-stays}
use Rattle.words_core.specs.theorem.Loads.{clocks_seen, reach_seen, HasLoadedClocks}
use Rattle.words_core.specs.theorem.Seat.{SeatModel}
use Rattle.syncfile_core.specs.SyncFile.{File, StandsFor}
use Rattle.syncfile_core.proofs.Reached.{ReportsSetsOf-always}
use Rattle.syncfile_core.specs.Running.{IsBorneOutAt, IsBorneOut, IsActivePoll, HasRunOut, HasPolled}

-- files that are consistent with the words

pub has_contexts-All : (made : ℕ) (ps : List Point) → (list_all (λ (p : Point). nat_le p.ctx made) ps ≡ true) ↔ All (λ (p : Point). p.ctx ≤ made) ps
has_contexts-All made [] = (λ all. All-nil (λ (p : Point). p.ctx ≤ made), λ all. refl)
has_contexts-All made (p ∷ ps) =
    let P : Point → Type 0 = λ q. q.ctx ≤ made in
    let rest = has_contexts-All made ps in (
      λ all.
          let parts = and_parts (nat_le p.ctx made) (list_all (λ (q : Point). nat_le q.ctx made) ps) all in
          All-cons P p ps (leb-true p.ctx made parts.0) (rest.0 parts.1),
      λ all. and_from (nat_le p.ctx made) (list_all (λ (q : Point). nat_le q.ctx made) ps) (le-leb p.ctx made (All-head P p ps all)) (rest.1 (All-tail P p ps all)),
    )

-- by the values that the seat has seen
pub IsBorneOut-seen : {reach : List ℕ} {made : ℕ} (seat : SeatModel) (f : File) → reach ≡ reach_seen seat → made ≡ seat.words.contexts → IsBorneOutAt reach made f → IsBorneOut seat f
IsBorneOut-seen {reach} {made} seat f is same out = subst (λ r. IsBorneOutAt r seat.words.contexts f) is (subst (λ n. IsBorneOutAt reach n f) same out)

pub IsBorneOut-found : {reach : List ℕ} {made : ℕ} (seat : SeatModel) (f : File) → reach ≡ reach_seen seat → made ≡ seat.words.contexts → IsBorneOut seat f → IsBorneOutAt reach made f
IsBorneOut-found {reach} {made} seat f is same out = subst (λ n. IsBorneOutAt reach n f) (sym same) (subst (λ r. IsBorneOutAt r seat.words.contexts f) (sym is) out)

-- merges

-- a merge above a reach that is at least the files' floors abstracts to the union of their sets
pub StandsFor-merged : (reach : List ℕ) (a b : File) → HasContexts (as_entries a.points) → HasContexts (as_entries b.points) → IsAtLeast reach a.floor → IsAtLeast reach b.floor → (one other : List Entry) → StandsFor a one → StandsFor b other
    → AgreesAbove reach (as_entries (merged reach a.points b.points)) (one ++ other)
StandsFor-merged reach a b within within' above above' one other stands stands' =
    let both = as_entries-append a.points b.points in
    AgreesAbove-trans
    (AgreesAbove-listing reach (a.points ++ b.points) (subst HasContexts (sym both) (HasContexts-append (as_entries a.points) (as_entries b.points) within within')))
    (AgreesAbove-trans (AgreesAbove-same reach both) (AgreesAbove-append (AgreesAbove-later above stands) (AgreesAbove-later above' stands')))

-- a file that is consistent with the words is no longer active exactly if each point of its set is reached
pub polled-stands : (seat : SeatModel) (f : File) → IsBorneOut seat f → (set : List Entry) → StandsFor f set → (common_status (clocks_seen seat) f.points ≢ Active) ↔ IsReached set 0 (reach_seen seat)
polled-stands seat f out set stands =
    subst (λ reach. IsAtLeast reach f.floor → (common_status (clocks_seen seat) f.points ≢ Active) ↔ IsReached set 0 reach) (reach_seen-is seat) (ReportsSetsOf-always f (clocks_seen seat) set stands) out.floor

pub still_active : (status : Status) → is_signalled status ≡ false → status ≡ Active
still_active Active none = refl
still_active Signalled bad = absurd (false≢true (sym bad))
still_active Cancelled bad = absurd (false≢true (sym bad))

-- for each result of a poll
pub polled-stands_for : (seat : SeatModel) (f : File) (result : Result Status Refusal) → IfOk result (λ status. status ≡ common_status (clocks_seen seat) f.points) → OnOk result (IsBorneOut seat f)
    → IfOk result (λ status. (set : List Entry) → StandsFor f set → (status ≢ Active) ↔ IsReached set 0 (reach_seen seat))
polled-stands_for seat f (Ok status) is out = λ set stands. subst (λ (s : Status). (s ≢ Active) ↔ IsReached set 0 (reach_seen seat)) (sym is) (polled-stands seat f out set stands)
polled-stands_for seat f (Err e) is out = tt

-- a file that is no longer active keeps its status
pub polled-stays : (before seat : SeatModel) (f : File) (result : Result Status Refusal) → HasLoadedClocks before seat (clocks_seen seat) → IfOk result (λ status. status ≡ common_status (clocks_seen seat) f.points)
    → IfOk result (λ status. common_status (clocks_seen before) f.points ≢ Active → status ≡ common_status (clocks_seen before) f.points)
polled-stays before seat f (Ok status) loaded is = λ settled. is ∙ common_status-stays loaded.all f.points settled
polled-stays before seat f (Err e) loaded is = tt

-- an error for lack of one thing is an error for lack of another that needs it
pub foreign-stronger : {X P Q : Type 0} (result : Result X Refusal) → (Q → P) → IfErr result (λ e. (e ≡ Foreign) × (¬ P)) → IfErr result (λ e. (e ≡ Foreign) × (¬ Q))
foreign-stronger (Ok x) from told = tt
foreign-stronger (Err e) from told = (told.0, λ q. told.1 (from q))

-- one poll after another

pub HasRunOut-more : (f : File) (n : ℕ) (before seat after : SeatModel) → HasRunOut f n before seat → IsActivePoll f seat after → HasRunOut f (n + 1) before after
HasRunOut-more f n before seat after h poll =
    let next : suc n ≡ n + 1 = omega arith in
    subst (λ k. HasRunOut f k before after) next (seat, h, poll)

pub HasPolled-last : (f : File) (n : ℕ) (before seat after : SeatModel) (tries : ℕ) → n < tries → HasRunOut f n before seat → HasLoadedClocks seat after (clocks_seen after) → HasPolled f tries before after
HasPolled-last f n before seat after tries low h loaded = record {
  count = n;
  within = low;
  seat = seat;
  active = h;
  last = loaded;
}
