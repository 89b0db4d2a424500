-- A race that is listed once.
use Rattle.std.proofs.Common.{◌≡◌, ℕ, ◌==◌, true, refl, sym, ap, ◌∙◌, subst, List, [], ◌∷◌, option_map, get_or, arith, inl, inr}
use Rattle.std.specs.Prelude.{All, Vec}
use Rattle.std.specs.Global.{Global}
use Rattle.std.specs.List.{AllPairs, list_any}
use Rattle.std.proofs.lemmas.Bool.{and_from, and_parts, eq-eqb, eqb-true, false≢true}
use Rattle.std.proofs.lemmas.List.Elements.{All-push, Contains-append_left, Contains-append_right}
use Rattle.std.proofs.lemmas.List.Folds.{list_any_at}
use Rattle.std.proofs.lemmas.List.Quantifiers.{all_pairs_push}
use Rattle.explore_core.specs.Access.{IsRace}
use Rattle.explore_core.specs.declared.found.Found.{Found}
use Rattle.explore_core.specs.declared.found.Race.{Race}
use Rattle.explore_core.specs.Found.{IsOtherRace, ListsRace}
use Rattle.explore_core.specs.Schedule.{Lines, Schedule}
use Rattle.explore_core.specs.Search.{Grows, IsRaceOf, RecordsRace, is_of}
use Rattle.explore_core.proofs.Finding.{get_or-any}
use Rattle.explore_core.proofs.Showing.{or-cases}

pub ListsRace-any : (races : List Race) (one other : ℕ) → list_any (is_of one other) races ≡ true → ListsRace races one other
ListsRace-any [] one other is = absurd (false≢true is)
ListsRace-any (r ∷ races) one other is = elim (or-cases (is_of one other r) (list_any (is_of one other) races) is) [
  | inl here ↦ (
      let parts = and_parts (r.one == one) (r.other == other) here in
      (r, (0, omega arith, refl), eqb-true r.one one parts.0, eqb-true r.other other parts.1))
  | inr behind ↦ (
      let rest = ListsRace-any races one other behind in
      (rest.0, Contains-append_right (r ∷ []) races rest.0 rest.1, rest.2, rest.3))
]

pub any-ListsRace : (races : List Race) (one other : ℕ) → ListsRace races one other → list_any (is_of one other) races ≡ true
any-ListsRace races one other lists =
    let r = lists.0 in
    list_any_at (is_of one other) races lists.1.0 r lists.1.1
    (ap (is_of one other) lists.1.2 ∙ and_from (r.one == one) (r.other == other) (eq-eqb r.one one lists.2) (eq-eqb r.other other lists.3))

lists-grow : {old new : List Race} {one other : ℕ} {schedule : Schedule} → RecordsRace old new one other schedule → (a b : ℕ) → ListsRace old a b → ListsRace new a b
lists-grow {old} {new} records a b lists = elim records [
  | inl same ↦ subst (λ (rs : List Race). ListsRace rs a b) (sym same) lists
  | inr more ↦ subst (λ (rs : List Race). ListsRace rs a b) (sym more.1) (lists.0, Contains-append_left old (more.0 ∷ []) lists.0 lists.1, lists.2, lists.3)
]

all-grow : {old new : List Race} {one other : ℕ} {schedule : Schedule} (P : Race → Type 0) → RecordsRace old new one other schedule → ((r : Race) → IsRaceOf one other schedule r → P r) → All P old → All P new
all-grow {old} P records is all = elim records [
  | inl same ↦ subst (All P) (sym same) all
  | inr more ↦ subst (All P) (sym more.1) (All-push P old more.0 all (is more.0 more.2))
]

once-grow : {old new : List Race} {one other : ℕ} {schedule : Schedule} → RecordsRace old new one other schedule → AllPairs IsOtherRace old → AllPairs IsOtherRace new
once-grow {old} records once = elim records [
  | inl same ↦ subst (AllPairs IsOtherRace) (sym same) once
  | inr more ↦ subst (AllPairs IsOtherRace) (sym more.1) (all_pairs_push IsOtherRace old more.0 once (λ k d few one_is other_is.
      let r = get_or old k d in
      let is = more.2 in
      more.3 (r, (k, few, get_or-any old k r d few), one_is ∙ is.one_is, other_is ∙ is.other_is)))
]

pub Grows-race : (plan : Lines) (depth : ℕ) (old new : Found) (one other : ℕ) (schedule : Schedule) → RecordsRace old.races.items new.races.items one other schedule → IsRace plan schedule one other
    → new.given ≡ old.given → new.ended ≡ old.ended → new.stuck ≡ old.stuck → new.states ≡ old.states → new.covered ≡ old.covered → Grows plan depth old new
Grows-race plan depth old new one other schedule records is given ended stuck states covered = record {
  once = λ o. record { given = rw given o.given; ended = rw ended o.ended; races = once-grow records o.races };
  states = states;
  covered = covered;
  shown = λ t. record {
    given = rw given t.given;
    ended = rw ended t.ended;
    races = all-grow (λ (r : Race). IsRace plan r.schedule.items r.one r.other) records (λ r its. rw (its.schedule_is, its.one_is, its.other_is) is) t.races;
    stuck = rw stuck t.stuck;
  };
  given = λ c p a lists. rw given lists;
  ended = λ c p a lists. rw ended lists;
  races = lists-grow records;
  stuck = λ shown is. ap (option_map (λ (v : Vec ℕ Global). v.items)) stuck ∙ is;
  soon = λ soon shown is. soon shown (sym (ap (option_map (λ (v : Vec ℕ Global). v.items)) stuck) ∙ is);
}
