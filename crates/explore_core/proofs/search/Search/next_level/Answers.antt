use Rattle.std.proofs.Common.{◌+◌, ◌≤◌, All, List, length, refl, sym, ap, ◌∙◌, subst}
use Rattle.std.proofs.lemmas.Bool.{eq-eqb, eqb-true, false≢true}
use Rattle.explore_core.specs.declared.state.State.{State}
use Rattle.explore_core.specs.Levels.{IsCovered, IsVisited}
use Rattle.explore_core.specs.Search.{Grows, IsState, counted}
use Rattle.explore_core.specs.Searching.{SearchState}
use Rattle.explore_core.proofs.Levels.{length-none}
use Rattle.explore_core.proofs.Counting.{IsComplete-covered, IsCovered-next, IsRight-next, IsRight-same, some-is}
use Rattle.explore_core.proofs.search.Search.next_level.Goals as goal

pub visit_level-requires-clause-states : goal.visit_level-requires-clause-states
visit_level-requires-clause-states c =
    let s = c.self.inside in
    let i = c.self.invariant in
    let ahead = i.3 c.if-self.false in
    subst (All (IsState s.setup.plan.now s.setup.depth)) (sym c.as_slice.ensures.value) ahead.covered.are

pub visit_level-requires-clause-within : goal.visit_level-requires-clause-within
visit_level-requires-clause-within c =
    let s = c.self.inside in
    let i = c.self.invariant in
    let ahead = i.3 c.if-self.false in
    subst (λ (ss : List State). s.tour.found.states + length ss ≤ s.bound) (sym c.as_slice.ensures.value) ahead.within

pub invariant_of-self : goal.invariant_of-self
invariant_of-self c =
    let s = c.self.inside in
    let i = c.self.invariant in
    let ahead = i.3 c.if-self.false in
    let none = length-none s.level.items (sym s.level.ok.0 ∙ eqb-true s.level.len 0 (sym c.is_empty.ensures ∙ c.if-is_empty.true)) in
    let covered = subst (IsCovered s.setup.plan.now s.tour.found s.setup.depth) none ahead.covered in (
      i.0,
      IsRight-same s.setup.plan.now s.bound s.tour.found _ refl refl refl refl refl i.1,
      λ is. IsComplete-covered covered i.0.explorable _ refl refl refl refl refl,
      λ bad. absurd (false≢true (sym bad)),
    )

pub invariant_of-self-in_default : goal.invariant_of-self-in_default
invariant_of-self-in_default c =
    let i = c.self.invariant in
    (i.0, i.1, i.2, λ bad. absurd (false≢true (sym bad)))

pub invariant_of-self-in-Ok : goal.invariant_of-self-in-Ok
invariant_of-self-in-Ok c =
    let s = c.self.inside in
    let i = c.self.invariant in
    let ahead = i.3 c.if-self.false in
    let plan = s.setup.plan.now in
    let new = c.visit_level.new.self.found in
    let grows = subst (λ (ss : List State). Grows plan s.setup.depth (counted s.tour.found (length ss)) new) c.as_slice.ensures.value c.visit_level.ensures.grows in
    let next = c.in-Ok.level.items in
    let visited = subst (All (IsVisited plan new next)) c.as_slice.ensures.value c.in-Ok.ensures.visited in
    let deeper = some-is _ c.checked_add.result (s.setup.depth + 1) c.in-Some.deeper c.in-Some.is c.checked_add.ensures in (
      record { explorable = i.0.explorable; asked = i.0.asked; ready = i.0.ready },
      IsRight-next ahead.covered grows i.1 ahead.within,
      λ is. absurd (false≢true (sym ahead.unfinished ∙ sym grows.covered ∙ is)),
      λ going. record {
        covered = subst (λ n. IsCovered plan new n next) (sym deeper) (IsCovered-next i.0.explorable ahead.covered grows visited c.in-Ok.ensures.next);
        within = c.in-Ok.ensures.within;
        unfinished = grows.covered ∙ ahead.unfinished;
      },
    )

pub invariant_of-self-in-Err : goal.invariant_of-self-in-Err
invariant_of-self-in-Err c =
    let s = c.self.inside in
    let i = c.self.invariant in
    let ahead = i.3 c.if-self.false in
    let plan = s.setup.plan.now in
    let new = c.visit_level.new.self.found in
    let grows = subst (λ (ss : List State). Grows plan s.setup.depth (counted s.tour.found (length ss)) new) c.as_slice.ensures.value c.visit_level.ensures.grows in (
      i.0,
      IsRight-same plan s.bound new _ refl refl refl refl refl (IsRight-next ahead.covered grows i.1 ahead.within),
      λ is. absurd (false≢true (sym ahead.unfinished ∙ sym grows.covered ∙ is)),
      λ bad. absurd (false≢true (sym bad)),
    )

pub returns-then-self-clause-covered : goal.returns-then-self-clause-covered
returns-then-self-clause-covered c =
    λ going none. absurd (false≢true (sym going ∙ sym (ap (λ (v : SearchState). v.has_ended) c.self.view_is) ∙ c.if-self.true))

pub returns-in_default-clause-covered : goal.returns-in_default-clause-covered
returns-in_default-clause-covered c =
    let s = c.self.inside in
    λ going none. absurd (false≢true (sym c.if-is_empty.false ∙ c.is_empty.ensures ∙ eq-eqb s.level.len 0 (s.level.ok.0 ∙ ap (λ (v : SearchState). v.coming) c.self.view_is ∙ none)))

pub returns-in-Ok-clause-covered : goal.returns-in-Ok-clause-covered
returns-in-Ok-clause-covered c =
    let s = c.self.inside in
    λ going none. absurd (false≢true (sym c.if-is_empty.false ∙ c.is_empty.ensures ∙ eq-eqb s.level.len 0 (s.level.ok.0 ∙ ap (λ (v : SearchState). v.coming) c.self.view_is ∙ none)))

pub returns-in-Err-clause-covered : goal.returns-in-Err-clause-covered
returns-in-Err-clause-covered c =
    let s = c.self.inside in
    λ going none. absurd (false≢true (sym c.if-is_empty.false ∙ c.is_empty.ensures ∙ eq-eqb s.level.len 0 (s.level.ok.0 ∙ ap (λ (v : SearchState). v.coming) c.self.view_is ∙ none)))

pub returns-then-is_empty-clause-plan : goal.returns-then-is_empty-clause-plan
returns-then-is_empty-clause-plan c =
    ap (λ (v : SearchState). v.plan) c.self.view_is

pub returns-then-is_empty-clause-bound : goal.returns-then-is_empty-clause-bound
returns-then-is_empty-clause-bound c =
    ap (λ (v : SearchState). v.bound) c.self.view_is

pub returns-in_default-clause-plan : goal.returns-in_default-clause-plan
returns-in_default-clause-plan c =
    ap (λ (v : SearchState). v.plan) c.self.view_is

pub returns-in_default-clause-bound : goal.returns-in_default-clause-bound
returns-in_default-clause-bound c =
    ap (λ (v : SearchState). v.bound) c.self.view_is

pub returns-in-Ok-clause-plan : goal.returns-in-Ok-clause-plan
returns-in-Ok-clause-plan c =
    ap (λ (v : SearchState). v.plan) c.self.view_is

pub returns-in-Ok-clause-bound : goal.returns-in-Ok-clause-bound
returns-in-Ok-clause-bound c =
    ap (λ (v : SearchState). v.bound) c.self.view_is

pub returns-in-Err-clause-plan : goal.returns-in-Err-clause-plan
returns-in-Err-clause-plan c =
    ap (λ (v : SearchState). v.plan) c.self.view_is

pub returns-in-Err-clause-bound : goal.returns-in-Err-clause-bound
returns-in-Err-clause-bound c =
    ap (λ (v : SearchState). v.bound) c.self.view_is
