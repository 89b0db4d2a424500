use Rattle.std.proofs.Common.{sym, ◌∙◌, subst, length, ap, arith, inl, inr}
use Rattle.std.proofs.lemmas.Bool.{cases_lt, eq-eqb, false≢true}
use Rattle.explore_core.specs.Levels.{IsCovered}
use Rattle.explore_core.proofs.Counting.{IsCovered-first, IsRight-empty}
use Rattle.explore_core.proofs.search.Search.new.Goals as goal

pub invariant_of-result : goal.invariant_of-result
invariant_of-result c =
    let plan = c.args.plan.now in
    let found = c.new.result.found in
    let none = c.new.ensures.empty in
    let first = c.in_ok-level.ensures.first in (
      record { explorable = c.requires.explorable; asked = c.in_ok-asked.ensures.asked; ready = c.new-chooser.ensures.ready },
      IsRight-empty plan c.args.bound found none,
      λ covered. absurd (false≢true (sym c.new.ensures.unfinished ∙ covered)),
      λ going. record {
        covered = subst (IsCovered plan found 0) (sym first.1) (IsCovered-first plan found first.0 none first.2);
        within = elim (cases_lt 0 c.args.bound) [
          | inl less ↦ omega (arith, none.states, ap length first.1, less)
          | inr not_less ↦ absurd (false≢true (sym going ∙ eq-eqb c.args.bound 0 (omega (arith, not_less))))
        ];
        unfinished = c.new.ensures.unfinished;
      },
    )
