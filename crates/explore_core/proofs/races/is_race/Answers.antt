use Rattle.std.proofs.Common.{sym, ap, ◌∙◌}
use Rattle.std.proofs.lemmas.Option.{none-some, same_Some}
use Rattle.explore_core.specs.Access.{is_race}
use Rattle.explore_core.specs.declared.access.Access.{Access}
use Rattle.explore_core.proofs.races.is_race.Goals as goal

pub returns-in_default-clause-all : goal.returns-in_default-clause-all
returns-in_default-clause-all c = λ race. absurd (none-some race.first (sym (sym c.access.ensures ∙ c.in_default.is) ∙ race.first_is))

pub returns-in_default-access-clause-all : goal.returns-in_default-access-clause-all
returns-in_default-access-clause-all c = λ race. absurd (none-some race.second (sym (sym c.access-2.ensures ∙ c.in_default-access.is) ∙ race.second_is))

pub returns-clause-is : goal.returns-clause-is
returns-clause-is c = λ is. record {
  before = c.requires.before;
  first = c.in-Some.first;
  first_is = sym c.access.ensures ∙ c.in-Some.is;
  second = c.in-Some-access.second;
  second_is = sym c.access-2.ensures ∙ c.in-Some-access.is;
  race = sym c.is_race.ensures ∙ is;
}

pub returns-clause-all : goal.returns-clause-all
returns-clause-all c = λ race.
    let made = c.args.made.now in
    let first = same_Some race.first c.in-Some.first (sym race.first_is ∙ sym c.access.ensures ∙ c.in-Some.is) in
    let second = same_Some race.second c.in-Some-access.second (sym race.second_is ∙ sym c.access-2.ensures ∙ c.in-Some-access.is) in
    c.is_race.ensures ∙ sym (ap (λ (a : Access). is_race a race.second made) first ∙ ap (λ (b : Access). is_race c.in-Some.first b made) second) ∙ race.race
