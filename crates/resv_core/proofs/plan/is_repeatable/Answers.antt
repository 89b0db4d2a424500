use Rattle.std.proofs.Common.{◌≡◌, rules}
use Rattle.std.specs.List.{list_all}
use Rattle.std.proofs.lemmas.Iterator.{YieldsList-from_slice}
use Rattle.std.proofs.lemmas.Iterator.Search.{all_from_yields_List}
use Rattle.resv_core.specs.Rounds.{is_in_range}
use Rattle.resv_core.proofs.plan.is_repeatable.Goals as goal

pub returns-then-is_some : goal.returns-then-is_some
returns-then-is_some c =
    let all : c.all.result ≡ list_all (is_in_range c.args.times) c.args.acts.now =
    all_from_yields_List (is_in_range c.args.times) _ _ c.all.result c.all.ensures.ran (YieldsList-from_slice c.args.acts.now cc) (λ x b q k. search rules) in
    rw all (search rules)
