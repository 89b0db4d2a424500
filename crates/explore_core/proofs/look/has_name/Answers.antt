use Rattle.std.proofs.Common.{refl, sym, ap, ◌∙◌}
use Rattle.std.proofs.lemmas.List.{take_all}
use Rattle.explore_core.specs.Search.{has_name}
use Rattle.explore_core.proofs.Asking.{has-at, has-none}
use Rattle.explore_core.proofs.look.has_name.Goals as goal

pub loop-name-init : goal.loop-name-init
loop-name-init c = refl

pub loop-name-preserved : goal.loop-name-preserved
loop-name-preserved c =
    has-none c.args.names.now c.args.file.now c.loop-name.name-index c.name-item.result c.loop-name-test.true c.name-item.is c.loop-name.invariant (sym c.is_name.ensures ∙ c.if-is_name.false)

pub returns-then-is_name : goal.returns-then-is_name
returns-then-is_name c =
    sym (has-at c.args.names.now c.args.file.now c.loop-name.name-index c.name-item.result c.loop-name-test.true c.name-item.is (sym c.is_name.ensures ∙ c.if-is_name.true))

pub returns : goal.returns
returns c = sym c.loop-name.invariant ∙ ap (λ ns. has_name ns c.args.file.now) (take_all c.loop-name.name-index c.args.names.now c.loop-name-test.false)
