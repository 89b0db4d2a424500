use Rattle.std.proofs.Common.{◌++◌, [], ◌∷◌, take, sym, ap, ◌∙◌, subst}
use Rattle.std.proofs.lemmas.List.{take_more, take_all}
use Rattle.desk_core.specs.theorem.Desk.{HasHistory}
use Rattle.explore_core.specs.Schedule.{history_along}
use Rattle.explore_core.proofs.Scheduling.{history_along-push}
use Rattle.explore_core.proofs.position.make_all.Goals as goal

pub loop-command-init : goal.loop-command-init
loop-command-init c = λ history stands. stands

pub loop-command-preserved : goal.loop-command-preserved
loop-command-preserved c = λ history stands.
    let commands = c.args.commands.now in
    let i = c.loop-command.command-index in
    let more = take_more commands i c.command-item.result c.loop-command-test.true ∙ ap (λ d. take i commands ++ d ∷ []) (sym c.command-item.is) in
    let is = ap (history_along history) more ∙ history_along-push history (take i commands) c.command-item.result in
    subst (HasHistory c.make_again.new.desk) (sym is) (c.in_ok-make_again.ensures.along (history_along history (take i commands)) (c.loop-command.invariant history stands))

pub returns : goal.returns
returns c = record {
  along = λ history stands.
      let all = take_all c.loop-command.command-index c.args.commands.now c.loop-command-test.false in
      subst (λ cs. HasHistory c.loop-command.desk (history_along history cs)) all (c.loop-command.invariant history stands);
}
