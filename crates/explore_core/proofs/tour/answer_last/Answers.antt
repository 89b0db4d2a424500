use Rattle.std.proofs.Common.{◌≡◌, ◌<◌, Some, length, take, slice_get, get_or, refl, sym, ap, ◌∙◌, subst, arith}
use Rattle.std.proofs.lemmas.Option.{slice_get_read}
use Rattle.desk_core.specs.theorem.Desk.{HasHistory}
use Rattle.explore_core.specs.Found.{Lists}
use Rattle.explore_core.specs.Schedule.{Lines, history_along}
use Rattle.explore_core.specs.Search.{Records}
use Rattle.explore_core.proofs.Finding.{EndsAre-refl, EndsAre-push, AreEndsListed-push}
use Rattle.explore_core.proofs.Trying.{clients-count, history_along-next}
use Rattle.explore_core.proofs.tour.answer_last.Goals as goal

pub loop-place-init : goal.loop-place-init
loop-place-init c = record {
  along = λ history stands. stands;
  records = λ history stands. EndsAre-refl c.args.plan.now history c.args.schedule.now c.args.ended.now.items;
  lists = λ history stands place command few. absurd (omega (arith, few));
}

pub returns-in_err-answer-clause-records : goal.returns-in_err-answer-clause-records
returns-in_err-answer-clause-records c = c.loop-place.invariant.records

pub returns-in_err-record-clause-records : goal.returns-in_err-record-clause-records
returns-in_err-record-clause-records c = λ history stands.
    let plan = c.args.plan.now in
    let last = c.as_slice-commands.ensures.value ∙ ap (λ (p : Lines). p.last) c.plan.view_is in
    let i = c.loop-place.place in
    let command = c.index-commands-place.result in
    let at : slice_get plan.last i ≡ Some command = ap (λ cs. slice_get cs i) (sym last) ∙ slice_get_read c.as_slice-commands.result.now (length c.as_slice-commands.result.now) i command refl c.loop-place-test.true c.index-commands-place.is in
    let made = c.in_ok-answer.ensures.made (history_along history (take i plan.last)) (c.loop-place.invariant.along history stands) in
    EndsAre-push command (c.loop-place.invariant.records history stands) c.record.ensures.records at made.0

pub loop-place-preserved : goal.loop-place-preserved
loop-place-preserved c =
    let plan = c.args.plan.now in
    let commands = c.as_slice-commands.result.now in
    let last = c.as_slice-commands.ensures.value ∙ ap (λ (p : Lines). p.last) c.plan.view_is in
    let clients : c.len.result ≡ length plan.clients = c.len.ensures ∙ c.plan.inside.clients.ok.0 ∙ clients-count plan _ (ap (λ (p : Lines). p.clients) c.plan.view_is) in
    let before = c.loop-place.invariant in
    let i = c.loop-place.place in
    let command = c.index-commands-place.result in
    let at : slice_get plan.last i ≡ Some command = ap (λ cs. slice_get cs i) (sym last) ∙ slice_get_read commands (length commands) i command refl c.loop-place-test.true c.index-commands-place.is in
    let low : i < length plan.last = omega (arith, ap length last, c.loop-place-test.true) in
    let here : command ≡ get_or plan.last i command = c.index-commands-place.is ∙ ap (λ cs. get_or cs i command) last in
    record {
      along = λ history stands.
          let made = c.in_ok-answer.ensures.made (history_along history (take i plan.last)) (before.along history stands) in
          subst (HasHistory c.make.new.desk) (sym (history_along-next history plan.last i command low here)) made.1;
      records = λ history stands.
          let made = c.in_ok-answer.ensures.made (history_along history (take i plan.last)) (before.along history stands) in
          EndsAre-push command (before.records history stands) c.record.ensures.records at made.0;
      lists = λ history stands.
          let made = c.in_ok-answer.ensures.made (history_along history (take i plan.last)) (before.along history stands) in
          let old = c.loop-place.ended.items in
          let new = c.record.new.list.items in
          let answer = c.in_ok-answer.answer in
          let schedule = c.args.schedule.now in
          AreEndsListed-push plan {schedule = schedule} command (before.lists history stands)
          (subst (λ n. Records old new n i answer schedule) clients c.record.ensures.records)
          (subst (λ n. Lists new n i answer) clients c.in_ok-record.ensures.lists) at made.0;
    }

pub returns-clause-records : goal.returns-clause-records
returns-clause-records c = c.loop-place.invariant.records

pub returns-clause-lists : goal.returns-clause-lists
returns-clause-lists c = λ history stands.
    let last = c.as_slice-commands.ensures.value ∙ ap (λ (p : Lines). p.last) c.plan.view_is in
    λ place command few at. c.loop-place.invariant.lists history stands place command (omega (arith, few, ap length last, c.loop-place-test.false)) at
