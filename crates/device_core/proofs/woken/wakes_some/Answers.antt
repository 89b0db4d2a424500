use Rattle.std.proofs.Common.{◌∙◌, refl, sym, []}
use Rattle.device_core.proofs.Held.{holds-range}
use Rattle.device_core.proofs.Waking.{held_below, passed-none, passed-more, not-put, none-woken}
use Rattle.device_core.proofs.woken.wakes_some.Goals as goal

pub loop-due-init : goal.loop-due-init
loop-due-init c = (
  tt,
  tt,
  passed-none c.args.timeline c.args.value c.args.points.now.keys c.args.files.now.entries c.into_iter-due-iterator.result [] refl
      (λ k due there.
      let low = held_below c.args.points.now.keys c.args.files.now.entries 18446744073709551615 c.requires.indexed c.requires.below k there in
      let gives = c.into_iter-due-iterator.ensures.into_iter_gives in
      let is = c.range-due-items.ensures.between c.new.ensures.exhausted in
      holds-range c.args.timeline c.args.value 18446744073709551615 _ _ c.into_iter-due-iterator.result c.args.points.now.keys k (c.new.ensures.start ∙ c.first-first.ensures) (c.new.ensures.end ∙ c.last-last.ensures) (gives ∙ is) due low there),
)

pub loop-due-preserved : goal.loop-due-preserved
loop-due-preserved c = (
  tt,
  tt,
  passed-more c.args.timeline c.args.value c.args.points.now.keys c.args.files.now.entries c.loop-due.due-iterator c.next.new.self c.in-Some.due.now [] [] c.loop-due.invariant.2 c.in-Some.ensures.steps (not-put c.args.timeline c.args.value c.args.files.now.entries c.in-Some.due.now (sym c.file_wakes_at.ensures ∙ c.if-file_wakes_at.false)),
)

pub returns-clause-none : goal.returns-clause-none
returns-clause-none c = λ none n. none-woken c.args.timeline c.args.value c.args.points.now.keys c.args.files.now.entries c.loop-due.due-iterator c.requires.indexed c.loop-due.invariant.2 c.in-None.ensures.steps.0 n
