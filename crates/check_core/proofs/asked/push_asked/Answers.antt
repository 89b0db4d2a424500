use Rattle.check_core.proofs.Asking.{asked-last, asked-more}
use Rattle.check_core.proofs.Keeping.{last-line, more-lines}
use Rattle.check_core.proofs.asked.push_asked.Goals as goal

pub loop-line-preserved : goal.loop-line-preserved
loop-line-preserved c =
    more-lines c.args.asked.now.items c.loop-line.asked.items c.push_answer.new.asked.items _ _ _ _ c.loop-line.invariant
    (asked-more c.args.all c.loop-line.rest.now c.in-Some.line.now c.in-Some.more.now c.in-Some.ensures.lines) c.in_ok-push_answer.ensures.asked

pub returns : goal.returns
returns c = record {
  asked = last-line c.args.asked.now.items c.loop-line.asked.items c.push_answer-2.new.asked.items _ _ _ c.loop-line.invariant
      (asked-last c.args.all c.loop-line.rest.now c.in_default.ensures.lines) c.in_ok-push_answer-2.ensures.asked;
}
