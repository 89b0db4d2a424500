use Rattle.check_core.proofs.Keeping.{kept-last, kept-next, last-line, more-lines}
use Rattle.check_core.proofs.kept.push_kept.Goals as goal

pub loop-line-preserved : goal.loop-line-preserved
loop-line-preserved c =
    more-lines c.args.text.now.items c.loop-line.text.items c.push_line.new.text.items _ _ _ _ c.loop-line.invariant
    (kept-next c.loop-line.rest.now c.in-Some.line.now c.in-Some.more.now c.in-Some.ensures.lines) c.in_ok-push_line.ensures.kept

pub returns : goal.returns
returns c = record {
  kept = last-line c.args.text.now.items c.loop-line.text.items c.push_line-2.new.text.items _ _ _ c.loop-line.invariant
      (kept-last c.loop-line.rest.now c.in_default.ensures.lines) c.in_ok-push_line-2.ensures.kept;
}
