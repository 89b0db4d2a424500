use Rattle.line_core.specs.Script.{lines_of}
use Rattle.explore_report.proofs.Rows.{lines-last, lines-next}
use Rattle.explore_report.proofs.plan_script.lines_of.Goals as goal

pub loop-line-preserved : goal.loop-line-preserved
loop-line-preserved c =
    lines-next c.loop-line.lines.items c.push.new.self.items c.in-Some.line (lines_of c.loop-line.rest.now) (lines_of c.in-Some.more.now) (lines_of c.args.script.now)
    c.in_ok-push.ensures.items c.in-Some.ensures.lines c.loop-line.invariant

pub returns : goal.returns
returns c = record {
  lines = lines-last c.loop-line.lines.items c.push-2.new.self.items c.loop-line.rest (lines_of c.loop-line.rest.now) (lines_of c.args.script.now)
      c.in_ok-push-2.ensures.items c.in_default.ensures.lines c.loop-line.invariant;
}
