use Rattle.std.proofs.Common.{sym, ◌∙◌}
use Rattle.explore_report.specs.Lines.{texts_of}
use Rattle.explore_report.proofs.Expectations.{more-end, more-next, more-stop}
use Rattle.explore_report.proofs.expected.push_more.Goals as goal

pub returns-then-begins_answer : goal.returns-then-begins_answer
returns-then-begins_answer c = record {
  pushed = more-stop (texts_of c.args.lines.now) c.args.notes.now c.loop-note.note-index _ c.loop-note.text.items _
      c.loop-note-test.true c.note-item.is (sym c.begins_answer.ensures ∙ c.if-begins_answer.true) c.loop-note.invariant;
}

pub loop-note-preserved : goal.loop-note-preserved
loop-note-preserved c =
    more-next (texts_of c.args.lines.now) c.args.notes.now c.loop-note.note-index _ c.loop-note.text.items c.push_line.new.text.items _
    c.loop-note-test.true c.note-item.is (sym c.begins_answer.ensures ∙ c.if-begins_answer.false) c.in_ok-push_line.ensures.pushed c.loop-note.invariant

pub returns : goal.returns
returns c = record {
  pushed = more-end (texts_of c.args.lines.now) c.args.notes.now c.loop-note.note-index c.loop-note.text.items _ c.loop-note-test.false c.loop-note.invariant;
}
