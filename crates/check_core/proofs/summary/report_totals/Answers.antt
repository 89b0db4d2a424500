use Rattle.std.proofs.KnownBytes.{Appends-trans, Appends-kept}
use Rattle.check_core.proofs.summary.report_totals.Goals as goal

pub returns-clause-ok : goal.returns-clause-ok
returns-clause-ok g c =
    let contents = g.W.Write.contents in
    let start = contents c.args.writer.now in
    let files = contents c.report_count.new.writer in
    let lines = contents c.report_count-2.new.writer in
    let checked = contents c.report_count-3.new.writer in
    let differing = contents c.report_count-4.new.writer in
    let slips = contents c.report_slips.new.writer in
    let end = contents c.write_whole.new.writer in
    let two = Appends-trans start files lines _ _ c.in_ok-report_count.ensures.ok c.in_ok-report_count-2.ensures.ok in
    let three = Appends-trans start lines checked _ _ two c.in_ok-report_count-3.ensures.ok in
    let four = Appends-trans start checked differing _ _ three c.in_ok-report_count-4.ensures.ok in
    let five = Appends-trans start differing slips _ _ four c.in_ok-report_slips.ensures.ok in
    let all = Appends-trans start slips end _ _ five c.in_ok-write_whole.ensures.ok in
    Appends-kept start end (contents c.flush.new.writer) _ all c.flush.ensures.bytes
