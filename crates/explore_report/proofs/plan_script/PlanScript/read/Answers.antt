use Rattle.std.proofs.Common.{◌≡◌, ap, sym, subst, refl, ◌∙◌, arith, length, map}
use Rattle.line_core.specs.Script.{lines_of}
use Rattle.explore_report.specs.Expected.{expects_in}
use Rattle.explore_report.specs.Lines.{line_text, texts_of}
use Rattle.explore_report.specs.Mistake.{IsPlan}
use Rattle.explore_report.specs.Plan.{plan_of}
use Rattle.explore_report.specs.Turns.{plan_lines, turns_of}
use Rattle.explore_report.proofs.Readings.{count-is, line_number-is, long-read, mistake-read, plan-read, plan_lines-are}
use Rattle.explore_report.proofs.plan_script.PlanScript.read.Goals as goal

pub returns-then-script-gt-SCRIPT_BYTES-clause-reading : goal.returns-then-script-gt-SCRIPT_BYTES-clause-reading
returns-then-script-gt-SCRIPT_BYTES-clause-reading c =
    long-read c.args.script.now c.in_ok-lines.lines.items c.len-last.result _ c.in_ok-lines.ensures.lines
    (c.len-last.ensures ∙ c.in_ok-lines.lines.ok.0) refl refl (omega arith)

pub returns-in-Some-clause-reading : goal.returns-in-Some-clause-reading
returns-in-Some-clause-reading c =
    let all = lines_of c.args.script.now in
    let cut : texts_of c.as_slice.result.now ≡ all = ap texts_of c.as_slice.ensures.value ∙ c.in_ok-lines.ensures.lines in
    let used : texts_of c.as_slice-2.result.now ≡ all = ap texts_of c.as_slice-2.ensures.value ∙ c.in_ok-lines.ensures.lines in
    let made : map line_text c.in_ok-made.made.items ≡ plan_lines all =
    plan_lines-are all c.as_slice.result.now c.as_slice-2.result.now c.in_ok-turns.turns.items c.as_slice-3.result.now c.in_ok-made.made.items
    cut used c.in_ok-turns.ensures.turns c.as_slice-3.ensures.value c.in_ok-made.ensures.texts in
    let texts : texts_of c.as_slice-5.result.now ≡ plan_lines all =
    ap texts_of c.as_slice-5.ensures.value ∙ c.in_ok-texts.ensures.texts ∙ ap (map line_text) c.as_slice-4.ensures.value ∙ made in
    mistake-read c.args.script.now c.as_slice-5.result.now c.as_slice-6.result.now c.len.result _ _
    texts (c.as_slice-6.ensures.value ∙ c.in_ok-rows.ensures.rows)
    (c.len.ensures ∙ c.in_ok-texts.texts.ok.0 ∙ ap length (sym c.as_slice-5.ensures.value)) (omega arith) c.in-Some.ensures.found
    (line_number-is all c.as_slice-in-Some.result.now _ c.len-last.result _ (c.as_slice-in-Some.ensures.value ∙ c.in_ok-turns.ensures.turns ∙ ap turns_of cut)
    (count-is c.args.script.now c.in_ok-lines.lines.items c.len-last.result c.in_ok-lines.ensures.lines (c.len-last.ensures ∙ c.in_ok-lines.lines.ok.0))
    c.line_number.ensures) refl

pub returns-clause-reading : goal.returns-clause-reading
returns-clause-reading c =
    let all = lines_of c.args.script.now in
    let cut : texts_of c.as_slice.result.now ≡ all = ap texts_of c.as_slice.ensures.value ∙ c.in_ok-lines.ensures.lines in
    let used : texts_of c.as_slice-2.result.now ≡ all = ap texts_of c.as_slice-2.ensures.value ∙ c.in_ok-lines.ensures.lines in
    let made : map line_text c.in_ok-made.made.items ≡ plan_lines all =
    plan_lines-are all c.as_slice.result.now c.as_slice-2.result.now c.in_ok-turns.turns.items c.as_slice-3.result.now c.in_ok-made.made.items
    cut used c.in_ok-turns.ensures.turns c.as_slice-3.ensures.value c.in_ok-made.ensures.texts in
    let texts : texts_of c.as_slice-5.result.now ≡ plan_lines all =
    ap texts_of c.as_slice-5.ensures.value ∙ c.in_ok-texts.ensures.texts ∙ ap (map line_text) c.as_slice-4.ensures.value ∙ made in
    plan-read c.args.purpose c.args.script.now _ c.as_slice-5.result.now texts made c.in_ok-rows.ensures.rows
    (c.in_ok-expects.ensures.all ∙ ap (expects_in _) c.as_slice-10.ensures.value
    ∙ ap (λ ls. expects_in (texts_of ls) c.in_ok-rows.rows.items) (c.as_slice-9.ensures.value ∙ sym c.as_slice-5.ensures.value))
    refl (c.in_ok-plan.ensures.plan ∙ ap (plan_of c.args.purpose _) c.as_slice-8.ensures.value
    ∙ ap (λ ls. plan_of c.args.purpose (texts_of ls) c.in_ok-rows.rows.items) (c.as_slice-7.ensures.value ∙ sym c.as_slice-5.ensures.value)) (omega arith)
    (subst IsPlan c.as_slice-6.ensures.value c.in_default.ensures.found)
