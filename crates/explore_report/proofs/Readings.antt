-- What a script is found to be, by its lines and their rows.
use Rattle.std.proofs.Common.{◌≡◌, ℕ, ◌-◌, ◌<◌, ◌≤◌, List, Bor, length, map, option_map, slice_get, unwrap_or, sym, ap, subst, ◌∙◌, arith, inl, inr}
use Rattle.std.proofs.lemmas.List.{length-map}
use Rattle.line_core.specs.Script.{lines_of}
use Rattle.line_core.specs.declared.script.TheConstants.{SCRIPT_BYTES}
use Rattle.explore_core.specs.Found.{CanBeExplored}
use Rattle.explore_report.specs.declared.cause.Cause.TheVariants as cause
use Rattle.explore_report.specs.declared.line.Line.{Line}
use Rattle.explore_report.specs.declared.mistake.Mistake.{Mistake}
use Rattle.explore_report.specs.declared.plan_script.PlanScript.{PlanScript}
use Rattle.explore_report.specs.declared.purpose.Purpose.{Purpose}
use Rattle.explore_report.specs.declared.row.Row.{Row}
use Rattle.explore_report.specs.declared.turn.Turn.{Turn}
use Rattle.explore_report.specs.Expected.{expects_in}
use Rattle.explore_report.specs.Mistake.{IsMistake, IsPlan}
use Rattle.explore_report.specs.Plan.{plan_of}
use Rattle.explore_report.specs.Reading.{IsNoPlan, IsPlanOf}
use Rattle.explore_report.specs.Rows.{rows_of}
use Rattle.explore_report.specs.Turns.{line_number, plan_lines, turn_text, turns_of}
use Rattle.explore_report.specs.Lines.{line_text, texts_of}
use Rattle.explore_report.proofs.Exploring.{placed-explorable}
use Rattle.explore_report.proofs.Mistakes.{no-plan}
use Rattle.explore_report.proofs.Rows.{text_of}

-- the lines of the plan are those that the script's lines make
pub plan_lines-are : (all : List (List ℕ)) (cut used : List (Bor (List ℕ))) (turns made_of : List Turn) (made : List Line) → texts_of cut ≡ all
    → texts_of used ≡ all → turns ≡ turns_of (texts_of cut) → made_of ≡ turns
    → map line_text made ≡ map (turn_text (texts_of used)) made_of → map line_text made ≡ plan_lines all
plan_lines-are all cut used turns made_of made one two are same is =
    is ∙ ap (λ ls. map (turn_text ls) made_of) two ∙ ap (map (turn_text all)) (same ∙ are ∙ ap turns_of one)

pub plan-read : (aim : Purpose) (script : List ℕ) (p : PlanScript) (cut : List (Bor (List ℕ))) → texts_of cut ≡ plan_lines (lines_of script)
    → map line_text p.lines.items ≡ plan_lines (lines_of script) → p.rows.items ≡ rows_of (texts_of cut)
    → p.expects.items ≡ expects_in (texts_of cut) p.rows.items → p.purpose ≡ aim → p.plan ≡ plan_of aim (texts_of cut) p.rows.items → length script ≤ SCRIPT_BYTES
    → IsPlan p.rows.items → IsPlanOf aim script p
plan-read aim script p cut texts lines rows expects purpose plan short found =
    let all = plan_lines (lines_of script) in
    let are : p.rows.items ≡ rows_of all = rows ∙ ap rows_of texts in
    record {
      valid = record { short = short; plan = subst IsPlan are found };
      purpose = purpose;
      is = plan ∙ ap (plan_of aim (texts_of cut)) are ∙ ap (λ ls. plan_of aim ls (rows_of all)) texts;
      explorable = subst CanBeExplored (sym plan) (placed-explorable aim (texts_of cut) p.rows.items found.placed);
      lines = lines;
      rows = are;
      expects = expects ∙ ap (expects_in (texts_of cut)) are ∙ ap (λ ls. expects_in ls (rows_of all)) texts;
    }

-- how many lines the script has
pub count-is : (script : List ℕ) (items : List (Bor (List ℕ))) (last : ℕ) → map text_of items ≡ lines_of script → last ≡ length items
    → last ≡ length (lines_of script)
count-is script items last lines count = count ∙ sym (length-map items text_of) ∙ ap length lines

-- the number of the script's line that makes a line of the plan
pub line_number-is : (all : List (List ℕ)) (turns : List Turn) (number last found : ℕ) → turns ≡ turns_of all → last ≡ length all
    → found ≡ unwrap_or (option_map (λ (t : Turn). t.number) (slice_get turns (number - 1))) last → found ≡ line_number all number
line_number-is all turns number last found are count is =
    is
    ∙ ap (λ ts. unwrap_or (option_map (λ (t : Turn). t.number) (slice_get ts (number - 1))) last) are
    ∙ ap (unwrap_or (option_map (λ (t : Turn). t.number) (slice_get (turns_of all) (number - 1)))) count

pub mistake-read : (script : List ℕ) (cut : List (Bor (List ℕ))) (rows : List Row) (last : ℕ) (wrong m : Mistake)
    → texts_of cut ≡ plan_lines (lines_of script) → rows ≡ rows_of (texts_of cut) → last ≡ length cut → length script ≤ SCRIPT_BYTES
    → IsMistake rows last wrong → m.line ≡ line_number (lines_of script) wrong.line → m.cause ≡ wrong.cause → IsNoPlan script m
mistake-read script cut rows last wrong m texts are count short found line why =
    let all = plan_lines (lines_of script) in
    let its : IsMistake (rows_of all) last wrong = subst (λ rs. IsMistake rs last wrong) (are ∙ ap rows_of texts) found in
    let lines : last ≡ length all = count ∙ sym (length-map cut text_of) ∙ ap length texts in
    let here : IsMistake (rows_of all) (length all) wrong = subst (λ n. IsMistake (rows_of all) n wrong) lines its in
    record {
      none = λ text. no-plan (rows_of all) (length all) wrong here text.plan;
      found = inr (record { short = short; wrong = wrong; found = here; line = line; why = why });
    }

pub long-read : (script : List ℕ) (items : List (Bor (List ℕ))) (last : ℕ) (m : Mistake) → map text_of items ≡ lines_of script
    → last ≡ length items → m.line ≡ last → m.cause ≡ cause.Bytes SCRIPT_BYTES → SCRIPT_BYTES < length script → IsNoPlan script m
long-read script items last m lines count line why long =
    record {
      none = λ text. absurd (omega (arith, text.short, long));
      found = inl (record { long = long; line = line ∙ count-is script items last lines count; why = why });
    }
