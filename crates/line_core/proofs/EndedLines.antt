-- Lines whose line feed was read, and the lines of the whole script.
use Rattle.std.proofs.Common.{◌≡◌, ℕ, ◌+◌, ◌<◌, ◌≤◌, inl, inr, cond, List, [], ◌∷◌, ◌++◌, length, take, Option, Some, refl, sym, ap, ◌∙◌, length-append, length-take, arith}
use Rattle.std.proofs.lemmas.Bool.{cases_lt, lt-ltb}
use Rattle.std.proofs.lemmas.List.{take_all}
use Rattle.point_core.specs.declared.refusal.Refusal.TheVariants.{LongLine}
use Rattle.line_core.specs.declared.cutter.TheConstants.{HELD_BYTES}
use Rattle.line_core.specs.declared.line.Body.{Body}
use Rattle.line_core.specs.declared.line.Body.TheVariants.{Bad}
use Rattle.line_core.specs.declared.line.TheConstants.{LINE_BYTES}
use Rattle.line_core.specs.declared.script.Ending.{Ending}
use Rattle.line_core.specs.declared.script.Ending.TheVariants as ending
use Rattle.line_core.specs.declared.script.TheConstants.{SCRIPT_BYTES}
use Rattle.line_core.specs.Reading.{EndsSo, ConsumesAtMost}
use Rattle.line_core.specs.Cutting.{cut}
use Rattle.line_core.specs.Line.{body_from, body_of}
use Rattle.line_core.specs.Script.{last_body, answered, numbered, lines_until}
pub use Rattle.line_core.specs.Script.{ended_lines}
use Rattle.line_core.specs.ScriptLines.{LinesState, HasGiven, HasEnded}
use Rattle.line_core.specs.Words.{words_of}
use Rattle.line_core.proofs.Fronts.{answered-append}
use Rattle.line_core.proofs.LineLemmas.{numbered-cons}

-- the kept bytes of a line have the same body as the line
pub body_of-cut : (line : List ℕ) → body_of (cut line) ≡ body_of line
body_of-cut line = elim (cases_lt LINE_BYTES (length line)) [
  | inl h ↦ ap (λ b. cond b (Some (Bad LongLine)) (body_from (words_of (cut line)))) (lt-ltb LINE_BYTES (length (cut line)) (omega (arith, length-take HELD_BYTES line))) ∙ sym (ap (λ b. cond b (Some (Bad LongLine)) (body_from (words_of line))) (lt-ltb LINE_BYTES (length line) h))
  | inr h ↦ ap body_of (take_all HELD_BYTES line (omega arith))
]

pub last_body-cut : (end : Ending) (line : List ℕ) → last_body end (cut line) ≡ last_body end line
last_body-cut ending.Whole line = body_of-cut line
last_body-cut ending.TooLong line = refl
last_body-cut ending.Failed line = refl

ended_lines-push : (number : ℕ) (given : List (List ℕ)) (line : List ℕ) → ended_lines number (given ++ line ∷ []) ≡ ended_lines number given ++ answered (number + length given) (body_of line) []
ended_lines-push number [] line =
    let same : number ≡ number + 0 = omega arith in
    ap (λ n. answered n (body_of line) []) same
ended_lines-push number (x ∷ given) line =
    let same : number + 1 + length given ≡ number + length (x ∷ given) = omega arith in
    ap (answered number (body_of x)) (ended_lines-push (number + 1) given line) ∙ answered-append number (body_of x) (ended_lines (number + 1) given) (answered (number + 1 + length given) (body_of line) []) ∙ ap (λ n. ended_lines number (x ∷ given) ++ answered n (body_of line) []) same

pub numbered-given : (end : Ending) (number : ℕ) (given tail : List (List ℕ)) → 0 < length tail → numbered end number (given ++ tail) ≡ ended_lines number given ++ numbered end (number + length given) tail
numbered-given end number [] tail some =
    let same : number ≡ number + 0 = omega arith in
    ap (λ n. numbered end n tail) same
numbered-given end number (x ∷ given) tail some =
    let same : number + 1 + length given ≡ number + length (x ∷ given) = omega arith in
    numbered-cons end number x (given ++ tail) (omega (arith, length-append given tail)) ∙ ap (answered number (body_of x)) (numbered-given end (number + 1) given tail some) ∙ answered-append number (body_of x) (ended_lines (number + 1) given) (numbered end (number + 1 + length given) tail) ∙ ap (λ n. ended_lines number (x ∷ given) ++ numbered end n tail) same

-- one more line was returned
pub line-answered : (given : List (List ℕ)) (line bytes : List ℕ) (number : ℕ) (body : Option Body) → number ≡ length given + 1 → bytes ≡ cut line → body ≡ body_of bytes → ended_lines 1 given ++ answered number body [] ≡ ended_lines 1 (given ++ line ∷ [])
line-answered given line bytes number body n held is =
    let place : number ≡ 1 + length given = omega arith in
    ap (λ b. ended_lines 1 given ++ answered number b []) (is ∙ ap body_of held ∙ body_of-cut line) ∙ ap (λ k. ended_lines 1 given ++ answered k (body_of line) []) place ∙ sym (ended_lines-push 1 given line)

-- the last line of the script
pub last-answered : (before now : Option (List ℕ)) (s : LinesState) (end : Ending) (given : List (List ℕ)) (e : HasEnded before now s end given) (bytes : List ℕ) (number : ℕ) (body : Option Body) → number ≡ s.number → bytes ≡ s.line → body ≡ last_body end bytes
    → ended_lines 1 given ++ answered number body [] ≡ lines_until end (take SCRIPT_BYTES e.bytes)
last-answered before now s end given e bytes number body n held is =
    let place : number ≡ 1 + length given = omega (arith, e.number) in
    ap (λ b. ended_lines 1 given ++ answered number b []) (is ∙ ap (last_body end) (held ∙ e.is.held) ∙ last_body-cut end e.last) ∙ ap (λ k. ended_lines 1 given ++ answered k (last_body end e.last) []) place ∙ sym (ap (numbered end 1) e.split ∙ numbered-given end 1 given (e.last ∷ []) (omega arith))

pub given-within : (before now : Option (List ℕ)) (s : LinesState) (given : List (List ℕ)) → HasGiven before now s given → ConsumesAtMost (SCRIPT_BYTES + 1) before now
given-within before now s given p = record { bytes = p.bytes; consumed = p.consumed; few = omega (arith, p.read, p.few) }

ends-few : (left : Option (List ℕ)) (bytes : List ℕ) (end : Ending) → EndsSo left bytes end → length bytes ≤ SCRIPT_BYTES + 1
ends-few left bytes ending.Whole e = omega (arith, e.0)
ends-few left bytes ending.TooLong e = omega (arith, e)
ends-few left bytes ending.Failed e = omega (arith, e)

pub ended-within : (before now : Option (List ℕ)) (s : LinesState) (end : Ending) (given : List (List ℕ)) → HasEnded before now s end given → ConsumesAtMost (SCRIPT_BYTES + 1) before now
ended-within before now s end given e = record { bytes = e.bytes; consumed = e.read.consumed; few = ends-few now e.bytes end e.read.ends }
