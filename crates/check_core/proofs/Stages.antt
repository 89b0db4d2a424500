-- How far an answer came as expected, with one more expected line, and with no more.
use Rattle.std.proofs.Common.{◌≡◌, ◌≢◌, ℕ, ◌-◌, ◌<◌, ◌≤◌, true, false, List, [], ◌∷◌, ◌++◌, length, drop, None, Some, refl, sym, ap, ◌∙◌, append_assoc, append-nil, length-append, arith}
use Rattle.std.proofs.Math.Seq.{drop-append_seam}
use Rattle.std.proofs.Math.ListN.{drop_of_length-le}
use Rattle.std.proofs.lemmas.List.{length-drop}
use Rattle.check_core.specs.declared.stage.MatchStage.{MatchStage}
use Rattle.check_core.specs.declared.stage.MatchStage.TheVariants.{Unasked, Came, Differs}
use Rattle.check_core.specs.Expected.{ended, output_of_lines, is_asked, differs}
use Rattle.check_core.specs.Stage.{left_of, HasCome, IsAt}
use Rattle.check_core.proofs.Comparing.{came-push, is_asked-middle, other-differs, all-differs, more-differs}

-- what is left of the text stands behind the expected lines
left-behind : (stage : MatchStage) (expected : List (List ℕ)) (text left : List ℕ) → IsAt stage expected text → left_of stage text ≡ Some left → text ≡ output_of_lines expected ++ left
left-behind Unasked expected text left at is =
    let same : text ≡ left = cc in
    same ∙ ap (λ lines. output_of_lines lines ++ left) (sym at)
left-behind (Came place) expected text left at is =
    let same : drop place text ≡ left = cc in
    at.begins ∙ ap (λ xs. output_of_lines expected ++ xs) same
left-behind Differs expected text left at is = absurd (cc)

drop-behind : (front rest text : List ℕ) → text ≡ front ++ rest → drop (length text - length rest) text ≡ rest
drop-behind front rest text e =
    let place : length text - length rest ≡ length front = omega (arith, ap length e, length-append front rest) in
    ap (λ n. drop n text) place ∙ ap (λ xs. drop (length front) xs) e ∙ drop-append_seam front rest

-- the next expected line came
pub stage-came : (stage : MatchStage) (expected : List (List ℕ)) (text left line rest : List ℕ) → IsAt stage expected text → left_of stage text ≡ Some left → left ≡ ended line ++ rest → HasCome (length text - length rest) (expected ++ line ∷ []) text
stage-came stage expected text left line rest at is next =
    let whole = came-push text left rest line expected (left-behind stage expected text left at is) next in
    record {
      asked = is_asked-middle expected line [];
      begins = whole ∙ ap (λ xs. output_of_lines (expected ++ line ∷ []) ++ xs) (sym (drop-behind (output_of_lines (expected ++ line ∷ [])) rest text whole));
    }

-- another line came
pub stage-other : (stage : MatchStage) (expected : List (List ℕ)) (text left line : List ℕ) → IsAt stage expected text → left_of stage text ≡ Some left → ((rest : List ℕ) → left ≢ ended line ++ rest) → IsAt Differs (expected ++ line ∷ []) text
stage-other stage expected text left line at is other more =
    sym (other-differs text left line (expected ++ line ∷ [] ++ more) expected more (append_assoc expected (line ∷ []) more) (left-behind stage expected text left at is) other)

-- what differs differs with any more expected lines
pub stage-differs : (stage : MatchStage) (expected : List (List ℕ)) (text line : List ℕ) → IsAt stage expected text → left_of stage text ≡ None → IsAt Differs (expected ++ line ∷ []) text
stage-differs Unasked expected text line at is more = absurd (cc)
stage-differs (Came place) expected text line at is more = absurd (cc)
stage-differs Differs expected text line at is more = ap (λ lines. differs lines text) (append_assoc expected (line ∷ []) more) ∙ at (line ∷ more)

-- no more is expected, and nothing is left
pub came-all : (place : ℕ) (expected : List (List ℕ)) (text : List ℕ) → HasCome place expected text → length text ≤ place → false ≡ differs expected text
came-all place expected text came past = all-differs text (drop place text) expected came.begins (drop_of_length-le text past)

-- no more is expected, and something is left
pub came-more : (place : ℕ) (expected : List (List ℕ)) (text : List ℕ) → HasCome place expected text → place < length text → true ≡ differs expected text
came-more place expected text came below = more-differs text (drop place text) expected came.asked came.begins (λ none. absurd (omega (arith, ap length none, length-drop place text)))

differs-asked : (expected : List (List ℕ)) (text : List ℕ) → differs expected text ≡ true → true ≡ is_asked expected
differs-asked [] text e = cc
differs-asked (line ∷ more) text e = refl

pub differs-now : (expected : List (List ℕ)) (text : List ℕ) → IsAt Differs expected text → true ≡ differs expected text
differs-now expected text at = sym (ap (λ lines. differs lines text) (sym (append-nil expected)) ∙ at [])

pub differs-asks : (expected : List (List ℕ)) (text : List ℕ) → IsAt Differs expected text → true ≡ is_asked expected
differs-asks expected text at = differs-asked expected text (sym (differs-now expected text at))
