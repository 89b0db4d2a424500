-- How far an answer came as expected.
use Rattle.std.specs.Prelude.{◌≡◌, ℕ, Bool, true, false, List, [], ◌++◌, drop, Option, None, Some}
use Rattle.check_core.specs.declared.stage.MatchStage.{MatchStage}
use Rattle.check_core.specs.declared.stage.MatchStage.TheVariants.{Unasked, Came, Differs}
use Rattle.check_core.specs.Expected.{output_of_lines, is_asked, differs}

abbrev pub place_of : MatchStage → ℕ
place_of Unasked = 0
place_of (Came place) = place
place_of Differs = 0

abbrev pub is_different : MatchStage → Bool
is_different Unasked = false
is_different (Came place) = false
is_different Differs = true

-- what the next expected line is compared with
abbrev pub left_of : MatchStage → List ℕ → Option (List ℕ)
left_of Unasked text = Some text
left_of (Came place) text = Some (drop place text)
left_of Differs text = None

-- the text begins with the expected lines, which end at that place
pub record HasCome (place : ℕ) (expected : List (List ℕ)) (text : List ℕ) : Type 0 where
  pub asked : is_asked expected ≡ true
  pub begins : text ≡ output_of_lines expected ++ drop place text

-- the stage of that text, by the lines that are expected so far
abbrev pub IsAt : MatchStage → List (List ℕ) → List ℕ → Type 0
IsAt Unasked expected text = expected ≡ []
IsAt (Came place) expected text = HasCome place expected text
IsAt Differs expected text = (more : List (List ℕ)) → differs (expected ++ more) text ≡ true
