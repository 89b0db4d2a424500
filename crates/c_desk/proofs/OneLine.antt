-- Bytes after a line's line feed.
use Rattle.std.proofs.Common.{◌≡◌, ℕ, ◌<◌, refl, arith, length, Bool, true, false, List, [], ◌∷◌, Some}
use Rattle.std.specs.Prelude.{cond}
use Rattle.std.specs.List.{onto_first}
use Rattle.point_core.specs.declared.refusal.Refusal.TheVariants.{Syntax}
use Rattle.line_core.specs.Script.{is_line_feed, lines_of}
use Rattle.line_core.specs.declared.line.Body.TheVariants.{Bad}
use Rattle.c_desk.specs.Line.{body_of_lines}

module _ (line : List ℕ) where
  abbrev Refused : List (List ℕ) → Type 0
  Refused lines = body_of_lines (line ∷ lines) ≡ Some (Bad Syntax)

  onto : (b : ℕ) (parts : List (List ℕ)) → Refused (onto_first b parts)
  onto b [] = refl
  onto b (part ∷ parts) = refl

  third : (b : ℕ) (parts : List (List ℕ)) (feed : Bool) → Refused ([] ∷ cond feed ([] ∷ parts) (onto_first b parts))
  third b parts true = refl
  third b [] false = refl
  third b (part ∷ parts) false = refl

  after_feed : (bytes : List ℕ) → Refused ([] ∷ lines_of bytes)
  after_feed [] = refl
  after_feed (b ∷ bytes) = third b (lines_of bytes) (is_line_feed b)

  second : (b : ℕ) (bytes : List ℕ) (feed : Bool) → Refused (cond feed ([] ∷ lines_of bytes) (onto_first b (lines_of bytes)))
  second b bytes true = after_feed bytes
  second b bytes false = onto b (lines_of bytes)

  -- more than one line is refused
  pub more_lines : (bytes : List ℕ) → 0 < length bytes → Refused (lines_of bytes)
  more_lines [] some = absurd (omega (arith, some))
  more_lines (b ∷ bytes) some = second b bytes (is_line_feed b)
