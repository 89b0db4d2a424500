-- The lines of a prefix of a script, and the lines of the whole script.
use Rattle.std.proofs.Common.{◌≡◌, ℕ, ◌<◌, Bool, true, false, cond, List, [], ◌∷◌, ◌++◌, length, Option, None, Some, refl, ap, ◌∙◌, arith}
use Rattle.std.specs.List.{onto_first}
use Rattle.std.proofs.lemmas.List.Splits.{length-slice_split}
use Rattle.line_core.specs.declared.line.Body.{Body}
use Rattle.line_core.specs.declared.line.Line.{Line}
use Rattle.line_core.specs.Script.{is_line_feed, lines_of, answered}

-- the last of the first pieces is joined to the first of the second
abbrev pub glue : List (List ℕ) → List (List ℕ) → List (List ℕ)
glue [] qs = qs
glue (p ∷ []) [] = p ∷ []
glue (p ∷ []) (q ∷ qs) = (p ++ q) ∷ qs
glue (p ∷ r ∷ ps) qs = p ∷ glue (r ∷ ps) qs

glue-nil : (qs : List (List ℕ)) → 0 < length qs → qs ≡ glue ([] ∷ []) qs
glue-nil [] h = absurd (omega arith)
glue-nil (q ∷ qs) h = refl

pub glue-cons : (p : List ℕ) (ps qs : List (List ℕ)) → 0 < length ps → p ∷ glue ps qs ≡ glue (p ∷ ps) qs
glue-cons p [] qs h = absurd (omega arith)
glue-cons p (r ∷ ps) qs h = refl

glue-onto_first : (x : ℕ) (ps qs : List (List ℕ)) → 0 < length ps → onto_first x (glue ps qs) ≡ glue (onto_first x ps) qs
glue-onto_first x [] qs h = absurd (omega arith)
glue-onto_first x (p ∷ []) [] h = refl
glue-onto_first x (p ∷ []) (q ∷ qs) h = refl
glue-onto_first x (p ∷ r ∷ ps) qs h = refl

pub some_lines : (bytes : List ℕ) → 0 < length (lines_of bytes)
some_lines bytes = omega (arith, length-slice_split is_line_feed bytes)

cond-glue : (b : Bool) (x : ℕ) (ps qs : List (List ℕ)) → 0 < length ps → cond b ([] ∷ glue ps qs) (onto_first x (glue ps qs)) ≡ glue (cond b ([] ∷ ps) (onto_first x ps)) qs
cond-glue true x ps qs h = glue-cons [] ps qs h
cond-glue false x ps qs h = glue-onto_first x ps qs h

pub lines_of-append : (xs ys : List ℕ) → lines_of (xs ++ ys) ≡ glue (lines_of xs) (lines_of ys)
lines_of-append [] ys = glue-nil (lines_of ys) (some_lines ys)
lines_of-append (x ∷ xs) ys = ap (λ ls. cond (is_line_feed x) ([] ∷ ls) (onto_first x ls)) (lines_of-append xs ys) ∙ cond-glue (is_line_feed x) x (lines_of xs) (lines_of ys) (some_lines xs)

pub answered-append : (number : ℕ) (body : Option Body) (front rest : List Line) → answered number body (front ++ rest) ≡ answered number body front ++ rest
answered-append number None front rest = refl
answered-append number (Some body) front rest = refl
