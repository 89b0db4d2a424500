-- The rows of lines, one line after another.
use Rattle.std.proofs.Common.{◌≡◌, ℕ, ◌+◌, ◌<◌, List, [], ◌∷◌, ◌++◌, Bor, length, get_or, drop, map, sym, ap, ◌∙◌, add-one, append_assoc, drop-cons}
use Rattle.std.proofs.lemmas.List.{map-append}
use Rattle.explore_report.specs.declared.context.Context.{Context}
use Rattle.explore_report.specs.declared.row.Row.{Row}
use Rattle.explore_report.specs.Rows.{context_below, rows_at, rows_from}

abbrev pub text_of : Bor (List ℕ) → List ℕ
text_of line = line.now

-- the rows up to a line, its own, and those of the lines below are still all rows
pub rows-next : (lines : List (Bor (List ℕ))) (i : ℕ) (d : Bor (List ℕ)) (at below : Context) (before after all : List Row) → i < length lines
    → after ≡ before ++ rows_at at (i + 1) (get_or lines i d).now → below ≡ context_below at (get_or lines i d).now
    → before ++ rows_from at (i + 1) (map text_of (drop i lines)) ≡ all
    → after ++ rows_from below (i + 1 + 1) (map text_of (drop (i + 1) lines)) ≡ all
rows-next lines i d at below before after all low pushed under same =
    let line = get_or lines i d in
    let rest = map text_of (drop (i + 1) lines) in
    let here : drop i lines ≡ line ∷ drop (i + 1) lines = drop-cons lines i d low ∙ ap (λ k. line ∷ drop k lines) (sym (add-one i)) in
    ap (λ rows. rows ++ rows_from below (i + 1 + 1) rest) pushed
    ∙ ap (λ c. (before ++ rows_at at (i + 1) line.now) ++ rows_from c (i + 1 + 1) rest) under
    ∙ append_assoc before (rows_at at (i + 1) line.now) (rows_from (context_below at line.now) (i + 1 + 1) rest)
    ∙ ap (λ ls. before ++ rows_from at (i + 1) (map text_of ls)) (sym here)
    ∙ same

-- the lines up to one, this one, and those that follow are still all lines
pub lines-next : (before after : List (Bor (List ℕ))) (line : Bor (List ℕ)) (rest more all : List (List ℕ))
    → after ≡ before ++ line ∷ [] → rest ≡ line.now ∷ more → map text_of before ++ rest ≡ all → map text_of after ++ more ≡ all
lines-next before after line rest more all pushed parts is =
    ap (λ ls. map text_of ls ++ more) pushed
    ∙ ap (λ ls. ls ++ more) (map-append text_of before (line ∷ []))
    ∙ append_assoc (map text_of before) (line.now ∷ []) more
    ∙ ap (λ ls. map text_of before ++ ls) (sym parts)
    ∙ is

-- the last line ends the lines
pub lines-last : (before after : List (Bor (List ℕ))) (line : Bor (List ℕ)) (rest all : List (List ℕ))
    → after ≡ before ++ line ∷ [] → rest ≡ line.now ∷ [] → map text_of before ++ rest ≡ all → map text_of after ≡ all
lines-last before after line rest all pushed parts is =
    ap (map text_of) pushed
    ∙ map-append text_of before (line ∷ [])
    ∙ ap (λ ls. map text_of before ++ ls) (sym parts)
    ∙ is
