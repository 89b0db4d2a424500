-- The answers that notes expect, note by note.
use Rattle.std.proofs.Common.{◌≡◌, ℕ, ◌+◌, ◌<◌, ◌≤◌, true, false, List, [], ◌∷◌, ◌++◌, length, get_or, drop, sym, ap, refl, ◌∙◌, add-one, append_assoc, append-nil, drop-cons}
use Rattle.std.proofs.lemmas.List.{drop_all}
use Rattle.explore_report.specs.declared.row.Row.{Row}
use Rattle.explore_report.specs.Expected.{begins_answer, line_expected, more_lines, with_below}

pub drop-at : {X : Type 0} (xs : List X) (i : ℕ) (x : X) → i < length xs → x ≡ get_or xs i x → drop i xs ≡ x ∷ drop (i + 1) xs
drop-at xs i x low at =
    drop-cons xs i x low
    ∙ ap (λ k. get_or xs i x ∷ drop k xs) (sym (add-one i))
    ∙ ap (λ y. y ∷ drop (i + 1) xs) (sym at)

-- what a function gives of each element and the elements below it

pub with_below-next : {X Y : Type 0} (f : X → List X → List Y) (xs : List X) (i : ℕ) (x : X) (before after all : List Y) → i < length xs
    → x ≡ get_or xs i x → after ≡ before ++ f x (drop (i + 1) xs) → before ++ with_below f (drop i xs) ≡ all
    → after ++ with_below f (drop (i + 1) xs) ≡ all
with_below-next f xs i x before after all low at pushed same =
    let rest = drop (i + 1) xs in
    ap (λ ys. ys ++ with_below f rest) pushed
    ∙ append_assoc before (f x rest) (with_below f rest)
    ∙ ap (λ ls. before ++ with_below f ls) (sym (drop-at xs i x low at))
    ∙ same

pub with_below-end : {X Y : Type 0} (f : X → List X → List Y) (xs : List X) (i : ℕ) (before all : List Y) → length xs ≤ i
    → before ++ with_below f (drop i xs) ≡ all → before ≡ all
with_below-end f xs i before all past same =
    sym (append-nil before) ∙ ap (λ ls. before ++ with_below f ls) (sym (drop_all i xs past)) ∙ same

-- the further lines of an answer

more-same : (lines : List (List ℕ)) (note : Row) (notes : List Row) → begins_answer note ≡ false
    → more_lines lines (note ∷ notes) ≡ line_expected lines note ++ more_lines lines notes
more-same lines note notes e = rw e refl

more-other : (lines : List (List ℕ)) (note : Row) (notes : List Row) → begins_answer note ≡ true → more_lines lines (note ∷ notes) ≡ []
more-other lines note notes e = rw e refl

pub more-next : (lines : List (List ℕ)) (notes : List Row) (i : ℕ) (note : Row) (before after all : List ℕ) → i < length notes → note ≡ get_or notes i note
    → begins_answer note ≡ false → after ≡ before ++ line_expected lines note → before ++ more_lines lines (drop i notes) ≡ all
    → after ++ more_lines lines (drop (i + 1) notes) ≡ all
more-next lines notes i note before after all low at e pushed same =
    let rest = drop (i + 1) notes in
    ap (λ text. text ++ more_lines lines rest) pushed
    ∙ append_assoc before (line_expected lines note) (more_lines lines rest)
    ∙ ap (λ text. before ++ text) (sym (more-same lines note rest e))
    ∙ ap (λ ns. before ++ more_lines lines ns) (sym (drop-at notes i note low at))
    ∙ same

pub more-stop : (lines : List (List ℕ)) (notes : List Row) (i : ℕ) (note : Row) (before all : List ℕ) → i < length notes → note ≡ get_or notes i note
    → begins_answer note ≡ true → before ++ more_lines lines (drop i notes) ≡ all → before ≡ all
more-stop lines notes i note before all low at e same =
    sym (append-nil before)
    ∙ ap (λ text. before ++ text) (sym (more-other lines note (drop (i + 1) notes) e))
    ∙ ap (λ ns. before ++ more_lines lines ns) (sym (drop-at notes i note low at))
    ∙ same

pub more-end : (lines : List (List ℕ)) (notes : List Row) (i : ℕ) (before all : List ℕ) → length notes ≤ i
    → before ++ more_lines lines (drop i notes) ≡ all → before ≡ all
more-end lines notes i before all past same =
    sym (append-nil before) ∙ ap (λ ns. before ++ more_lines lines ns) (sym (drop_all i notes past)) ∙ same
