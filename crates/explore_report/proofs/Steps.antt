-- The lines of a section, row by row.
use Rattle.std.proofs.Common.{◌≡◌, ℕ, ◌+◌, ◌<◌, ◌≤◌, List, ◌++◌, length, get_or, drop, sym, ap, ◌∙◌, append_assoc, append-nil}
use Rattle.std.proofs.lemmas.List.{drop_all, length-append}
use Rattle.explore_core.specs.declared.plan.Step.{Step}
use Rattle.explore_report.specs.declared.context.Section.{Section}
use Rattle.explore_report.specs.declared.purpose.Purpose.{Purpose}
use Rattle.explore_report.specs.declared.row.Row.{Row}
use Rattle.explore_report.specs.Plan.{steps_at, steps_from}
use Rattle.explore_report.proofs.Expectations.{drop-at}

pub steps-next : (aim : Purpose) (lines : List (List ℕ)) (all_rows : List Row) (section : Section) (rows : List Row) (i : ℕ) (row : Row) (before after all : List Step) → i < length rows
    → row ≡ get_or rows i row → after ≡ before ++ steps_at aim lines all_rows section (length before) row (drop (i + 1) rows)
    → before ++ steps_from aim lines all_rows section (length before) (drop i rows) ≡ all
    → after ++ steps_from aim lines all_rows section (length after) (drop (i + 1) rows) ≡ all
steps-next aim lines all_rows section rows i row before after all low at pushed same =
    let rest = drop (i + 1) rows in
    let own = steps_at aim lines all_rows section (length before) row rest in
    ap (λ steps. steps ++ steps_from aim lines all_rows section (length steps) rest) pushed
    ∙ ap (λ place. (before ++ own) ++ steps_from aim lines all_rows section place rest) (length-append before own)
    ∙ append_assoc before own (steps_from aim lines all_rows section (length before + length own) rest)
    ∙ ap (λ rs. before ++ steps_from aim lines all_rows section (length before) rs) (sym (drop-at rows i row low at))
    ∙ same

pub steps-end : (aim : Purpose) (lines : List (List ℕ)) (all_rows : List Row) (section : Section) (rows : List Row) (i : ℕ) (steps all : List Step) → length rows ≤ i
    → steps ++ steps_from aim lines all_rows section (length steps) (drop i rows) ≡ all → steps ≡ all
steps-end aim lines all_rows section rows i steps all past same =
    sym (append-nil steps) ∙ ap (λ rs. steps ++ steps_from aim lines all_rows section (length steps) rs) (sym (drop_all i rows past)) ∙ same
