-- Calls on a table, one after another, and the table's answers.
use Rattle.std.proofs.Common.{◌≡◌, ℕ, ◌↔◌, sym, ap, List, [], ◌∷◌, ◌++◌, map, append_assoc, append-nil, Contains}
use Rattle.point_core.specs.declared.entry.Entry.{Entry}
use Rattle.point_core.specs.declared.entry.Usage.{Usage}
use Rattle.point_core.specs.declared.entry.Usage.TheVariants.{Kernel, Write, Read, Bookkeep}
use Rattle.point_core.specs.Usage.{usage_number}
use Rattle.point_core.specs.Agreement.{AgreesAbove}
use Rattle.point_core.proofs.Agreement.{AgreesAbove-same, AgreesAbove-sym, AgreesAbove-trans, AgreesAbove-append, AgreesAbove-refl, AgreesAbove-later, AgreesAbove-same_entries, listing-AgreesAbove}
use Rattle.resv_core.specs.Resv.{row_of, rows_at, rows_of}
use Rattle.resv_core.specs.Run.{Call, Reserve, Add, Trim, Leaves, Step, IsRun, last_reach, last_entries, added_by, all_added}

-- each call agrees with the entries before it and those that it adds
AgreesAbove-Leaves : (call : Call) (reach : List ℕ) (before after : List Entry) → Leaves call reach before after → AgreesAbove reach after (before ++ added_by call)
AgreesAbove-Leaves Reserve reach before after h = AgreesAbove-trans (AgreesAbove-sym h) (AgreesAbove-same reach (sym (append-nil before)))
AgreesAbove-Leaves (Add e) reach before after h = h
AgreesAbove-Leaves Trim reach before after h = AgreesAbove-trans (AgreesAbove-sym h) (AgreesAbove-same reach (sym (append-nil before)))

pub AgreesAbove-run : (reach : List ℕ) (es put : List Entry) (steps : List Step) → AgreesAbove reach es put → IsRun reach es steps → AgreesAbove (last_reach reach steps) (last_entries es steps) (put ++ all_added steps)
AgreesAbove-run reach es put [] h run = AgreesAbove-trans h (AgreesAbove-same reach (sym (append-nil put)))
AgreesAbove-run reach es put (step ∷ steps) h run =
    let left = AgreesAbove-Leaves step.call step.reach es step.after run.1 in
    let now = AgreesAbove-trans left (AgreesAbove-append (AgreesAbove-later run.0 h) (AgreesAbove-refl step.reach (added_by step.call))) in
    AgreesAbove-trans (AgreesAbove-run step.reach step.after (put ++ added_by step.call) steps now run.2) (AgreesAbove-same (last_reach step.reach steps) (append_assoc put (added_by step.call) (all_added steps)))

pub AgreesAbove-all_added : (reach : List ℕ) (steps : List Step) → IsRun reach [] steps → AgreesAbove (last_reach reach steps) (last_entries [] steps) (all_added steps)
AgreesAbove-all_added reach steps run = AgreesAbove-run reach [] [] steps (AgreesAbove-refl reach []) run

pub AgreesAbove-same_added : (reach : List ℕ) (steps others : List Step) → IsRun reach [] steps → IsRun reach [] others → last_reach reach steps ≡ last_reach reach others → ((e : Entry) → (Contains (all_added steps) e ↔ Contains (all_added others) e)) → AgreesAbove (last_reach reach steps) (last_entries [] steps) (last_entries [] others)
AgreesAbove-same_added reach steps others run run' is same =
    let other = rw (← is) at (AgreesAbove-all_added reach others run') in
    AgreesAbove-trans (AgreesAbove-all_added reach steps run)
    (AgreesAbove-trans (AgreesAbove-same_entries (last_reach reach steps) (all_added steps) (all_added others) (λ e. (same e).0) (λ e. (same e).1)) (AgreesAbove-sym other))

rows_at-AgreesAbove : {reach : List ℕ} {es fs : List Entry} (usage : Usage) → AgreesAbove reach es fs → rows_at es reach usage ≡ rows_at fs reach usage
rows_at-AgreesAbove usage h = ap (map (row_of usage)) (listing-AgreesAbove (usage_number usage) h)

pub rows_of-AgreesAbove : {reach : List ℕ} {es fs : List Entry} → AgreesAbove reach es fs → rows_of es reach ≡ rows_of fs reach
rows_of-AgreesAbove h =
    let kernel = rows_at-AgreesAbove Kernel h in
    let write = rows_at-AgreesAbove Write h in
    let read = rows_at-AgreesAbove Read h in
    let bookkeep = rows_at-AgreesAbove Bookkeep h in
    cc
