-- What a buffer keeps agrees with its journal.
use Rattle.std.proofs.Common.{◌≡◌, ℕ, List, [], ◌∷◌, ◌++◌, sym}
use Rattle.point_core.specs.declared.entry.Entry.{Entry}
use Rattle.point_core.specs.Agreement.{AgreesAbove}
use Rattle.point_core.proofs.Agreement.{AgreesAbove-same, AgreesAbove-sym, AgreesAbove-trans, AgreesAbove-append, AgreesAbove-refl}

-- after a put, which adds one entry to both the entries and the journal
pub AgreesAbove-put : {floor reach : List ℕ} {old reserved new journal longer : List Entry} (e : Entry) → floor ≡ reach → AgreesAbove floor old journal → AgreesAbove reach old reserved → AgreesAbove reach new (reserved ++ e ∷ []) → longer ≡ journal ++ e ∷ [] → AgreesAbove floor new longer
AgreesAbove-put {floor} {reach} {old} {reserved} {new} {journal} {longer} e same before kept added put =
    let there = rw (← same) at kept in
    let now = rw (← same) at added in
    AgreesAbove-trans now
    (AgreesAbove-trans (AgreesAbove-append (AgreesAbove-trans (AgreesAbove-sym there) before) (AgreesAbove-refl floor (e ∷ [])))
    (AgreesAbove-same floor (sym put)))
