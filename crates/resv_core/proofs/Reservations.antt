-- The tables of a buffer, as its reservation.
use Rattle.std.proofs.Common.{◌≡◌, ℕ, refl, sym, ap, ◌∙◌, subst, List, [], ◌++◌, Option, None, Some}
use Rattle.std.specs.Prelude.{option_map, IfSome}
use Rattle.point_core.specs.declared.entry.Entry.{Entry}
use Rattle.point_core.specs.Agreement.{AgreesAbove, HasContexts}
use Rattle.point_core.proofs.Agreement.{HasContexts-append, listing-nil}
use Rattle.resv_core.specs.declared.tops.Tops.{Tops}
use Rattle.resv_core.specs.Resv.{Reservation, IsTable, rows_of}
use Rattle.resv_core.specs.Tops.{AreTops}
use Rattle.resv_core.specs.TopTable.{AreRising, entries_of, reservation_of}
use Rattle.resv_core.proofs.Kept.{AgreesAbove-entries_of, AreRising-AreTops, AreTops-entries_of, HasContexts-entries_of, IsTable-entries_of}

-- after the first fence
pub entries-Some : {B : Type 0} (o : Option B) (tops : B → Tops) (b : B) (r : Reservation) → reservation_of (option_map tops o) ≡ r → o ≡ Some b → r.entries ≡ entries_of (tops b)
entries-Some o tops b r view is = sym (ap (λ (q : Reservation). q.entries) view) ∙ ap (λ p. (reservation_of (option_map tops p)).entries) is

-- before it
pub entries-None : {B : Type 0} (o : Option B) (tops : B → Tops) (r : Reservation) → reservation_of (option_map tops o) ≡ r → o ≡ None → r.entries ≡ []
entries-None o tops r view is = sym (ap (λ (q : Reservation). q.entries) view) ∙ ap (λ p. (reservation_of (option_map tops p)).entries) is

pub IfSome-at : {B : Type 0} (o : Option B) (P : B → Type 0) (b : B) → o ≡ Some b → IfSome o P → P b
IfSome-at o P b is h = subst (λ p. IfSome p P) is h

-- what was put into tables that exist
pub record IsMore (es before : List Entry) (new : Tops) : Type 0 where
  pub rising : AreRising new
  pub table : IsTable (record { entries = entries_of new; room = 0 })
  pub agrees : (reach : List ℕ) → AgreesAbove reach (entries_of new) (before ++ es)

-- what is known of tables that were read
pub record Stands (r : Reservation) (tops : Tops) : Type 0 where
  pub entries : r.entries ≡ entries_of tops
  pub rising : AreRising tops
  pub tell : AreTops tops [] (entries_of tops)
  pub contexts : HasContexts (entries_of tops)

pub Stands-Some : {B : Type 0} (o : Option B) (tops : B → Tops) (b : B) (r : Reservation) (read : Tops) → reservation_of (option_map tops o) ≡ r → IfSome o (λ c. AreRising (tops c)) → o ≡ Some b → read ≡ tops b → Stands r read
Stands-Some o tops b r read view kept is same =
    let rising = IfSome-at o (λ c. AreRising (tops c)) b is kept in
    subst (Stands r) (sym same) (record {
      entries = entries-Some o tops b r view is;
      rising = rising;
      tell = AreTops-entries_of (tops b) rising;
      contexts = HasContexts-entries_of (tops b) rising;
    })

pub IsMore-raised : {r : Reservation} {old new : Tops} (es : List Entry) → Stands r old → HasContexts es → AreTops new [] (entries_of old ++ es) → IsMore es r.entries new
IsMore-raised {r} {old} {new} es h within tell =
    let rising = AreRising-AreTops tell in
    record {
      rising = rising;
      table = IsTable-entries_of new rising;
      agrees = λ reach. subst (λ before. AgreesAbove reach (entries_of new) (before ++ es)) (sym h.entries) (AgreesAbove-entries_of reach tell (HasContexts-append (entries_of old) es h.contexts within));
    }

pub IsMore-first : {before : List Entry} {new : Tops} (es : List Entry) → before ≡ [] → HasContexts es → AreTops new [] es → IsMore es before new
IsMore-first {before} {new} es none within tell =
    let rising = AreRising-AreTops tell in
    record {
      rising = rising;
      table = IsTable-entries_of new rising;
      agrees = λ reach. subst (λ first. AgreesAbove reach (entries_of new) (first ++ es)) (sym none) (AgreesAbove-entries_of reach tell within);
    }

pub rows_of-nil : (reach : List ℕ) → rows_of [] reach ≡ []
rows_of-nil reach = rw (listing-nil 0 reach) refl
