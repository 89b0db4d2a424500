-- The set that a new file abstracts to.
use Rattle.std.proofs.Common.{◌≡◌, false, refl, ap, ◌∙◌, List, ℕ, [], ◌∷◌, ◌++◌, Option, Some, None, cond, Ok, Err, Result}
use Rattle.std.specs.Prelude.{OnOk, IsOk}
use Rattle.std.proofs.lemmas.Bool.{false≢true}
use Rattle.point_core.specs.Refusal.{IsRefusedFor}
use Rattle.std.specs.Option.{option_or}
use Rattle.std.specs.Cmp.Lexicographic.{nat_list_eq_equiv}
use Rattle.std.proofs.lemmas.List.Folds.{find-append}
use Rattle.point_core.specs.declared.entry.Point.{Point}
use Rattle.point_core.specs.declared.refusal.Refusal.{Refusal}
use Rattle.point_core.specs.Agreement.{as_entry}
use Rattle.point_core.proofs.Agreement.{AgreesAbove-refl}
use Rattle.point_core.proofs.Named.{is_some-named}
use Rattle.syncfile_core.specs.SyncFile.{File, plain_file, StandsFor, file_name, file_at}
use Rattle.syncfile_core.specs.Files.{is_named, has_file, HasStanding}
use Rattle.syncfile_core.proofs.Causes.{is_none, MatchOption-Some}

-- a new file is found by its name, after files that lack it
file_at-last : (fs : List File) (f : File) → has_file fs f.name ≡ false → file_at (fs ++ f ∷ []) f.name ≡ Some f
file_at-last fs f absent =
    find-append (is_named f.name) fs (f ∷ [])
    ∙ ap (λ o. option_or o (file_at (f ∷ []) f.name)) (is_none (file_at fs f.name) (is_some-named file_name fs f.name ∙ absent))
    ∙ ap (λ b. cond b (Some f) None) (nat_list_eq_equiv.refl f.name)

-- a file of one point that was added last abstracts to that point
pub HasStanding-plain : (fs new : List File) (name : List ℕ) (point : Point) → has_file fs name ≡ false → new ≡ fs ++ plain_file name point ∷ [] → HasStanding new name (as_entry point ∷ [])
HasStanding-plain fs new name point absent is =
    MatchOption-Some _ (λ f. StandsFor f (as_entry point ∷ [])) (file_at new name) (plain_file name point)
    (ap (λ gs. file_at gs name) is ∙ file_at-last fs (plain_file name point) absent)
    (AgreesAbove-refl (plain_file name point).floor (as_entry point ∷ []))

pub OnOk-from : {T E : Type 0} (r : Result T E) (P Q : Type 0) → (P → Q) → OnOk r P → OnOk r Q
OnOk-from (Ok v) P Q from h = from h
OnOk-from (Err e) P Q from h = tt

pub OnOk-two : {T E : Type 0} (r : Result T E) (P Q R : Type 0) → (P → Q → R) → OnOk r P → OnOk r Q → OnOk r R
OnOk-two (Ok v) P Q R both p q = both p q
OnOk-two (Err e) P Q R both p q = tt

-- the result of a draft that was drawn
pub OnOk-drawn : (r drawn : Result (Unit {0}) Refusal) (P Q R : Type 0) → (P → Q → R) → OnOk r (IsOk drawn) → OnOk drawn P → OnOk r Q → OnOk r R
OnOk-drawn (Ok v) (Ok w) P Q R both ok p q = both p q
OnOk-drawn (Ok v) (Err e) P Q R both ok p q = absurd (false≢true ok)
OnOk-drawn (Err e) drawn P Q R both ok p q = tt

-- a call that succeeded had no cause to be refused
pub accepted : (o : Option Refusal) (r : Result (Unit {0}) Refusal) → IsRefusedFor o r → OnOk r (o ≡ None)
accepted None (Ok v) told = refl
accepted None (Err e) told = tt
accepted (Some cause) (Ok v) told = absurd (cc)
accepted (Some cause) (Err e) told = tt
