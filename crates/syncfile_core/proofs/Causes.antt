-- Causes to refuse a call.
use Rattle.std.proofs.Common.{[], ◌∷◌, ◌&&◌, ◌≡◌, ℕ, ◌<◌, ◌≤◌, Bool, true, false, refl, sym, ap, ◌∙◌, subst, List, length, Option, None, Some, Result, Ok, Err, inl, inr, is_some, nat_lt, if◌then◌else◌}
use Rattle.std.specs.List.{list_all}
use Rattle.syncfile_core.specs.Merge.{cause_to_refuse_merge}
use Rattle.std.specs.Prelude.{IsErrAnd, IfOk, OnOk, MatchOption}
use Rattle.std.proofs.Math.Bool.{and-false}
use Rattle.std.proofs.lemmas.Bool.{cases_Bool, cases_lt, lt-ltb, le-ltb, false≢true}
use Rattle.point_core.specs.declared.refusal.Refusal.{Refusal}
use Rattle.point_core.specs.declared.refusal.Refusal.TheVariants.{Exists, Limit, NoEntry}
use Rattle.point_core.specs.declared.refusal.LimitKind.TheVariants.{Files as FilesKind}
use Rattle.syncfile_core.specs.declared.files.TheConstants.{FILES}
use Rattle.syncfile_core.specs.SyncFile.{File}
use Rattle.point_core.specs.Refusal.{IsRefusedFor}
use Rattle.syncfile_core.specs.Files.{has_file, cause_to_refuse}

cause_of : Bool → Bool → Option Refusal
cause_of there room = if there then Some Exists else if room then None else Some (Limit FilesKind)

module _ (fs : List File) (name : List ℕ) where
  pub cause_to_refuse-there : has_file fs name ≡ true → cause_to_refuse fs name ≡ Some Exists
  unfolding cause_of
  cause_to_refuse-there there = ap (λ b. cause_of b (nat_lt (length fs) FILES)) there

  pub cause_to_refuse-full : has_file fs name ≡ false → FILES ≤ length fs → cause_to_refuse fs name ≡ Some (Limit FilesKind)
  unfolding cause_of
  cause_to_refuse-full new full =
      ap (λ b. cause_of b (nat_lt (length fs) FILES)) new ∙ ap (cause_of false) (le-ltb (length fs) FILES full)

  pub cause_to_refuse-none : has_file fs name ≡ false → length fs < FILES → cause_to_refuse fs name ≡ None
  unfolding cause_of
  cause_to_refuse-none new room =
      ap (λ b. cause_of b (nat_lt (length fs) FILES)) new ∙ ap (cause_of false) (lt-ltb (length fs) FILES room)

  -- without a cause, there is no file of that name, and room for one more
  pub new-by_cause : cause_to_refuse fs name ≡ None → has_file fs name ≡ false
  new-by_cause none = elim (cases_Bool (has_file fs name)) [
    | inl there ↦ let is = cause_to_refuse-there there in cc
    | inr new ↦ new
  ]

  pub room-by_cause : cause_to_refuse fs name ≡ None → length fs < FILES
  room-by_cause none = elim (cases_lt (length fs) FILES) [
    | inl room ↦ room
    | inr full ↦ let is = cause_to_refuse-full (new-by_cause none) full in cc
  ]

pub MatchOption-Some : {T : Type 0} (P : Type 0) (Q : T → Type 0) (o : Option T) (x : T) → o ≡ Some x → Q x → MatchOption o P Q
MatchOption-Some P Q o x is h = subst (λ p. MatchOption p P Q) (sym is) h

pub MatchOption-None : {T : Type 0} (P : Type 0) (Q : T → Type 0) (o : Option T) → o ≡ None → P → MatchOption o P Q
MatchOption-None P Q o is h = subst (λ p. MatchOption p P Q) (sym is) h

pub is_none : {T : Type 0} (o : Option T) → is_some o ≡ false → o ≡ None
is_none None h = refl
is_none (Some x) h = absurd (false≢true (sym h))

-- an error that is the cause
pub IsRefusedFor-Err : {T : Type 0} (o : Option Refusal) (r : Result T Refusal) (cause e : Refusal) → o ≡ Some cause → e ≡ cause → IsErrAnd r (λ given. given ≡ e) → IsRefusedFor o r
IsRefusedFor-Err {T} o (Ok v) cause e is same given = absurd given
IsRefusedFor-Err {T} o (Err f) cause e is same given =
    let r : Result T Refusal = Err f in
    let told : r ≡ Err cause = cc in
    subst (λ p. IsRefusedFor p r) (sym is) told

pub cause_to_refuse_merge-absent : (fs : List File) (name : List ℕ) (inputs : List (List ℕ)) → list_all (has_file fs) inputs ≡ false → cause_to_refuse_merge fs name inputs ≡ Some NoEntry
cause_to_refuse_merge-absent fs name inputs absent = ap (λ b. if b then cause_to_refuse fs name else Some NoEntry) absent

pub cause_to_refuse_merge-there : (fs : List File) (name : List ℕ) (inputs : List (List ℕ)) → list_all (has_file fs) inputs ≡ true → cause_to_refuse_merge fs name inputs ≡ cause_to_refuse fs name
cause_to_refuse_merge-there fs name inputs there = ap (λ b. if b then cause_to_refuse fs name else Some NoEntry) there

module _ (fs : List File) (name a b : List ℕ) where
  pub cause_to_refuse_merge-first_absent : has_file fs a ≡ false → cause_to_refuse_merge fs name (a ∷ b ∷ []) ≡ Some NoEntry
  cause_to_refuse_merge-first_absent absent = cause_to_refuse_merge-absent fs name (a ∷ b ∷ []) (ap (λ there. there && (has_file fs b && true)) absent)

  pub cause_to_refuse_merge-second_absent : has_file fs b ≡ false → cause_to_refuse_merge fs name (a ∷ b ∷ []) ≡ Some NoEntry
  cause_to_refuse_merge-second_absent absent = cause_to_refuse_merge-absent fs name (a ∷ b ∷ []) (ap (λ there. has_file fs a && (there && true)) absent ∙ and-false (has_file fs a))

  pub cause_to_refuse_merge-both : has_file fs a ≡ true → has_file fs b ≡ true → cause_to_refuse_merge fs name (a ∷ b ∷ []) ≡ cause_to_refuse fs name
  cause_to_refuse_merge-both first second = cause_to_refuse_merge-there fs name (a ∷ b ∷ []) (rw (first, second) refl)

pub OnOk-always : {T E : Type 0} (r : Result T E) (P : Type 0) → P → OnOk r P
OnOk-always (Ok v) P h = h
OnOk-always (Err e) P h = tt

pub IfOk-then : {T E : Type 0} {P Q : T → Type 0} (r : Result T E) → IfOk r P → ((v : T) → P v → Q v) → IfOk r Q
IfOk-then (Ok v) h on = on v h
IfOk-then (Err e) h on = tt
