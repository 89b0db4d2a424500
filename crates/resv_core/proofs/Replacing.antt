-- Replacing an entry that gives way to a new one loses nothing.
use Rattle.std.proofs.Common.{◌≡◌, ℕ, ◌<◌, ◌≤◌, ◌⊎◌, zero, suc, refl, sym, ap, ◌∙◌, List, [], ◌∷◌, ◌++◌, length, get_or, set, arith, Bool, true, false, ◌==◌, nat_le, ◌&&◌, inl, inr}
use Rattle.std.specs.List.{list_any, HoldsAt, AllWithin}
use Rattle.std.proofs.lemmas.Bool.{cases_Bool, or_cases, and_parts, leb-true, eqb-true}
use Rattle.std.proofs.lemmas.List.Folds.{list_any_at, list_any_none}
use Rattle.std.proofs.lemmas.List.Elements.{All-from_all_within}
use Rattle.point_core.specs.declared.entry.Entry.{Entry}
use Rattle.point_core.specs.Usage.{usage_number}
use Rattle.point_core.specs.Reach.{value_at}
use Rattle.point_core.specs.Agreement.{covers, applies, top, AgreesAbove}
use Rattle.point_core.specs.Latest.{raised_to}
use Rattle.point_core.proofs.Latest.{put_if, put_if-comm, raised_to-if, raised_to-top-last, applies-true}
use Rattle.point_core.proofs.Agreement.{AppliesAt-from_true, AgreesAbove-from_raised, raised_to-above}
use Rattle.resv_core.specs.Resv.{gives_way}

put_if-above : (b : Bool) (p value : ℕ) → value ≤ put_if b p value
put_if-above true p value = omega arith
put_if-above false p value = omega arith

-- why an entry may be replaced
gives_way-cases : (reach : List ℕ) (new old : Entry) → gives_way reach new old ≡ true → (old.point.value ≤ value_at reach old.point.ctx) ⊎ ((new.point.ctx ≡ old.point.ctx) × (usage_number new.usage ≤ usage_number old.usage) × (old.point.value ≤ new.point.value))
gives_way-cases reach new old is = elim (or_cases (nat_le old.point.value (value_at reach old.point.ctx)) (covers new old) is) [
  | inl reached ↦ inl (leb-true _ _ reached)
  | inr covered ↦
      let parts = and_parts ((new.point.ctx == old.point.ctx) && nat_le (usage_number new.usage) (usage_number old.usage)) (nat_le old.point.value new.point.value) covered in
      let front = and_parts (new.point.ctx == old.point.ctx) (nat_le (usage_number new.usage) (usage_number old.usage)) parts.0 in
      inr (eqb-true _ _ front.0, leb-true _ _ front.1, leb-true _ _ parts.1)
]

-- above the reach, the old entry adds nothing to the new one
put_if-gives_way : (reach : List ℕ) (new old : Entry) (usage ctx value : ℕ) → gives_way reach new old ≡ true → value_at reach ctx ≤ value → put_if (applies old usage ctx) old.point.value (put_if (applies new usage ctx) new.point.value value) ≡ put_if (applies new usage ctx) new.point.value value
put_if-gives_way reach new old usage ctx value way above = elim (cases_Bool (applies old usage ctx)) [
  | inr not ↦ rw not refl
  | inl is ↦
      let at = AppliesAt-from_true old usage ctx is in
      let higher = put_if-above (applies new usage ctx) new.point.value value in
      elim (gives_way-cases reach new old way) [
        | inl reached ↦
            let low : old.point.value ≤ value_at reach ctx = rw at.1 at reached in
            rw is (omega arith)
        | inr covered ↦ rw (is, applies-true new usage ctx (omega (arith, at.0)) (covered.0 ∙ at.1)) (omega arith)
      ]
]

raised_to-top-set : (reach : List ℕ) (es : List Entry) (i : ℕ) (new : Entry) (usage ctx : ℕ) → i < length es → gives_way reach new (get_or es i new) ≡ true → raised_to (value_at reach ctx) (top (set es i new) usage ctx) ≡ put_if (applies new usage ctx) new.point.value (raised_to (value_at reach ctx) (top es usage ctx))
raised_to-top-set reach [] i new usage ctx low way = absurd (omega arith)
raised_to-top-set reach (old ∷ es) zero new usage ctx low way =
    let rest = raised_to (value_at reach ctx) (top es usage ctx) in
    raised_to-if (applies new usage ctx) (value_at reach ctx) new.point.value (top es usage ctx)
    ∙ sym (put_if-gives_way reach new old usage ctx rest way (raised_to-above (value_at reach ctx) (top es usage ctx)))
    ∙ put_if-comm (applies old usage ctx) (applies new usage ctx) old.point.value new.point.value rest
    ∙ ap (put_if (applies new usage ctx) new.point.value) (sym (raised_to-if (applies old usage ctx) (value_at reach ctx) old.point.value (top es usage ctx)))
raised_to-top-set reach (old ∷ es) (suc i) new usage ctx low way =
    raised_to-if (applies old usage ctx) (value_at reach ctx) old.point.value (top (set es i new) usage ctx)
    ∙ ap (put_if (applies old usage ctx) old.point.value) (raised_to-top-set reach es i new usage ctx (omega arith) way)
    ∙ put_if-comm (applies old usage ctx) (applies new usage ctx) old.point.value new.point.value (raised_to (value_at reach ctx) (top es usage ctx))
    ∙ ap (put_if (applies new usage ctx) new.point.value) (sym (raised_to-if (applies old usage ctx) (value_at reach ctx) old.point.value (top es usage ctx)))

-- putting the new entry in the old one's place agrees with adding it
pub AgreesAbove-set : (reach : List ℕ) (es : List Entry) (i : ℕ) (new : Entry) → i < length es → HoldsAt (λ old. gives_way reach new old ≡ true) es i → AgreesAbove reach (set es i new) (es ++ new ∷ [])
AgreesAbove-set reach es i new low way = AgreesAbove-from_raised (λ usage ctx.
    raised_to-top-set reach es i new usage ctx low (way new)
    ∙ sym (raised_to-top-last (value_at reach ctx) es new usage ctx))

-- the place that was found, and all entries
pub list_any-found : (test : Entry → Bool) (es : List Entry) (i : ℕ) (d : Entry) → i < length es → HoldsAt (λ e. test e ≡ true) es i → list_any test es ≡ true
list_any-found test es i d low holds = list_any_at test es i d low (holds d)

pub list_any-not_found : (test : Entry → Bool) (es : List Entry) → AllWithin (λ e. test e ≡ false) es 0 (length es) → list_any test es ≡ false
list_any-not_found test es none = list_any_none test es (All-from_all_within (λ e. test e ≡ false) es none)
