-- A table of latest points, as points are put one by one.
use Rattle.std.proofs.Common.{◌≡◌, ◌≢◌, ℕ, ◌<◌, ◌≤◌, max, refl, sym, ap, subst, ◌∙◌, List, [], ◌∷◌, ◌++◌, length, Option, None, Some, arith, Bool, true, false, nat_le, if◌then◌else◌, inl, inr}
use Rattle.std.proofs.lemmas.Bool.{cases_eq, eq-eqb, ne_eqb, le-leb, lt-leb}
use Rattle.std.proofs.Math.Bool.{and-false}
use Rattle.point_core.specs.declared.entry.Point.{Point}
use Rattle.point_core.specs.declared.entry.Entry.{Entry}
use Rattle.point_core.specs.Usage.{usage_number}
use Rattle.point_core.specs.Reach.{value_at, with_value}
use Rattle.point_core.specs.Agreement.{applies, later, top}
use Rattle.point_core.specs.Latest.{raised_to, IsLatest}
use Rattle.point_core.proofs.Values.{value_at-with_value_same, value_at-with_value_other}

pub raised_to-later : (value p : ℕ) (t : Option ℕ) → raised_to value (later p t) ≡ max p (raised_to value t)
raised_to-later value p None = omega arith
raised_to-later value p (Some q) = omega arith

pub raised_to-max : (p value : ℕ) (t : Option ℕ) → raised_to (max p value) t ≡ max p (raised_to value t)
raised_to-max p value None = refl
raised_to-max p value (Some q) = omega arith

-- the effect of one more entry on the value
abbrev pub put_if : Bool → ℕ → ℕ → ℕ
put_if true p value = max p value
put_if false p value = value

pub put_if-comm : (b c : Bool) (p q value : ℕ) → put_if b p (put_if c q value) ≡ put_if c q (put_if b p value)
put_if-comm true true p q value = omega arith
put_if-comm true false p q value = refl
put_if-comm false true p q value = refl
put_if-comm false false p q value = refl

pub put_if-above : (b : Bool) (p value : ℕ) → value ≤ put_if b p value
put_if-above true p value = omega arith
put_if-above false p value = omega arith

pub raised_to-if : (b : Bool) (value p : ℕ) (t : Option ℕ) → raised_to value (if b then later p t else t) ≡ put_if b p (raised_to value t)
raised_to-if true value p t = raised_to-later value p t
raised_to-if false value p t = refl

pub raised_to-put_if : (b : Bool) (p value : ℕ) (t : Option ℕ) → raised_to (put_if b p value) t ≡ put_if b p (raised_to value t)
raised_to-put_if true p value t = raised_to-max p value t
raised_to-put_if false p value t = refl

pub raised_to-top-append : (value : ℕ) (es fs : List Entry) (usage ctx : ℕ) → raised_to value (top (es ++ fs) usage ctx) ≡ raised_to (raised_to value (top es usage ctx)) (top fs usage ctx)
raised_to-top-append value [] fs usage ctx = refl
raised_to-top-append value (e ∷ es) fs usage ctx =
    raised_to-if (applies e usage ctx) value e.point.value (top (es ++ fs) usage ctx)
    ∙ ap (put_if (applies e usage ctx) e.point.value) (raised_to-top-append value es fs usage ctx)
    ∙ sym (raised_to-put_if (applies e usage ctx) e.point.value (raised_to value (top es usage ctx)) (top fs usage ctx))
    ∙ ap (λ v. raised_to v (top fs usage ctx)) (sym (raised_to-if (applies e usage ctx) value e.point.value (top es usage ctx)))

-- the last entry
pub raised_to-top-last : (value : ℕ) (es : List Entry) (e : Entry) (usage ctx : ℕ) → raised_to value (top (es ++ e ∷ []) usage ctx) ≡ put_if (applies e usage ctx) e.point.value (raised_to value (top es usage ctx))
raised_to-top-last value es e usage ctx =
    raised_to-top-append value es (e ∷ []) usage ctx
    ∙ raised_to-if (applies e usage ctx) (raised_to value (top es usage ctx)) e.point.value None

pub applies-true : (e : Entry) (usage ctx : ℕ) → usage_number e.usage ≤ usage → e.point.ctx ≡ ctx → applies e usage ctx ≡ true
applies-true e usage ctx strong is = rw (le-leb _ _ strong) (eq-eqb _ _ is)

pub applies-other : (e : Entry) (usage ctx : ℕ) → e.point.ctx ≢ ctx → applies e usage ctx ≡ false
applies-other e usage ctx apart = rw (ne_eqb _ _ apart) (and-false (nat_le (usage_number e.usage) usage))

pub applies-weak : (e : Entry) (usage ctx : ℕ) → usage < usage_number e.usage → applies e usage ctx ≡ false
applies-weak e usage ctx weak = rw (lt-leb _ _ weak) refl

-- an entry of the usage or a stronger one is put into the table
pub IsLatest-put : {latest reach : List ℕ} {es : List Entry} {usage : ℕ} (e : Entry) → IsLatest latest reach es usage → usage_number e.usage ≤ usage → 1 ≤ e.point.ctx → e.point.ctx ≤ length latest → IsLatest (with_value latest e.point.ctx (max (value_at latest e.point.ctx) e.point.value)) reach (es ++ e ∷ []) usage
IsLatest-put {latest} {reach} {es} {usage} e h strong low high = record {
  values = λ ctx from to. elim (cases_eq ctx e.point.ctx) [
    | inl is ↦ rw (is, value_at-with_value_same latest e.point.ctx (max (value_at latest e.point.ctx) e.point.value) low high, raised_to-top-last (value_at reach e.point.ctx) es e usage e.point.ctx, applies-true e usage e.point.ctx strong refl) (rw (h.values e.point.ctx low (rw is at to)) (omega arith))
    | inr apart ↦ rw (value_at-with_value_other latest e.point.ctx ctx (max (value_at latest e.point.ctx) e.point.value) low from apart, raised_to-top-last (value_at reach ctx) es e usage ctx, applies-other e usage ctx (λ is. apart (sym is))) (h.values ctx from to)
  ];
}

-- the same step for an entry's point
pub IsLatest-put_point : {latest reach : List ℕ} {es : List Entry} {usage : ℕ} (p : Point) (e : Entry) → e.point ≡ p → IsLatest latest reach es usage → usage_number e.usage ≤ usage → 1 ≤ p.ctx → p.ctx ≤ length latest → IsLatest (with_value latest p.ctx (max (value_at latest p.ctx) p.value)) reach (es ++ e ∷ []) usage
IsLatest-put_point {latest} {reach} {es} {usage} p e is h strong low high =
    subst (λ (q : Point). 1 ≤ q.ctx → q.ctx ≤ length latest → IsLatest (with_value latest q.ctx (max (value_at latest q.ctx) q.value)) reach (es ++ e ∷ []) usage) is (IsLatest-put e h strong) low high

-- a weaker entry is skipped
pub IsLatest-weaker : {latest reach : List ℕ} {es : List Entry} {usage : ℕ} (e : Entry) → IsLatest latest reach es usage → usage < usage_number e.usage → IsLatest latest reach (es ++ e ∷ []) usage
IsLatest-weaker {latest} {reach} {es} {usage} e h weak = record {
  values = λ ctx from to. rw (raised_to-top-last (value_at reach ctx) es e usage ctx, applies-weak e usage ctx weak) (h.values ctx from to);
}

-- no point was put yet
pub IsLatest-empty : (reach : List ℕ) (usage : ℕ) → IsLatest reach reach [] usage
IsLatest-empty reach usage = record { values = λ ctx from to. refl }
