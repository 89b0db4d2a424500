-- The latest points of a client's own puts, as points are put one by one.
use Rattle.std.proofs.Common.{◌≡◌, ◌≢◌, ℕ, zero, suc, ◌+◌, ◌-◌, ◌*◌, ◌<◌, ◌≤◌, ◌==◌, max, Bool, true, false, ◌&&◌, nat_le, List, [], ◌∷◌, ◌++◌, append-nil, length, get_or, set, replicate, refl, sym, ap, ◌∙◌, subst, inl, inr, arith}
use Rattle.std.specs.Prelude.{filter}
use Rattle.std.proofs.lemmas.Bool.{cases_lt, eq-eqb, le-leb, lt-leb, ne_eqb}
use Rattle.std.proofs.lemmas.Bool.Decides.{eqb_tells}
use Rattle.std.proofs.lemmas.List.{get_or-replicate, get_or-set_other, get_or-set_same, length-replicate, length-set}
use Rattle.std.proofs.lemmas.List.Elements.{All-cons, All-nil, filter-append}
use Rattle.point_core.specs.declared.context.TheConstants.{CONTEXTS}
use Rattle.point_core.specs.declared.entry.Entry.{Entry}
use Rattle.point_core.specs.declared.entry.Usage.{Usage}
use Rattle.point_core.specs.declared.entry.Usage.TheVariants.{Kernel, Write, Read, Bookkeep}
use Rattle.point_core.specs.Agreement.{applies, top}
use Rattle.point_core.specs.Latest.{raised_to}
use Rattle.point_core.specs.Usage.{usage_number}
use Rattle.point_core.proofs.Agreement.{HasContexts-append}
use Rattle.point_core.proofs.Latest.{applies-weak, put_if, raised_to-top-last}
use Rattle.words_core.specs.declared.words.TheConstants.{USAGES}
use Rattle.words_core.proofs.Laying.{usage_number_le}
use Rattle.clients_core.specs.declared.own_puts.OwnPuts.{OwnPuts}
use Rattle.clients_core.specs.OwnPuts.{AreOwnPuts, is_put_at, latest_put, point_at, point_to, point_up_to}
use Rattle.clients_core.proofs.Looking.{top-more}

-- nothing was put yet
pub AreOwnPuts-none : (n : ℕ) (own : OwnPuts) → own.latest.items ≡ replicate (USAGES * n) 0 → AreOwnPuts n own []
AreOwnPuts-none n own is = record {
  valid = All-nil (λ (e : Entry). (1 ≤ e.point.ctx) × (e.point.ctx ≤ CONTEXTS));
  full = ap length is ∙ length-replicate (USAGES * n) 0;
  points = λ usage ctx strong low high.
      ap (λ (points : List ℕ). get_or points (USAGES * (ctx - 1) + usage) 0) is
      ∙ get_or-replicate (USAGES * n) (USAGES * (ctx - 1) + usage) 0 0 (omega arith);
}

-- one more put: it raises the place of its context and usage

latest_put-more : (es : List Entry) (e : Entry) (usage ctx : ℕ) → latest_put (es ++ e ∷ []) usage ctx ≡ put_if (is_put_at usage e && (e.point.ctx == ctx)) e.point.value (latest_put es usage ctx)
latest_put-more es e usage ctx =
    let kept = filter (is_put_at usage) es in
    ap (λ (fs : List Entry). raised_to 0 (top fs usage ctx)) (filter-append (is_put_at usage) es (e ∷ []))
    ∙ elim (eqb_tells (usage_number e.usage) usage) [
      | inl same ↦ let is = same.1 in rw same.0 (
          raised_to-top-last 0 kept e usage ctx
          ∙ ap (λ (b : Bool). put_if (b && (e.point.ctx == ctx)) e.point.value (latest_put es usage ctx)) (le-leb (usage_number e.usage) usage (omega arith))
          )
      | inr other ↦ rw other.0 (ap (λ (fs : List Entry). raised_to 0 (top fs usage ctx)) (append-nil kept))
    ]

raised-read : (xs : List ℕ) (place k value : ℕ) → place < length xs → get_or (set xs place (max (get_or xs place 0) value)) k 0 ≡ put_if (k == place) value (get_or xs k 0)
raised-read xs place k value low =
    let raised = max (get_or xs place 0) value in
    let swapped : raised ≡ max value (get_or xs place 0) = omega arith in
    elim (eqb_tells k place) [
      | inl same ↦ rw same.0 (subst (λ (j : ℕ). get_or (set xs place raised) j 0 ≡ max value (get_or xs j 0)) (sym same.1) (get_or-set_same xs place raised 0 low ∙ swapped))
      | inr other ↦ rw other.0 (get_or-set_other xs place k raised 0 other.1)
    ]

is-place : (e : Entry) (usage ctx place : ℕ) → usage < USAGES → 1 ≤ ctx → 1 ≤ e.point.ctx → place ≡ USAGES * (e.point.ctx - 1) + usage_number e.usage → (USAGES * (ctx - 1) + usage == place) ≡ (is_put_at usage e && (e.point.ctx == ctx))
is-place e usage ctx place strong low one at =
    let few = usage_number_le e.usage in
    let k = USAGES * (ctx - 1) + usage in
    elim (eqb_tells (usage_number e.usage) usage) [
      | inl same ↦ let is = same.1 in elim (eqb_tells e.point.ctx ctx) [
        | inl here ↦ let there = here.1 in rw (same.0, here.0) (eq-eqb k place (omega arith))
        | inr past ↦ rw (same.0, past.0) (ne_eqb k place (λ equal. past.1 (omega arith)))
      ]
      | inr other ↦ rw other.0 (ne_eqb k place (λ equal. other.1 (omega arith)))
    ]

pub AreOwnPuts-put : (n : ℕ) (own after : OwnPuts) (es : List Entry) (e : Entry) (place : ℕ) → 1 ≤ e.point.ctx → e.point.ctx ≤ CONTEXTS → place ≡ USAGES * (e.point.ctx - 1) + usage_number e.usage → place < length own.latest.items
    → after.latest.items ≡ set own.latest.items place (max (get_or own.latest.items place 0) e.point.value) → AreOwnPuts n own es → AreOwnPuts n after (es ++ e ∷ [])
AreOwnPuts-put n own after es e place one few at low raised h =
    let C = λ (f : Entry). (1 ≤ f.point.ctx) × (f.point.ctx ≤ CONTEXTS) in
    let points = own.latest.items in
    record {
      valid = HasContexts-append es (e ∷ []) h.valid (All-cons C e [] (one, few) (All-nil C));
      full = ap length raised ∙ length-set points place (max (get_or points place 0) e.point.value) ∙ h.full;
      points = λ usage ctx strong from to.
          let k = USAGES * (ctx - 1) + usage in
          ap (λ (ps : List ℕ). get_or ps k 0) raised
          ∙ raised-read points place k e.point.value low
          ∙ ap (λ (b : Bool). put_if b e.point.value (point_at own usage ctx)) (is-place e usage ctx place strong from one at)
          ∙ ap (put_if (is_put_at usage e && (e.point.ctx == ctx)) e.point.value) (h.points usage ctx strong from to)
          ∙ sym (latest_put-more es e usage ctx);
    }

-- the latest at a usage or a stronger one, by the latest at each

put_if-right : (b : Bool) (p m n : ℕ) → put_if b p (max m n) ≡ max m (put_if b p n)
put_if-right true p m n = omega arith
put_if-right false p m n = refl

put_if-left : (b : Bool) (p m n : ℕ) → put_if b p (max m n) ≡ max (put_if b p m) n
put_if-left true p m n = omega arith
put_if-left false p m n = refl

stronger-same : (n usage : ℕ) → n ≢ suc usage → nat_le n (suc usage) ≡ nat_le n usage
stronger-same n usage apart = elim (cases_lt usage n) [
  | inl above ↦ elim (cases_lt (suc usage) n) [
    | inl far ↦ lt-leb n (suc usage) far ∙ sym (lt-leb n usage above)
    | inr near ↦ absurd (apart (omega arith))
  ]
  | inr within ↦ le-leb n (suc usage) (omega arith) ∙ sym (le-leb n usage within)
]

latest-strongest : (es : List Entry) (ctx : ℕ) → raised_to 0 (top es 0 ctx) ≡ latest_put es 0 ctx
latest-strongest [] ctx = refl
latest-strongest (e ∷ es) ctx =
    top-more e es 0 ctx
    ∙ ap (put_if (applies e 0 ctx) e.point.value) (latest-strongest es ctx)
    ∙ elim (eqb_tells (usage_number e.usage) 0) [
      | inl same ↦ rw same.0 (sym (top-more e (filter (is_put_at 0) es) 0 ctx))
      | inr other ↦ elim (cases_lt 0 (usage_number e.usage)) [
        | inl weak ↦ rw other.0 (ap (λ (b : Bool). put_if b e.point.value (latest_put es 0 ctx)) (applies-weak e 0 ctx weak))
        | inr none ↦ absurd (other.1 (omega arith))
      ]
    ]

latest-weaker : (es : List Entry) (usage ctx : ℕ) → raised_to 0 (top es (suc usage) ctx) ≡ max (raised_to 0 (top es usage ctx)) (latest_put es (suc usage) ctx)
latest-weaker [] usage ctx = refl
latest-weaker (e ∷ es) usage ctx =
    let value = e.point.value in
    let strong = raised_to 0 (top es usage ctx) in
    let here = latest_put es (suc usage) ctx in
    top-more e es (suc usage) ctx
    ∙ ap (put_if (applies e (suc usage) ctx) value) (latest-weaker es usage ctx)
    ∙ elim (eqb_tells (usage_number e.usage) (suc usage)) [
      | inl same ↦
          let is = same.1 in
          let weak : usage < usage_number e.usage = omega arith in
          rw (same.0, applies-weak e usage ctx weak) (put_if-right (applies e (suc usage) ctx) value strong here ∙ ap (max strong) (sym (top-more e (filter (is_put_at (suc usage)) es) (suc usage) ctx)))
      | inr other ↦
          rw other.0 (
          ap (λ (b : Bool). put_if (b && (e.point.ctx == ctx)) value (max strong here)) (stronger-same (usage_number e.usage) usage other.1)
          ∙ put_if-left (applies e usage ctx) value strong here
          ∙ ap (λ (v : ℕ). max v here) (sym (top-more e es usage ctx))
          )
    ]

pub point_to-latest : (n : ℕ) (own : OwnPuts) (es : List Entry) (usage ctx : ℕ) → AreOwnPuts n own es → usage < USAGES → 1 ≤ ctx → ctx ≤ n → point_to own usage ctx ≡ raised_to 0 (top es usage ctx)
point_to-latest n own es zero ctx h strong low high = h.points zero ctx strong low high ∙ sym (latest-strongest es ctx)
point_to-latest n own es (suc usage) ctx h strong low high =
    ap (λ (v : ℕ). max v (point_at own (suc usage) ctx)) (point_to-latest n own es usage ctx h (omega arith) low high)
    ∙ ap (max (raised_to 0 (top es usage ctx))) (h.points (suc usage) ctx strong low high)
    ∙ sym (latest-weaker es usage ctx)

pub point_to-usages : (own : OwnPuts) (level : Usage) (ctx : ℕ) → max (max (max (point_up_to own level ctx Kernel) (point_up_to own level ctx Write)) (point_up_to own level ctx Read)) (point_up_to own level ctx Bookkeep) ≡ point_to own (usage_number level) ctx
point_to-usages own Kernel ctx = omega arith
point_to-usages own Write ctx = omega arith
point_to-usages own Read ctx = omega arith
point_to-usages own Bookkeep ctx = omega arith
