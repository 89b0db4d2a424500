-- Of acts that are repeated, the last round has the latest points.
use Rattle.std.proofs.Common.{◌≡◌, ℕ, zero, suc, ◌+◌, ◌*◌, ◌<◌, ◌≤◌, Bool, true, false, List, [], ◌∷◌, ◌++◌, Option, None, Some, inl, inr, sym, ap, ◌∙◌, subst, arith, mul-le-mul_left}
use Rattle.std.proofs.lemmas.Bool.Decides.{eqb_tells}
use Rattle.std.proofs.lemmas.List.Elements.{All-cons, All-head, All-nil, All-tail}
use Rattle.point_core.specs.declared.context.TheConstants.{CONTEXTS}
use Rattle.point_core.specs.declared.entry.Entry.{Entry}
use Rattle.point_core.specs.Agreement.{HasContexts, applies, point_of, top}
use Rattle.point_core.specs.Latest.{IsLatest, raised_to}
use Rattle.point_core.specs.Reach.{value_at}
use Rattle.point_core.proofs.Agreement.{HasContexts-append}
use Rattle.point_core.proofs.Latest.{put_if, raised_to-if, raised_to-top-append}
use Rattle.resv_core.specs.declared.plan.Act.{Act}
use Rattle.resv_core.specs.declared.plan.Act.TheVariants.{Inc, Put, Look}
use Rattle.resv_core.specs.declared.tops.Tops.{Tops}
use Rattle.resv_core.specs.Resv.{entry_of}
use Rattle.resv_core.specs.Rounds.{round_of, rounds_of}
use Rattle.resv_core.specs.Settled.{puts_of}
use Rattle.clients_core.specs.Board.{TakesIn}
use Rattle.clients_core.proofs.PlansOfRounds.{puts-more}
use Rattle.clients_core.proofs.Topping.{TakesIn-none}

-- the latest of a value and of what one round puts
abbrev after_round : ℕ → List Act → ℕ → ℕ → ℕ → ℕ → ℕ
after_round buffer acts number usage ctx value = raised_to value (top (puts_of buffer (round_of acts number)) usage ctx)

put_if-rises : (b : Bool) (p q v w : ℕ) → p ≤ q → v ≤ w → put_if b p v ≤ put_if b q w
put_if-rises true p q v w up more = omega arith
put_if-rises false p q v w up more = more

-- a later round has no earlier points
round-rises : (buffer : ℕ) (acts : List Act) (m n usage ctx value : ℕ) → m ≤ n → after_round buffer acts m usage ctx value ≤ after_round buffer acts n usage ctx value
round-rises buffer [] m n usage ctx value up = omega arith
round-rises buffer (Inc k ∷ acts) m n usage ctx value up = round-rises buffer acts m n usage ctx value up
round-rises buffer (Look into level ∷ acts) m n usage ctx value up = round-rises buffer acts m n usage ctx value up
round-rises buffer (Put into point level ∷ acts) m n usage ctx value up = elim (eqb_tells into buffer) [
  | inl same ↦ rw same.0 (
      let first : Entry = entry_of (point_of point.ctx (point.value * m)) level in
      let later : Entry = entry_of (point_of point.ctx (point.value * n)) level in
      let rest = round-rises buffer acts m n usage ctx value up in
      let rises = put_if-rises (applies first usage ctx) (point.value * m) (point.value * n) (after_round buffer acts m usage ctx value) (after_round buffer acts n usage ctx value) (mul-le-mul_left point.value up) rest in
      let was = raised_to-if (applies first usage ctx) value (point.value * m) (top (puts_of buffer (round_of acts m)) usage ctx) in
      let is = raised_to-if (applies later usage ctx) value (point.value * n) (top (puts_of buffer (round_of acts n)) usage ctx) in
      omega (arith, rises, was, is))
  | inr other ↦ rw other.0 (round-rises buffer acts m n usage ctx value up)
]

between : (v w : ℕ) (t : Option ℕ) → v ≤ w → w ≤ raised_to v t → raised_to w t ≡ raised_to v t
between v w None low high = omega arith
between v w (Some p) low high = omega arith

value-raised : (v : ℕ) (t : Option ℕ) → v ≤ raised_to v t
value-raised v None = omega arith
value-raised v (Some p) = omega arith

-- a value raised to the latest point that n rounds put
abbrev after_rounds : ℕ → List Act → ℕ → ℕ → ℕ → ℕ → ℕ
after_rounds buffer acts n usage ctx value = raised_to value (top (puts_of buffer (rounds_of acts n)) usage ctx)

one-more : (buffer : ℕ) (acts : List Act) (n usage ctx value : ℕ) → after_rounds buffer acts n usage ctx value ≤ after_round buffer acts (n + 1) usage ctx value
    → after_rounds buffer acts (n + 1) usage ctx value ≡ after_round buffer acts (n + 1) usage ctx value
one-more buffer acts n usage ctx value low =
    ap (λ (es : List Entry). raised_to value (top es usage ctx)) (puts-more buffer acts n)
    ∙ raised_to-top-append value (puts_of buffer (rounds_of acts n)) (puts_of buffer (round_of acts (n + 1))) usage ctx
    ∙ between value (after_rounds buffer acts n usage ctx value) (top (puts_of buffer (round_of acts (n + 1))) usage ctx)
    (value-raised value (top (puts_of buffer (rounds_of acts n)) usage ctx))
    low

-- so no round before one is later than it
none-later : (buffer : ℕ) (acts : List Act) (n usage ctx value : ℕ) → after_rounds buffer acts n usage ctx value ≤ after_round buffer acts (n + 1) usage ctx value
none-later buffer acts zero usage ctx value = value-raised value (top (puts_of buffer (round_of acts 1)) usage ctx)
none-later buffer acts (suc k) usage ctx value =
    let next : suc k ≡ k + 1 = omega arith in
    let before = ap (λ (j : ℕ). after_rounds buffer acts j usage ctx value) next ∙ one-more buffer acts k usage ctx value (none-later buffer acts k usage ctx value) in
    let rises = round-rises buffer acts (k + 1) (suc k + 1) usage ctx value (omega arith) in
    omega (arith, before, rises)

last-round : (buffer : ℕ) (acts : List Act) (n usage ctx value : ℕ) → after_rounds buffer acts (n + 1) usage ctx value ≡ after_round buffer acts (n + 1) usage ctx value
last-round buffer acts n usage ctx value = one-more buffer acts n usage ctx value (none-later buffer acts n usage ctx value)

-- each round puts points of the same contexts
contexts-round : (buffer : ℕ) (acts : List Act) (m n : ℕ) → HasContexts (puts_of buffer (round_of acts m)) → HasContexts (puts_of buffer (round_of acts n))
contexts-round buffer [] m n has = has
contexts-round buffer (Inc k ∷ acts) m n has = contexts-round buffer acts m n has
contexts-round buffer (Look into level ∷ acts) m n has = contexts-round buffer acts m n has
contexts-round buffer (Put into point level ∷ acts) m n has = elim (eqb_tells into buffer) [
  | inl same ↦ rw same.0 (
      let C = λ (e : Entry). (1 ≤ e.point.ctx) × (e.point.ctx ≤ CONTEXTS) in
      let first : Entry = entry_of (point_of point.ctx (point.value * m)) level in
      let later : Entry = entry_of (point_of point.ctx (point.value * n)) level in
      let here : HasContexts (first ∷ puts_of buffer (round_of acts m)) = rw same.0 at has in
      All-cons C later (puts_of buffer (round_of acts n)) (All-head C first (puts_of buffer (round_of acts m)) here)
      (contexts-round buffer acts m n (All-tail C first (puts_of buffer (round_of acts m)) here)))
  | inr other ↦ rw other.0 (contexts-round buffer acts m n (rw other.0 at has))
]

contexts-rounds : (buffer : ℕ) (acts : List Act) (k n : ℕ) → HasContexts (puts_of buffer (round_of acts n)) → HasContexts (puts_of buffer (rounds_of acts k))
contexts-rounds buffer acts zero n has = All-nil (λ (e : Entry). (1 ≤ e.point.ctx) × (e.point.ctx ≤ CONTEXTS))
contexts-rounds buffer acts (suc k) n has =
    let next : k + 1 ≡ suc k = omega arith in
    subst (λ (j : ℕ). HasContexts (puts_of buffer (rounds_of acts j))) next
    (subst HasContexts (sym (puts-more buffer acts k))
    (HasContexts-append (puts_of buffer (rounds_of acts k)) (puts_of buffer (round_of acts (k + 1))) (contexts-rounds buffer acts k n has) (contexts-round buffer acts n (k + 1) has)))

IsLatest-last : (latest reach : List ℕ) (es : List Entry) (buffer : ℕ) (acts : List Act) (n usage : ℕ) → IsLatest latest reach (es ++ puts_of buffer (round_of acts (n + 1))) usage → IsLatest latest reach (es ++ puts_of buffer (rounds_of acts (n + 1))) usage
IsLatest-last latest reach es buffer acts n usage h = record {
  values = λ ctx low high.
      let value = value_at reach ctx in
      h.values ctx low high
      ∙ raised_to-top-append value es (puts_of buffer (round_of acts (n + 1))) usage ctx
      ∙ sym (last-round buffer acts n usage ctx (raised_to value (top es usage ctx)))
      ∙ sym (raised_to-top-append value es (puts_of buffer (rounds_of acts (n + 1))) usage ctx);
}

TakesIn-more : (buffer : ℕ) (acts : List Act) (n : ℕ) (old new : Tops) → TakesIn (puts_of buffer (round_of acts (n + 1))) old new → TakesIn (puts_of buffer (rounds_of acts (n + 1))) old new
TakesIn-more buffer acts n old new h = record {
  tops = λ reach es is.
      let all = h.tops reach es is in
      record {
        kernel = IsLatest-last new.kernel reach es buffer acts n 0 all.kernel;
        write = IsLatest-last new.write reach es buffer acts n 1 all.write;
        read = IsLatest-last new.read reach es buffer acts n 2 all.read;
        bookkeep = IsLatest-last new.bookkeep reach es buffer acts n 3 all.bookkeep;
      };
  contexts = contexts-rounds buffer acts (n + 1) (n + 1) h.contexts;
}

-- tables that take the last round in have taken all of them in
pub TakesIn-last : (buffer : ℕ) (acts : List Act) (times : ℕ) (old new : Tops) → 0 < times → TakesIn (puts_of buffer (round_of acts times)) old new → TakesIn (puts_of buffer (rounds_of acts times)) old new
TakesIn-last buffer acts zero old new some h = absurd (omega arith)
TakesIn-last buffer acts (suc n) old new some h =
    let next : suc n ≡ n + 1 = omega arith in
    subst (λ (k : ℕ). TakesIn (puts_of buffer (rounds_of acts k)) old new) (sym next)
    (TakesIn-more buffer acts n old new (subst (λ (k : ℕ). TakesIn (puts_of buffer (round_of acts k)) old new) next h))

pub TakesIn-no_rounds : (buffer : ℕ) (acts : List Act) (times : ℕ) (tops : Tops) → times ≡ 0 → TakesIn (puts_of buffer (rounds_of acts times)) tops tops
TakesIn-no_rounds buffer acts times tops none = subst (λ (k : ℕ). TakesIn (puts_of buffer (rounds_of acts k)) tops tops) (sym none) (TakesIn-none tops)
