-- Each word has a kind, and none has two.
use Rattle.std.proofs.Common.{◌≡◌, ◌≢◌, ℕ, ◌+◌, ◌*◌, ◌/◌, ◌%◌, ◌<◌, ◌≤◌, ◌⊎◌, max, inl, inr, arith}
use mathlib.Core.Logic.{dite}
use native.Mathlib.Decide.{ℕ_discrete}
use Rattle.std.proofs.lemmas.Bool.{cases_lt}
use Rattle.std.proofs.Math.Nat.{le-max_left, le-max_right, mul-le-mul_right}
use Rattle.words_core.specs.declared.words.Sizes.{Sizes}
use Rattle.words_core.specs.declared.words.TheConstants.{LINE_WORDS, USAGES, CLAIM, MARK}
use Rattle.words_core.specs.theorem.Layout.{value_place, claim_place, mark_place, contexts_end, board_end, flags_start, word_count, IsValueOf, IsMarkOf, IsClaimOrFlag, IsBoardWord, IsUnused}

-- each context has a line, and so has each buffer for it
pub lines_of : (z : Sizes) → (z.contexts ≤ max z.buffers 1 * z.contexts) × (z.buffers * z.contexts ≤ max z.buffers 1 * z.contexts)
lines_of z =
    let one : 1 * z.contexts ≤ max z.buffers 1 * z.contexts = mul-le-mul_right z.contexts (le-max_right z.buffers 1) in
    (omega arith, mul-le-mul_right z.contexts (le-max_left z.buffers 1))

pub IsClaimOrFlag-claim : (z : Sizes) (c : ℕ) → c < z.contexts → IsClaimOrFlag z (claim_place c)
IsClaimOrFlag-claim z c low = let lines = lines_of z in record { inside = omega arith; claim = λ _. omega arith; flag = λ past. absurd (omega arith) }

pub IsClaimOrFlag-not_value : (z : Sizes) (k c : ℕ) → c < z.contexts → IsClaimOrFlag z k → k ≢ value_place c
IsClaimOrFlag-not_value z k c low is e = let i = is.claim (omega arith) in omega arith

pub IsClaimOrFlag-not_mark : (z : Sizes) (k c : ℕ) → c < z.contexts → IsClaimOrFlag z k → k ≢ mark_place c
IsClaimOrFlag-not_mark z k c low is e = let i = is.claim (omega arith) in omega arith

pub IsBoardWord-not_value : (z : Sizes) (k c : ℕ) → IsBoardWord z k → k ≢ value_place c
IsBoardWord-not_value z k c is e = let i = is.from_entry in omega arith

pub IsBoardWord-not_mark : (z : Sizes) (k c : ℕ) → IsBoardWord z k → k ≢ mark_place c
IsBoardWord-not_mark z k c is e = let i = is.to_entry in omega arith

pub IsBoardWord-not_flag : (z : Sizes) (j k : ℕ) → IsClaimOrFlag z k → IsBoardWord z j → j ≢ k
IsBoardWord-not_flag z j k set is e = let lines = lines_of z in let to = is.to in let entry = is.to_entry in elim (cases_lt k (contexts_end z)) [
  | inl low ↦ let i = set.claim low in omega arith
  | inr past ↦ let i = set.flag past in omega arith
]

pub IsBoardWord-inside : (z : Sizes) (k : ℕ) → IsBoardWord z k → k < word_count z
IsBoardWord-inside z k is = let lines = lines_of z in let to = is.to in omega arith

pub IsUnused-not_value : (z : Sizes) (k c : ℕ) → c < z.contexts → IsUnused z k → k ≢ value_place c
IsUnused-not_value z k c low is e = let i = is.value (omega arith) in omega arith

pub IsUnused-not_mark : (z : Sizes) (k c : ℕ) → c < z.contexts → IsUnused z k → k ≢ mark_place c
IsUnused-not_mark z k c low is e = let i = is.mark (omega arith) in omega arith

pub IsUnused-not_set_once : (z : Sizes) (j k : ℕ) → IsClaimOrFlag z k → IsUnused z j → j ≢ k
IsUnused-not_set_once z j k set is e = let to = is.to in elim (cases_lt k (contexts_end z)) [
  | inl low ↦ let i = set.claim low in let d = is.claim (omega arith) in omega arith
  | inr past ↦ let i = set.flag past in omega arith
]

pub IsUnused-not_entry : (z : Sizes) (j k : ℕ) → IsBoardWord z k → IsUnused z j → j ≢ k
IsUnused-not_entry z j k entry is e =
    let to = entry.to in let low = entry.from_entry in let high = entry.to_entry in
    let i = is.entry (omega arith) (omega arith) in omega arith

pub IsClaimOrFlag-flag : (z : Sizes) (k flag : ℕ) → k ≡ flags_start z + flag → flag < z.flags → IsClaimOrFlag z k
IsClaimOrFlag-flag z k flag e low = let lines = lines_of z in record { inside = omega arith; claim = λ before. absurd (omega arith); flag = λ _. omega arith }

-- a word of a line that is neither a value nor a claim nor a mark
entry_or_unused : (z : Sizes) (k : ℕ) → k < flags_start z → (k % LINE_WORDS ≡ 0 → contexts_end z ≤ k) → (k % LINE_WORDS ≡ CLAIM → contexts_end z ≤ k) → (k % LINE_WORDS ≡ MARK → contexts_end z ≤ k)
    → IsBoardWord z k ⊎ IsUnused z k
entry_or_unused z k to value claim mark = elim (cases_lt k (board_end z)) [
  | inl inside ↦ elim (cases_lt (k % LINE_WORDS) 1) [
    | inl first ↦ inr record { to = to; value = value; claim = claim; mark = mark; entry = λ low high. absurd (omega arith) }
    | inr low ↦ elim (cases_lt USAGES (k % LINE_WORDS)) [
      | inl past ↦ inr record { to = to; value = value; claim = claim; mark = mark; entry = λ _ high. absurd (omega arith) }
      | inr high ↦ inl record { to = inside; from_entry = low; to_entry = high }
    ]
  ]
  | inr past ↦ inr record { to = to; value = value; claim = claim; mark = mark; entry = λ _ _. past }
]

pub each_word : (z : Sizes) (k : ℕ) → k < word_count z → IsValueOf z k (k / LINE_WORDS) ⊎ IsMarkOf z k (k / LINE_WORDS) ⊎ IsClaimOrFlag z k ⊎ IsBoardWord z k ⊎ IsUnused z k
each_word z k inside = let lines = lines_of z in elim (cases_lt k (flags_start z)) [
  | inl to ↦ elim (cases_lt k (contexts_end z)) [
    | inl low ↦ dite (ℕ_discrete (k % LINE_WORDS) 0)
        (λ e. inl (omega arith, omega arith))
        (λ no_value. dite (ℕ_discrete (k % LINE_WORDS) MARK)
        (λ e. inr (inl (omega arith, omega arith)))
        (λ no_mark. dite (ℕ_discrete (k % LINE_WORDS) CLAIM)
        (λ e. inr (inr (inl record { inside = inside; claim = λ _. e; flag = λ past. absurd (omega arith) })))
        (λ no_claim. inr (inr (inr (entry_or_unused z k to (λ bad. absurd (no_value bad)) (λ bad. absurd (no_claim bad)) (λ bad. absurd (no_mark bad))))))))
    | inr past ↦ inr (inr (inr (entry_or_unused z k to (λ _. past) (λ _. past) (λ _. past))))
  ]
  | inr flag ↦ inr (inr (inl record { inside = inside; claim = λ low. absurd (omega arith); flag = λ _. flag }))
]
