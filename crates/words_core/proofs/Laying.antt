-- The indexes of the board's entries.
use Rattle.std.proofs.Common.{◌≡◌, ◌↔◌, ℕ, zero, suc, ◌+◌, ◌-◌, ◌*◌, ◌/◌, ◌<◌, ◌≤◌, refl, ap, arith}
use Rattle.point_core.specs.declared.entry.Usage.{Usage}
use Rattle.point_core.specs.declared.entry.Usage.TheVariants.{Kernel, Write, Read, Bookkeep}
use Rattle.point_core.specs.Usage.{usage_number}
use Rattle.words_core.specs.declared.words.TheConstants.{LINE_WORDS}
use Rattle.words_core.specs.theorem.Layout.{board_word, value_word}
use Rattle.words_core.specs.theorem.Words.{WordsModel}

pub usage_number_le : (usage : Usage) → usage_number usage ≤ 3
usage_number_le Kernel = omega arith
usage_number_le Write = omega arith
usage_number_le Read = omega arith
usage_number_le Bookkeep = omega arith

usage_number-injective : (usage other : Usage) → usage_number usage ≡ usage_number other → usage ≡ other
usage_number-injective Kernel Kernel e = refl
usage_number-injective Kernel Write e = absurd (omega arith)
usage_number-injective Kernel Read e = absurd (omega arith)
usage_number-injective Kernel Bookkeep e = absurd (omega arith)
usage_number-injective Write Kernel e = absurd (omega arith)
usage_number-injective Write Write e = refl
usage_number-injective Write Read e = absurd (omega arith)
usage_number-injective Write Bookkeep e = absurd (omega arith)
usage_number-injective Read Kernel e = absurd (omega arith)
usage_number-injective Read Write e = absurd (omega arith)
usage_number-injective Read Read e = refl
usage_number-injective Read Bookkeep e = absurd (omega arith)
usage_number-injective Bookkeep Kernel e = absurd (omega arith)
usage_number-injective Bookkeep Write e = absurd (omega arith)
usage_number-injective Bookkeep Read e = absurd (omega arith)
usage_number-injective Bookkeep Bookkeep e = refl

-- a row and a place below the rows' length
row_and_place : (b other c p q : ℕ) → p < c → q < c → b * c + p ≡ other * c + q → (b ≡ other) × (p ≡ q)
row_and_place zero zero c p q low low' e = (refl, omega arith)
row_and_place zero (suc other) c p q low low' e = absurd (omega arith)
row_and_place (suc b) zero c p q low low' e = absurd (omega arith)
row_and_place (suc b) (suc other) c p q low low' e = let r = row_and_place b other c p q low low' (omega arith) in (ap suc r.0, r.1)

pub lines_apart : (words : WordsModel) (buffer ctx other other_ctx : ℕ) (usage other_usage : Usage) → 1 ≤ ctx → ctx ≤ words.contexts → 1 ≤ other_ctx → other_ctx ≤ words.contexts
    → board_word words buffer ctx usage / LINE_WORDS ≡ board_word words other other_ctx other_usage / LINE_WORDS → (buffer ≡ other) × (ctx ≡ other_ctx)
lines_apart words buffer ctx other other_ctx usage other_usage low high low' high' e =
    let u = usage_number_le usage in let v = usage_number_le other_usage in
    let r = row_and_place buffer other words.contexts (ctx - 1) (other_ctx - 1) (omega arith) (omega arith) (omega arith) in (r.0, omega arith)

-- the line of a value has the entries of the first buffer for its context, and no others
pub lines_of_values : (words : WordsModel) (buffer ctx other_ctx : ℕ) (usage : Usage) → 1 ≤ ctx → ctx ≤ words.contexts → 1 ≤ other_ctx → other_ctx ≤ words.contexts
    → (board_word words buffer ctx usage / LINE_WORDS ≡ value_word other_ctx / LINE_WORDS) ↔ ((buffer ≡ 0) × (ctx ≡ other_ctx))
lines_of_values words buffer ctx other_ctx usage low high low' high' = let u = usage_number_le usage in (
  λ e. let r = row_and_place buffer 0 words.contexts (ctx - 1) (other_ctx - 1) (omega arith) (omega arith) (omega arith) in (r.0, omega arith),
  λ same. let first : buffer * words.contexts ≡ 0 * words.contexts = ap (λ (b : ℕ). b * words.contexts) same.0 in let at = same.1 in omega arith,
)

pub entries_apart : (words : WordsModel) (buffer ctx other other_ctx : ℕ) (usage other_usage : Usage) → 1 ≤ ctx → ctx ≤ words.contexts → 1 ≤ other_ctx → other_ctx ≤ words.contexts
    → board_word words buffer ctx usage ≡ board_word words other other_ctx other_usage → (buffer ≡ other) × (ctx ≡ other_ctx) × (usage ≡ other_usage)
entries_apart words buffer ctx other other_ctx usage other_usage low high low' high' e =
    let u = usage_number_le usage in let v = usage_number_le other_usage in
    let r = row_and_place buffer other words.contexts (ctx - 1) (other_ctx - 1) (omega arith) (omega arith) (omega arith) in
    (r.0, omega arith, usage_number-injective usage other_usage (omega arith))
