-- The index of each word: a line for each buffer and context, with an entry for each usage; the first buffer's lines
-- also have the contexts' values, claims and marks; the flags follow the lines.
use Rattle.std.specs.Prelude.{◌≡◌, ℕ, ◌+◌, ◌-◌, ◌*◌, ◌%◌, ◌<◌, ◌≤◌, max}
use Rattle.point_core.specs.declared.entry.Usage.{Usage}
use Rattle.point_core.specs.Usage.{usage_number}
use Rattle.words_core.specs.declared.words.Sizes.{Sizes}
use Rattle.words_core.specs.declared.words.TheConstants.{LINE_WORDS, USAGES, CLAIM, MARK}
use Rattle.words_core.specs.theorem.Words.{WordsModel, sizes_of}

-- the value of the context at a place, which is its number less 1
abbrev pub value_place : ℕ → ℕ
value_place place = LINE_WORDS * place

-- its claim, which is won by its driver
abbrev pub claim_place : ℕ → ℕ
claim_place place = LINE_WORDS * place + CLAIM

-- its mark, which is 0 until its driver closes it
abbrev pub mark_place : ℕ → ℕ
mark_place place = LINE_WORDS * place + MARK

-- a buffer's entry for the context at a place and the usage of a number
abbrev pub board_place : Sizes → ℕ → ℕ → ℕ → ℕ
board_place sizes buffer place usage = LINE_WORDS * (buffer * sizes.contexts + place) + 1 + usage

-- the end of the lines of contexts
abbrev pub contexts_end : Sizes → ℕ
contexts_end sizes = LINE_WORDS * sizes.contexts

-- the end of the lines of buffers
abbrev pub board_end : Sizes → ℕ
board_end sizes = LINE_WORDS * (sizes.buffers * sizes.contexts)

-- without buffers the contexts still have their lines
abbrev pub flags_start : Sizes → ℕ
flags_start sizes = LINE_WORDS * (max sizes.buffers 1 * sizes.contexts)

abbrev pub word_count : Sizes → ℕ
word_count sizes = flags_start sizes + sizes.flags

-- the value of a context
abbrev pub value_word : ℕ → ℕ
value_word ctx = value_place (ctx - 1)

-- the claim of a context
abbrev pub claim_word : ℕ → ℕ
claim_word ctx = claim_place (ctx - 1)

-- the mark of a context
abbrev pub mark_word : ℕ → ℕ
mark_word ctx = mark_place (ctx - 1)

-- a buffer's entry for a context and a usage
abbrev pub board_word : WordsModel → ℕ → ℕ → Usage → ℕ
board_word words buffer ctx usage = board_place (sizes_of words) buffer (ctx - 1) (usage_number usage)

abbrev pub flag_word : WordsModel → ℕ → ℕ
flag_word words flag = flags_start (sizes_of words) + flag

-- the word k is the value of the context at a place
abbrev pub IsValueOf : Sizes → ℕ → ℕ → Type 0
IsValueOf sizes k place = (place < sizes.contexts) × (k ≡ value_place place)

-- the word k is the mark of the context at a place
abbrev pub IsMarkOf : Sizes → ℕ → ℕ → Type 0
IsMarkOf sizes k place = (place < sizes.contexts) × (k ≡ mark_place place)

-- the word k is a claim or a flag
pub record IsClaimOrFlag (sizes : Sizes) (k : ℕ) : Type 0 where
  pub inside : k < word_count sizes
  pub claim : k < contexts_end sizes → k % LINE_WORDS ≡ CLAIM
  pub flag : contexts_end sizes ≤ k → flags_start sizes ≤ k

-- the word k is an entry of the board
pub record IsBoardWord (sizes : Sizes) (k : ℕ) : Type 0 where
  pub to : k < board_end sizes
  pub from_entry : 1 ≤ k % LINE_WORDS
  pub to_entry : k % LINE_WORDS ≤ USAGES

-- the word k is neither of these, nor a value or a mark
pub record IsUnused (sizes : Sizes) (k : ℕ) : Type 0 where
  pub to : k < flags_start sizes
  pub value : k % LINE_WORDS ≡ 0 → contexts_end sizes ≤ k
  pub claim : k % LINE_WORDS ≡ CLAIM → contexts_end sizes ≤ k
  pub mark : k % LINE_WORDS ≡ MARK → contexts_end sizes ≤ k
  pub entry : 1 ≤ k % LINE_WORDS → k % LINE_WORDS ≤ USAGES → board_end sizes ≤ k
