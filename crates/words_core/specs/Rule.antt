-- The rule on the words: an invariant of the words and all views, which every step keeps.
use Rattle.std.specs.Prelude.{◌≡◌, ℕ, ◌+◌, ◌<◌, ◌≤◌, ◌⊎◌, List, [], ◌∷◌, map, length, slice_index}
use Rattle.words_core.specs.declared.seat.TheConstants.{PARTS}
use Rattle.words_core.specs.declared.trace.Step.{Step}
use Rattle.words_core.specs.declared.trace.View.{View}
use Rattle.words_core.specs.declared.words.Sizes.{Sizes}
use Rattle.words_core.specs.theorem.Layout.{value_place, claim_place, mark_place, word_count, IsClaimOrFlag, IsBoardWord, IsUnused}
use Rattle.words_core.specs.theorem.Trace.{is_add, is_win, is_shut, shut_to, is_test, is_load_of, is_add_to, is_raise_to, is_sight_of, total, on, greatest, raised, added, HasRunningSums, wins_of}

abbrev pub view : Sizes → ℕ → List Step → List Step → View
view sizes parts start trace = record { sizes = sizes; parts = parts; start = start; trace = trace }

abbrev pub first_view : Sizes → View
first_view sizes = view sizes PARTS [] []

-- the view of a seat whose parts went to another
abbrev pub spent_view : Sizes → View
spent_view sizes = view sizes 0 [] []

-- P holds of each element
abbrev pub Each : {A : Type 0} → (A → Type 0) → List A → Type 0
Each P [] = Unit {0}
Each P (x ∷ xs) = P x × Each P xs

-- what one seat has on a word: the steps that it started with, and the steps that it made; and both for a second word,
-- the claim of whoever may change the first
pub record WordTrace : Type 0 where
  pub start : List Step
  pub made : List Step
  pub claim : List Step

-- the trace on the word k, which only the winner of a claim may change
abbrev pub claimed_trace : ℕ → ℕ → View → WordTrace
claimed_trace k claim v = record { start = on k v.start; made = on k v.trace; claim = on claim v.trace }

-- the trace on the value of the context at a place
abbrev pub context_trace : ℕ → View → WordTrace
context_trace place v = claimed_trace (value_place place) (claim_place place) v

-- the trace on its mark
abbrev pub mark_trace : ℕ → View → WordTrace
mark_trace place v = claimed_trace (mark_place place) (claim_place place) v

-- the trace on one word only
abbrev pub word_trace : ℕ → View → WordTrace
word_trace k v = record { start = on k v.start; made = on k v.trace; claim = [] }

-- the sum of f over the steps that were made
abbrev pub made_in : (Step → ℕ) → WordTrace → ℕ
made_in f t = total f t.made

-- the sum of f over all steps that are known
abbrev pub known_in : (Step → ℕ) → WordTrace → ℕ
known_in f t = total f t.start + total f t.made

abbrev pub wins_in : WordTrace → ℕ
wins_in t = total is_win t.claim

-- how often a seat has won the word w
abbrev pub wins_on : ℕ → View → ℕ
wins_on w v = wins_of w v.trace

abbrev pub parts_of : View → ℕ
parts_of v = v.parts

-- every known value of the word is at most n
abbrev pub IsAtMost : ℕ → WordTrace → Type 0
IsAtMost n t = (greatest t.start ≤ n) × (greatest t.made ≤ n)

-- it was raised to no more than n
abbrev pub RaisesNoMore : ℕ → WordTrace → Type 0
RaisesNoMore n t = raised t.made ≤ n

-- each addition leaves the sum up to it
abbrev pub HasSums : WordTrace → Type 0
HasSums t = HasRunningSums 0 t.made

-- a seat that has not won the claim has added nothing
abbrev pub AddsAsDriver : WordTrace → Type 0
AddsAsDriver t = wins_in t ≡ 0 → made_in is_add t ≡ 0

-- a seat that has not won the claim has not closed the context
abbrev pub ShutsAsDriver : WordTrace → Type 0
ShutsAsDriver t = wins_in t ≡ 0 → made_in is_shut t ≡ 0

-- each value is 0 or n
abbrev pub IsZeroOr : ℕ → List Step → Type 0
IsZeroOr n steps = Each (λ (s : Step). (s.value ≡ 0) ⊎ (s.value ≡ n)) steps

-- each value that is known of the word is 0 or n
abbrev pub KnowsZeroOr : ℕ → WordTrace → Type 0
KnowsZeroOr n t = IsZeroOr n t.start × IsZeroOr n t.made

abbrev pub IsEmptyIfSpent : View → Type 0
IsEmptyIfSpent v = v.parts ≡ 0 → (v.start ≡ []) × (v.trace ≡ [])

-- a seat that is not spent knows how many words there are
abbrev pub KnowsSizes : Sizes → View → Type 0
KnowsSizes sizes v = 0 < v.parts → v.sizes ≡ sizes

-- a word that only rises: `leaves x` is 1 at a step that left x, and `finds x` at one that found it
pub record IsTraced (leaves finds : ℕ → Step → ℕ) (word : ℕ) (traces : List WordTrace) : Type 0 where
  -- each known value is at most the word
  pub below : Each (IsAtMost word) traces
  -- it is 0 or was left by a step
  pub left : (word ≡ 0) ⊎ (0 < total (made_in (leaves word)) traces)
  -- each known value is 0 or was left by a step
  pub found : (x : ℕ) → 0 < x → 0 < total (known_in (finds x)) traces → 0 < total (made_in (leaves x)) traces

-- the value of a context
pub record IsValue (word : ℕ) (traces : List WordTrace) : Type 0 where
  pub traced : IsTraced is_add_to is_load_of word traces
  -- it is the sum of all that was added
  pub summed : word ≡ total (λ (t : WordTrace). added t.made) traces
  pub running : Each HasSums traces
  pub driven : Each AddsAsDriver traces

-- the mark of a context with this value: 0 until the context is closed, and from then on the value and 1
pub record IsMark (value word : ℕ) (traces : List WordTrace) : Type 0 where
  -- each known value is 0 or the word
  pub known : Each (KnowsZeroOr word) traces
  -- it was set at most once, and is what that step left
  pub once : total (made_in is_shut) traces ≤ 1
  pub left : word ≡ total (made_in shut_to) traces
  pub ended : 0 < total (made_in is_shut) traces → word ≡ value + 1
  pub driven : Each ShutsAsDriver traces

-- a claim or a flag: 1 if it was won, and else 0
pub record IsSetOnce (word : ℕ) (traces : List WordTrace) : Type 0 where
  -- each known value is at most the word
  pub below : Each (IsAtMost word) traces
  pub won : word ≡ total (made_in is_win) traces
  -- if it is known to have been won or lost it is 1
  pub tested : 0 < total (known_in is_test) traces → word ≡ 1

-- an entry of the board: the greatest value to which it was raised, or 0
pub record IsEntry (word : ℕ) (traces : List WordTrace) : Type 0 where
  pub traced : IsTraced is_raise_to is_sight_of word traces
  pub raises : Each (RaisesNoMore word) traces

-- the rule. Lost seats are among the views, with their parts
pub record IsKept (sizes : Sizes) (words : List ℕ) (views : List View) : Type 0 where
  pub counted : length words ≡ word_count sizes
  pub parts : total parts_of views ≡ PARTS
  pub spent : Each IsEmptyIfSpent views
  pub sized : Each (KnowsSizes sizes) views
  -- each word was won once at most, by all seats together
  pub won_once : (w : ℕ) → total (wins_on w) views ≤ 1
  pub values : (place : ℕ) → place < sizes.contexts →
      IsValue (slice_index words (value_place place)) (map (context_trace place) views)
  pub marks : (place : ℕ) → place < sizes.contexts →
      IsMark (slice_index words (value_place place)) (slice_index words (mark_place place)) (map (mark_trace place) views)
  pub set_once : (k : ℕ) → IsClaimOrFlag sizes k → IsSetOnce (slice_index words k) (map (word_trace k) views)
  pub entries : (k : ℕ) → IsBoardWord sizes k → IsEntry (slice_index words k) (map (word_trace k) views)
  pub unused : (k : ℕ) → IsUnused sizes k → slice_index words k ≡ 0
