-- What each kind of step shows to its seat, and how views are split and joined.
use Rattle.std.specs.Prelude.{◌≡◌, ℕ, ◌+◌, ◌-◌, ◌<◌, ◌≤◌, max, [], ◌∷◌, ◌++◌}
use Rattle.atomic_table.specs.Table.{Me, Step as TableStep}
use Rattle.words_core.specs.declared.seat.TheConstants.{PARTS}
use Rattle.words_core.specs.declared.trace.Step.{Step}
use Rattle.words_core.specs.declared.trace.View.{View}
use Rattle.words_core.specs.declared.words.TheConstants.{CLAIM, MARK}
use Rattle.words_core.specs.theorem.Trace.{load, add, raise, shown, set_once_step, is_test, total, on, greatest, raised, added, wins_of, shut, shuts_of, mark_of, LoadsWereLeft, SightsWereRaised, IsDecided}
use Rattle.words_core.specs.Rule.{view, spent_view, IsZeroOr}

-- a seat's view, with no slots
abbrev pub Holder : Type 0
Holder = Me (Unit {0}) View

-- the view with one more step
abbrev pub view_with : View → Step → View
view_with v s = view v.sizes v.parts v.start (v.trace ++ s ∷ [])

-- the greatest value that is known of the word w
abbrev pub seen_by : ℕ → View → ℕ
seen_by w v = greatest (on w (v.start ++ v.trace))

-- how often it is known that the word w was won or lost
abbrev pub tests_by : ℕ → View → ℕ
tests_by w v = total is_test (on w (v.start ++ v.trace))

-- the value is entered, and it is at least what was seen. If the context's mark was seen above 0, it is 1 less
abbrev pub loads_value : TableStep (Unit {0}) → Holder → ℕ → Holder → Type 0
loads_value s me found after =
    (after ≡ (view_with me.0 (load s.word found), me.1))
    × (seen_by s.word me.0 ≤ found)
    × (0 < seen_by (s.word + MARK) me.0 → seen_by (s.word + MARK) me.0 ≡ found + 1)

-- a mark is entered. One that was seen above 0 stays, and no value past it was seen
abbrev pub loads_mark : TableStep (Unit {0}) → Holder → ℕ → Holder → Type 0
loads_mark s me found after =
    (after ≡ (view_with me.0 (load s.word found), me.1))
    × (seen_by s.word me.0 ≤ found)
    × (0 < seen_by s.word me.0 → found ≡ seen_by s.word me.0)
    × (0 < found → seen_by (s.word - MARK) me.0 < found)

-- a mark was 0, and nobody had seen another
abbrev pub shuts_mark : TableStep (Unit {0}) → Holder → ℕ → Holder → Type 0
shuts_mark s me found after =
    (after ≡ (view_with me.0 (shut s.word s.first), me.1))
    × (found ≡ 0)
    × (seen_by s.word me.0 ≡ 0)

-- a word is won if it was 0, and then nobody was known to have won or lost it
abbrev pub sets_once : TableStep (Unit {0}) → Holder → ℕ → Holder → Type 0
sets_once s me found after =
    (after ≡ (view_with me.0 (set_once_step s.word found), me.1))
    × (found ≡ 0 → (tests_by s.word me.0 ≡ 0) × (wins_of s.word me.0.trace ≡ 0))

-- if a claim is won, nothing was added to the context's value, nor was its mark set, the word after the claim
abbrev pub claims_context : TableStep (Unit {0}) → Holder → ℕ → Holder → Type 0
claims_context s me found after =
    sets_once s me found after
    × (found ≡ 0 → (added (on (s.word - CLAIM) me.0.trace) ≡ 0) × (shuts_of (s.word + 1) me.0.trace ≡ 0))

-- the word was all that the seat had added
abbrev pub adds_to_value : TableStep (Unit {0}) → Holder → ℕ → Holder → Type 0
adds_to_value s me found after =
    (after ≡ (view_with me.0 (add s.word s.first (found + s.first)), me.1))
    × (found ≡ added (on s.word me.0.trace))

-- nothing is entered. The seat sees that its parts are no more than all, and that it has won each word at most once
abbrev pub counts_parts : TableStep (Unit {0}) → Holder → ℕ → Holder → Type 0
counts_parts s me found after = (after ≡ me) × (me.0.parts ≤ PARTS) × ((w : ℕ) → wins_of w me.0.trace ≤ 1)

-- a seat with all parts made all additions to the word, and won its claim at most once
abbrev pub loads_total : TableStep (Unit {0}) → Holder → ℕ → Holder → Type 0
loads_total s me found after =
    (after ≡ (view_with me.0 (load s.word found), me.1))
    × (seen_by s.word me.0 ≤ found)
    × (found ≡ added (on s.word me.0.trace))
    × LoadsWereLeft s.word me.0.trace
    × IsDecided (s.word + CLAIM) me.0.trace

-- a seat with all parts has set a mark at most once, to 1 more than the sum of its additions to the value
abbrev pub loads_total_mark : TableStep (Unit {0}) → Holder → ℕ → Holder → Type 0
loads_total_mark s me found after =
    (after ≡ (view_with me.0 (load s.word found), me.1))
    × (seen_by s.word me.0 ≤ found)
    × (found ≡ mark_of s.word me.0.trace)
    × (shuts_of s.word me.0.trace ≤ 1)
    × (0 < shuts_of s.word me.0.trace → found ≡ added (on (s.word - MARK) me.0.trace) + 1)
    × IsZeroOr found (on s.word me.0.trace)

-- a flag is the number of times that a seat with all parts has won it
abbrev pub loads_flag : TableStep (Unit {0}) → Holder → ℕ → Holder → Type 0
loads_flag s me found after =
    (after ≡ (view_with me.0 (load s.word found), me.1))
    × (seen_by s.word me.0 ≤ found)
    × (found ≡ wins_of s.word me.0.trace)
    × IsDecided s.word me.0.trace
    × (0 < tests_by s.word me.0 → found ≡ 1)

-- the value that an entry of the board shows is at least what was seen, and what the seat raised it to
abbrev pub loads_entry : TableStep (Unit {0}) → Holder → ℕ → Holder → Type 0
loads_entry s me found after =
    (after ≡ (view_with me.0 (shown s.word found), me.1))
    × (seen_by s.word me.0 ≤ found)
    × (raised (on s.word me.0.trace) ≤ found)

abbrev pub raises_entry : TableStep (Unit {0}) → Holder → ℕ → Holder → Type 0
raises_entry s me found after =
    (after ≡ (view_with me.0 (raise s.word s.first (max found s.first)), me.1))
    × (seen_by s.word me.0 ≤ found)
    × (raised (on s.word me.0.trace) ≤ found)

-- a seat with all parts has made all raises of an entry
abbrev pub loads_top : TableStep (Unit {0}) → Holder → ℕ → Holder → Type 0
loads_top s me found after =
    (after ≡ (view_with me.0 (shown s.word found), me.1))
    × (seen_by s.word me.0 ≤ found)
    × (found ≡ raised (on s.word me.0.trace))
    × SightsWereRaised s.word me.0.trace

-- the parent's view when n parts go to a child
abbrev pub parent_view : ℕ → View → View
parent_view n v = view v.sizes (v.parts - n) v.start v.trace

-- the child's view, which starts with all that was known
abbrev pub child_view : ℕ → View → View
child_view n v = view v.sizes n (v.start ++ v.trace) []

abbrev pub joined_view : View → View → View
joined_view v w = view v.sizes (v.parts + w.parts) (v.start ++ w.start) (v.trace ++ w.trace)

-- the view of a seat after it was joined to another: spent
abbrev pub joined_from : View
joined_from = spent_view record { contexts = 0; buffers = 0; flags = 0 }
