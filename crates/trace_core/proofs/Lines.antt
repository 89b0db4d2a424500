-- The first line of a text, and the lines of a record.
use Rattle.std.proofs.Common.{◌≡◌, ℕ, suc, ◌+◌, ◌<◌, ◌≤◌, ◌⊎◌, inl, inr, Bool, true, false, ◌||◌, cond, nat_lt, List, [], ◌∷◌, ◌++◌, length, get_or, take, drop, Option, None, Some, refl, sym, ap, ◌∙◌, append-nil, append_assoc, length-append, length-take, arith}
use Rattle.std.specs.List.{position, position_or_len}
use Rattle.std.proofs.Math.Seq.{take-length}
use Rattle.std.proofs.lemmas.Bool.{lt-ltb, eqb-true, false≢true}
use Rattle.std.proofs.lemmas.Bool.Decides.{nat_tests}
use Rattle.std.proofs.lemmas.List.{take_at, drop_at, drop_all, drop-drop, get_or_append_left, get_or_at, get_or-take}
use Rattle.std.proofs.lemmas.List.Sums.{position_or_len_is, fails_before_first, passes_at_first, split_at_first, prefix_len-le-length}
use Rattle.std.proofs.lemmas.Option.{cond_some}
use Rattle.trace_core.specs.declared.item.TheConstants.{PIECE_BYTES}
use Rattle.trace_core.specs.Cutting.{MayFollow, HasNoLineFeed, IsLine, IsRestOfLine}
use Rattle.trace_core.specs.Item.{Meaning, Unread}
use Rattle.trace_core.specs.Piece.{is_line_feed, is_unread, item_of, first_line, after_line, begins_record, record_or, joined_from, joined_or_unread, with_lines, first_item}
use Rattle.trace_core.specs.Record.{Printed, record_of}

chosen : (a b i : ℕ) → cond (nat_lt a b) (Some a) None ≡ Some i → (a < b) × (a ≡ i)
chosen a b i e = let both = cond_some (nat_lt a b) a i e in (grind (arith, nat_tests), both.1)

unchosen : (a b : ℕ) → cond (nat_lt a b) (Some a) None ≡ None → b ≤ a
unchosen a b e = grind (arith, nat_tests)

place-le : (bytes : List ℕ) → position_or_len is_line_feed bytes ≤ length bytes
place-le bytes = prefix_len-le-length _ bytes

pub feed-none : (bytes : List ℕ) → position is_line_feed bytes ≡ None → HasNoLineFeed bytes
feed-none bytes e = omega (arith, unchosen (position_or_len is_line_feed bytes) (length bytes) e, place-le bytes)

-- the bytes before the first line feed hold none
pub front-alone : (bytes : List ℕ) (k : ℕ) → k ≤ position_or_len is_line_feed bytes → HasNoLineFeed (take k bytes)
front-alone bytes k h =
    position_or_len_is is_line_feed (take k bytes) (length (take k bytes)) 0 (omega arith) (λ j l. let few : j < k = omega (arith, l, length-take k bytes) in ap is_line_feed (get_or-take k bytes j 0 few) ∙ fails_before_first is_line_feed bytes j 0 (omega arith)) (λ l. absurd (omega (arith, l)))

pub feed-split : (bytes : List ℕ) (k : ℕ) → position_or_len is_line_feed bytes ≡ k → k < length bytes → bytes ≡ take k bytes ++ 10 ∷ drop (k + 1) bytes
feed-split bytes k e h =
    let within : position_or_len is_line_feed bytes < length bytes = omega arith in
    let feed : get_or bytes (position_or_len is_line_feed bytes) 0 ≡ 10 = eqb-true _ 10 (passes_at_first is_line_feed bytes 0 within) in
    split_at_first is_line_feed bytes 0 within ∙ ap (λ b. take (position_or_len is_line_feed bytes) bytes ++ b ∷ drop (position_or_len is_line_feed bytes + 1) bytes) feed ∙ ap (λ n. take n bytes ++ 10 ∷ drop (n + 1) bytes) e

pub IsLine-some : (bytes : List ℕ) (whole : Bool) (k : ℕ) → position is_line_feed bytes ≡ Some k → IsLine bytes whole (take k bytes) (k + 1)
IsLine-some bytes whole k e =
    let at = chosen (position_or_len is_line_feed bytes) (length bytes) k e in
    let within : k < length bytes = omega (arith, at.0, at.1) in
    record {
      some = omega arith;
      within = omega arith;
      alone = front-alone bytes k (omega (arith, at.1));
      ends = inl (feed-split bytes k at.1 within, omega (arith, length-take k bytes));
    }

pub IsLine-last : (bytes : List ℕ) (whole : Bool) → position is_line_feed bytes ≡ None → whole ≡ true → 1 ≤ length bytes → IsLine bytes whole bytes (length bytes)
IsLine-last bytes whole e w some = record {
  some = some;
  within = omega arith;
  alone = feed-none bytes e;
  ends = inr (refl, refl, w);
}

place-line : (line rest : List ℕ) → HasNoLineFeed line → position_or_len is_line_feed (line ++ 10 ∷ rest) ≡ length line
place-line line rest h =
    position_or_len_is is_line_feed (line ++ 10 ∷ rest) (length line) 0 (omega (arith, length-append line (10 ∷ rest))) (λ k l. ap is_line_feed (get_or_append_left line (10 ∷ rest) 0 k l) ∙ fails_before_first is_line_feed line k 0 (omega (arith, h))) (λ _. ap is_line_feed (get_or_at line 10 rest 0 (length line) refl))

first-feed : (line rest : List ℕ) → HasNoLineFeed line → first_line (line ++ 10 ∷ rest) ≡ line
first-feed line rest h = ap (λ n. take n (line ++ 10 ∷ rest)) (place-line line rest h) ∙ take_at line (10 ∷ rest) (length line) refl

after-feed : (line rest : List ℕ) → HasNoLineFeed line → after_line (line ++ 10 ∷ rest) ≡ rest
after-feed line rest h =
    ap (λ n. drop (n + 1) (line ++ 10 ∷ rest)) (place-line line rest h) ∙ sym (drop-drop 1 (length line) (line ++ 10 ∷ rest)) ∙ ap (drop 1) (drop_at line (10 ∷ rest) (length line) refl)

first-all : (line : List ℕ) → HasNoLineFeed line → first_line line ≡ line
first-all line h = ap (λ n. take n line) h ∙ take-length line

after-all : (line : List ℕ) → HasNoLineFeed line → after_line line ≡ []
after-all line h = drop_all (position_or_len is_line_feed line + 1) line (omega (arith, h))

module _ (bytes : List ℕ) (whole : Bool) (line : List ℕ) (len : ℕ) (is : IsLine bytes whole line len) (more : List ℕ) (may : MayFollow whole more) where
  abbrev Ends : Type 0
  Ends = ((bytes ≡ line ++ 10 ∷ drop len bytes) × (len ≡ length line + 1)) ⊎ ((line ≡ bytes) × (len ≡ length bytes) × (whole ≡ true))

  joined-feed : bytes ≡ line ++ 10 ∷ drop len bytes → bytes ++ more ≡ line ++ 10 ∷ (drop len bytes ++ more)
  joined-feed e = ap (λ xs. xs ++ more) e ∙ append_assoc line (10 ∷ drop len bytes) more

  none-more : line ≡ bytes → whole ≡ true → bytes ++ more ≡ line
  none-more e w = ap (λ xs. bytes ++ xs) (may w) ∙ append-nil bytes ∙ sym e

  pub line-first : first_line (bytes ++ more) ≡ line
  line-first = elim is.ends [
    | inl h ↦ ap first_line (joined-feed h.0) ∙ first-feed line (drop len bytes ++ more) is.alone
    | inr h ↦ ap first_line (none-more h.0 h.2) ∙ first-all line is.alone
  ]

  nothing : len ≡ length bytes → whole ≡ true → [] ≡ drop len bytes ++ more
  nothing e w = sym (ap (λ xs. drop len bytes ++ xs) (may w) ∙ append-nil (drop len bytes) ∙ drop_all len bytes (omega arith))

  pub line-after : after_line (bytes ++ more) ≡ drop len bytes ++ more
  line-after = elim is.ends [
    | inl h ↦ ap after_line (joined-feed h.0) ∙ after-feed line (drop len bytes ++ more) is.alone
    | inr h ↦ ap after_line (none-more h.0 h.2) ∙ after-all line is.alone ∙ nothing h.1 h.2
  ]

  pub first_item-line : first_item (bytes ++ more) ≡ with_lines (item_of line) line (drop len bytes ++ more)
  unfolding first_item
  first_item-line =
      ap (λ l. with_lines (item_of l) l (after_line (bytes ++ more))) line-first ∙ ap (with_lines (item_of line) line) line-after

module _ (line rest : List ℕ) where
  pub with_lines-read : (item : Meaning) → is_unread item ≡ false → with_lines item line rest ≡ (item, rest)
  with_lines-read Unread e = absurd (false≢true (sym e))
  with_lines-read item e = refl

  unread : (item : Meaning) → is_unread item ≡ true → item ≡ Unread
  unread Unread e = refl
  unread item e = absurd (false≢true e)

  pub with_lines-alone : (item : Meaning) → is_unread item ≡ true → begins_record line ≡ false → with_lines item line rest ≡ (item, rest)
  with_lines-alone item u b =
      ap (λ i. with_lines i line rest) (unread item u) ∙ ap (λ t. cond t (joined_or_unread (joined_from 3 line rest) rest) (Unread, rest)) b ∙ ap (λ i. (i, rest)) (sym (unread item u))

  pub with_lines-joined : (item : Meaning) → is_unread item ≡ true → begins_record line ≡ true → with_lines item line rest ≡ joined_or_unread (joined_from 3 line rest) rest
  with_lines-joined item u b =
      ap (λ i. with_lines i line rest) (unread item u) ∙ ap (λ t. cond t (joined_or_unread (joined_from 3 line rest) rest) (Unread, rest)) b

-- lines with the first line of a text
abbrev pub with_first : List ℕ → List ℕ → List ℕ
with_first lines text = lines ++ 10 ∷ first_line text

or_true : (a : Bool) → (a || true) ≡ true
or_true true = refl
or_true false = refl

module _ (n : ℕ) (lines : List ℕ) where
  abbrev step : List ℕ → Bool → Option (Printed × List ℕ)
  step text b =
      cond b None (record_or (record_of (with_first lines text)) (after_line text) (joined_from n (with_first lines text) (after_line text)))

  joined-none : (text : List ℕ) → (nat_lt PIECE_BYTES (length (with_first lines text)) || begins_record (first_line text)) ≡ true → joined_from (suc n) lines text ≡ None
  unfolding joined_from
  joined-none [] e = refl
  joined-none (x ∷ xs) e = ap (step (x ∷ xs)) e

  pub joined-long : (text : List ℕ) → PIECE_BYTES < length (with_first lines text) → joined_from (suc n) lines text ≡ None
  joined-long text h =
      joined-none text (ap (λ b. b || begins_record (first_line text)) (lt-ltb PIECE_BYTES (length (with_first lines text)) h))

  pub joined-begins : (text : List ℕ) → begins_record (first_line text) ≡ true → joined_from (suc n) lines text ≡ None
  joined-begins text h =
      joined-none text (ap (λ b. nat_lt PIECE_BYTES (length (with_first lines text)) || b) h ∙ or_true (nat_lt PIECE_BYTES (length (with_first lines text))))

  pub joined-end : joined_from (suc n) lines [] ≡ None
  unfolding joined_from
  joined-end = refl

  pub joined-step : (text : List ℕ) → 1 ≤ length text → nat_lt PIECE_BYTES (length (with_first lines text)) ≡ false → begins_record (first_line text) ≡ false
      → joined_from (suc n) lines text ≡ record_or (record_of (with_first lines text)) (after_line text) (joined_from n (with_first lines text) (after_line text))
  unfolding joined_from
  joined-step [] some short begins = absurd (omega arith)
  joined-step (x ∷ xs) some short begins =
      ap (λ b. step (x ∷ xs) (b || begins_record (first_line (x ∷ xs)))) short ∙ ap (step (x ∷ xs)) begins

pub joined-no_more : (lines rest : List ℕ) → joined_from 0 lines rest ≡ None
unfolding joined_from
joined-no_more lines rest = refl

pub IsRestOfLine-some : (bytes : List ℕ) (whole : Bool) (k : ℕ) → position is_line_feed bytes ≡ Some k → IsRestOfLine bytes whole (k + 1)
IsRestOfLine-some bytes whole k e =
    let at = chosen (position_or_len is_line_feed bytes) (length bytes) k e in
    record {
      within = omega (arith, at.0, at.1);
      ends = inl (omega arith, omega (arith, at.1));
    }

pub IsRestOfLine-last : (bytes : List ℕ) (whole : Bool) → position is_line_feed bytes ≡ None → whole ≡ true → IsRestOfLine bytes whole (length bytes)
IsRestOfLine-last bytes whole e w = record { within = omega arith; ends = inr (feed-none bytes e, refl, w) }
