-- The lines of a record, when perhaps only the first are there.
use Rattle.std.proofs.Common.{◌≡◌, ℕ, suc, ◌+◌, ◌-◌, ◌<◌, ◌≤◌, ◌⊎◌, inl, inr, Bool, true, false, cond, List, [], ◌∷◌, ◌++◌, length, take, drop, Option, None, Some, IfSome, is_some, codes, refl, sym, ap, ◌∙◌, append_assoc, length-append, length-take, length-drop, take-append-drop, arith}
use Rattle.std.specs.List.{position_or_len}
use Rattle.std.proofs.Math.Seq.{take-length}
use Rattle.std.proofs.lemmas.Bool.{le-ltb, lt-ltb}
use Rattle.std.proofs.lemmas.List.{take_at, take-take, drop_all, drop-drop, drop-take, get_or_append_left}
use Rattle.std.proofs.lemmas.List.Sums.{fails_before_first, passes_at_first}
use Rattle.std.proofs.lemmas.Bool.{false≢true, cases_lt}
use Rattle.trace_core.specs.declared.item.TheConstants.{PIECE_BYTES}
use Rattle.trace_core.specs.declared.piece.Piece.{Piece}
use Rattle.trace_core.specs.Cutting.{MayFollow, HasNoLineFeed, IsLine, AreLines, IsJoined, IsFirstPiece}
use Rattle.trace_core.specs.Item.{Meaning, Unread, meaning_of}
use Rattle.trace_core.specs.Loss.{lost, note}
use Rattle.trace_core.specs.Steps.{after}
use Rattle.trace_core.specs.Piece.{is_line_feed, is_unread, item_of, lost_or_record, with_lines, first_line, after_line, begins_record, record_or, joined_from, joined_or_unread, first_item}
use Rattle.trace_core.specs.Record.{Printed, record_of}
use Rattle.trace_core.proofs.Lines.{with_first, first_item-line, with_lines-read, with_lines-alone, with_lines-joined, line-first, line-after, joined-long, joined-begins, joined-end, joined-step}

-- without a line feed, a line continues with the bytes after it
no_feed-longer : (rest more : List ℕ) → HasNoLineFeed rest → length rest ≤ length (first_line (rest ++ more))
no_feed-longer rest more none =
    elim (cases_lt (position_or_len is_line_feed (rest ++ more)) (length rest)) [
      | inl h ↦ absurd (false≢true (sym (fails_before_first is_line_feed rest (position_or_len is_line_feed (rest ++ more)) 0 (omega (arith, none))) ∙ ap is_line_feed (sym (get_or_append_left rest more 0 (position_or_len is_line_feed (rest ++ more)) h)) ∙ passes_at_first is_line_feed (rest ++ more) 0 (omega (arith, length-append rest more))))
      | inr h ↦ omega (arith, length-take (position_or_len is_line_feed (rest ++ more)) (rest ++ more), length-append rest more)
    ]

module _ (bytes : List ℕ) (whole : Bool) (lines : List ℕ) (end : ℕ) (are : AreLines bytes whole lines end) where
  length-lines : take end bytes ≡ lines ++ 10 ∷ [] → end ≡ length lines + 1
  length-lines e = omega (arith, ap length e, length-take end bytes, length-append lines (10 ∷ []), are.within)

  none-left : end ≡ length bytes → drop end bytes ≡ []
  none-left e = drop_all end bytes (omega arith)

  at-end : (n : ℕ) (more : List ℕ) → drop end bytes ≡ [] → more ≡ [] → joined_from (suc n) lines (drop end bytes ++ more) ≡ None
  at-end n more r m = ap (joined_from (suc n) lines) (ap (λ xs. xs ++ more) r ∙ m) ∙ joined-end n lines

  -- there is no next line, nor will there be a short one
  pub joined-alone : (whole ≡ true → drop end bytes ≡ []) → HasNoLineFeed (drop end bytes) → (whole ≡ true) ⊎ (PIECE_BYTES < length bytes)
      → (n : ℕ) (more : List ℕ) → MayFollow whole more → joined_from (suc n) lines (drop end bytes ++ more) ≡ None
  joined-alone all none why n more may = elim why [
    | inl w ↦ at-end n more (all w) (may w)
    | inr many ↦ elim are.ends [
      | inl e ↦ joined-long n lines (drop end bytes ++ more) (omega (arith, length-lines e, no_feed-longer (drop end bytes) more none, length-drop end bytes, length-append lines (10 ∷ first_line (drop end bytes ++ more)), are.within))
      | inr e ↦ at-end n more (none-left e.0) (may e.1)
    ]
  ]

  module _ (line : List ℕ) (len : ℕ) (is : IsLine (drop end bytes) whole line len) where
    -- a line is left, so the lines end at a line feed
    fed : take end bytes ≡ lines ++ 10 ∷ []
    fed = elim are.ends [
      | inl e ↦ e
      | inr e ↦ absurd (omega (arith, is.some, is.within, ap length (none-left e.0)))
    ]

    line-of : line ≡ take (length line) (drop end bytes)
    line-of = elim is.ends [
      | inl h ↦ sym (ap (take (length line)) h.0 ∙ take_at line (10 ∷ drop len (drop end bytes)) (length line) refl)
      | inr h ↦ h.0 ∙ sym (take-length (drop end bytes)) ∙ ap (λ xs. take (length xs) (drop end bytes)) (sym h.0)
    ]

    length-rest : end + length (drop end bytes) ≡ length bytes
    length-rest = omega (arith, length-drop end bytes, are.within)

    take-more : (k : ℕ) → take (end + k) bytes ≡ take end bytes ++ take k (drop end bytes)
    take-more k =
        sym (take-append-drop end (take (end + k) bytes)) ∙ ap (λ xs. xs ++ drop end (take (end + k) bytes)) (take-take end (end + k) bytes (omega arith)) ∙ ap (λ xs. take end bytes ++ xs) (drop-take end k bytes)

    -- the lines with the next one, as they are among the bytes
    pub with_line : take (end + length line) bytes ≡ lines ++ 10 ∷ line
    with_line =
        take-more (length line) ∙ ap (λ xs. xs ++ take (length line) (drop end bytes)) fed ∙ append_assoc lines (10 ∷ []) (take (length line) (drop end bytes)) ∙ ap (λ xs. lines ++ 10 ∷ xs) (sym line-of)

    length-with_line : length (lines ++ 10 ∷ line) ≡ end + length line
    length-with_line = omega (arith, length-lines fed, length-append lines (10 ∷ line))

    pub AreLines-more : AreLines bytes whole (lines ++ 10 ∷ line) (end + len)
    AreLines-more = record {
      some = omega (arith, is.some);
      within = omega (arith, is.within, length-rest);
      ends = elim is.ends [
        | inl h ↦ inl (take-more len ∙ ap (λ xs. xs ++ take len (drop end bytes)) fed ∙ ap (λ xs. (lines ++ 10 ∷ []) ++ xs) (ap (take len) (h.0 ∙ sym (append_assoc line (10 ∷ []) (drop len (drop end bytes)))) ∙ take_at (line ++ 10 ∷ []) (drop len (drop end bytes)) len (length-append line (10 ∷ []) ∙ sym h.1)) ∙ append_assoc lines (10 ∷ []) (line ++ 10 ∷ []) ∙ sym (append_assoc lines (10 ∷ line) (10 ∷ [])))
        | inr h ↦ inr (omega (arith, h.1, length-rest), h.2)
      ];
    }

    pub within-more : end + len ≤ length bytes
    within-more = omega (arith, is.within, length-rest)

    module _ (n : ℕ) (more : List ℕ) (may : MayFollow whole more) where
      text : with_first lines (drop end bytes ++ more) ≡ lines ++ 10 ∷ line
      text = ap (λ xs. lines ++ 10 ∷ xs) (line-first (drop end bytes) whole line len is more may)

      behind : after_line (drop end bytes ++ more) ≡ drop (end + len) bytes ++ more
      behind = line-after (drop end bytes) whole line len is more may ∙ ap (λ xs. xs ++ more) (drop-drop len end bytes)

      pub next-long : PIECE_BYTES < end + length line → joined_from (suc n) lines (drop end bytes ++ more) ≡ None
      next-long h =
          joined-long n lines (drop end bytes ++ more) (omega (arith, ap length text, length-with_line))

      pub next-begins : begins_record line ≡ true → joined_from (suc n) lines (drop end bytes ++ more) ≡ None
      next-begins h =
          joined-begins n lines (drop end bytes ++ more) (ap begins_record (line-first (drop end bytes) whole line len is more may) ∙ h)

      stepped : end + length line ≤ PIECE_BYTES → begins_record line ≡ false
          → joined_from (suc n) lines (drop end bytes ++ more) ≡ record_or (record_of (lines ++ 10 ∷ line)) (drop (end + len) bytes ++ more) (joined_from n (lines ++ 10 ∷ line) (drop (end + len) bytes ++ more))
      stepped short begins =
          joined-step n lines (drop end bytes ++ more) (omega (arith, length-append (drop end bytes) more, is.some, is.within)) (le-ltb PIECE_BYTES (length (with_first lines (drop end bytes ++ more))) (omega (arith, ap length text, length-with_line))) (ap begins_record (line-first (drop end bytes) whole line len is more may) ∙ begins)
          ∙ ap (λ xs. record_or (record_of xs) (after_line (drop end bytes ++ more)) (joined_from n xs (after_line (drop end bytes ++ more)))) text
          ∙ ap (λ xs. record_or (record_of (lines ++ 10 ∷ line)) xs (joined_from n (lines ++ 10 ∷ line) xs)) behind

      pub next-record : (r : Printed) → end + length line ≤ PIECE_BYTES → begins_record line ≡ false → Some r ≡ record_of (take (end + length line) bytes)
          → joined_from (suc n) lines (drop end bytes ++ more) ≡ Some (r, drop (end + len) bytes ++ more)
      next-record r short begins e =
          stepped short begins ∙ ap (λ o. record_or o (drop (end + len) bytes ++ more) (joined_from n (lines ++ 10 ∷ line) (drop (end + len) bytes ++ more))) (ap record_of (sym with_line) ∙ sym e)

      pub next-longer : end + length line ≤ PIECE_BYTES → begins_record line ≡ false → None ≡ record_of (take (end + length line) bytes)
          → joined_from (suc n) lines (drop end bytes ++ more) ≡ joined_from n (lines ++ 10 ∷ line) (drop (end + len) bytes ++ more)
      next-longer short begins e =
          stepped short begins ∙ ap (λ o. record_or o (drop (end + len) bytes ++ more) (joined_from n (lines ++ 10 ∷ line) (drop (end + len) bytes ++ more))) (ap record_of (sym with_line) ∙ sym e)

module _ (bytes : List ℕ) (whole : Bool) (line : List ℕ) (first : ℕ) (piece : Piece) where
  pub IsJoined-none : meaning_of piece.item ≡ Unread → piece.length ≡ first
      → ((more : List ℕ) → MayFollow whole more → joined_from 3 line (drop first bytes ++ more) ≡ None) → IsJoined bytes whole line first piece
  IsJoined-none item length none more may =
      ap (λ o. joined_or_unread o (drop first bytes ++ more)) (none more may) ∙ ap (λ i. (i, drop first bytes ++ more)) (sym item) ∙ ap (λ n. (meaning_of piece.item, drop n bytes ++ more)) (sym length)

-- one line fewer is left
pub fewer : (lines : ℕ) → lines < 5 → 5 - lines ≡ suc (4 - lines)
fewer lines h = omega arith

pub one_fewer : (lines : ℕ) → 4 - lines ≡ 5 - (lines + 1)
one_fewer lines = omega arith

module _ (bytes : List ℕ) (whole : Bool) (line : List ℕ) (len : ℕ) (is : IsLine bytes whole line len) where
  pub first-joined : is_unread (item_of line) ≡ true → begins_record line ≡ true → (r : Option Piece) → IfSome r (IsJoined bytes whole line len) → IfSome r (IsFirstPiece bytes whole)
  first-joined u b None h = tt
  first-joined u b (Some piece) h = λ more may.
      first_item-line bytes whole line len is more may ∙ with_lines-joined line (drop len bytes ++ more) (item_of line) u b ∙ h more may

  pub first-alone : is_unread (item_of line) ≡ true → begins_record line ≡ false → (item : Meaning) → item ≡ item_of line
      → (more : List ℕ) → MayFollow whole more → first_item (bytes ++ more) ≡ (item, drop len bytes ++ more)
  first-alone u b item e more may =
      first_item-line bytes whole line len is more may ∙ with_lines-alone line (drop len bytes ++ more) (item_of line) u b ∙ ap (λ i. (i, drop len bytes ++ more)) (sym e)

  pub first-read : is_unread (item_of line) ≡ false → (item : Meaning) → item ≡ item_of line
      → (more : List ℕ) → MayFollow whole more → first_item (bytes ++ more) ≡ (item, drop len bytes ++ more)
  first-read u item e more may =
      first_item-line bytes whole line len is more may ∙ with_lines-read line (drop len bytes ++ more) (item_of line) u ∙ ap (λ i. (i, drop len bytes ++ more)) (sym e)

-- a line that is too long is unread
module _ (bytes : List ℕ) (whole : Bool) (line : List ℕ) (len : ℕ) (is : IsLine bytes whole line len) (long : PIECE_BYTES < length line) where
  unread-long : item_of line ≡ Unread
  unfolding item_of
  unread-long =
      ap (λ b. cond b Unread (cond (is_some (after line (codes "#"))) (note line) (lost_or_record (lost line) line))) (lt-ltb PIECE_BYTES (length line) long)

  either : (rest : List ℕ) (b : Bool) → cond b (joined_or_unread (joined_from 3 line rest) rest) (Unread, rest) ≡ (Unread, rest)
  either rest true =
      ap (λ o. joined_or_unread o rest) (joined-long 2 line rest (omega (arith, length-append line (10 ∷ first_line rest))))
  either rest false = refl

  pub first-long : (more : List ℕ) → MayFollow whole more → first_item (bytes ++ more) ≡ (Unread, drop len bytes ++ more)
  first-long more may =
      first_item-line bytes whole line len is more may ∙ ap (λ i. with_lines i line (drop len bytes ++ more)) unread-long ∙ either (drop len bytes ++ more) (begins_record line)
