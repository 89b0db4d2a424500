-- Pieces of a text, passed one after another.
use Rattle.std.proofs.Common.{◌≡◌, ℕ, ◌+◌, ◌-◌, ◌<◌, ◌≤◌, ◌⊎◌, inl, inr, Bool, true, false, ◌||◌, nat_lt, cond, List, [], ◌∷◌, ◌++◌, length, take, drop, Option, None, Some, IfSome, IfNone, refl, sym, ap, subst, ◌∙◌, append-nil, append_assoc, length-append, length-take, length-drop, arith}
use Rattle.std.specs.Io.KnownBytes.{Consumes, IsAtEnd, Keeps}
use Rattle.std.proofs.KnownBytes.{Consumes-nil, Consumes-trans}
use lib.Seq.{paste}
use borrow.Rule.Slice.PartMut.{put_mid, post_of}
use Rattle.std.specs.List.{position_or_len}
use Rattle.std.proofs.Math.Seq.{take-append-add}
use Rattle.std.proofs.lemmas.Bool.{false≢true, cases_lt}
use Rattle.std.proofs.lemmas.Bool.Decides.{nat_tests}
use Rattle.std.proofs.lemmas.List.{take_at, drop_at, take-append-le, drop-drop, drop-take, get_or_append_left, get_or-append_right}
use Rattle.std.proofs.lemmas.List.Sums.{position_or_len_is, fails_before_first}
use Rattle.trace_core.specs.declared.item.TheConstants.{PIECE_BYTES}
use Rattle.trace_core.specs.declared.piece.Piece.{Piece}
use Rattle.trace_core.specs.Cutting.{MayFollow, HasNoLineFeed, IsLine, IsRestOfLine, NeedsMore}
use Rattle.trace_core.specs.Item.{Meaning, Unread, meaning_of}
use Rattle.trace_core.specs.Piece.{is_line_feed, first_item, ReadsAs}
use Rattle.trace_core.specs.Pieces.{Unpassed, WasLetGo, HasPassed, HasReadAll, IsNext, IsWaiting, passed}
use Rattle.trace_core.proofs.Joining.{first-long}
use Rattle.trace_core.proofs.Lines.{feed-split, front-alone}

-- two parts without a line feed
none-append : (xs ys : List ℕ) → HasNoLineFeed xs → HasNoLineFeed ys → HasNoLineFeed (xs ++ ys)
none-append xs ys x y =
    position_or_len_is is_line_feed (xs ++ ys) (length (xs ++ ys)) 0 (omega arith) (λ k h. elim (cases k) [
      | inl l ↦ ap is_line_feed (get_or_append_left xs ys 0 k l) ∙ fails_before_first is_line_feed xs k 0 (omega (arith, x))
      | inr l ↦ ap is_line_feed (get_or-append_right xs ys (length xs) k 0 refl l) ∙ fails_before_first is_line_feed ys (k - length xs) 0 (omega (arith, y, length-append xs ys))
    ]) (λ h. absurd (omega (arith, h)))
  where
    cases : (k : ℕ) → (k < length xs) ⊎ (length xs ≤ k)
    cases k = cases_lt k (length xs)

drop-front : (front bytes : List ℕ) (len : ℕ) → drop (length front + len) (front ++ bytes) ≡ drop len bytes
drop-front front bytes len =
    sym (drop-drop len (length front) (front ++ bytes)) ∙ ap (drop len) (drop_at front bytes (length front) refl)

-- the rest of a line after its front was dropped
module _ (front bytes : List ℕ) (whole : Bool) (len : ℕ) (alone : HasNoLineFeed front) (long : PIECE_BYTES < length front) (is : IsRestOfLine bytes whole len) where
  line-some : 1 ≤ len → position_or_len is_line_feed bytes ≡ len - 1 → IsLine (front ++ bytes) whole (front ++ take (len - 1) bytes) (length front + len)
  line-some some place =
      let within : len - 1 < length bytes = omega (arith, is.within) in
      let next : len - 1 + 1 ≡ len = omega arith in
      let split = feed-split bytes (len - 1) place within ∙ ap (λ n. take (len - 1) bytes ++ 10 ∷ drop n bytes) next in
      record {
        some = omega arith;
        within = omega (arith, is.within, length-append front bytes);
        alone = none-append front (take (len - 1) bytes) alone (front-alone bytes (len - 1) (omega (arith, place)));
        ends = inl (
          ap (λ xs. front ++ xs) split ∙ sym (append_assoc front (take (len - 1) bytes) (10 ∷ drop len bytes)) ∙ ap (λ xs. (front ++ take (len - 1) bytes) ++ 10 ∷ xs) (sym (drop-front front bytes len)),
          omega (arith, length-append front (take (len - 1) bytes), length-take (len - 1) bytes),
        );
      }

  line-last : HasNoLineFeed bytes → len ≡ length bytes → whole ≡ true → IsLine (front ++ bytes) whole (front ++ bytes) (length front + len)
  line-last none e w = record {
    some = omega (arith, long);
    within = omega (arith, length-append front bytes);
    alone = none-append front bytes alone none;
    ends = inr (refl, omega (arith, length-append front bytes), w);
  }

  pub rest-unread : (more : List ℕ) → MayFollow whole more → first_item (front ++ bytes ++ more) ≡ (Unread, drop len bytes ++ more)
  rest-unread more may = elim is.ends [
    | inl h ↦ first-long (front ++ bytes) whole (front ++ take (len - 1) bytes) (length front + len) (line-some h.0 h.1) (omega (arith, long, length-append front (take (len - 1) bytes))) more may ∙ ap (λ xs. (Unread, xs ++ more)) (drop-front front bytes len)
    | inr h ↦ first-long (front ++ bytes) whole (front ++ bytes) (length front + len) (line-last h.0 h.1 h.2) (omega (arith, long, length-append front bytes)) more may ∙ ap (λ xs. (Unread, xs ++ more)) (drop-front front bytes len)
  ]

module _ (s : Unpassed) where
  pub next-rest : (item : Meaning) (len : ℕ) → s.long ≡ true → item ≡ Unread → IsRestOfLine s.bytes s.whole len → IsNext s item len
  next-rest item len l e is = record {
    within = is.within;
    some = λ short. absurd (false≢true (sym short ∙ l));
    first = λ front more gone may. rest-unread front s.bytes s.whole len gone.alone (gone.long l) is more may ∙ ap (λ i. (i, drop len s.bytes ++ more)) (sym e);
  }

abbrev nothing : List ℕ
nothing = []

ReadsAs-cons : (text rest : List ℕ) (item : Meaning) (later : List Meaning) → 1 ≤ length text → first_item text ≡ (item, rest) → ReadsAs rest later → ReadsAs text (item ∷ later)
ReadsAs-cons [] rest item later some e h = absurd (omega arith)
ReadsAs-cons (x ∷ xs) rest item later some e h =
    (ap (λ p. p.0) e, subst (λ r. ReadsAs r later) (sym (ap (λ p. p.1) e)) h)

module _ (before now : Option (List ℕ)) (s : Unpassed) (items : List Meaning) (p : HasPassed before now s items) where
  pub passed-all : s.whole ≡ true → (s.long ≡ false) × (s.bytes ≡ []) → HasReadAll before now items
  passed-all w none =
      let left : p.front ++ s.bytes ++ nothing ≡ [] = append-nil (p.front ++ s.bytes) ∙ ap (λ xs. xs ++ s.bytes) (p.gone.short none.0) ∙ none.1 in
      let reads = p.reads [] [] (λ _. refl) left in
      record {
        text = p.text;
        consumed = p.consumed;
        end = p.whole w;
        reads = subst (λ xs. ReadsAs xs items) (append-nil p.text) (subst (ReadsAs (p.text ++ [])) (append-nil items) reads);
      }

  some-left : (item : Meaning) (len : ℕ) (more : List ℕ) → IsNext s item len → (b : Bool) → s.long ≡ b → 1 ≤ length (p.front ++ s.bytes ++ more)
  some-left item len more next true l =
      omega (arith, p.gone.long l, length-append p.front s.bytes, length-append (p.front ++ s.bytes) more)
  some-left item len more next false l =
      omega (arith, next.some l, next.within, length-append p.front s.bytes, length-append (p.front ++ s.bytes) more)

  -- the next piece is passed
  pub passed-more : (item : Meaning) (len : ℕ) → IsNext s item len → HasPassed before now (passed s len) (items ++ item ∷ [])
  passed-more item len next = record {
    text = p.text;
    consumed = p.consumed;
    whole = p.whole;
    front = [];
    gone = record { short = λ _. refl; long = λ h. absurd (false≢true h); alone = refl };
    reads = λ more later may h. subst (ReadsAs (p.text ++ more)) (sym (append_assoc items (item ∷ []) later)) (p.reads more (item ∷ later) may (ReadsAs-cons (p.front ++ s.bytes ++ more) (drop len s.bytes ++ more) item later (some-left item len more next s.long refl) (next.first p.front more p.gone may) h));
  }

  -- more was read, and the first of the bytes may be let go
  pub passed-read : (now' : Option (List ℕ)) (s' : Unpassed) (gone kept fresh : List ℕ) → s.whole ≡ false → Consumes now now' fresh → s.bytes ≡ gone ++ kept → s'.bytes ≡ kept ++ fresh
      → (s'.whole ≡ true → IsAtEnd now') → WasLetGo s' (p.front ++ gone) → HasPassed before now' s' items
  passed-read now' s' gone kept fresh going consumed old new end let_go = record {
    text = p.text ++ fresh;
    consumed = Consumes-trans before now now' p.text fresh p.consumed consumed;
    whole = end;
    front = p.front ++ gone;
    gone = let_go;
    reads = λ more later may h.
        let regrouped : p.front ++ gone ++ s'.bytes ++ more ≡ p.front ++ s.bytes ++ (fresh ++ more) =
        ap (λ xs. p.front ++ gone ++ xs ++ more) new ∙ ap (λ xs. xs ++ more) (sym (append_assoc (p.front ++ gone) kept fresh)) ∙ append_assoc (p.front ++ gone ++ kept) fresh more ∙ ap (λ xs. xs ++ (fresh ++ more)) (append_assoc p.front gone kept ∙ ap (λ xs. p.front ++ xs) (sym old)) in
        subst (λ xs. ReadsAs xs (items ++ later)) (sym (append_assoc p.text fresh more)) (p.reads (fresh ++ more) later (λ w. absurd (false≢true (sym going ∙ w))) (subst (λ xs. ReadsAs xs later) regrouped h));
  }

pub Consumes-kept_none : (now now' : Option (List ℕ)) → Keeps now now' → Consumes now now' []
Consumes-kept_none None now' k = tt
Consumes-kept_none (Some xs) None k = absurd k
Consumes-kept_none (Some xs) (Some ys) k = sym k

pub passed-none : (known : Option (List ℕ)) (s : Unpassed) → s.bytes ≡ [] → s.whole ≡ false → s.long ≡ false → HasPassed known known s []
passed-none known s bytes whole long = record {
  text = [];
  consumed = Consumes-nil known;
  whole = λ h. absurd (false≢true (sym whole ∙ h));
  front = [];
  gone = record { short = λ _. refl; long = λ h. absurd (false≢true (sym long ∙ h)); alone = refl };
  reads = λ more later may h. subst (λ xs. ReadsAs (xs ++ more) later) bytes h;
}

module _ (before now : Option (List ℕ)) (s : Unpassed) (items : List Meaning) (p : HasPassed before now s items) (waits : IsWaiting s) (going : s.whole ≡ false) where
  split : (b : Bool) → s.bytes ≡ cond b s.bytes nothing ++ cond b nothing s.bytes
  split true = sym (append-nil s.bytes)
  split false = refl

  neither : (a b : Bool) → false ≡ (a || b) → (a ≡ false) × (b ≡ false)
  neither true b e = absurd (false≢true e)
  neither false b e = (refl, sym e)

  is_long : (a : Bool) → s.long ≡ a → true ≡ (a || nat_lt PIECE_BYTES (length s.bytes)) → (PIECE_BYTES < length (p.front ++ s.bytes)) × HasNoLineFeed s.bytes
  is_long true l e = (omega (arith, p.gone.long l, length-append p.front s.bytes), waits.long l)
  is_long false l e =
      let many : PIECE_BYTES < length s.bytes = grind (arith, nat_tests) in
      (omega (arith, many, length-append p.front s.bytes), elim waits.short [ inl few ↦ absurd (omega (arith, many, few)) | inr none ↦ none ])

  let_go : (s' : Unpassed) (b : Bool) → s'.long ≡ b → b ≡ (s.long || nat_lt PIECE_BYTES (length s.bytes)) → WasLetGo s' (p.front ++ cond b s.bytes nothing)
  let_go s' true l e =
      let long = is_long s.long refl e in
      record {
        short = λ h. absurd (false≢true (sym h ∙ l));
        long = λ _. long.0;
        alone = none-append p.front s.bytes p.gone.alone long.1;
      }
  let_go s' false l e =
      let none : p.front ++ nothing ≡ [] = append-nil p.front ∙ p.gone.short (neither s.long (nat_lt PIECE_BYTES (length s.bytes)) e).0 in
      record {
        short = λ _. none;
        long = λ h. absurd (false≢true (sym l ∙ h));
        alone = subst HasNoLineFeed (sym none) refl;
      }

  -- what a read leaves
  pub read-passed : (now' : Option (List ℕ)) (s' : Unpassed) (fresh : List ℕ) → Consumes now now' fresh → s'.bytes ≡ cond s'.long nothing s.bytes ++ fresh
      → s'.long ≡ (s.long || nat_lt PIECE_BYTES (length s.bytes)) → (s'.whole ≡ true → IsAtEnd now') → HasPassed before now' s' items
  read-passed now' s' fresh consumed new long end =
      passed-read before now s items p now' s' (cond s'.long s.bytes nothing) (cond s'.long nothing s.bytes) fresh going consumed (split s'.long) new end (let_go s' s'.long refl long)

-- the bytes that are kept, moved to the front, and those that were read behind them
pub bytes-read : (held held' buf : List ℕ) (end kept count room : ℕ) → kept ≤ end → end ≤ length held → held' ≡ paste held 0 (drop (end - kept) held) (end - (end - kept)) → count ≤ length buf
    → take (kept + count) (put_mid kept room held' buf) ≡ take kept (drop (end - kept) held) ++ take count buf
bytes-read held held' buf end kept count room few within e many =
    let part = drop (end - kept) held in
    let size : length (take kept part) ≡ kept = omega (arith, length-take kept part, length-drop (end - kept) held) in
    let count-kept : end - (end - kept) ≡ kept = omega arith in
    let moved : take kept held' ≡ take kept part =
    ap (take kept) (e ∙ ap (λ n. take n part ++ drop (0 + n) held) count-kept) ∙ take_at (take kept part) (drop (0 + kept) held) kept size in
    let post = post_of kept room held' in
    ap (λ xs. take (kept + count) (xs ++ (buf ++ post))) moved ∙ ap (λ n. take (n + count) (take kept part ++ (buf ++ post))) (sym size) ∙ take-append-add (take kept part) (buf ++ post) count ∙ ap (λ xs. take kept part ++ xs) (take-append-le count buf post many)

-- nothing is kept of a line that is too long, and else all
pub kept-is : (held : List ℕ) (start end : ℕ) (long : Bool) → start ≤ end
    → take (cond long 0 (end - start)) (drop (end - cond long 0 (end - start)) held) ≡ cond long nothing (take (end - start) (drop start held))
kept-is held start end true h = refl
kept-is held start end false h =
    let same : end - (end - start) ≡ start = omega arith in
    ap (λ n. take (end - start) (drop n held)) same

pub kept-le : (start end : ℕ) (long : Bool) → cond long 0 (end - start) ≤ end
kept-le start end true = omega arith
kept-le start end false = omega arith

-- there is room for a read
pub kept-few : (long : Bool) (n : ℕ) (b : Bool) → b ≡ (long || nat_lt PIECE_BYTES n) → cond b 0 n ≤ PIECE_BYTES
kept-few long n true e = omega arith
kept-few true n false e = absurd (false≢true e)
kept-few false n false e = grind (arith, nat_tests)

-- what `next` answers
module _ (s : Unpassed) (bytes : List ℕ) (whole : Bool) (same : bytes ≡ s.bytes) (so : whole ≡ s.whole) where
  pub if-rest : s.long ≡ true → (r : Option Piece) → IfSome r (λ piece. meaning_of piece.item ≡ Unread) → IfSome r (λ piece. IsRestOfLine bytes whole piece.length) → IfSome r (λ piece. IsNext s (meaning_of piece.item) piece.length)
  if-rest l None e h = tt
  if-rest l (Some piece) e h =
      next-rest s (meaning_of piece.item) piece.length l e (subst (λ w. IsRestOfLine s.bytes w piece.length) so (subst (λ xs. IsRestOfLine xs whole piece.length) same h))

  pub if-all : s.long ≡ false → (r : Option Piece) → IfNone r (NeedsMore bytes whole)
      → IfNone r (s.whole ≡ true → (before now : Option (List ℕ)) → (items : List Meaning) → HasPassed before now s items → HasReadAll before now items)
  if-all l None h = λ w before now items p. passed-all before now s items p w (l, sym same ∙ h.all (so ∙ w))
  if-all l (Some piece) h = tt

-- the bytes behind those that are passed
pub bytes-passed : (held : List ℕ) (start end count : ℕ) → count ≤ end - start → take (end - (start + count)) (drop (start + count) held) ≡ drop count (take (end - start) (drop start held))
bytes-passed held start end count h =
    let whole : end - start ≡ count + (end - (start + count)) = omega arith in
    sym (ap (λ n. drop count (take n (drop start held))) whole ∙ drop-take count (end - (start + count)) (drop start held) ∙ ap (take (end - (start + count))) (drop-drop count start held))

-- what a read leaves, by the bytes that are held: `end` is where those end that are not passed
module _ (before now now' : Option (List ℕ)) (s : Unpassed) (items : List Meaning) (held held' buf : List ℕ) (start end kept count room stop : ℕ) (before_long long whole : Bool) where
  pub held-passed : HasPassed before now s items → IsWaiting s → s.whole ≡ false → start ≤ end → end ≤ length held → take (end - start) (drop start held) ≡ s.bytes → before_long ≡ s.long
      → long ≡ (before_long || nat_lt PIECE_BYTES (end - start)) → kept ≡ cond long 0 (end - start) → held' ≡ paste held 0 (drop (end - kept) held) (end - (end - kept)) → count ≤ length buf → stop ≡ kept + count
      → Consumes now now' (take count buf) → (whole ≡ true → IsAtEnd now')
      → HasPassed before now' (record { bytes = take (stop - 0) (drop 0 (put_mid kept room held' buf)); whole = whole; long = long }) items
  held-passed p waits going order within bytes l is_long k moved many e consumed at_end =
      let size : end - start ≡ length s.bytes = omega (arith, ap length bytes, length-take (end - start) (drop start held), length-drop start held) in
      let stops : stop - 0 ≡ kept + count = omega (arith, e) in
      let left = bytes-read held held' buf end kept count room (subst (λ n. n ≤ end) (sym k) (kept-le start end long)) within moved many in
      let same = ap (λ n. take n (drop (end - n) held)) k ∙ kept-is held start end long order ∙ ap (cond long nothing) bytes in
      read-passed before now s items p waits going now' (record { bytes = take (stop - 0) (drop 0 (put_mid kept room held' buf)); whole = whole; long = long }) (take count buf) consumed (ap (λ n. take n (put_mid kept room held' buf)) stops ∙ left ∙ ap (λ xs. xs ++ take count buf) same) (is_long ∙ ap (λ b. b || nat_lt PIECE_BYTES (end - start)) l ∙ ap (λ n. s.long || nat_lt PIECE_BYTES n) size) at_end

-- a text has one reading
pub ReadsAs-one : (text : List ℕ) (items others : List Meaning) → ReadsAs text items → ReadsAs text others → items ≡ others
ReadsAs-one text [] [] a b = refl
ReadsAs-one [] [] (o ∷ others) a b = absurd b
ReadsAs-one (x ∷ xs) [] (o ∷ others) a b = absurd (cc)
ReadsAs-one [] (i ∷ items) [] a b = absurd a
ReadsAs-one (x ∷ xs) (i ∷ items) [] a b = absurd (cc)
ReadsAs-one [] (i ∷ items) (o ∷ others) a b = absurd a
ReadsAs-one (x ∷ xs) (i ∷ items) (o ∷ others) a b =
    ap (λ y. y ∷ items) (sym a.0 ∙ b.0) ∙ ap (λ ys. o ∷ ys) (ReadsAs-one (first_item (x ∷ xs)).1 items others a.1 b.1)
