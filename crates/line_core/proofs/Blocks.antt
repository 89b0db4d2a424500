-- Lines in a block of bytes.
use Rattle.std.proofs.Common.{◌≡◌, ℕ, ◌+◌, ◌-◌, ◌<◌, ◌≤◌, ◌==◌, min, Bool, true, false, cond, inl, inr, List, [], ◌∷◌, ◌++◌, length, take, drop, Option, refl, sym, ap, ◌∙◌, subst, append-nil, length-append, length-take, arith}
use Rattle.std.specs.Io.KnownBytes.{Consumes}
use Rattle.std.proofs.KnownBytes.{Consumes-trans}
use Rattle.std.proofs.lemmas.Bool.{cases_lt}
use Rattle.std.proofs.lemmas.Bool.Decides.{nat_tests}
use Rattle.std.proofs.lemmas.List.{take_all, take-take, take-append-le, drop-drop, drop-take}
use Rattle.line_core.specs.declared.cutter.TheConstants.{HELD_BYTES}
use Rattle.line_core.specs.Cutting.{cut}
use Rattle.line_core.specs.ScriptLines.{line_bytes}

-- the smaller of two bounds counts
pub take-both : (m n : ℕ) (xs : List ℕ) → take m (take n xs) ≡ take (min n m) xs
take-both m n xs = elim (cases_lt m n) [
  | inl h ↦ (let least : m ≡ min n m = omega arith in take-take m n xs (omega arith) ∙ ap (λ k. take k xs) least)
  | inr h ↦ (let least : n ≡ min n m = omega arith in take_all m (take n xs) (omega (arith, length-take n xs)) ∙ ap (λ k. take k xs) least)
]

-- the block is another one, and no byte of it belongs to the line
pub line-kept : (held block block' : List ℕ) (start len : ℕ) → (length held ≡ 0 → len ≡ 0) → line_bytes held block' start len ≡ line_bytes held block start len
line-kept held block block' start len none = kept (length held == 0) refl
  where
    kept : (b : Bool) → (length held == 0) ≡ b → cond b (take (min len HELD_BYTES) (drop start block')) held ≡ cond b (take (min len HELD_BYTES) (drop start block)) held
    kept true e =
        let nothing : min len HELD_BYTES ≡ 0 = omega (arith, none (grind (arith, nat_tests))) in
        ap (λ n. take n (drop start block')) nothing ∙ sym (ap (λ n. take n (drop start block)) nothing)
    kept false e = refl

-- the line ends in the block, and no byte of it was held
pub line-ends : (held block : List ℕ) (start next filled len place : ℕ) → (length held == 0) ≡ true → len ≡ 0 → place ≤ filled - next
    → line_bytes held block next (len + place) ≡ cut (line_bytes held block start len ++ take place (take (filled - next) (drop next block)))
line-ends held block start next filled len place empty zero within =
    let nothing : min len HELD_BYTES ≡ 0 = omega arith in
    let many : min (len + place) HELD_BYTES ≡ min place HELD_BYTES = omega arith in
    let new = ap (λ b. cond b (take (min (len + place) HELD_BYTES) (drop next block)) held) empty in
    let old = ap (λ b. cond b (take (min len HELD_BYTES) (drop start block)) held) empty ∙ ap (λ n. take n (drop start block)) nothing in
    new ∙ ap (λ n. take n (drop next block)) many ∙ sym (take-both HELD_BYTES place (drop next block)) ∙ ap cut (sym (take-take place (filled - next) (drop next block) within)) ∙ ap (λ xs. cut (xs ++ take place (take (filled - next) (drop next block)))) (sym old)

-- more of the line is held
pub line-held : (held held' block piece piece' : List ℕ) (start start' len len' : ℕ) → (length held ≡ 0 → len ≡ 0) → held' ≡ cut (held ++ piece) → piece' ≡ piece → (length held' ≡ 0 → len' ≡ 0)
    → line_bytes held' block start' len' ≡ cut (line_bytes held block start len ++ piece')
line-held held held' block piece piece' start start' len len' none e same none' =
    is_held held' start' len' none' ∙ e ∙ ap (λ xs. cut (xs ++ piece)) (sym (is_held held start len none)) ∙ ap (λ xs. cut (line_bytes held block start len ++ xs)) (sym same)
  where
    nil : (xs : List ℕ) → (length xs == 0) ≡ true → xs ≡ []
    nil [] h = refl
    nil (x ∷ xs) h = absurd (grind (arith, nat_tests))

    either : (xs : List ℕ) (s l : ℕ) → (length xs ≡ 0 → l ≡ 0) → (b : Bool) → (length xs == 0) ≡ b → cond b (take (min l HELD_BYTES) (drop s block)) xs ≡ xs
    either xs s l h true e =
        let nothing : min l HELD_BYTES ≡ 0 = omega (arith, h (grind (arith, nat_tests))) in
        ap (λ n. take n (drop s block)) nothing ∙ sym (nil xs e)
    either xs s l h false e = refl

    is_held : (xs : List ℕ) (s l : ℕ) → (length xs ≡ 0 → l ≡ 0) → line_bytes xs block s l ≡ xs
    is_held xs s l h = either xs s l h (length xs == 0) refl

-- the bytes after the first n
pub ready-behind : (block : List ℕ) (next filled n : ℕ) → next + n ≤ filled → take (filled - (next + n)) (drop (next + n) block) ≡ drop n (take (filled - next) (drop next block))
ready-behind block next filled n within =
    let whole : filled - next ≡ n + (filled - (next + n)) = omega arith in
    ap (λ xs. take (filled - (next + n)) xs) (sym (drop-drop n next block)) ∙ sym (drop-take n (filled - (next + n)) (drop next block)) ∙ ap (λ k. drop n (take k (drop next block))) (sym whole)

-- the first bytes of a block that was read into
pub ready-read : (buf rest : List ℕ) (count limit : ℕ) → count ≤ length buf → take (min count limit) (buf ++ rest) ≡ take limit (take count buf)
ready-read buf rest count limit within =
    take-append-le (min count limit) buf rest (omega arith) ∙ sym (take-both limit count buf)

pub Consumes-none : (a b c : Option (List ℕ)) (bytes none : List ℕ) → Consumes a b bytes → Consumes b c none → none ≡ [] → Consumes a c bytes
Consumes-none a b c bytes none first second e =
    subst (Consumes a c) (ap (λ xs. bytes ++ xs) e ∙ append-nil bytes) (Consumes-trans a b c bytes none first second)

pub none_from : (n : ℕ) → (n == 0) ≡ true → n ≡ 0
none_from n e = grind (arith, nat_tests)

pub some_from : (n : ℕ) → (n == 0) ≡ false → 0 < n
some_from n e = grind (arith, nat_tests)

-- a line that was held stays held
pub held-some : (held piece : List ℕ) → 0 < length held → 0 < length (cut (held ++ piece))
held-some held piece some = omega (arith, length-take HELD_BYTES (held ++ piece), length-append held piece)
