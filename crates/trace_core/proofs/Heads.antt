-- The header of a record, as it is printed.
use Rattle.std.proofs.Common.{◌≡◌, ◌==◌, ℕ, ◌+◌, ◌*◌, ◌^◌, ◌<◌, ◌≤◌, inl, inr, Bool, true, false, ◌&&◌, nat_le, nat_lt, cond, List, [], ◌∷◌, ◌++◌, length, take, drop, Option, None, Some, option_map, codes, refl, sym, ap, subst, ◌∙◌, append_assoc, length-append, length-take, take-append-drop, arith}
use Rattle.std.specs.Char.{is_ascii_digit}
use Rattle.std.specs.List.{list_all, prefix_len}
use Rattle.std.specs.Option.{option_and_then}
use Rattle.std.specs.Str.Parse.{digits_value}
use Rattle.std.proofs.lemmas.Bool.{and_right, le-ltb, lt-ltb}
use Rattle.std.proofs.lemmas.Bool.Decides.{nat_tests}
use Rattle.std.proofs.lemmas.List.{take_at, drop_at}
use Rattle.std.proofs.lemmas.List.Sums.{prefix_len-le-length}
use Rattle.trace_core.specs.declared.header.TheConstants.{TASK_BYTES, FLAGS_FEWEST, FLAGS_MOST}
use Rattle.trace_core.specs.declared.number.TheConstants.{DECIMALS, SECOND}
use Rattle.trace_core.specs.declared.runs.Class.TheVariants.{Dark, Group}
use Rattle.trace_core.specs.Header.{Head, trimmed, or_blanks, after_dash, thread, group_or, after_group, processor, are_flags, after_flags, with_time, header_of}
use Rattle.trace_core.specs.Number.{numeral, number_at, microseconds, time_of, with_decimals, time_at}
use Rattle.trace_core.specs.Printing.{Spells, AreBlanks, IsDash, IsGroup, AreSomeFlags, AreFlags, IsTime, IsHead}
use Rattle.trace_core.specs.Runs.{is_blank, is_of}
use Rattle.trace_core.specs.Steps.{after, after_blanks}
use Rattle.trace_core.proofs.OneReading.{and_parts, and_then-some, map-some, if-some, EndsRun, run-append, drop-run, take-run, run-is, after-text, after-is, numeral-spelt, numeral-is, number-spelt, number-is, blanks-passed, blanks-is, blanks-no_digit, digits-no_blank, all-append, all-take, digits-dark, blanks-no_dark, darks-no_blank}

-- ---- the thread

blank-no_dash : (dash tail : List ℕ) → AreBlanks dash → after (dash ++ tail) (codes "-") ≡ None
unfolding after
blank-no_dash [] tail are = absurd (omega (arith, are.some))
blank-no_dash (b ∷ bs) tail are =
    let other : (b == 45) ≡ false = grind (arith, nat_tests, (and_parts (is_blank b) (list_all is_blank bs) are.each).0) in
    ap (λ t. cond (t && true) (Some (bs ++ tail)) None) other

dash-passed : (dash tail : List ℕ) → IsDash dash → EndsRun is_blank tail → after_dash (dash ++ tail) ≡ Some tail
unfolding after_dash
dash-passed dash tail is ends = elim is [
  | inl e ↦ ap (λ xs. or_blanks (after (xs ++ tail) (codes "-")) (xs ++ tail)) e ∙ ap (λ o. or_blanks o (codes "-" ++ tail)) (after-text (codes "-") tail)
  | inr are ↦ ap (λ o. or_blanks o (dash ++ tail)) (blank-no_dash dash tail are) ∙ blanks-passed dash tail are ends
]

dash-found : (bytes tail : List ℕ) (o : Option (List ℕ)) → after bytes (codes "-") ≡ o → or_blanks o bytes ≡ Some tail → (dash : List ℕ) × (bytes ≡ dash ++ tail) × IsDash dash
dash-found bytes tail (Some rest) found e =
    let same : rest ≡ tail = cc in
    (codes "-", after-is bytes (codes "-") rest found ∙ ap (λ xs. codes "-" ++ xs) same, inl refl)
dash-found bytes tail None found e = let are = blanks-is bytes tail e in (are.blanks, are.is, inr are.are)

dash-is : (bytes tail : List ℕ) → after_dash bytes ≡ Some tail → (dash : List ℕ) × (bytes ≡ dash ++ tail) × IsDash dash
unfolding after_dash
dash-is bytes tail e = dash-found bytes tail (after bytes (codes "-")) refl e

thread-printed : (dash pid blanks rest : List ℕ) (n : ℕ) → IsDash dash → Spells (2 ^ 32) pid n → AreBlanks blanks → EndsRun is_blank rest → thread (dash ++ (pid ++ (blanks ++ rest))) ≡ Some (n, rest)
unfolding thread
thread-printed dash pid blanks rest n dashed spelt apart ends =
    let number = λ (o : Option (List ℕ)). option_and_then (λ (k : ℕ × List ℕ). option_map (λ (xs : List ℕ). (k.0, xs)) (after_blanks k.1)) (option_and_then (number_at (2 ^ 32)) o) in
    let blank = λ (o : Option (ℕ × List ℕ)). option_and_then (λ (k : ℕ × List ℕ). option_map (λ (xs : List ℕ). (k.0, xs)) (after_blanks k.1)) o in
    ap number (dash-passed dash (pid ++ (blanks ++ rest)) dashed (digits-no_blank pid (blanks ++ rest) spelt.some spelt.each)) ∙ ap blank (number-spelt (2 ^ 32) pid (blanks ++ rest) n spelt (blanks-no_digit blanks rest apart)) ∙ ap (option_map (λ (xs : List ℕ). (n, xs))) (blanks-passed blanks rest apart ends)

record IsThread (bytes : List ℕ) (n : ℕ) (rest : List ℕ) : Type 0 where
  dash : List ℕ
  pid : List ℕ
  blanks : List ℕ
  is : bytes ≡ dash ++ (pid ++ (blanks ++ rest))
  dashed : IsDash dash
  spelt : Spells (2 ^ 32) pid n
  apart : AreBlanks blanks

thread-is : (bytes : List ℕ) (found : ℕ × List ℕ) → thread bytes ≡ Some found → IsThread bytes found.0 found.1
unfolding thread
thread-is bytes found e =
    let at = and_then-some (λ (k : ℕ × List ℕ). option_map (λ (xs : List ℕ). (k.0, xs)) (after_blanks k.1)) (option_and_then (number_at (2 ^ 32)) (after_dash bytes)) found e in
    let behind = map-some (λ (xs : List ℕ). (at.0.0, xs)) (after_blanks at.0.1) found at.2 in
    let from = and_then-some (number_at (2 ^ 32)) (after_dash bytes) at.0 at.1 in
    let dash = dash-is bytes from.0 from.1 in
    let number = number-is (2 ^ 32) from.0 at.0 from.2 in
    let blanks = blanks-is at.0.1 behind.0 behind.1 in
    record {
      dash = dash.0;
      pid = number.digits;
      blanks = blanks.blanks;
      is = dash.1 ∙ ap (λ xs. dash.0 ++ xs) (number.is ∙ ap (λ xs. number.digits ++ xs) (blanks.is ∙ ap (λ xs. blanks.blanks ++ xs) (ap (λ p. p.1) behind.2)));
      dashed = dash.2;
      spelt = subst (λ k. Spells (2 ^ 32) number.digits k) (ap (λ p. p.0) behind.2) number.spelt;
      apart = blanks.are;
    }

-- ---- the processor

group-passed : (group tail : List ℕ) → IsGroup group → after_group (group ++ (codes "[" ++ tail)) ≡ Some (codes "[" ++ tail)
unfolding after_group after
group-passed group tail is = elim is [
  | inl e ↦ ap (λ xs. group_or (after (xs ++ (codes "[" ++ tail)) (codes "(")) (xs ++ (codes "[" ++ tail))) e
  | inr g ↦ (let rest = codes "[" ++ tail in
      let bytes : group ++ rest ≡ codes "(" ++ (g.0 ++ (codes ") " ++ rest)) = ap (λ xs. xs ++ rest) g.1 ∙ ap (λ xs. codes "(" ++ xs) (append_assoc g.0 (codes ") ") rest) in
      ap (λ xs. group_or (after xs (codes "(")) xs) bytes ∙ ap (λ o. group_or o (codes "(" ++ (g.0 ++ (codes ") " ++ rest)))) (after-text (codes "(") (g.0 ++ (codes ") " ++ rest))) ∙ ap (λ xs. after xs (codes ") ")) (drop-run (is_of Group) g.0 (codes ") " ++ rest) g.2 refl) ∙ after-text (codes ") ") rest)
]

group-found : (bytes tail : List ℕ) (o : Option (List ℕ)) → after bytes (codes "(") ≡ o → group_or o bytes ≡ Some tail → (group : List ℕ) × (bytes ≡ group ++ tail) × IsGroup group
group-found bytes tail None found e = ([], cc, inl refl)
group-found bytes tail (Some g) found e =
    let run = run-is (is_of Group) g in
    let closed = after-is (drop (prefix_len (is_of Group) g) g) (codes ") ") tail e in (
      codes "(" ++ (run.0 ++ codes ") "),
      after-is bytes (codes "(") g found ∙ ap (λ xs. codes "(" ++ xs) (run.1 ∙ ap (λ xs. run.0 ++ xs) closed ∙ sym (append_assoc run.0 (codes ") ") tail)),
      inr (run.0, refl, run.3),
    )

group-is : (bytes tail : List ℕ) → after_group bytes ≡ Some tail → (group : List ℕ) × (bytes ≡ group ++ tail) × IsGroup group
unfolding after_group
group-is bytes tail e = group-found bytes tail (after bytes (codes "(")) refl e

abbrev behind_cpu : ℕ × List ℕ → Option (ℕ × List ℕ)
behind_cpu k = option_map (λ xs. (k.0, xs)) (option_and_then after_blanks (after k.1 (codes "]")))

abbrev in_bracket : List ℕ → Option (List ℕ)
in_bracket bytes = after bytes (codes "[")

processor-printed : (group cpu gap rest : List ℕ) (n : ℕ) → IsGroup group → Spells (2 ^ 32) cpu n → AreBlanks gap → EndsRun is_blank rest → processor (group ++ (codes "[" ++ (cpu ++ (codes "]" ++ (gap ++ rest))))) ≡ Some (n, rest)
unfolding processor
processor-printed group cpu gap rest n grouped spelt apart ends =
    ap (λ o. option_and_then behind_cpu (option_and_then (number_at (2 ^ 32)) (option_and_then in_bracket o))) (group-passed group (cpu ++ (codes "]" ++ (gap ++ rest))) grouped)
    ∙ ap (λ o. option_and_then behind_cpu (option_and_then (number_at (2 ^ 32)) o)) (after-text (codes "[") (cpu ++ (codes "]" ++ (gap ++ rest))))
    ∙ ap (option_and_then behind_cpu) (number-spelt (2 ^ 32) cpu (codes "]" ++ (gap ++ rest)) n spelt refl)
    ∙ ap (λ o. option_map (λ (xs : List ℕ). (n, xs)) (option_and_then after_blanks o)) (after-text (codes "]") (gap ++ rest))
    ∙ ap (option_map (λ (xs : List ℕ). (n, xs))) (blanks-passed gap rest apart ends)

record IsProcessor (bytes : List ℕ) (n : ℕ) (rest : List ℕ) : Type 0 where
  group : List ℕ
  cpu : List ℕ
  gap : List ℕ
  is : bytes ≡ group ++ (codes "[" ++ (cpu ++ (codes "]" ++ (gap ++ rest))))
  grouped : IsGroup group
  spelt : Spells (2 ^ 32) cpu n
  apart : AreBlanks gap

processor-is : (bytes : List ℕ) (found : ℕ × List ℕ) → processor bytes ≡ Some found → IsProcessor bytes found.0 found.1
unfolding processor
processor-is bytes found e =
    let at = and_then-some behind_cpu (option_and_then (number_at (2 ^ 32)) (option_and_then in_bracket (after_group bytes))) found e in
    let behind = map-some (λ (xs : List ℕ). (at.0.0, xs)) (option_and_then after_blanks (after at.0.1 (codes "]"))) found at.2 in
    let closed = and_then-some after_blanks (after at.0.1 (codes "]")) behind.0 behind.1 in
    let from = and_then-some (number_at (2 ^ 32)) (option_and_then in_bracket (after_group bytes)) at.0 at.1 in
    let opened = and_then-some in_bracket (after_group bytes) from.0 from.1 in
    let group = group-is bytes opened.0 opened.1 in
    let number = number-is (2 ^ 32) from.0 at.0 from.2 in
    let blanks = blanks-is closed.0 behind.0 closed.2 in
    let last = after-is at.0.1 (codes "]") closed.0 closed.1 ∙ ap (λ xs. codes "]" ++ xs) (blanks.is ∙ ap (λ xs. blanks.blanks ++ xs) (ap (λ p. p.1) behind.2)) in
    record {
      group = group.0;
      cpu = number.digits;
      gap = blanks.blanks;
      is = group.1 ∙ ap (λ xs. group.0 ++ xs) (after-is opened.0 (codes "[") from.0 opened.2 ∙ ap (λ xs. codes "[" ++ xs) (number.is ∙ ap (λ xs. number.digits ++ xs) last));
      grouped = group.2;
      spelt = subst (λ k. Spells (2 ^ 32) number.digits k) (ap (λ p. p.0) behind.2) number.spelt;
      apart = blanks.are;
    }

-- ---- the flags

abbrev flags_by : List ℕ → ℕ → Option (List ℕ)
flags_by bytes count = cond (are_flags count) (after_blanks (drop count bytes)) (Some bytes)

flags-by : (bytes : List ℕ) → after_flags bytes ≡ flags_by bytes (prefix_len (is_of Dark) bytes)
unfolding after_flags
flags-by bytes = refl

many-no_flags : (n : ℕ) → FLAGS_MOST < n → are_flags n ≡ false
many-no_flags n h = and_right (nat_le FLAGS_FEWEST n) (nat_le n FLAGS_MOST) (grind (arith, nat_tests))

few-flags : (n : ℕ) → FLAGS_FEWEST ≤ n → n ≤ FLAGS_MOST → are_flags n ≡ true
few-flags n a b = grind (arith, nat_tests)

-- a time is longer than flags
time-no_flags : (seconds decimals text : List ℕ) → 1 ≤ length seconds → list_all is_ascii_digit seconds ≡ true → DECIMALS ≤ length decimals → list_all is_ascii_digit decimals ≡ true
    → after_flags (seconds ++ (codes "." ++ (decimals ++ (codes ": " ++ text)))) ≡ Some (seconds ++ (codes "." ++ (decimals ++ (codes ": " ++ text))))
time-no_flags seconds decimals text some s many d =
    let bytes = seconds ++ (codes "." ++ (decimals ++ (codes ": " ++ text))) in
    let word = seconds ++ (codes "." ++ (decimals ++ codes ":")) in
    let parts : bytes ≡ word ++ (32 ∷ text) =
    ap (λ xs. seconds ++ (codes "." ++ xs)) (sym (append_assoc decimals (codes ":") (32 ∷ text))) ∙ sym (append_assoc seconds (codes "." ++ (decimals ++ codes ":")) (32 ∷ text)) in
    let dark : list_all (is_of Dark) word ≡ true =
    all-append (is_of Dark) seconds (codes "." ++ (decimals ++ codes ":")) (digits-dark seconds s) (all-append (is_of Dark) decimals (codes ":") (digits-dark decimals d) refl) in
    let count : prefix_len (is_of Dark) bytes ≡ length word = ap (prefix_len (is_of Dark)) parts ∙ run-append (is_of Dark) word (32 ∷ text) dark refl in
    let long : FLAGS_MOST < prefix_len (is_of Dark) bytes = omega (arith, count, some, many, length-append seconds (codes "." ++ (decimals ++ codes ":")), length-append decimals (codes ":")) in
    flags-by bytes ∙ ap (λ b. cond b (after_blanks (drop (prefix_len (is_of Dark) bytes) bytes)) (Some bytes)) (many-no_flags (prefix_len (is_of Dark) bytes) long)

some-flags : (flags rest : List ℕ) → AreSomeFlags flags → EndsRun is_blank rest → after_flags (flags ++ rest) ≡ Some rest
some-flags flags rest are ends =
    let bytes = flags ++ rest in
    let parts : bytes ≡ are.flags ++ (are.blanks ++ rest) = ap (λ xs. xs ++ rest) are.is ∙ append_assoc are.flags are.blanks rest in
    let count : prefix_len (is_of Dark) bytes ≡ length are.flags = ap (prefix_len (is_of Dark)) parts ∙ run-append (is_of Dark) are.flags (are.blanks ++ rest) are.each (blanks-no_dark are.blanks rest are.apart) in
    flags-by bytes ∙ ap (flags_by bytes) count ∙ ap (λ b. cond b (after_blanks (drop (length are.flags) bytes)) (Some bytes)) (few-flags (length are.flags) are.many are.few) ∙ ap (λ xs. after_blanks (drop (length are.flags) xs)) parts ∙ ap after_blanks (drop_at are.flags (are.blanks ++ rest) (length are.flags) refl) ∙ blanks-passed are.blanks rest are.apart ends

flags-found : (bytes rest : List ℕ) (count : ℕ) (b : Bool) → prefix_len (is_of Dark) bytes ≡ count → are_flags count ≡ b → cond b (after_blanks (drop count bytes)) (Some bytes) ≡ Some rest → (flags : List ℕ) × (bytes ≡ flags ++ rest) × AreFlags flags
flags-found bytes rest count true c e found =
    let blanks = blanks-is (drop count bytes) rest found in
    let run = run-is (is_of Dark) bytes in
    let size : length run.0 ≡ count = ap length run.2 ∙ omega (arith, length-take (prefix_len (is_of Dark) bytes) bytes, c, prefix_len-le-length (is_of Dark) bytes) in
    let bounds = and_parts (nat_le FLAGS_FEWEST count) (nat_le count FLAGS_MOST) e in
    let many : FLAGS_FEWEST ≤ count = grind (arith, nat_tests) in
    let few : count ≤ FLAGS_MOST = grind (arith, nat_tests) in (
      run.0 ++ blanks.blanks,
      run.1 ∙ ap (λ n. run.0 ++ drop n bytes) c ∙ ap (λ xs. run.0 ++ xs) blanks.is ∙ sym (append_assoc run.0 blanks.blanks rest),
      inr (record { flags = run.0; blanks = blanks.blanks; is = refl; many = omega (arith, size, many); few = omega (arith, size, few); each = run.3; apart = blanks.are }),
    )
flags-found bytes rest count false c e found = ([], cc, inl refl)

flags-is : (bytes rest : List ℕ) → after_flags bytes ≡ Some rest → (flags : List ℕ) × (bytes ≡ flags ++ rest) × AreFlags flags
flags-is bytes rest e =
    flags-found bytes rest (prefix_len (is_of Dark) bytes) (are_flags (prefix_len (is_of Dark) bytes)) refl refl (sym (flags-by bytes) ∙ e)

-- ---- the time

decimals-spelt : (decimals : List ℕ) → DECIMALS ≤ length decimals → list_all is_ascii_digit decimals ≡ true → digits_value 10 (take DECIMALS decimals) < 2 ^ 64 → Spells (2 ^ 64) (take DECIMALS decimals) (digits_value 10 (take DECIMALS decimals))
decimals-spelt decimals many each few = record {
  some = omega (arith, length-take DECIMALS decimals, many);
  each = all-take is_ascii_digit DECIMALS decimals each;
  value = refl;
  fits = few;
}

time_of-printed : (seconds decimals : List ℕ) (time : ℕ) → (is : IsTime seconds decimals time) → time_of is.whole decimals ≡ Some time
unfolding time_of
time_of-printed seconds decimals time is =
    let part = digits_value 10 (take DECIMALS decimals) in
    let spelt = decimals-spelt decimals is.many is.each (omega (arith, is.value, is.fits)) in
    let fits : nat_lt (is.whole * SECOND + part) (2 ^ 64) ≡ true = lt-ltb (is.whole * SECOND + part) (2 ^ 64) (omega (arith, is.value, is.fits)) in
    ap (λ b. cond b None (option_and_then (microseconds is.whole) (numeral (2 ^ 64) (take DECIMALS decimals)))) (le-ltb (length decimals) DECIMALS is.many) ∙ ap (option_and_then (microseconds is.whole)) (numeral-spelt (2 ^ 64) (take DECIMALS decimals) part spelt) ∙ ap (λ b. cond b (Some (is.whole * SECOND + part)) None) fits ∙ ap Some (sym is.value)

abbrev behind_dot : ℕ × List ℕ → Option (ℕ × List ℕ)
behind_dot k = option_and_then (with_decimals k.0) (after k.1 (codes "."))

time-printed : (seconds decimals rest : List ℕ) (time : ℕ) → IsTime seconds decimals time → EndsRun is_ascii_digit rest → time_at (seconds ++ (codes "." ++ (decimals ++ rest))) ≡ Some (time, rest)
unfolding time_at
time-printed seconds decimals rest time is ends =
    ap (option_and_then behind_dot) (number-spelt (2 ^ 64) seconds (codes "." ++ (decimals ++ rest)) is.whole is.spelt refl)
    ∙ ap (option_and_then (with_decimals is.whole)) (after-text (codes ".") (decimals ++ rest))
    ∙ ap (λ xs. option_map (λ (t : ℕ). (t, drop (prefix_len is_ascii_digit (decimals ++ rest)) (decimals ++ rest))) (time_of is.whole xs)) (take-run is_ascii_digit decimals rest is.each ends)
    ∙ ap (λ xs. option_map (λ (t : ℕ). (t, xs)) (time_of is.whole decimals)) (drop-run is_ascii_digit decimals rest is.each ends)
    ∙ ap (option_map (λ (t : ℕ). (t, rest))) (time_of-printed seconds decimals time is)

record IsTimeAt (bytes : List ℕ) (time : ℕ) (rest : List ℕ) : Type 0 where
  seconds : List ℕ
  decimals : List ℕ
  is : bytes ≡ seconds ++ (codes "." ++ (decimals ++ rest))
  of_time : IsTime seconds decimals time

time_of-is : (seconds decimals : List ℕ) (whole time : ℕ) → Spells (2 ^ 64) seconds whole → list_all is_ascii_digit decimals ≡ true → time_of whole decimals ≡ Some time → IsTime seconds decimals time
unfolding time_of
time_of-is seconds decimals whole time spelt each e = found (nat_lt (length decimals) DECIMALS) refl e
  where
    found : (b : Bool) → nat_lt (length decimals) DECIMALS ≡ b → cond b None (option_and_then (microseconds whole) (numeral (2 ^ 64) (take DECIMALS decimals))) ≡ Some time → IsTime seconds decimals time
    found true short e = absurd (cc)
    found false short e =
        let part = and_then-some (microseconds whole) (numeral (2 ^ 64) (take DECIMALS decimals)) time e in
        let fits = if-some (nat_lt (whole * SECOND + part.0) (2 ^ 64)) (whole * SECOND + part.0) time part.2 in
        let few : whole * SECOND + part.0 < 2 ^ 64 = grind (arith, nat_tests) in
        let value = (numeral-is (2 ^ 64) (take DECIMALS decimals) part.0 part.1).value in
        let many : DECIMALS ≤ length decimals = grind (arith, nat_tests) in
        record {
          whole = whole;
          spelt = spelt;
          many = many;
          each = each;
          value = sym fits.1 ∙ ap (λ n. whole * SECOND + n) (sym value);
          fits = omega (arith, few, fits.1);
        }

time-is : (bytes : List ℕ) (found : ℕ × List ℕ) → time_at bytes ≡ Some found → IsTimeAt bytes found.0 found.1
unfolding time_at
time-is bytes found e =
    let at = and_then-some behind_dot (number_at (2 ^ 64) bytes) found e in
    let dot = and_then-some (with_decimals at.0.0) (after at.0.1 (codes ".")) found at.2 in
    let number = number-is (2 ^ 64) bytes at.0 at.1 in
    let run = run-is is_ascii_digit dot.0 in
    let time = map-some (λ (t : ℕ). (t, drop (prefix_len is_ascii_digit dot.0) dot.0)) (time_of at.0.0 (take (prefix_len is_ascii_digit dot.0) dot.0)) found dot.2 in
    let is = time_of-is number.digits run.0 at.0.0 time.0 number.spelt run.3 (ap (time_of at.0.0) run.2 ∙ time.1) in
    record {
      seconds = number.digits;
      decimals = run.0;
      is = number.is ∙ ap (λ xs. number.digits ++ xs) (after-is at.0.1 (codes ".") dot.0 dot.1 ∙ ap (λ xs. codes "." ++ xs) (run.1 ∙ ap (λ xs. run.0 ++ xs) (ap (λ p. p.1) time.2)));
      of_time = subst (IsTime number.digits run.0) (ap (λ p. p.0) time.2) is;
    }

-- ---- the header

group-first : (group tail : List ℕ) → IsGroup group → EndsRun is_blank (group ++ (codes "[" ++ tail))
group-first group tail is = elim is [
  | inl e ↦ subst (λ xs. EndsRun is_blank (xs ++ (codes "[" ++ tail))) (sym e) refl
  | inr g ↦ subst (λ xs. EndsRun is_blank (xs ++ (codes "[" ++ tail))) (sym g.1) refl
]

flags-first : (flags seconds tail : List ℕ) → AreFlags flags → 1 ≤ length seconds → list_all is_ascii_digit seconds ≡ true → EndsRun is_blank (flags ++ (seconds ++ tail))
flags-first flags seconds tail are some each = elim are [
  | inl e ↦ subst (λ xs. EndsRun is_blank (xs ++ (seconds ++ tail))) (sym e) (digits-no_blank seconds tail some each)
  | inr f ↦ subst (EndsRun is_blank) (sym (ap (λ xs. xs ++ (seconds ++ tail)) f.is ∙ append_assoc f.flags f.blanks (seconds ++ tail))) (darks-no_blank f.flags (f.blanks ++ (seconds ++ tail)) (omega (arith, f.many)) f.each)
]

flags-passed : (flags seconds decimals text : List ℕ) (time : ℕ) → AreFlags flags → IsTime seconds decimals time
    → after_flags (flags ++ (seconds ++ (codes "." ++ (decimals ++ (codes ": " ++ text))))) ≡ Some (seconds ++ (codes "." ++ (decimals ++ (codes ": " ++ text))))
flags-passed flags seconds decimals text time are is =
    let rest = seconds ++ (codes "." ++ (decimals ++ (codes ": " ++ text))) in
    elim are [
      | inl e ↦ ap (λ xs. after_flags (xs ++ rest)) e ∙ time-no_flags seconds decimals text is.spelt.some is.spelt.each is.many is.each
      | inr f ↦ some-flags flags rest f (digits-no_blank seconds (codes "." ++ (decimals ++ (codes ": " ++ text))) is.spelt.some is.spelt.each)
    ]

module _ (piece : List ℕ) where
  abbrev with_cpu : ℕ × List ℕ → ℕ × List ℕ → Option Head
  with_cpu pid cpu = with_time (trimmed (take TASK_BYTES piece)) pid.0 cpu.0 cpu.1

  abbrev with_pid : ℕ × List ℕ → Option Head
  with_pid pid = option_and_then (with_cpu pid) (processor pid.1)

  abbrev with_text : ℕ × List ℕ → ℕ × List ℕ → ℕ × List ℕ → Option Head
  with_text pid cpu time =
      option_map (λ (text : List ℕ). record { task = trimmed (take TASK_BYTES piece); pid = pid.0; cpu = cpu.0; time = time.0; text = text }) (after time.1 (codes ": "))

  pub head-printed : (head : Head) → IsHead piece head → header_of piece ≡ Some head
  unfolding header_of
  head-printed head is =
      let timed = is.seconds ++ (codes "." ++ (is.decimals ++ (codes ": " ++ head.text))) in
      let behind_gap = is.flags ++ timed in
      let behind_blanks = is.group ++ (codes "[" ++ (is.cpu ++ (codes "]" ++ (is.gap ++ behind_gap)))) in
      let behind_name = is.dash ++ (is.pid ++ (is.blanks ++ behind_blanks)) in
      let long : TASK_BYTES ≤ length piece = omega (arith, ap length is.is, length-append is.name behind_name, is.padded) in
      let name : take TASK_BYTES piece ≡ is.name = ap (take TASK_BYTES) is.is ∙ take_at is.name behind_name TASK_BYTES is.padded in
      let rest : drop TASK_BYTES piece ≡ behind_name = ap (drop TASK_BYTES) is.is ∙ drop_at is.name behind_name TASK_BYTES is.padded in
      let task : trimmed (take TASK_BYTES piece) ≡ head.task = ap trimmed name ∙ sym is.task in
      ap (λ b. cond b None (option_and_then with_pid (thread (drop TASK_BYTES piece)))) (le-ltb (length piece) TASK_BYTES long)
      ∙ ap (λ xs. option_and_then with_pid (thread xs)) rest
      ∙ ap (option_and_then with_pid) (thread-printed is.dash is.pid is.blanks behind_blanks head.pid is.dashed is.thread is.apart (group-first is.group (is.cpu ++ (codes "]" ++ (is.gap ++ behind_gap))) is.grouped))
      ∙ ap (option_and_then (with_cpu (head.pid, behind_blanks))) (processor-printed is.group is.cpu is.gap behind_gap head.cpu is.grouped is.processor is.before (flags-first is.flags is.seconds (codes "." ++ (is.decimals ++ (codes ": " ++ head.text))) is.flagged is.time.spelt.some is.time.spelt.each))
      ∙ ap (λ o. option_and_then (with_text (head.pid, behind_blanks) (head.cpu, behind_gap)) (option_and_then time_at o)) (flags-passed is.flags is.seconds is.decimals head.text head.time is.flagged is.time)
      ∙ ap (option_and_then (with_text (head.pid, behind_blanks) (head.cpu, behind_gap))) (time-printed is.seconds is.decimals (codes ": " ++ head.text) head.time is.time refl)
      ∙ ap (option_map (λ (text : List ℕ). record { task = trimmed (take TASK_BYTES piece); pid = head.pid; cpu = head.cpu; time = head.time; text = text })) (after-text (codes ": ") head.text)
      ∙ ap (λ t. Some (record { task = t; pid = head.pid; cpu = head.cpu; time = head.time; text = head.text })) task

  head-found : (head : Head) (b : Bool) → nat_lt (length piece) TASK_BYTES ≡ b → cond b None (option_and_then with_pid (thread (drop TASK_BYTES piece))) ≡ Some head → IsHead piece head
  head-found head true short e = absurd (cc)
  head-found head false short e =
      let pid = and_then-some with_pid (thread (drop TASK_BYTES piece)) head e in
      let cpu = and_then-some (with_cpu pid.0) (processor pid.0.1) head pid.2 in
      let time = and_then-some (with_text pid.0 cpu.0) (option_and_then time_at (after_flags cpu.0.1)) head cpu.2 in
      let from = and_then-some time_at (after_flags cpu.0.1) time.0 time.1 in
      let text = map-some (λ (text : List ℕ). record { task = trimmed (take TASK_BYTES piece); pid = pid.0.0; cpu = cpu.0.0; time = time.0.0; text = text }) (after time.0.1 (codes ": ")) head time.2 in
      let of_thread = thread-is (drop TASK_BYTES piece) pid.0 pid.1 in
      let of_processor = processor-is pid.0.1 cpu.0 cpu.1 in
      let flags = flags-is cpu.0.1 from.0 from.1 in
      let of_time = time-is from.0 time.0 from.2 in
      let last = after-is time.0.1 (codes ": ") text.0 text.1 ∙ ap (λ xs. codes ": " ++ xs) (ap (λ h. h.text) text.2) in
      let behind_gap = flags.1 ∙ ap (λ xs. flags.0 ++ xs) (of_time.is ∙ ap (λ xs. of_time.seconds ++ (codes "." ++ (of_time.decimals ++ xs))) last) in
      let behind_blanks = of_processor.is ∙ ap (λ xs. of_processor.group ++ (codes "[" ++ (of_processor.cpu ++ (codes "]" ++ (of_processor.gap ++ xs))))) behind_gap in
      let long : TASK_BYTES ≤ length piece = grind (arith, nat_tests) in
      record {
        name = take TASK_BYTES piece;
        dash = of_thread.dash;
        pid = of_thread.pid;
        blanks = of_thread.blanks;
        group = of_processor.group;
        cpu = of_processor.cpu;
        gap = of_processor.gap;
        flags = flags.0;
        seconds = of_time.seconds;
        decimals = of_time.decimals;
        is = sym (take-append-drop TASK_BYTES piece) ∙ ap (λ xs. take TASK_BYTES piece ++ xs) (of_thread.is ∙ ap (λ xs. of_thread.dash ++ (of_thread.pid ++ (of_thread.blanks ++ xs))) behind_blanks);
        padded = omega (arith, length-take TASK_BYTES piece, long);
        task = sym (ap (λ h. h.task) text.2);
        dashed = of_thread.dashed;
        thread = subst (λ n. Spells (2 ^ 32) of_thread.pid n) (ap (λ h. h.pid) text.2) of_thread.spelt;
        apart = of_thread.apart;
        grouped = of_processor.grouped;
        processor = subst (λ n. Spells (2 ^ 32) of_processor.cpu n) (ap (λ h. h.cpu) text.2) of_processor.spelt;
        before = of_processor.apart;
        flagged = flags.2;
        time = subst (IsTime of_time.seconds of_time.decimals) (ap (λ h. h.time) text.2) of_time.of_time;
      }

  pub head-is : (head : Head) → header_of piece ≡ Some head → IsHead piece head
  unfolding header_of
  head-is head e = head-found head (nat_lt (length piece) TASK_BYTES) refl e
