-- The event and the fields of a record, as they are printed.
use Rattle.std.proofs.Common.{◌≡◌, ℕ, suc, ◌+◌, ◌-◌, ◌^◌, ◌≤◌, ◌⊎◌, inl, inr, Bool, true, false, cond, List, [], ◌∷◌, ◌++◌, length, get_or, take, drop, Option, None, Some, option_map, unwrap_or, codes, refl, sym, ap, subst, ◌∙◌, append_assoc, length-append, take-append-drop, arith}
use Rattle.std.specs.Char.{is_ascii_digit}
use Rattle.std.specs.List.{list_all, prefix_len}
use Rattle.std.specs.Option.{option_and_then}
use Rattle.std.specs.Str.{bytes_eq}
use Rattle.std.proofs.lemmas.List.{take_at, drop_at, get_or_at, get_or-append_right}
use Rattle.std.proofs.lemmas.List.Sums.{suffix_len_is, AllPass-from_list_all}
use Rattle.std.proofs.lemmas.Slice.Eq.{bytes_eq-Decides}
use Rattle.trace_core.specs.declared.event.Event.{Event}
use Rattle.trace_core.specs.declared.runs.Class.TheVariants.{Word}
use Rattle.trace_core.specs.Event.{kinds, kind_at, kind_of, without_system, after_colon, event_named, event_at}
use Rattle.trace_core.specs.Fields.{Body, names_of, with_names, fields_of}
use Rattle.trace_core.specs.Header.{header_of}
use Rattle.trace_core.specs.Number.{numeral, end_digits, number_at_end}
use Rattle.trace_core.specs.Printing.{Spells, IsEvent, IsFields, IsRecord}
use Rattle.trace_core.specs.Record.{Printed, joined, record_with, record_from, record_of}
use Rattle.trace_core.specs.Runs.{is_blank, is_of}
use Rattle.trace_core.specs.Steps.{after, before, without_blanks, after_blanks, here_or, with_first, part_at}
use Rattle.trace_core.proofs.OneReading.{and_parts, and_then-some, map-some, if-some, EndsRun, drop-run, take-run, run-is, after-text, after-is, numeral-spelt, numeral-is, blanks-dropped, blanks-are, blanks-passed, blanks-is}
use Rattle.trace_core.proofs.Heads.{head-printed, head-is}

-- ---- the event

-- no kind of event has a colon
kind_at-word : (rows : List (List ℕ × Event)) (word : List ℕ) (event : Event) → list_all (λ row. list_all (is_of Word) row.0) rows ≡ true → kind_at rows word ≡ Some event → list_all (is_of Word) word ≡ true
kind_at-word [] word event all e = absurd (cc)
kind_at-word (row ∷ rows) word event all e = found (bytes_eq word row.0) refl e (kind_at-word rows word event parts.1)
  where
    parts : (list_all (is_of Word) row.0 ≡ true) × (list_all (λ r. list_all (is_of Word) r.0) rows ≡ true)
    parts = and_parts (list_all (is_of Word) row.0) (list_all (λ r. list_all (is_of Word) r.0) rows) all

    found : (b : Bool) → bytes_eq word row.0 ≡ b → cond b (Some row.1) (kind_at rows word) ≡ Some event → (kind_at rows word ≡ Some event → list_all (is_of Word) word ≡ true) → list_all (is_of Word) word ≡ true
    found true same e more =
        ap (list_all (is_of Word)) ((bytes_eq-Decides word row.0).0 same) ∙ parts.0
    found false other e more = more e

kind-word : (word : List ℕ) (event : Event) → kind_of word ≡ Some event → list_all (is_of Word) word ≡ true
unfolding kind_of
kind-word word event e = kind_at-word kinds word event refl e

system-passed : (system tail : List ℕ) → (system ≡ []) ⊎ (system ≡ codes ":dma_fence") → without_system (system ++ (codes "_" ++ tail)) ≡ codes "_" ++ tail
unfolding without_system after
system-passed system tail is = elim is [
  | inl e ↦ ap (λ xs. unwrap_or (after (xs ++ (codes "_" ++ tail)) (codes ":dma_fence")) (xs ++ (codes "_" ++ tail))) e
  | inr e ↦ ap (λ xs. unwrap_or (after (xs ++ (codes "_" ++ tail)) (codes ":dma_fence")) (xs ++ (codes "_" ++ tail))) e ∙ ap (λ o. unwrap_or o (codes ":dma_fence" ++ (codes "_" ++ tail))) (after-text (codes ":dma_fence") (codes "_" ++ tail))
]

system-found : (bytes : List ℕ) (o : Option (List ℕ)) → after bytes (codes ":dma_fence") ≡ o → (system : List ℕ) × (bytes ≡ system ++ unwrap_or o bytes) × ((system ≡ []) ⊎ (system ≡ codes ":dma_fence"))
system-found bytes None e = ([], refl, inl refl)
system-found bytes (Some rest) e =
    (codes ":dma_fence", after-is bytes (codes ":dma_fence") rest e, inr refl)

system-is : (bytes : List ℕ) → (system : List ℕ) × (bytes ≡ system ++ without_system bytes) × ((system ≡ []) ⊎ (system ≡ codes ":dma_fence"))
unfolding without_system
system-is bytes = system-found bytes (after bytes (codes ":dma_fence")) refl

abbrev behind_system : List ℕ → Option (List ℕ)
behind_system rest = after (without_system rest) (codes "_")

abbrev with_event : List ℕ → Event → Option (Event × List ℕ)
with_event name event =
    option_map (λ (rest : List ℕ). (event, rest)) (after_colon (drop (prefix_len (is_of Word) name) name))

pub event-printed : (text : List ℕ) (event : Event) (fields : List ℕ) → IsEvent text event fields → EndsRun is_blank fields → event_at text ≡ Some (event, fields)
unfolding event_at
event-printed text event fields is ends =
    let last = codes ":" ++ (is.gap ++ fields) in
    let name = is.kind ++ last in
    let behind = is.system ++ (codes "_" ++ name) in
    let word = kind-word is.kind event is.known in
    ap (λ xs. option_and_then event_named (option_and_then behind_system (after (without_blanks xs) (codes "dma_fence")))) is.is
    ∙ ap (λ xs. option_and_then event_named (option_and_then behind_system (after xs (codes "dma_fence")))) (blanks-dropped is.blanks (codes "dma_fence" ++ behind) is.blank refl)
    ∙ ap (λ o. option_and_then event_named (option_and_then behind_system o)) (after-text (codes "dma_fence") behind)
    ∙ ap (λ xs. option_and_then event_named (after xs (codes "_"))) (system-passed is.system name is.named)
    ∙ ap (option_and_then event_named) (after-text (codes "_") name)
    ∙ ap (λ xs. option_and_then (with_event name) (kind_of xs)) (take-run (is_of Word) is.kind last word refl)
    ∙ ap (option_and_then (with_event name)) is.known
    ∙ ap (λ xs. option_map (λ (rest : List ℕ). (event, rest)) (after_colon xs)) (drop-run (is_of Word) is.kind last word refl)
    ∙ ap (λ o. option_map (λ (rest : List ℕ). (event, rest)) (option_and_then after_blanks o)) (after-text (codes ":") (is.gap ++ fields))
    ∙ ap (option_map (λ (rest : List ℕ). (event, rest))) (blanks-passed is.gap fields is.apart ends)

pub event-is : (text : List ℕ) (found : Event × List ℕ) → event_at text ≡ Some found → IsEvent text found.0 found.1
unfolding event_at
event-is text found e =
    let name = and_then-some event_named (option_and_then behind_system (after (without_blanks text) (codes "dma_fence"))) found e in
    let behind = and_then-some behind_system (after (without_blanks text) (codes "dma_fence")) name.0 name.1 in
    let run = run-is (is_of Word) name.0 in
    let event = and_then-some (with_event name.0) (kind_of (take (prefix_len (is_of Word) name.0) name.0)) found name.2 in
    let fields = map-some (λ (rest : List ℕ). (event.0, rest)) (after_colon (drop (prefix_len (is_of Word) name.0) name.0)) found event.2 in
    let colon = and_then-some after_blanks (after (drop (prefix_len (is_of Word) name.0) name.0) (codes ":")) fields.0 fields.1 in
    let blanks = blanks-is colon.0 fields.0 colon.2 in
    let front = blanks-are text in
    let system = system-is behind.0 in
    let last = after-is (drop (prefix_len (is_of Word) name.0) name.0) (codes ":") colon.0 colon.1 ∙ ap (λ xs. codes ":" ++ xs) (blanks.is ∙ ap (λ xs. blanks.blanks ++ xs) (ap (λ p. p.1) fields.2)) in
    record {
      blanks = front.0;
      system = system.0;
      kind = run.0;
      gap = blanks.blanks;
      is = front.1 ∙ ap (λ xs. front.0 ++ xs) (after-is (without_blanks text) (codes "dma_fence") behind.0 behind.1 ∙ ap (λ xs. codes "dma_fence" ++ xs) (system.1 ∙ ap (λ xs. system.0 ++ xs) (after-is (without_system behind.0) (codes "_") name.0 behind.2 ∙ ap (λ xs. codes "_" ++ xs) (run.1 ∙ ap (λ xs. run.0 ++ xs) last))));
      blank = front.2;
      named = system.2;
      known = ap kind_of run.2 ∙ event.1 ∙ ap Some (ap (λ p. p.0) fields.2);
      apart = blanks.are;
    }

-- ---- the first place of a text

abbrev IsShortest : List ℕ → List ℕ → ℕ → Type 0
IsShortest text bytes n = (front rest : List ℕ) → bytes ≡ front ++ (text ++ rest) → n ≤ length front

part-found : (text : List ℕ) (x : ℕ) (xs : List ℕ) (o : Option (List ℕ)) (later : Option (List ℕ × List ℕ)) (parts : List ℕ × List ℕ) → after (x ∷ xs) text ≡ o → here_or o (option_map (with_first x) later) ≡ Some parts
    → ((p : List ℕ × List ℕ) → later ≡ Some p → (xs ≡ p.0 ++ (text ++ p.1)) × IsShortest text xs (length p.0)) → (x ∷ xs ≡ parts.0 ++ (text ++ parts.1)) × IsShortest text (x ∷ xs) (length parts.0)
part-found text x xs (Some rest) later parts a e more =
    let front : [] ≡ parts.0 = ap (λ p. p.0) (some-same e) in
    let behind : rest ≡ parts.1 = ap (λ p. p.1) (some-same e) in (
      after-is (x ∷ xs) text rest a ∙ ap (λ ys. text ++ ys) behind ∙ ap (λ ys. ys ++ (text ++ parts.1)) front,
      λ f r s. omega (arith, ap length front),
    )
  where
    some-same : {A : Type 0} {a b : A} → Some a ≡ Some b → a ≡ b
    some-same s = cc
part-found text x xs None later parts a e more =
    let at = map-some (with_first x) later parts e in
    let rest = more at.0 at.1 in
    let front : x ∷ at.0.0 ≡ parts.0 = ap (λ p. p.0) at.2 in
    let behind : at.0.1 ≡ parts.1 = ap (λ p. p.1) at.2 in (
      ap (λ ys. x ∷ ys) rest.0 ∙ ap (λ ys. ys ++ (text ++ at.0.1)) front ∙ ap (λ ys. parts.0 ++ (text ++ ys)) behind,
      shortest front rest.1,
    )
  where
    shortest : {p : List ℕ} → x ∷ p ≡ parts.0 → IsShortest text xs (length p) → IsShortest text (x ∷ xs) (length parts.0)
    shortest {p} front least [] r s =
        absurd (none-some (sym a ∙ ap (λ ys. after ys text) s ∙ after-text text r))
      where
        none-some : {A : Type 0} {v : A} → None ≡ Some v → ⊥
        none-some e = cc
    shortest {p} front least (y ∷ f) r s =
        let tail : xs ≡ f ++ (text ++ r) = cc in
        omega (arith, least f r tail, ap length front)

pub part-is : (text bytes : List ℕ) (parts : List ℕ × List ℕ) → part_at text bytes ≡ Some parts → (bytes ≡ parts.0 ++ (text ++ parts.1)) × IsShortest text bytes (length parts.0)
unfolding part_at
part-is text [] parts e = absurd (cc)
part-is text (x ∷ xs) parts e =
    part-found text x xs (after (x ∷ xs) text) (part_at text xs) parts refl e (λ p. part-is text xs p)

part-step : (text : List ℕ) (x : ℕ) (xs : List ℕ) → part_at text (x ∷ xs) ≡ here_or (after (x ∷ xs) text) (option_map (with_first x) (part_at text xs))
unfolding part_at
part-step text x xs = refl

none-shorter : (text bytes : List ℕ) (n : ℕ) (o : Option (List ℕ)) → after bytes text ≡ o → IsShortest text bytes (suc n) → o ≡ None
none-shorter text bytes n None e least = refl
none-shorter text bytes n (Some rest) e least =
    absurd (omega (arith, least [] rest (after-is bytes text rest e)))

pub part-printed : (c : ℕ) (cs front rest : List ℕ) → IsShortest (c ∷ cs) (front ++ ((c ∷ cs) ++ rest)) (length front) → part_at (c ∷ cs) (front ++ ((c ∷ cs) ++ rest)) ≡ Some (front, rest)
part-printed c cs [] rest least =
    let text = c ∷ cs in
    part-step text c (cs ++ rest) ∙ ap (λ o. here_or o (option_map (with_first c) (part_at text (cs ++ rest)))) (after-text text rest)
part-printed c cs (x ∷ front) rest least =
    let text = c ∷ cs in
    let tail = front ++ (text ++ rest) in
    let none = none-shorter text (x ∷ tail) (length front) (after (x ∷ tail) text) refl least in
    part-step text x tail ∙ ap (λ o. here_or o (option_map (with_first x) (part_at text tail))) none ∙ ap (option_map (with_first x)) (part-printed c cs front rest (λ f r s. omega (arith, least (x ∷ f) r (ap (λ ys. x ∷ ys) s))))

-- ---- numbers at the end

before-text : (front text : List ℕ) → before (front ++ text) text ≡ Some front
unfolding before
before-text front text =
    let place : length (front ++ text) - length text ≡ length front = omega (arith, length-append front text) in
    let same = (bytes_eq-Decides (drop (length (front ++ text) - length text) (front ++ text)) text).1 (ap (λ n. drop n (front ++ text)) place ∙ drop_at front text (length front) refl) in
    ap (λ b. cond b (Some (take (length (front ++ text) - length text) (front ++ text))) None) same ∙ ap (λ n. Some (take n (front ++ text))) place ∙ ap Some (take_at front text (length front) refl)

before-is : (bytes text front : List ℕ) → before bytes text ≡ Some front → bytes ≡ front ++ text
unfolding before
before-is bytes text front e =
    let found = if-some (bytes_eq (drop (length bytes - length text) bytes) text) (take (length bytes - length text) bytes) front e in
    let ends = (bytes_eq-Decides (drop (length bytes - length text) bytes) text).0 found.0 in
    sym (take-append-drop (length bytes - length text) bytes) ∙ ap (λ xs. take (length bytes - length text) bytes ++ xs) ends ∙ ap (λ xs. xs ++ text) found.1

-- the digits at the end, behind a byte that is none
end-digits : (front digits : List ℕ) (c : ℕ) → is_ascii_digit c ≡ false → list_all is_ascii_digit digits ≡ true → end_digits ((front ++ c ∷ []) ++ digits) ≡ length (front ++ c ∷ [])
end-digits front digits c other each =
    let begin = front ++ c ∷ [] in
    let all = begin ++ digits in
    let size : length begin ≡ length front + 1 = length-append front (c ∷ []) in
    let last : get_or all (length begin - 1) 0 ≡ c =
    ap (λ xs. get_or xs (length begin - 1) 0) (append_assoc front (c ∷ []) digits) ∙ get_or_at front c digits 0 (length begin - 1) (omega (arith, size)) in
    let suffix = suffix_len_is is_ascii_digit all (length begin) 0 (omega (arith, length-append begin digits)) (λ k a b. ap is_ascii_digit (get_or-append_right begin digits (length begin) k 0 refl a) ∙ AllPass-from_list_all is_ascii_digit digits each (k - length begin) 0 (omega (arith, length-append begin digits))) (λ _. ap is_ascii_digit last ∙ other) in
    omega (arith, suffix, length-append begin digits)

module _ (start : List ℕ) (c : ℕ) (other : is_ascii_digit c ≡ false) where
  abbrev key : List ℕ
  key = start ++ c ∷ []

  abbrev with_digits : List ℕ → List ℕ → Option (List ℕ × ℕ)
  with_digits digits front = option_map (λ (n : ℕ). (front, n)) (numeral (2 ^ 32) digits)

  pub number-printed : (front digits : List ℕ) (n : ℕ) → Spells (2 ^ 32) digits n → number_at_end key (front ++ (key ++ digits)) ≡ Some (front, n)
  unfolding number_at_end
  number-printed front digits n spelt =
      let bytes = front ++ (key ++ digits) in
      let parts : bytes ≡ (front ++ key) ++ digits = sym (append_assoc front key digits) in
      let ends : bytes ≡ ((front ++ start) ++ c ∷ []) ++ digits = parts ∙ ap (λ xs. xs ++ digits) (sym (append_assoc front start (c ∷ []))) in
      let place : end_digits bytes ≡ length (front ++ key) = ap end_digits ends ∙ end-digits (front ++ start) digits c other spelt.each ∙ ap length (append_assoc front start (c ∷ [])) in
      ap (λ k. option_and_then (with_digits (drop k bytes)) (before (take k bytes) key)) place
      ∙ ap (λ xs. option_and_then (with_digits (drop (length (front ++ key)) xs)) (before (take (length (front ++ key)) xs) key)) parts
      ∙ ap (λ xs. option_and_then (with_digits xs) (before (take (length (front ++ key)) ((front ++ key) ++ digits)) key)) (drop_at (front ++ key) digits (length (front ++ key)) refl)
      ∙ ap (λ xs. option_and_then (with_digits digits) (before xs key)) (take_at (front ++ key) digits (length (front ++ key)) refl)
      ∙ ap (option_and_then (with_digits digits)) (before-text front key)
      ∙ ap (option_map (λ (k : ℕ). (front, k))) (numeral-spelt (2 ^ 32) digits n spelt)

record EndsInNumber (key bytes front : List ℕ) (n : ℕ) : Type 0 where
  digits : List ℕ
  is : bytes ≡ front ++ (key ++ digits)
  spelt : Spells (2 ^ 32) digits n

number-ends : (key bytes : List ℕ) (found : List ℕ × ℕ) → number_at_end key bytes ≡ Some found → EndsInNumber key bytes found.0 found.1
unfolding number_at_end
number-ends key bytes found e =
    let digits = drop (end_digits bytes) bytes in
    let at = and_then-some (λ (front : List ℕ). option_map (λ (n : ℕ). (front, n)) (numeral (2 ^ 32) digits)) (before (take (end_digits bytes) bytes) key) found e in
    let number = map-some (λ (n : ℕ). (at.0, n)) (numeral (2 ^ 32) digits) found at.2 in
    let front = before-is (take (end_digits bytes) bytes) key at.0 at.1 ∙ ap (λ xs. xs ++ key) (ap (λ p. p.0) number.2) in
    record {
      digits = digits;
      is = sym (take-append-drop (end_digits bytes) bytes) ∙ ap (λ xs. xs ++ digits) front ∙ append_assoc found.0 key digits;
      spelt = subst (λ n. Spells (2 ^ 32) digits n) (ap (λ p. p.1) number.2) (numeral-is (2 ^ 32) digits number.0 number.1);
    }

-- ---- the fields

abbrev with_context : List ℕ × ℕ → List ℕ × ℕ → Option Body
with_context seqno context = with_names context.1 seqno.1 context.0

abbrev with_seqno : List ℕ × ℕ → Option Body
with_seqno seqno = option_and_then (with_context seqno) (number_at_end (codes " context=") seqno.0)

names-printed : (driver timeline : List ℕ) → IsShortest (codes " timeline=") (driver ++ (codes " timeline=" ++ timeline)) (length driver) → names_of (codes "driver=" ++ (driver ++ (codes " timeline=" ++ timeline))) ≡ Some (driver, timeline)
unfolding names_of
names-printed driver timeline least =
    ap (option_and_then (part_at (codes " timeline="))) (after-text (codes "driver=") (driver ++ (codes " timeline=" ++ timeline))) ∙ part-printed 32 (codes "timeline=") driver timeline least

names-is : (text : List ℕ) (names : List ℕ × List ℕ) → names_of text ≡ Some names → (text ≡ codes "driver=" ++ (names.0 ++ (codes " timeline=" ++ names.1))) × IsShortest (codes " timeline=") (names.0 ++ (codes " timeline=" ++ names.1)) (length names.0)
unfolding names_of
names-is text names e =
    let at = and_then-some (part_at (codes " timeline=")) (after text (codes "driver=")) names e in
    let part = part-is (codes " timeline=") at.0 names at.2 in
    (after-is text (codes "driver=") at.0 at.1 ∙ ap (λ xs. codes "driver=" ++ xs) part.0, subst (λ xs. IsShortest (codes " timeline=") xs (length names.0)) part.0 part.1)

pub fields-printed : (text : List ℕ) (body : Body) → IsFields text body → fields_of text ≡ Some body
unfolding fields_of
fields-printed text body is =
    let names = codes "driver=" ++ (body.driver ++ (codes " timeline=" ++ body.timeline)) in
    let to_context : codes "driver=" ++ (body.driver ++ (codes " timeline=" ++ (body.timeline ++ (codes " context=" ++ is.context)))) ≡ names ++ (codes " context=" ++ is.context) =
    ap (λ xs. codes "driver=" ++ xs) (ap (λ xs. body.driver ++ xs) (sym (append_assoc (codes " timeline=") body.timeline (codes " context=" ++ is.context))) ∙ sym (append_assoc body.driver (codes " timeline=" ++ body.timeline) (codes " context=" ++ is.context))) ∙ sym (append_assoc (codes "driver=") (body.driver ++ (codes " timeline=" ++ body.timeline)) (codes " context=" ++ is.context)) in
    let front = names ++ (codes " context=" ++ is.context) in
    let seqno = codes " seqno=" ++ is.seqno in
    let parts : text ≡ front ++ seqno =
    is.is ∙ ap (λ xs. codes "driver=" ++ (body.driver ++ (codes " timeline=" ++ xs))) (ap (λ xs. body.timeline ++ xs) (sym (append_assoc (codes " context=") is.context seqno)) ∙ sym (append_assoc body.timeline (codes " context=" ++ is.context) seqno)) ∙ ap (λ xs. codes "driver=" ++ xs) (ap (λ xs. body.driver ++ xs) (sym (append_assoc (codes " timeline=") (body.timeline ++ (codes " context=" ++ is.context)) seqno)) ∙ sym (append_assoc body.driver (codes " timeline=" ++ (body.timeline ++ (codes " context=" ++ is.context))) seqno)) ∙ sym (append_assoc (codes "driver=") (body.driver ++ (codes " timeline=" ++ (body.timeline ++ (codes " context=" ++ is.context)))) seqno) ∙ ap (λ xs. xs ++ seqno) to_context in
    ap (λ xs. option_and_then with_seqno (number_at_end (codes " seqno=") xs)) parts
    ∙ ap (option_and_then with_seqno) (number-printed (codes " seqno") 61 refl front is.seqno body.seqno is.of_seqno)
    ∙ ap (option_and_then (with_context (front, body.seqno))) (number-printed (codes " context") 61 refl names is.context body.context is.of_context)
    ∙ ap (option_map (λ (n : List ℕ × List ℕ). record { driver = n.0; timeline = n.1; context = body.context; seqno = body.seqno })) (names-printed body.driver body.timeline is.shortest)

pub fields-is : (text : List ℕ) (body : Body) → fields_of text ≡ Some body → IsFields text body
unfolding fields_of
fields-is text body e =
    let seqno = and_then-some with_seqno (number_at_end (codes " seqno=") text) body e in
    let context = and_then-some (with_context seqno.0) (number_at_end (codes " context=") seqno.0.0) body seqno.2 in
    let names = map-some (λ (n : List ℕ × List ℕ). record { driver = n.0; timeline = n.1; context = context.0.1; seqno = seqno.0.1 }) (names_of context.0.0) body context.2 in
    let of_seqno = number-ends (codes " seqno=") text seqno.0 seqno.1 in
    let of_context = number-ends (codes " context=") seqno.0.0 context.0 context.1 in
    let of_names = names-is context.0.0 names.0 names.1 in
    let rest = codes " context=" ++ (of_context.digits ++ (codes " seqno=" ++ of_seqno.digits)) in
    let numbers : text ≡ context.0.0 ++ rest =
    of_seqno.is ∙ ap (λ xs. xs ++ (codes " seqno=" ++ of_seqno.digits)) of_context.is ∙ append_assoc context.0.0 (codes " context=" ++ of_context.digits) (codes " seqno=" ++ of_seqno.digits) ∙ ap (λ xs. context.0.0 ++ xs) (append_assoc (codes " context=") of_context.digits (codes " seqno=" ++ of_seqno.digits)) in
    let driver : names.0.0 ≡ body.driver = ap (λ b. b.driver) names.2 in
    let timeline : names.0.1 ≡ body.timeline = ap (λ b. b.timeline) names.2 in
    let whole : text ≡ codes "driver=" ++ (names.0.0 ++ (codes " timeline=" ++ (names.0.1 ++ rest))) =
    numbers ∙ ap (λ xs. xs ++ rest) of_names.0 ∙ append_assoc (codes "driver=") (names.0.0 ++ (codes " timeline=" ++ names.0.1)) rest ∙ ap (λ xs. codes "driver=" ++ xs) (append_assoc names.0.0 (codes " timeline=" ++ names.0.1) rest ∙ ap (λ xs. names.0.0 ++ xs) (append_assoc (codes " timeline=") names.0.1 rest)) in
    record {
      context = of_context.digits;
      seqno = of_seqno.digits;
      is = whole ∙ ap (λ xs. codes "driver=" ++ (xs ++ (codes " timeline=" ++ (names.0.1 ++ rest)))) driver ∙ ap (λ xs. codes "driver=" ++ (body.driver ++ (codes " timeline=" ++ (xs ++ rest)))) timeline;
      shortest = subst (λ (n : List ℕ × List ℕ). IsShortest (codes " timeline=") (n.0 ++ (codes " timeline=" ++ n.1)) (length n.0)) (λ i. (driver i, timeline i)) of_names.1;
      of_context = subst (λ n. Spells (2 ^ 32) of_context.digits n) (ap (λ b. b.context) names.2) of_context.spelt;
      of_seqno = subst (λ n. Spells (2 ^ 32) of_seqno.digits n) (ap (λ b. b.seqno) names.2) of_seqno.spelt;
    }

-- ---- the record

pub record-printed : (piece : List ℕ) (r : Printed) → IsRecord piece r → record_of piece ≡ Some r
unfolding record_of record_from record_with
record-printed piece r is =
    ap (option_and_then record_from) (head-printed piece is.head is.begins)
    ∙ ap (option_and_then (λ (e : Event × List ℕ). record_with is.head e.0 e.1)) (event-printed is.head.text r.event is.fields is.names (subst (EndsRun is_blank) (sym is.ends.is) refl))
    ∙ ap (option_map (joined is.head r.event)) (fields-printed is.fields is.body is.ends)
    ∙ ap Some (sym is.says)

pub record-is : (piece : List ℕ) (r : Printed) → record_of piece ≡ Some r → IsRecord piece r
unfolding record_of record_from record_with
record-is piece r e =
    let head = and_then-some record_from (header_of piece) r e in
    let event = and_then-some (λ (v : Event × List ℕ). record_with head.0 v.0 v.1) (event_at head.0.text) r head.2 in
    let fields = map-some (joined head.0 event.0.0) (fields_of event.0.1) r event.2 in
    let same : event.0.0 ≡ r.event = ap (λ (p : Printed). p.event) fields.2 in
    record {
      head = head.0;
      fields = event.0.1;
      body = fields.0;
      begins = head-is piece head.0 head.1;
      names = subst (λ v. IsEvent head.0.text v event.0.1) same (event-is head.0.text event.0 event.1);
      ends = fields-is event.0.1 fields.0 fields.1;
      says = sym fields.2 ∙ ap (λ v. joined head.0 v fields.0) same;
    }
