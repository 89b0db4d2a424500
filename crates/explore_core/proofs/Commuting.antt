-- Independent commands commute.
use Rattle.std.proofs.Common.{◌≡◌, ℕ, ◌+◌, Bool, true, false, not, ◌&&◌, ◌||◌, cond, refl, sym, ap, ◌∙◌, List, [], ◌∷◌, ◌++◌, append_assoc, append-nil, length, length-append, map, Option, None, Some, option_map, unwrap_or, arith, count_by, if◌then◌else◌, inl, inr}
use Rattle.std.specs.Prelude.{⊤}
use Rattle.std.specs.List.{AllZip}
use Rattle.std.specs.Option.{option_or}
use Rattle.std.specs.Cmp.Lexicographic.{same_text}
use Rattle.std.proofs.lemmas.Bool.{cases_Bool, false≢true, and_parts}
use Rattle.std.proofs.lemmas.List.Sums.{sum_by_push}
use Rattle.point_core.specs.declared.entry.Entry.{Entry}
use Rattle.point_core.specs.declared.refusal.Refusal.TheVariants.{NoEntry, Flags}
use Rattle.point_core.specs.Agreement.{AgreesAbove, as_entry, point_of}
use Rattle.point_core.specs.Named.{is_named, same_name}
use Rattle.point_core.proofs.Agreement.{AgreesAbove-refl, AgreesAbove-trans, AgreesAbove-same, AgreesAbove-append, AgreesAbove-comm}
use Rattle.point_core.proofs.Named.{has_named-same_names}
use Rattle.resv_core.specs.Resv.{entry_of}
use Rattle.dmabuf_core.specs.Flags.{exported, imported, is_sync_flags}
use Rattle.timeline_core.specs.Timeline.{Timeline, has_timeline, context_of, reach_of, raised_by, closed_timeline}
use Rattle.command_core.specs.declared.command.Command.{Command}
use Rattle.command_core.specs.declared.command.Command.TheVariants as command
use Rattle.desk_core.specs.theorem.World.{World, MadeFile, MadeBuffer, MadeWatch, after, has_file, file_named, files_without, put_set, has_made_buffer, buffer_put_set, put_into}
use Rattle.desk_core.specs.theorem.Answer.{answer_to, causes, cause, first_of, is_refused, listed_points}
use Rattle.desk_core.proofs.Buffers.{names-put_into, buffer_put_set-put, buffer_put_set-other}
use Rattle.desk_core.proofs.Sound.{first_of-none, not-false, causes-accepted}
use Rattle.explore_core.specs.Alike.{AreAlike, IsSameWatch, after_answer}
use Rattle.explore_core.specs.Independence.{Bounds, IsWithin, reads_file, LeavesAlone, IsNarrow, AreIndependent, Passes, IsRoomy, Commute}
use Rattle.explore_core.proofs.Leaving.{itself, turned, or_true, or_first, FindsSame, finds-itself, finds-after, same-answer, same-context, same-put_set, buffer_names-after, watches-after}
use Rattle.explore_core.proofs.Reaching.{same-listing, exported-seen}
use Rattle.explore_core.proofs.Naming.{named-push, named-without_named, count_by-without_named, length-without_named}

abbrev name_of : MadeFile → List ℕ
name_of f = f.name

abbrev put_in : Option MadeFile → List Entry
put_in o = unwrap_or (option_map (λ (f : MadeFile). f.put) o) []

-- timelines

abbrev Rise : Type 0
Rise = List ℕ × (Timeline → Timeline)

-- the timeline that a command changes, and how
abbrev rise_of : Command → Option Rise
rise_of (command.Inc t n) = Some (t, raised_by n)
rise_of (command.Shut t) = Some (t, closed_timeline)
rise_of _ = None

abbrev risen_one : Rise → Timeline → Timeline
risen_one r t = if same_name t.name r.0 then r.1 t else t

abbrev risen : Option Rise → List Timeline → List Timeline
risen None ts = ts
risen (Some r) ts = map (risen_one r) ts

timelines-after : (w : World) (c : Command) → IsNarrow c → (after w c).timelines ≡ risen (rise_of c) w.timelines
timelines-after w (command.Timeline t) narrow = absurd narrow
timelines-after w (command.Inc t n) narrow = refl
timelines-after w (command.Shut t) narrow = refl
timelines-after w _ narrow = refl

-- two timelines change
module _ (r s : Rise) (keeps : (t : Timeline) → (r.1 t).name ≡ t.name) (keeps' : (t : Timeline) → (s.1 t).name ≡ t.name) (other : same_name r.0 s.0 ≡ false) where
  risen-by : (a b : Bool) (t : Timeline) → same_name t.name r.0 ≡ a → same_name t.name s.0 ≡ b → risen_one r (if b then s.1 t else t) ≡ risen_one s (if a then r.1 t else t)
  risen-by true true t is is' = absurd (false≢true (sym other ∙ ap (λ n. same_name n s.0) (sym (same_text t.name r.0 (sym is))) ∙ is'))
  risen-by true false t is is' =
      ap (λ b. if b then r.1 t else t) is ∙ ap (λ b. if b then s.1 (r.1 t) else r.1 t) (sym (ap (λ n. same_name n s.0) (keeps t) ∙ is'))
  risen-by false true t is is' =
      ap (λ b. if b then r.1 (s.1 t) else s.1 t) (ap (λ n. same_name n r.0) (keeps' t) ∙ is) ∙ ap (λ b. if b then s.1 t else t) (sym is')
  risen-by false false t is is' = ap (λ b. if b then r.1 t else t) is ∙ ap (λ b. if b then s.1 t else t) (sym is')

  risen-both : (ts : List Timeline) → map (risen_one r) (map (risen_one s) ts) ≡ map (risen_one s) (map (risen_one r) ts)
  risen-both [] = refl
  risen-both (t ∷ ts) =
      ap (λ u. u ∷ map (risen_one r) (map (risen_one s) ts)) (risen-by (same_name t.name r.0) (same_name t.name s.0) t refl refl)
      ∙ ap (λ us. risen_one s (risen_one r t) ∷ us) (risen-both ts)

timelines-commute : (asked : List ℕ → Bool) (bounds : Bounds) (c d : Command) → LeavesAlone asked bounds c d → (ts : List Timeline) → risen (rise_of c) (risen (rise_of d) ts) ≡ risen (rise_of d) (risen (rise_of c) ts)
timelines-commute asked bounds (command.Inc x n) (command.Inc y m) leaves ts = risen-both (x, raised_by n) (y, raised_by m) (λ t. refl) (λ t. refl) (turned y x leaves.0) ts
timelines-commute asked bounds (command.Inc x n) (command.Shut y) leaves ts = risen-both (x, raised_by n) (y, closed_timeline) (λ t. refl) (λ t. refl) (turned y x leaves.0) ts
timelines-commute asked bounds (command.Shut x) (command.Inc y m) leaves ts = risen-both (x, closed_timeline) (y, raised_by m) (λ t. refl) (λ t. refl) (turned y x leaves.0) ts
timelines-commute asked bounds (command.Shut x) (command.Shut y) leaves ts = risen-both (x, closed_timeline) (y, closed_timeline) (λ t. refl) (λ t. refl) (turned y x leaves.0) ts
timelines-commute asked bounds (command.Inc x n) _ leaves ts = refl
timelines-commute asked bounds (command.Shut x) _ leaves ts = refl
timelines-commute asked bounds _ d leaves ts = refl

-- files

data FileChange : Type 0 where
  Makes : List ℕ → List Entry → Bool → FileChange
  Closes : List ℕ → FileChange
  Keeps : FileChange

abbrev file_change : World → Command → FileChange
file_change w (command.Fence f t p) = Makes f (as_entry (point_of (context_of w.timelines t) p) ∷ []) true
file_change w (command.Merge f a b) = Makes f (put_set w.files a ++ put_set w.files b) false
file_change w (command.Export f b flags) = Makes f (exported flags (buffer_put_set w.buffers b)) false
file_change w (command.Close f) = Closes f
file_change w _ = Keeps

abbrev file_made : List ℕ → List Entry → Bool → List ℕ → MadeFile
file_made name put one reach = record { name = name; put = put; is_one_point = one; made_at = reach }

abbrev changed : List ℕ → FileChange → List MadeFile → List MadeFile
changed reach (Makes f put one) fs = fs ++ file_made f put one reach ∷ []
changed reach (Closes f) fs = files_without fs f
changed reach Keeps fs = fs

files-after : (w : World) (c : Command) → (after w c).files ≡ changed (reach_of w.timelines) (file_change w c) w.files
files-after w (command.Fence f t p) = refl
files-after w (command.Merge f a b) = refl
files-after w (command.Export f b flags) = refl
files-after w (command.Close f) = refl
files-after w _ = refl

-- it makes or closes the file of that name
abbrev touches : FileChange → List ℕ → Bool
touches (Makes f put one) name = same_name f name
touches (Closes f) name = same_name f name
touches Keeps name = false

-- what is found by a name, and how often
abbrev found : List ℕ → FileChange → List ℕ → Option MadeFile → Option MadeFile
found reach (Makes f put one) name o = option_or o (cond (same_name f name) (Some (file_made f put one reach)) None)
found reach (Closes f) name o = cond (same_name f name) None o
found reach Keeps name o = o

abbrev counted : FileChange → List ℕ → ℕ → ℕ
counted (Makes f put one) name n = n + cond (same_name f name) 1 0
counted (Closes f) name n = cond (same_name f name) 0 n
counted Keeps name n = n

abbrev count_of : List MadeFile → List ℕ → ℕ
count_of fs name = count_by (is_named name_of name) fs

named-changed : (reach : List ℕ) (c : FileChange) (fs : List MadeFile) (name : List ℕ) → file_named (changed reach c fs) name ≡ found reach c name (file_named fs name)
named-changed reach (Makes f put one) fs name = named-push name_of fs (file_made f put one reach) name
named-changed reach (Closes f) fs name = named-without_named name_of fs f name
named-changed reach Keeps fs name = refl

count-changed : (reach : List ℕ) (c : FileChange) (fs : List MadeFile) (name : List ℕ) → count_of (changed reach c fs) name ≡ counted c name (count_of fs name)
count-changed reach (Makes f put one) fs name = sum_by_push (λ x. cond (is_named name_of name x) 1 0) fs (file_made f put one reach)
count-changed reach (Closes f) fs name = count_by-without_named name_of fs f name
count-changed reach Keeps fs name = refl

or-none : (o : Option MadeFile) → option_or o None ≡ o
or-none None = refl
or-none (Some f) = refl

found-apart : (reach : List ℕ) (c : FileChange) (name : List ℕ) (o : Option MadeFile) → touches c name ≡ false → found reach c name o ≡ o
found-apart reach (Makes f put one) name o isnt = ap (λ b. option_or o (cond b (Some (file_made f put one reach)) None)) isnt ∙ or-none o
found-apart reach (Closes f) name o isnt = ap (λ b. cond b None o) isnt
found-apart reach Keeps name o isnt = refl

none_more : (n : ℕ) → n + 0 ≡ n
none_more n = omega arith

counted-apart : (c : FileChange) (name : List ℕ) (n : ℕ) → touches c name ≡ false → counted c name n ≡ n
counted-apart (Makes f put one) name n isnt = ap (λ b. n + cond b 1 0) isnt ∙ none_more n
counted-apart (Closes f) name n isnt = ap (λ b. cond b 0 n) isnt
counted-apart Keeps name n isnt = refl

-- how many files there are
abbrev added : FileChange → ℕ
added (Makes f put one) = 1
added _ = 0

abbrev removed : FileChange → List MadeFile → ℕ
removed (Closes f) fs = count_of fs f
removed _ fs = 0

length-changed : (reach : List ℕ) (c : FileChange) (fs : List MadeFile) → length (changed reach c fs) + removed c fs ≡ length fs + added c
length-changed reach (Makes f put one) fs = omega (arith, length-append {A = MadeFile})
length-changed reach (Closes f) fs = omega (arith, length-without_named name_of fs f)
length-changed reach Keeps fs = omega arith

-- a file that is made sooner or later has the same points, and lists the same if it is one that `info` may query

abbrev AreListedSame : (List ℕ → Bool) → List ℕ → List ℕ → FileChange → Type 0
AreListedSame asked reach later (Makes f put one) = asked f ≡ true → listed_points (file_made f put one reach) ≡ listed_points (file_made f put one later)
AreListedSame asked reach later _ = ⊤

put-found : (reach later : List ℕ) (c : FileChange) (name : List ℕ) (o : Option MadeFile) → put_in (found reach c name o) ≡ put_in (found later c name o)
put-found reach later (Makes f put one) name o = by o (same_name f name)
  where
    by : (o : Option MadeFile) (b : Bool) → put_in (option_or o (cond b (Some (file_made f put one reach)) None)) ≡ put_in (option_or o (cond b (Some (file_made f put one later)) None))
    by (Some g) b = refl
    by None true = refl
    by None false = refl
put-found reach later (Closes f) name o = refl
put-found reach later Keeps name o = refl

list-found : (asked : List ℕ → Bool) (reach later : List ℕ) (c : FileChange) (name : List ℕ) (o : Option MadeFile) → AreListedSame asked reach later c → asked name ≡ true
    → option_map listed_points (found reach c name o) ≡ option_map listed_points (found later c name o)
list-found asked reach later (Makes f put one) name o same is = by o (same_name f name) refl
  where
    by : (o : Option MadeFile) (b : Bool) → same_name f name ≡ b
        → option_map listed_points (option_or o (cond b (Some (file_made f put one reach)) None)) ≡ option_map listed_points (option_or o (cond b (Some (file_made f put one later)) None))
    by (Some g) b is' = refl
    by None true is' = ap Some (same (ap asked (same_text f name (sym is')) ∙ is))
    by None false is' = refl
list-found asked reach later (Closes f) name o same is = refl
list-found asked reach later Keeps name o same is = refl

-- two changes of different files

removed-apart : (c d : FileChange) → ((name : List ℕ) → touches c name ≡ true → touches d name ≡ false) → (reach : List ℕ) (fs : List MadeFile) → removed c (changed reach d fs) ≡ removed c fs
removed-apart (Makes f put one) d separate reach fs = refl
removed-apart (Closes f) d separate reach fs = count-changed reach d fs f ∙ counted-apart d f (count_of fs f) (separate f (itself f))
removed-apart Keeps d separate reach fs = refl

module _ (c d : FileChange) (separate : (name : List ℕ) → touches c name ≡ true → touches d name ≡ false) where
  separate' : (name : List ℕ) → touches d name ≡ true → touches c name ≡ false
  separate' name is = elim (cases_Bool (touches c name)) [
    | inl is' ↦ absurd (false≢true (sym (separate name is') ∙ is))
    | inr isnt ↦ isnt
  ]

  counted-commute : (name : List ℕ) (n : ℕ) → counted c name (counted d name n) ≡ counted d name (counted c name n)
  counted-commute name n = elim (cases_Bool (touches c name)) [
    | inl is ↦ ap (counted c name) (counted-apart d name n (separate name is)) ∙ sym (counted-apart d name (counted c name n) (separate name is))
    | inr isnt ↦ counted-apart c name (counted d name n) isnt ∙ ap (counted d name) (sym (counted-apart c name n isnt))
  ]

  -- c is made second or first, and so is d
  module _ (second first first' second' : List ℕ) where
    found-commute : {Y : Type 0} (see : Option MadeFile → Y) (name : List ℕ) (o : Option MadeFile)
        → ((p : Option MadeFile) → see (found second c name p) ≡ see (found first c name p))
        → ((p : Option MadeFile) → see (found first' d name p) ≡ see (found second' d name p))
        → see (found second c name (found first' d name o)) ≡ see (found second' d name (found first c name o))
    found-commute see name o same same' = elim (cases_Bool (touches c name)) [
      | inl is ↦
          ap (λ p. see (found second c name p)) (found-apart first' d name o (separate name is))
          ∙ same o ∙ ap see (sym (found-apart second' d name (found first c name o) (separate name is)))
      | inr isnt ↦
          ap see (found-apart second c name (found first' d name o) isnt)
          ∙ same' o ∙ ap (λ p. see (found second' d name p)) (sym (found-apart first c name o isnt))
    ]

    module _ (fs : List MadeFile) where
      abbrev there : List MadeFile
      there = changed second c (changed first' d fs)

      abbrev here : List MadeFile
      here = changed second' d (changed first c fs)

      counts-commute : (name : List ℕ) → count_of there name ≡ count_of here name
      counts-commute name =
          count-changed second c (changed first' d fs) name ∙ ap (counted c name) (count-changed first' d fs name)
          ∙ counted-commute name (count_of fs name)
          ∙ sym (count-changed second' d (changed first c fs) name ∙ ap (counted d name) (count-changed first c fs name))

      named-commute : {Y : Type 0} (see : Option MadeFile → Y) (name : List ℕ)
          → ((p : Option MadeFile) → see (found second c name p) ≡ see (found first c name p))
          → ((p : Option MadeFile) → see (found first' d name p) ≡ see (found second' d name p))
          → see (file_named there name) ≡ see (file_named here name)
      named-commute see name same same' =
          ap see (named-changed second c (changed first' d fs) name ∙ ap (found second c name) (named-changed first' d fs name))
          ∙ found-commute see name (file_named fs name) same same'
          ∙ ap see (sym (named-changed second' d (changed first c fs) name ∙ ap (found second' d name) (named-changed first c fs name)))

      lengths-commute : length there ≡ length here
      lengths-commute =
          let e = length-changed second c (changed first' d fs) in
          let e' = length-changed first' d fs in
          let h = length-changed second' d (changed first c fs) in
          let h' = length-changed first c fs in
          let r = removed-apart c d separate first' fs in
          let r' = removed-apart d c separate' first fs in
          omega (arith, e, e', h, h', r, r')

-- buffers

abbrev Put : Type 0
Put = List ℕ × List Entry

-- what a command puts into a buffer
abbrev put_by : World → Command → Option Put
put_by w (command.Add b t p u) = Some (b, entry_of (point_of (context_of w.timelines t) p) u ∷ [])
put_by w (command.Import b f flags) = Some (b, imported flags (put_set w.files f))
put_by w _ = None

abbrev with_this : Option Put → List MadeBuffer → List MadeBuffer
with_this None bs = bs
with_this (Some p) bs = put_into bs p.0 p.1

buffers-after : (w : World) (c : Command) → IsNarrow c → (after w c).buffers ≡ with_this (put_by w c) w.buffers
buffers-after w (command.Buffer b) narrow = absurd narrow
buffers-after w (command.Add b t p u) narrow = refl
buffers-after w (command.Import b f flags) narrow = refl
buffers-after w _ narrow = refl

-- there is a buffer to put it into
abbrev Fits : List MadeBuffer → Option Put → Type 0
Fits bs None = ⊤
Fits bs (Some p) = has_made_buffer bs p.0 ≡ true

fits-accepted : (w : World) (c : Command) → first_of (causes w c) ≡ None → Fits w.buffers (put_by w c)
fits-accepted w (command.Add b t p u) is =
    let both = not-false (has_made_buffer w.buffers b && has_timeline w.timelines t) (first_of-none (not (has_made_buffer w.buffers b && has_timeline w.timelines t)) NoEntry [] is).0 in
    (and_parts (has_made_buffer w.buffers b) (has_timeline w.timelines t) both).0
fits-accepted w (command.Import b f flags) is =
    let both = not-false (has_made_buffer w.buffers b && has_file w.files f) (first_of-none (not (has_made_buffer w.buffers b && has_file w.files f)) NoEntry (cause (not (is_sync_flags flags)) Flags ∷ []) is).0 in
    (and_parts (has_made_buffer w.buffers b) (has_file w.files f) both).0
fits-accepted w _ is = tt

names-with : (p : Option Put) (bs : List MadeBuffer) → map (λ (b : MadeBuffer). b.name) (with_this p bs) ≡ map (λ (b : MadeBuffer). b.name) bs
names-with None bs = refl
names-with (Some p) bs = names-put_into bs p.0 p.1

fits-with : (p q : Option Put) (bs : List MadeBuffer) → Fits bs p → Fits (with_this q bs) p
fits-with None q bs fits = tt
fits-with (Some p) q bs fits =
    has_named-same_names (λ (b : MadeBuffer). b.name) (λ (b : MadeBuffer). b.name) (with_this q bs) bs p.0 (names-with q bs) ∙ fits

-- what is put into the buffer of a name
abbrev part : Option Put → List ℕ → List Entry
part None name = []
part (Some p) name = if same_name name p.0 then p.1 else []

put_set-with : (p : Option Put) (bs : List MadeBuffer) (name : List ℕ) → Fits bs p → buffer_put_set (with_this p bs) name ≡ buffer_put_set bs name ++ part p name
put_set-with None bs name fits = sym (append-nil (buffer_put_set bs name))
put_set-with (Some p) bs name fits = elim (cases_Bool (same_name name p.0)) [
  | inl is ↦
      let same : name ≡ p.0 = same_text name p.0 (sym is) in
      ap (buffer_put_set (put_into bs p.0 p.1)) same ∙ buffer_put_set-put bs p.0 p.1 fits
      ∙ ap (λ n. buffer_put_set bs n ++ p.1) (sym same) ∙ ap (λ b. buffer_put_set bs name ++ (if b then p.1 else [])) (sym is)
  | inr isnt ↦
      buffer_put_set-other bs p.0 name p.1 (λ same. false≢true (sym isnt ∙ ap (λ n. same_name n p.0) same ∙ itself p.0))
      ∙ sym (append-nil (buffer_put_set bs name)) ∙ ap (λ b. buffer_put_set bs name ++ (if b then p.1 else [])) (sym isnt)
]

swapped : (reach : List ℕ) (es p q : List Entry) → AgreesAbove reach ((es ++ q) ++ p) ((es ++ p) ++ q)
swapped reach es p q =
    AgreesAbove-trans (AgreesAbove-same reach (append_assoc es q p))
    (AgreesAbove-trans (AgreesAbove-append (AgreesAbove-refl reach es) (AgreesAbove-comm reach q p)) (AgreesAbove-same reach (sym (append_assoc es p q))))

puts-commute : (reach : List ℕ) (p q : Option Put) (bs : List MadeBuffer) (name : List ℕ) → Fits bs p → Fits bs q
    → AgreesAbove reach (buffer_put_set (with_this p (with_this q bs)) name) (buffer_put_set (with_this q (with_this p bs)) name)
puts-commute reach p q bs name fits fits' =
    let there = put_set-with p (with_this q bs) name (fits-with p q bs fits) ∙ ap (λ es. es ++ part p name) (put_set-with q bs name fits') in
    let here = put_set-with q (with_this p bs) name (fits-with q p bs fits') ∙ ap (λ es. es ++ part q name) (put_set-with p bs name fits) in
    AgreesAbove-trans (AgreesAbove-same reach there) (AgreesAbove-trans (swapped reach (buffer_put_set bs name) (part p name) (part q name)) (AgreesAbove-same reach (sym here)))

-- worlds

watches_made-after : (w : World) (c : Command) → IsNarrow c → (after w c).watches_made ≡ w.watches_made
watches_made-after w (command.Watch f cookie) narrow = absurd narrow
watches_made-after w _ narrow = refl

watches-itself : (reach : List ℕ) (xs : List MadeWatch) → AllZip (IsSameWatch reach) xs xs
watches-itself reach [] = tt
watches-itself reach (x ∷ xs) = (record { cookie = refl; put = AgreesAbove-refl reach x.put }, watches-itself reach xs)

pub alike-itself : (asked : List ℕ → Bool) (w : World) → AreAlike asked w w
alike-itself asked w = record {
  timelines = refl;
  file_counts = λ n. refl;
  files_made = refl;
  files = λ n. AgreesAbove-refl (reach_of w.timelines) (put_set w.files n);
  lists = λ n is. refl;
  buffer_names = refl;
  buffers = λ n. AgreesAbove-refl (reach_of w.timelines) (buffer_put_set w.buffers n);
  watches = watches-itself (reach_of w.timelines) w.watches;
  watches_made = refl;
}

-- what both change is the same in both orders
same-change : {asked : List ℕ → Bool} (c : Command) {w v : World} → FindsSame asked c w v → file_change v c ≡ file_change w c
same-change (command.Fence f t p) s = rw (same-context s t) refl
same-change (command.Merge f a b) s =
    let reads-a = or_true (same_name f a) (same_name a a || same_name b a) (or_first (same_name a a) (same_name b a) (itself a)) in
    let reads-b = or_true (same_name f b) (same_name a b || same_name b b) (or_true (same_name a b) (same_name b b) (itself b)) in
    rw (same-put_set s a reads-a, same-put_set s b reads-b) refl
same-change (command.Export f b flags) s = rw (s.buffer b (itself b)) refl
same-change (command.Close f) s = refl
same-change _ s = refl

same-put : {asked : List ℕ → Bool} (c : Command) {w v : World} → FindsSame asked c w v → put_by v c ≡ put_by w c
same-put (command.Add b t p u) s = rw (same-context s t) refl
same-put (command.Import b f flags) s = rw (same-put_set s f (itself f)) refl
same-put _ s = refl

same-list : {asked : List ℕ → Bool} (c : Command) {w v : World} → FindsSame asked c w v → AreListedSame asked (reach_of v.timelines) (reach_of w.timelines) (file_change w c)
same-list (command.Fence f t p) s = λ is. refl
same-list (command.Merge f a b) {w} {v} s = λ is. sym (same-listing w.timelines v.timelines (put_set w.files a ++ put_set w.files b) 0 (s.seen is))
same-list (command.Export f b flags) {w} {v} s = λ is. sym (same-listing w.timelines v.timelines (exported flags (buffer_put_set w.buffers b)) 0 (exported-seen w.timelines v.timelines flags (buffer_put_set w.buffers b) (s.seen is)))
same-list _ s = tt

-- the file that a command makes or closes is one that it depends on
touches-reads : (w : World) (c : Command) (name : List ℕ) → touches (file_change w c) name ≡ true → reads_file c name ≡ true
touches-reads w (command.Fence f t p) name is = is
touches-reads w (command.Merge f a b) name is = or_first (same_name f name) (same_name a name || same_name b name) is
touches-reads w (command.Export f b flags) name is = is
touches-reads w (command.Close f) name is = is
touches-reads w _ name is = absurd (false≢true is)

touches-leaves : (asked : List ℕ → Bool) (bounds : Bounds) (w : World) (c d : Command) (name : List ℕ) → LeavesAlone asked bounds c d → touches (file_change w c) name ≡ true → reads_file d name ≡ false
touches-leaves asked bounds w (command.Fence f t p) d name leaves is = ap (reads_file d) (sym (same_text f name (sym is))) ∙ leaves
touches-leaves asked bounds w (command.Merge f a b) d name leaves is = ap (reads_file d) (sym (same_text f name (sym is))) ∙ leaves
touches-leaves asked bounds w (command.Export f b flags) d name leaves is = ap (reads_file d) (sym (same_text f name (sym is))) ∙ leaves
touches-leaves asked bounds w (command.Close f) d name leaves is = ap (reads_file d) (sym (same_text f name (sym is))) ∙ leaves
touches-leaves asked bounds w _ d name leaves is = absurd (false≢true is)

separate-changes : (asked : List ℕ → Bool) (bounds : Bounds) (w : World) (c d : Command) → LeavesAlone asked bounds c d → (name : List ℕ) → touches (file_change w c) name ≡ true → touches (file_change w d) name ≡ false
separate-changes asked bounds w c d leaves name is = elim (cases_Bool (touches (file_change w d) name)) [
  | inl is' ↦ absurd (false≢true (sym (touches-leaves asked bounds w c d name leaves is) ∙ touches-reads w d name is'))
  | inr isnt ↦ isnt
]

module _ (asked : List ℕ → Bool) (bounds : Bounds) (w : World) (c d : Command) (roomy : IsRoomy w) (within : IsWithin bounds w) (i : AreIndependent asked bounds c d) (made : first_of (causes w c) ≡ None) (made' : first_of (causes w d) ≡ None) where
  finds-c : FindsSame asked c w (after w d)
  finds-c = finds-after w asked bounds c roomy within d i.second i.backward made'

  finds-d : FindsSame asked d w (after w c)
  finds-d = finds-after w asked bounds d roomy within c i.first i.forward made

  timelines-there : (after (after w d) c).timelines ≡ risen (rise_of c) (risen (rise_of d) w.timelines)
  timelines-there = timelines-after (after w d) c i.first ∙ ap (risen (rise_of c)) (timelines-after w d i.second)

  timelines-here : (after (after w c) d).timelines ≡ risen (rise_of d) (risen (rise_of c) w.timelines)
  timelines-here = timelines-after (after w c) d i.second ∙ ap (risen (rise_of d)) (timelines-after w c i.first)

  files-there : (after (after w d) c).files ≡ changed (reach_of (after w d).timelines) (file_change w c) (changed (reach_of w.timelines) (file_change w d) w.files)
  files-there =
      files-after (after w d) c
      ∙ ap (λ change. changed (reach_of (after w d).timelines) change (after w d).files) (same-change c finds-c)
      ∙ ap (changed (reach_of (after w d).timelines) (file_change w c)) (files-after w d)

  files-here : (after (after w c) d).files ≡ changed (reach_of (after w c).timelines) (file_change w d) (changed (reach_of w.timelines) (file_change w c) w.files)
  files-here =
      files-after (after w c) d
      ∙ ap (λ change. changed (reach_of (after w c).timelines) change (after w c).files) (same-change d finds-d)
      ∙ ap (changed (reach_of (after w c).timelines) (file_change w d)) (files-after w c)

  buffers-there : (after (after w d) c).buffers ≡ with_this (put_by w c) (with_this (put_by w d) w.buffers)
  buffers-there =
      buffers-after (after w d) c i.first
      ∙ ap (λ p. with_this p (after w d).buffers) (same-put c finds-c) ∙ ap (with_this (put_by w c)) (buffers-after w d i.second)

  buffers-here : (after (after w c) d).buffers ≡ with_this (put_by w d) (with_this (put_by w c) w.buffers)
  buffers-here =
      buffers-after (after w c) d i.second
      ∙ ap (λ p. with_this p (after w c).buffers) (same-put d finds-d) ∙ ap (with_this (put_by w d)) (buffers-after w c i.first)

  -- what is seen of the files
  files-seen : {Y : Type 0} (see : List MadeFile → Y)
      → see (changed (reach_of (after w d).timelines) (file_change w c) (changed (reach_of w.timelines) (file_change w d) w.files))
      ≡ see (changed (reach_of (after w c).timelines) (file_change w d) (changed (reach_of w.timelines) (file_change w c) w.files))
      → see (after (after w d) c).files ≡ see (after (after w c) d).files
  files-seen see same = ap see files-there ∙ same ∙ ap see (sym files-here)

  separate : (name : List ℕ) → touches (file_change w c) name ≡ true → touches (file_change w d) name ≡ false
  separate = separate-changes asked bounds w c d i.forward

  worlds-commute : AreAlike asked (after (after w d) c) (after (after w c) d)
  worlds-commute =
      let C = file_change w c in
      let D = file_change w d in
      let now = reach_of w.timelines in
      let past-d = reach_of (after w d).timelines in
      let past-c = reach_of (after w c).timelines in
      record {
        timelines = timelines-there ∙ timelines-commute asked bounds c d i.forward w.timelines ∙ sym timelines-here;
        file_counts = λ n. files-seen (λ fs. count_of fs n) (counts-commute C D separate past-d now now past-c w.files n);
        files_made = files-seen length (lengths-commute C D separate past-d now now past-c w.files);
        files = λ n. AgreesAbove-same (reach_of (after (after w d) c).timelines)
            (files-seen (λ fs. put_set fs n)
            (named-commute C D separate past-d now now past-c w.files put_in n (λ p. put-found past-d now C n p) (λ p. put-found now past-c D n p)));
        lists = λ n asks.
            files-seen (λ fs. option_map listed_points (file_named fs n))
            (named-commute C D separate past-d now now past-c w.files (option_map listed_points) n
            (λ p. list-found asked past-d now C n p (same-list c finds-c) asks) (λ p. sym (list-found asked past-c now D n p (same-list d finds-d) asks)));
        buffer_names = sym (buffer_names-after (after w d) c i.first) ∙ sym (buffer_names-after w d i.second) ∙ buffer_names-after w c i.first ∙ buffer_names-after (after w c) d i.second;
        buffers = λ n.
            rw (buffers-there, buffers-here)
            (puts-commute (reach_of (after (after w d) c).timelines) (put_by w c) (put_by w d) w.buffers n (fits-accepted w c made) (fits-accepted w d made'));
        watches = rw (watches-after (after w d) c i.first (watches-after w d i.second roomy.watches), watches-after (after w c) d i.second (watches-after w c i.first roomy.watches)) tt;
        watches_made =
            watches_made-after (after w d) c i.first ∙ watches_made-after w d i.second ∙ sym (watches_made-after (after w c) d i.second ∙ watches_made-after w c i.first);
      }

-- refused or not

finds-answered : (asked : List ℕ → Bool) (bounds : Bounds) (w : World) (c d : Command) → IsRoomy w → IsWithin bounds w → IsNarrow d → LeavesAlone asked bounds d c → FindsSame asked c w (after_answer w d)
finds-answered asked bounds w c d roomy within narrow leaves = by (is_refused (answer_to w d)) refl
  where
    by : (r : Bool) → is_refused (answer_to w d) ≡ r → FindsSame asked c w (if r then w else after w d)
    by true is = finds-itself asked c w roomy.watches
    by false is = finds-after w asked bounds c roomy within d narrow leaves (causes-accepted w d is)

module _ (asked : List ℕ → Bool) (bounds : Bounds) (w : World) (c d : Command) (roomy : IsRoomy w) (within : IsWithin bounds w) (i : AreIndependent asked bounds c d) (passes : Passes w c) (passes' : Passes w d) where
  first-same : answer_to w c ≡ answer_to (after_answer w d) c
  first-same = same-answer c i.first passes (finds-answered asked bounds w c d roomy within i.second i.backward)

  second-same : answer_to w d ≡ answer_to (after_answer w c) d
  second-same = same-answer d i.second passes' (finds-answered asked bounds w d c roomy within i.first i.forward)

  alike-by : (r s : Bool) → is_refused (answer_to w c) ≡ r → is_refused (answer_to w d) ≡ s
      → AreAlike asked (if r then (if s then w else after w d) else after (if s then w else after w d) c) (if s then (if r then w else after w c) else after (if r then w else after w c) d)
  alike-by true true is is' = alike-itself asked w
  alike-by true false is is' = alike-itself asked (after w d)
  alike-by false true is is' = alike-itself asked (after w c)
  alike-by false false is is' = worlds-commute asked bounds w c d roomy within i (causes-accepted w c is) (causes-accepted w d is')

  pub commute : Commute asked w c d
  commute = record {
    first = sym first-same;
    second = sym second-same;
    worlds = rw (sym first-same, sym second-same) (alike-by (is_refused (answer_to w c)) (is_refused (answer_to w d)) refl refl);
  }
