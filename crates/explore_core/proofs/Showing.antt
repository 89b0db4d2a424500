-- Desks whose looks are the same look alike.
use Rattle.std.proofs.Common.{◌≡◌, ◌⊎◌, ℕ, zero, suc, ◌+◌, ◌≤◌, nat_le, nat_eq, Bool, true, false, ◌||◌, ◌&&◌, cond, if◌then◌else◌, refl, sym, ap, ◌∙◌, subst, List, [], ◌∷◌, ◌++◌, length, map, filter, count_by, Option, None, Some, option_map, unwrap_or, is_some, inl, inr, arith, Contains, true≢false}
use Rattle.std.specs.Prelude.{All}
use Rattle.std.specs.List.{list_any, IsDistinct, AllByRecursion, AllZip}
use Rattle.std.specs.Map.{values_of}
use Rattle.std.specs.Cmp.Lexicographic.{same_text, nat_list_eq_equiv}
use Rattle.std.proofs.lemmas.Bool.{cases_Bool, false≢true, le-leb, leb-true}
use Rattle.std.proofs.lemmas.List.{length-map, map-append, append-nil}
use Rattle.std.proofs.lemmas.List.Elements.{All-nil, All-head, All-tail, All-contains, filter-append, Contains-append_right, Contains-append_cases}
use Rattle.std.proofs.lemmas.List.Sums.{sum_by-cons}
use Rattle.std.proofs.lemmas.Map.Entries.{lookup_head, lookup_tail}
use Rattle.std.proofs.lemmas.Map.Keys.{IsDistinct-head, IsDistinct-tail}
use Rattle.std.proofs.lemmas.Map.Made.{is_some-lookup}
use Rattle.point_core.specs.declared.context.TheConstants.{CONTEXTS}
use Rattle.point_core.specs.declared.entry.Entry.{Entry}
use Rattle.point_core.specs.declared.entry.Point.{Point}
use Rattle.point_core.specs.declared.entry.Usage.{Usage}
use Rattle.point_core.specs.declared.entry.Usage.TheVariants.{Kernel, Write, Read, Bookkeep}
use Rattle.point_core.specs.declared.listing.TopRow.{TopRow}
use Rattle.point_core.specs.declared.timeline_row.TimelineRow.{TimelineRow}
use Rattle.point_core.specs.Usage.{usage_number}
use Rattle.point_core.specs.Agreement.{AgreesAbove, HasContexts, as_entry, as_entries, point_of, top, later, pending, listing}
use Rattle.point_core.specs.Named.{same_name, is_named, has_named}
use Rattle.point_core.specs.Reach.{value_at}
use Rattle.point_core.proofs.Agreement.{AgreesAbove-same, AgreesAbove-refl, AgreesAbove-sym, AgreesAbove-trans, AgreesAbove-append, AgreesAbove-signalled, AgreesAbove-from_listing, listing-same}
use Rattle.point_core.proofs.Ticking.{is_signalled-of, value_at-reach_of_clocks}
use Rattle.point_core.specs.Clocks.{clock_at, is_past_closing, reached_by, status_at}
use Rattle.point_core.specs.Status.{is_signalled}
use Rattle.point_core.proofs.Named.{is_some-named, has_named-names}
use Rattle.timeline_core.specs.Timeline.{Timeline, clocks_of, reach_of, row_of as timeline_row, rows_of as timeline_rows}
use Rattle.syncfile_core.specs.SyncFile.{File, file_at, file_name}
use Rattle.syncfile_core.specs.Files.{has_file, names_of as file_names}
use Rattle.resv_core.specs.Resv.{Reservation, IsTable, row_of, rows_at, rows_of as table_rows}
use Rattle.dmabuf_core.specs.Buffers.{Buffer, AreBuffers, has_buffer, table_at, entries_of, names_of as buffer_names}
use Rattle.fence_core.specs.Watch.{Watch, IsWatchOf}
use Rattle.desk_core.specs.theorem.World.{MadeWatch}
use Rattle.desk_core.specs.theorem.Desk.{DeskState}
use Rattle.desk_core.specs.theorem.History.{world_of}
use Rattle.desk_core.specs.Keeping.{points_at}
use Rattle.desk_core.proofs.Answering.{Keeps-stands}
use Rattle.desk_core.proofs.Sound.{not-false}
use Rattle.explore_core.specs.declared.look.FileLook.{FileLook}
use Rattle.explore_core.specs.declared.look.BufferLook.{BufferLook}
use Rattle.explore_core.specs.Looks.{LooksAlike, WaitsAlike}
use Rattle.explore_core.specs.Covering.{GoOnAlike}
use Rattle.explore_core.specs.Found.{CanBeExplored}
use Rattle.explore_core.specs.Schedule.{Lines}
use Rattle.explore_core.specs.Search.{Look, Seen, is_asked, is_to_come, seen_points, file_look, buffer_look, Shows, AreSameLooks, AreSameSeen, IsSeen, standing_at}
use Rattle.explore_core.proofs.Looking.{alike-looks}
use Rattle.explore_core.proofs.Scheduling.{none-comes, no_watches-of}

-- elements of lists

Contains-nil : {X : Type 0} (y : X) → Contains [] y → ⊥
Contains-nil y h = omega (arith, h.1)

Contains-single : {X : Type 0} (x y : X) → Contains (x ∷ []) y → x ≡ y
Contains-single x y (zero, low, is) = is
Contains-single x y (suc k, low, is) = absurd (omega arith)

Contains-cases : {X : Type 0} (x : X) (xs : List X) (y : X) → Contains (x ∷ xs) y → (x ≡ y) ⊎ Contains xs y
Contains-cases x xs y h = elim (Contains-append_cases (x ∷ []) xs y h) [
  | inl first ↦ inl (Contains-single x y first)
  | inr rest ↦ inr rest
]

Contains-head : {X : Type 0} (x : X) (xs : List X) → Contains (x ∷ xs) x
Contains-head x xs = (0, omega arith, refl)

Contains-tail : {X : Type 0} (x : X) (xs : List X) (y : X) → Contains xs y → Contains (x ∷ xs) y
Contains-tail x xs y h = Contains-append_right (x ∷ []) xs y h

pub Contains-map : {X Y : Type 0} (f : X → Y) (xs : List X) (x : X) → Contains xs x → Contains (map f xs) (f x)
Contains-map f [] x h = absurd (Contains-nil x h)
Contains-map f (z ∷ xs) x h = elim (Contains-cases z xs x h) [
  | inl same ↦ subst (λ y. Contains (map f (z ∷ xs)) (f y)) same (Contains-head (f z) (map f xs))
  | inr rest ↦ Contains-tail (f z) (map f xs) (f x) (Contains-map f xs x rest)
]

pub Contains-unmap : {X Y : Type 0} (f : X → Y) (xs : List X) (y : Y) → Contains (map f xs) y → (x : X) × Contains xs x × (f x ≡ y)
Contains-unmap f [] y h = absurd (Contains-nil y h)
Contains-unmap f (z ∷ xs) y h = elim (Contains-cases (f z) (map f xs) y h) [
  | inl same ↦ (z, Contains-head z xs, same)
  | inr rest ↦ (let there = Contains-unmap f xs y rest in (there.0, Contains-tail z xs there.0 there.1, there.2))
]

map-at : {X Y : Type 0} (f g : X → Y) (xs : List X) (x : X) → map f xs ≡ map g xs → Contains xs x → f x ≡ g x
map-at f g [] x same h = absurd (Contains-nil x h)
map-at f g (z ∷ xs) x same h =
    let first : f z ≡ g z = cc in
    let rest : map f xs ≡ map g xs = cc in
    elim (Contains-cases z xs x h) [
      | inl is ↦ subst (λ y. f y ≡ g y) is first
      | inr later ↦ map-at f g xs x rest later
    ]

-- names

pub or-cases : (a b : Bool) → (a || b) ≡ true → (a ≡ true) ⊎ (b ≡ true)
or-cases true b is = inl refl
or-cases false b is = inr is

or-right : (a b : Bool) → b ≡ true → (a || b) ≡ true
or-right true b is = refl
or-right false b is = is

pub listed-Contains : (name : List ℕ) (names : List (List ℕ)) → list_any (same_name name) names ≡ true → Contains names name
listed-Contains name [] is = absurd (false≢true is)
listed-Contains name (n ∷ names) is = elim (or-cases (same_name name n) (list_any (same_name name) names) is) [
  | inl same ↦ subst (Contains (n ∷ names)) (sym (same_text name n (sym same))) (Contains-head n names)
  | inr rest ↦ Contains-tail n names name (listed-Contains name names rest)
]

Contains-listed : (name : List ℕ) (names : List (List ℕ)) → Contains names name → list_any (same_name name) names ≡ true
Contains-listed name [] h = absurd (Contains-nil name h)
Contains-listed name (n ∷ names) h = elim (Contains-cases n names name h) [
  | inl same ↦ ap (λ b. b || list_any (same_name name) names) (ap (same_name name) same ∙ nat_list_eq_equiv.refl name)
  | inr rest ↦ or-right (same_name name n) (list_any (same_name name) names) (Contains-listed name names rest)
]

bools-same : (a b : Bool) → (a ≡ true → b ≡ true) → (b ≡ true → a ≡ true) → a ≡ b
bools-same true b to from = sym (to refl)
bools-same false true to from = from refl
bools-same false false to from = refl

-- timelines

timeline-is : (t u : Timeline) → timeline_row t ≡ timeline_row u → t ≡ u
timeline-is t u same =
    let name : t.name ≡ u.name = ap (λ (r : TimelineRow). r.name) same in
    let value : t.value ≡ u.value = ap (λ (r : TimelineRow). r.value) same in
    let closed : t.closed ≡ u.closed = ap (λ (r : TimelineRow). r.closed) same in
    λ i. record { name = name i; value = value i; closed = closed i }

timelines-are : (ts us : List Timeline) → timeline_rows ts ≡ timeline_rows us → ts ≡ us
timelines-are [] [] same = refl
timelines-are [] (u ∷ us) same = absurd (cc)
timelines-are (t ∷ ts) [] same = absurd (cc)
timelines-are (t ∷ ts) (u ∷ us) same =
    let first : timeline_row t ≡ timeline_row u = cc in
    let rest : timeline_rows ts ≡ timeline_rows us = cc in
    ap (λ x. x ∷ ts) (timeline-is t u first) ∙ ap (λ xs. u ∷ xs) (timelines-are ts us rest)

-- rows of a table that are the same are of tables that agree

is_of : Usage → TopRow → Bool
is_of usage r = nat_eq (usage_number r.usage) (usage_number usage)

points_in : Usage → List TopRow → List Point
points_in usage rows = map (λ (r : TopRow). point_of r.ctx r.point) (filter (is_of usage) rows)

points_in-append : (usage : Usage) (rows more : List TopRow) → points_in usage (rows ++ more) ≡ points_in usage rows ++ points_in usage more
unfolding points_in
points_in-append usage rows more =
    ap (map (λ (r : TopRow). point_of r.ctx r.point)) (filter-append (is_of usage) rows more)
    ∙ map-append (λ (r : TopRow). point_of r.ctx r.point) (filter (is_of usage) rows) (filter (is_of usage) more)

points_in-own : (usage : Usage) (ps : List Point) → nat_eq (usage_number usage) (usage_number usage) ≡ true → points_in usage (map (row_of usage) ps) ≡ ps
unfolding points_in is_of
points_in-own usage [] is = refl
points_in-own usage (p ∷ ps) is = rw is (ap (λ qs. p ∷ qs) (points_in-own usage ps is))

points_in-other : (usage other : Usage) (ps : List Point) → nat_eq (usage_number other) (usage_number usage) ≡ false → points_in usage (map (row_of other) ps) ≡ []
unfolding points_in is_of
points_in-other usage other [] is = refl
points_in-other usage other (p ∷ ps) is = rw is (points_in-other usage other ps is)

abbrev at : Usage → List Entry → List ℕ → List Point
at usage es reach = listing es (usage_number usage) reach

in-four : (usage : Usage) (es : List Entry) (reach : List ℕ)
    → points_in usage (table_rows es reach) ≡ points_in usage (map (row_of Kernel) (at Kernel es reach))
    ++ (points_in usage (map (row_of Write) (at Write es reach)) ++ (points_in usage (map (row_of Read) (at Read es reach)) ++ points_in usage (map (row_of Bookkeep) (at Bookkeep es reach))))
in-four usage es reach =
    let k = rows_at es reach Kernel in
    let w = rows_at es reach Write in
    let r = rows_at es reach Read in
    let b = rows_at es reach Bookkeep in
    points_in-append usage k (w ++ (r ++ (b ++ [])))
    ∙ ap (λ ps. points_in usage k ++ ps) (points_in-append usage w (r ++ (b ++ [])) ∙ ap (λ ps. points_in usage w ++ ps) (points_in-append usage r (b ++ [])
    ∙ ap (λ ps. points_in usage r ++ ps) (ap (points_in usage) (append-nil b))))

points_in-table : (usage : Usage) (es : List Entry) (reach : List ℕ) → points_in usage (table_rows es reach) ≡ listing es (usage_number usage) reach
points_in-table Kernel es reach = in-four Kernel es reach ∙ rw (points_in-own Kernel (at Kernel es reach) refl, points_in-other Kernel Write (at Write es reach) refl, points_in-other Kernel Read (at Read es reach) refl, points_in-other Kernel Bookkeep (at Bookkeep es reach) refl) (append-nil (at Kernel es reach))
points_in-table Write es reach = in-four Write es reach ∙ rw (points_in-other Write Kernel (at Kernel es reach) refl, points_in-own Write (at Write es reach) refl, points_in-other Write Read (at Read es reach) refl, points_in-other Write Bookkeep (at Bookkeep es reach) refl) (append-nil (at Write es reach))
points_in-table Read es reach = in-four Read es reach ∙ rw (points_in-other Read Kernel (at Kernel es reach) refl, points_in-other Read Write (at Write es reach) refl, points_in-own Read (at Read es reach) refl, points_in-other Read Bookkeep (at Bookkeep es reach) refl) (append-nil (at Read es reach))
points_in-table Bookkeep es reach = in-four Bookkeep es reach ∙ rw (points_in-other Bookkeep Kernel (at Kernel es reach) refl, points_in-other Bookkeep Write (at Write es reach) refl, points_in-other Bookkeep Read (at Read es reach) refl, points_in-own Bookkeep (at Bookkeep es reach) refl) refl

-- beyond the weakest usage nothing more applies

applies-all : (u : Usage) (usage : ℕ) → 3 ≤ usage → nat_le (usage_number u) usage ≡ true
applies-all Kernel usage weak = le-leb 0 usage (omega arith)
applies-all Write usage weak = le-leb 1 usage (omega (arith, weak))
applies-all Read usage weak = le-leb 2 usage (omega (arith, weak))
applies-all Bookkeep usage weak = le-leb 3 usage (omega (arith, weak))

top-weak : (es : List Entry) (usage ctx : ℕ) → 3 ≤ usage → top es usage ctx ≡ top es 3 ctx
top-weak [] usage ctx weak = refl
top-weak (e ∷ es) usage ctx weak =
    ap (λ t. cond (nat_le (usage_number e.usage) usage && nat_eq e.point.ctx ctx) (later e.point.value t) t) (top-weak es usage ctx weak)
    ∙ ap (λ t. cond (t && nat_eq e.point.ctx ctx) (later e.point.value (top es 3 ctx)) (top es 3 ctx)) (applies-all e.usage usage weak ∙ sym (applies-all e.usage 3 (omega arith)))

pub AgreesAbove-rows : (reach : List ℕ) (es fs : List Entry) → HasContexts es → HasContexts fs → table_rows es reach ≡ table_rows fs reach → AgreesAbove reach es fs
AgreesAbove-rows reach es fs one two same = AgreesAbove-from_listing one two at
  where
    of : (usage : Usage) → listing es (usage_number usage) reach ≡ listing fs (usage_number usage) reach
    of usage = sym (points_in-table usage es reach) ∙ ap (points_in usage) same ∙ points_in-table usage fs reach

    weak : (es : List Entry) (usage : ℕ) → 3 ≤ usage → listing es usage reach ≡ listing es 3 reach
    weak es usage is = listing-same es es usage 3 reach reach (λ ctx low high. ap (pending (value_at reach ctx)) (top-weak es usage ctx is))

    at : (usage : ℕ) → listing es usage reach ≡ listing fs usage reach
    at zero = of Kernel
    at (suc zero) = of Write
    at (suc (suc zero)) = of Read
    at (suc (suc (suc n))) = weak es (suc (suc (suc n))) (omega arith) ∙ of Bookkeep ∙ sym (weak fs (suc (suc (suc n))) (omega arith))

-- the entries of a buffer

abbrev entries_in : Option Reservation → List Entry
entries_in o = unwrap_or (option_map (λ (t : Reservation). t.entries) o) []

contexts-of : (bs : List Buffer) (name : List ℕ) → All IsTable (values_of bs) → HasContexts (entries_of bs name)
contexts-of [] name all = All-nil (λ (e : Entry). (1 ≤ e.point.ctx) × (e.point.ctx ≤ CONTEXTS))
contexts-of (b ∷ bs) name all = elim (cases_Bool (same_name name b.0)) [
  | inl is ↦ subst (λ o. HasContexts (entries_in o)) (sym (lookup_head (same_name name) b bs is)) (All-head IsTable b.1 (values_of bs) all).contexts
  | inr isnt ↦ subst (λ o. HasContexts (entries_in o)) (sym (lookup_tail (same_name name) b bs isnt)) (contexts-of bs name (All-tail IsTable b.1 (values_of bs) all))
]

none-in : (o : Option Reservation) → is_some o ≡ false → entries_in o ≡ []
none-in None is = refl
none-in (Some t) is = absurd (true≢false is)

-- files by distinct names

not-same : (a b : List ℕ) → same_name b a ≡ false → same_name a b ≡ false
not-same a b isnt = elim (cases_Bool (same_name a b)) [
  | inl is ↦ absurd (false≢true (sym isnt ∙ ap (same_name b) (same_text a b (sym is)) ∙ nat_list_eq_equiv.refl b))
  | inr other ↦ other
]

none_more : (n : ℕ) → 0 + n ≡ n
none_more n = omega arith

none-counted : {X : Type 0} (name_of : X → List ℕ) (name : List ℕ) (xs : List X) → AllByRecursion (λ y. same_name name y ≡ false) (map name_of xs) → count_by (is_named name_of name) xs ≡ 0
none-counted name_of name [] apart = refl
none-counted name_of name (x ∷ xs) apart =
    sum_by-cons (λ z. cond (is_named name_of name z) 1 0) x xs
    ∙ ap (λ t. cond t 1 0 + count_by (is_named name_of name) xs) (not-same (name_of x) name apart.0)
    ∙ none_more (count_by (is_named name_of name) xs)
    ∙ none-counted name_of name xs apart.1

one-counted : {X : Type 0} (name_of : X → List ℕ) (name : List ℕ) (xs : List X) → IsDistinct same_name (map name_of xs) → count_by (is_named name_of name) xs ≡ cond (has_named name_of xs name) 1 0
one-counted name_of name [] distinct = refl
one-counted name_of name (x ∷ xs) distinct =
    sum_by-cons (λ z. cond (is_named name_of name z) 1 0) x xs ∙ elim (cases_Bool (is_named name_of name x)) [
      | inl is ↦ (
          let own : name_of x ≡ name = same_text (name_of x) name (sym is) in
          let apart = subst (λ n. AllByRecursion (λ y. same_name n y ≡ false) (map name_of xs)) own (IsDistinct-head same_name (name_of x) (map name_of xs) distinct) in
          ap (λ t. cond t 1 0 + count_by (is_named name_of name) xs) is ∙ ap (λ n. 1 + n) (none-counted name_of name xs apart)
          ∙ sym (ap (λ t. cond (t || has_named name_of xs name) 1 0) is))
      | inr isnt ↦ (
          ap (λ t. cond t 1 0 + count_by (is_named name_of name) xs) isnt
          ∙ none_more (count_by (is_named name_of name) xs)
          ∙ one-counted name_of name xs (IsDistinct-tail same_name (name_of x) (map name_of xs) distinct)
          ∙ sym (ap (λ t. cond (t || has_named name_of xs name) 1 0) isnt))
    ]

options-same : {X : Type 0} (none : List X) (o p : Option (List X)) → is_some o ≡ is_some p → unwrap_or o none ≡ unwrap_or p none → o ≡ p
options-same none None None some same = refl
options-same none None (Some y) some same = absurd (false≢true some)
options-same none (Some x) None some same = absurd (true≢false some)
options-same none (Some x) (Some y) some same = ap Some same

-- watches

no-watches : (reach : List ℕ) (ws : List Watch) → AllZip (IsWatchOf (λ (x : MadeWatch). x.cookie) (λ (x : MadeWatch). x.put) reach) ws [] → ws ≡ []
no-watches reach [] h = refl
no-watches reach (w ∷ ws) h = absurd h

none-alike : (reach : List ℕ) (ws vs : List Watch) → ws ≡ [] → vs ≡ [] → AllZip (WaitsAlike reach) ws vs
none-alike reach ws vs none other = rw (none, other) tt

-- what is seen of points

reached-past : (ts : List Timeline) (p : Point) → is_to_come ts p ≡ false → p.value ≤ value_at (reach_of ts) p.ctx
reached-past ts p is =
    let clock = clock_at (clocks_of ts) p.ctx in
    let signalled : is_signalled (status_at (clocks_of ts) p) ≡ true = not-false (is_signalled (status_at (clocks_of ts) p)) is in
    let low : nat_le p.value (reached_by clock) ≡ true = sym (is_signalled-of (nat_le p.value (reached_by clock)) (is_past_closing clock p.value)) ∙ signalled in
    subst (λ v. p.value ≤ v) (sym (value_at-reach_of_clocks (clocks_of ts) p.ctx)) (leb-true p.value (reached_by clock) low)

to_come-agree : (ts : List Timeline) (ps : List Point) → AgreesAbove (reach_of ts) (as_entries (filter (is_to_come ts) ps)) (as_entries ps)
to_come-agree ts [] = AgreesAbove-refl (reach_of ts) []
to_come-agree ts (p ∷ ps) = by (to_come-agree ts ps) (is_to_come ts p) refl
  where
    by : AgreesAbove (reach_of ts) (as_entries (filter (is_to_come ts) ps)) (as_entries ps) → (b : Bool) → is_to_come ts p ≡ b → AgreesAbove (reach_of ts) (as_entries (cond b (p ∷ filter (is_to_come ts) ps) (filter (is_to_come ts) ps))) (as_entries (p ∷ ps))
    by rest true is = AgreesAbove-append (AgreesAbove-refl (reach_of ts) (as_entries (p ∷ []))) rest
    by rest false is = AgreesAbove-trans rest (AgreesAbove-sym (AgreesAbove-signalled (reach_of ts) (as_entry p) (as_entries ps) (reached-past ts p is)))

abbrev seen : Bool → List Timeline → List Point → List Point
seen b ts ps = if b then ps else filter (is_to_come ts) ps

seen-agree : (b : Bool) (ts : List Timeline) (ps : List Point) → AgreesAbove (reach_of ts) (as_entries (seen b ts ps)) (as_entries ps)
seen-agree true ts ps = AgreesAbove-refl (reach_of ts) (as_entries ps)
seen-agree false ts ps = to_come-agree ts ps

pub all-seen : (b : Bool) (ts : List Timeline) (ps : List Point) → b ≡ true → seen b ts ps ≡ ps
all-seen true ts ps is = refl
all-seen false ts ps is = absurd (false≢true is)

pub part-seen : (b : Bool) (ts : List Timeline) (ps : List Point) → b ≡ false → seen b ts ps ≡ filter (is_to_come ts) ps
part-seen true ts ps is = absurd (false≢true (sym is))
part-seen false ts ps is = refl

pub none-seen : (b : Bool) (ts : List Timeline) (ps : List Point) → ps ≡ [] → seen b ts ps ≡ []
none-seen true ts ps none = none
none-seen false ts ps none = ap (filter (is_to_come ts)) none

-- what is the same of two desks whose looks are the same

module _ {asked : List ℕ → Bool} {a b : Look} {d e : DeskState} (one : Shows asked a d) (two : Shows asked b e) (same : AreSameLooks a b) where
  same_timelines : d.timelines ≡ e.timelines
  same_timelines = timelines-are d.timelines e.timelines (sym one.timelines ∙ same.timelines ∙ two.timelines)

  -- files

  file-there : (name : List ℕ) → Contains (file_names d.files) name → Contains (file_names e.files) name × (seen_points asked d name ≡ seen_points asked e name)
  file-there name h =
      let among : Contains a.files (file_look asked d name) = subst (λ fs. Contains fs (file_look asked d name)) (sym one.files) (Contains-map (file_look asked d) (file_names d.files) name h) in
      let there = All-contains (λ (f : FileLook). Contains b.files f) a.files (file_look asked d name) same.there among in
      let found = Contains-unmap (file_look asked e) (file_names e.files) (file_look asked d name) (subst (λ fs. Contains fs (file_look asked d name)) two.files there) in
      let is : found.0 ≡ name = ap (λ (f : FileLook). f.name) found.2 in
      (subst (Contains (file_names e.files)) is found.1, sym (ap (λ (f : FileLook). f.points) found.2) ∙ ap (seen_points asked e) is)

  file-here : (name : List ℕ) → Contains (file_names e.files) name → Contains (file_names d.files) name
  file-here name h =
      let among : Contains b.files (file_look asked e name) = subst (λ fs. Contains fs (file_look asked e name)) (sym two.files) (Contains-map (file_look asked e) (file_names e.files) name h) in
      let here = All-contains (λ (f : FileLook). Contains a.files f) b.files (file_look asked e name) same.here among in
      let found = Contains-unmap (file_look asked d) (file_names d.files) (file_look asked e name) (subst (λ fs. Contains fs (file_look asked e name)) one.files here) in
      subst (Contains (file_names d.files)) (ap (λ (f : FileLook). f.name) found.2) found.1

  listed : (fs : List File) (name : List ℕ) → list_any (same_name name) (file_names fs) ≡ has_file fs name
  listed fs name = has_named-names file_name fs name

  same_has : (name : List ℕ) → has_file d.files name ≡ has_file e.files name
  same_has name =
      bools-same (has_file d.files name) (has_file e.files name)
      (λ is. sym (listed e.files name) ∙ Contains-listed name (file_names e.files) (file-there name (listed-Contains name (file_names d.files) (listed d.files name ∙ is))).0)
      (λ is. sym (listed d.files name) ∙ Contains-listed name (file_names d.files) (file-here name (listed-Contains name (file_names e.files) (listed e.files name ∙ is))))

  abbrev points_of : List File → List ℕ → Option (List Point)
  points_of fs name = option_map (λ (f : File). f.points) (file_at fs name)

  some-mapped : (o : Option File) → is_some (option_map (λ (f : File). f.points) o) ≡ is_some o
  some-mapped None = refl
  some-mapped (Some f) = refl

  some-points : (fs : List File) (name : List ℕ) → is_some (points_of fs name) ≡ has_file fs name
  some-points fs name = some-mapped (file_at fs name) ∙ is_some-named file_name fs name

  none-points : (o : Option (List Point)) → is_some o ≡ false → unwrap_or o [] ≡ []
  none-points None is = refl
  none-points (Some ps) is = absurd (true≢false is)

  same_seen : (name : List ℕ) → seen_points asked d name ≡ seen_points asked e name
  same_seen name = elim (cases_Bool (has_file d.files name)) [
    | inl is ↦ (file-there name (listed-Contains name (file_names d.files) (listed d.files name ∙ is))).1
    | inr isnt ↦ none-seen (asked name) d.timelines (points_at d.files name) (none-points (points_of d.files name) (some-points d.files name ∙ isnt))
        ∙ sym (none-seen (asked name) e.timelines (points_at e.files name) (none-points (points_of e.files name) (some-points e.files name ∙ sym (same_has name) ∙ isnt)))
  ]

  same_files : (name : List ℕ) → AgreesAbove (reach_of d.timelines) (as_entries (points_at d.files name)) (as_entries (points_at e.files name))
  same_files name =
      let theirs : AgreesAbove (reach_of d.timelines) (as_entries (seen_points asked e name)) (as_entries (points_at e.files name)) =
      subst (λ (ts : List Timeline). AgreesAbove (reach_of ts) (as_entries (seen_points asked e name)) (as_entries (points_at e.files name))) (sym same_timelines)
      (seen-agree (asked name) e.timelines (points_at e.files name)) in
      AgreesAbove-trans (AgreesAbove-sym (seen-agree (asked name) d.timelines (points_at d.files name)))
      (AgreesAbove-trans (AgreesAbove-same (reach_of d.timelines) (ap as_entries (same_seen name))) theirs)

  same_lists : (name : List ℕ) → asked name ≡ true → points_of d.files name ≡ points_of e.files name
  same_lists name is =
      let points : points_at d.files name ≡ points_at e.files name =
      sym (all-seen (asked name) d.timelines (points_at d.files name) is) ∙ same_seen name ∙ all-seen (asked name) e.timelines (points_at e.files name) is in
      options-same [] (points_of d.files name) (points_of e.files name) (some-points d.files name ∙ same_has name ∙ sym (some-points e.files name)) points

  same_counts : (name : List ℕ) → count_by (is_named file_name name) d.files ≡ count_by (is_named file_name name) e.files
  same_counts name =
      one-counted file_name name d.files one.distinct ∙ ap (λ t. cond t 1 0) (same_has name) ∙ sym (one-counted file_name name e.files two.distinct)

  same_length : length d.files ≡ length e.files
  same_length =
      sym (length-map d.files file_name) ∙ sym (length-map (file_names d.files) (file_look asked d)) ∙ sym (ap length one.files)
      ∙ same.count ∙ ap length two.files ∙ length-map (file_names e.files) (file_look asked e) ∙ length-map e.files file_name

  -- buffers

  looked-names : (f : DeskState) (names : List (List ℕ)) → map (λ (k : BufferLook). k.name) (map (buffer_look f) names) ≡ names
  looked-names f [] = refl
  looked-names f (n ∷ names) = ap (λ ns. n ∷ ns) (looked-names f names)

  same_looks : map (buffer_look d) (buffer_names d.buffers) ≡ map (buffer_look e) (buffer_names e.buffers)
  same_looks = sym one.buffers ∙ same.buffers ∙ two.buffers

  same_names : buffer_names d.buffers ≡ buffer_names e.buffers
  same_names = sym (looked-names d (buffer_names d.buffers)) ∙ ap (map (λ (k : BufferLook). k.name)) same_looks ∙ looked-names e (buffer_names e.buffers)

  their-rows : (name : List ℕ) → Contains (buffer_names d.buffers) name → table_rows (entries_of d.buffers name) (reach_of d.timelines) ≡ table_rows (entries_of e.buffers name) (reach_of e.timelines)
  their-rows name h =
      let at = map-at (buffer_look d) (buffer_look e) (buffer_names d.buffers) name (same_looks ∙ ap (map (buffer_look e)) (sym same_names)) h in
      ap (λ (k : BufferLook). k.tops) at

  same_rows : (name : List ℕ) → Contains (buffer_names d.buffers) name → table_rows (entries_of d.buffers name) (reach_of d.timelines) ≡ table_rows (entries_of e.buffers name) (reach_of d.timelines)
  same_rows name h = their-rows name h ∙ ap (λ ts. table_rows (entries_of e.buffers name) (reach_of ts)) (sym same_timelines)

  same_has_buffer : (name : List ℕ) → has_buffer d.buffers name ≡ has_buffer e.buffers name
  same_has_buffer name = is_some-lookup (same_name name) d.buffers ∙ ap (list_any (same_name name)) same_names ∙ sym (is_some-lookup (same_name name) e.buffers)

  same_buffers : AreBuffers d.buffers → AreBuffers e.buffers → (name : List ℕ) → AgreesAbove (reach_of d.timelines) (entries_of d.buffers name) (entries_of e.buffers name)
  same_buffers kept kept' name = elim (cases_Bool (has_buffer d.buffers name)) [
    | inl is ↦ AgreesAbove-rows (reach_of d.timelines) (entries_of d.buffers name) (entries_of e.buffers name) (contexts-of d.buffers name kept.tables) (contexts-of e.buffers name kept'.tables)
        (same_rows name (listed-Contains name (buffer_names d.buffers) (sym (is_some-lookup (same_name name) d.buffers) ∙ is)))
    | inr isnt ↦ AgreesAbove-same (reach_of d.timelines) (none-in (table_at d.buffers name) isnt ∙ sym (none-in (table_at e.buffers name) (sym (same_has_buffer name) ∙ isnt)))
  ]

  pub LooksAlike-shown : AreBuffers d.buffers → AreBuffers e.buffers → d.watches.pending ≡ [] → e.watches.pending ≡ [] → d.watches.made ≡ e.watches.made → LooksAlike asked d e
  LooksAlike-shown kept kept' none none' made = record {
    timelines = same_timelines;
    file_counts = same_counts;
    files_made = same_length;
    files = same_files;
    lists = same_lists;
    buffer_names = same_names;
    buffers = same_buffers kept kept';
    watches = none-alike (reach_of d.timelines) d.watches.pending e.watches.pending none none';
    watches_made = made;
  }

-- states that are the same go on alike
pub same-state : {plan : Lines} {depth deeper : ℕ} → CanBeExplored plan → (a b : Seen) → IsSeen plan depth a → IsSeen plan deeper b → AreSameSeen a b
    → GoOnAlike (is_asked plan) (standing_at plan a.state) (standing_at plan b.state)
same-state {plan} can a b one two same =
    let none = no_watches-of (standing_at plan a.state).history (none-comes plan can a.state.schedule.items (standing_at plan a.state) one.state.comes.leads) in
    let none' = no_watches-of (standing_at plan b.state).history (none-comes plan can b.state.schedule.items (standing_at plan b.state) two.state.comes.leads) in
    let h = one.history.holds in
    let k = two.history.holds in
    let empty : one.desk.watches.pending ≡ [] = no-watches _ one.desk.watches.pending (subst (AllZip (IsWatchOf (λ (x : MadeWatch). x.cookie) (λ (x : MadeWatch). x.put) (reach_of (world_of (standing_at plan a.state).history).timelines)) one.desk.watches.pending) none.watches h.watches) in
    let empty' : two.desk.watches.pending ≡ [] = no-watches _ two.desk.watches.pending (subst (AllZip (IsWatchOf (λ (x : MadeWatch). x.cookie) (λ (x : MadeWatch). x.put) (reach_of (world_of (standing_at plan b.state).history).timelines)) two.desk.watches.pending) none'.watches k.watches) in
    let looks = LooksAlike-shown one.look two.look same.look h.kept k.kept empty empty' (h.watches_made ∙ none.made ∙ sym (k.watches_made ∙ none'.made)) in
    record {
      made = sym one.state.made ∙ same.made ∙ two.state.made;
      worlds = alike-looks (Keeps-stands one.history) (Keeps-stands two.history) looks;
    }
