-- Looks at the places of a board, one after another.
use Rattle.std.proofs.Common.{◌≡◌, ◌≢◌, ℕ, zero, suc, ◌+◌, ◌-◌, ◌<◌, ◌≤◌, ◌==◌, Bool, if◌then◌else◌, max, nat_lt, Option, None, Some, All, List, [], ◌∷◌, ◌++◌, map, refl, sym, ap, ◌∙◌, subst, inl, inr, append_assoc, append-nil, le_trans, arith, Result, Ok, Err, IfOk}
use Rattle.std.specs.Prelude.{option_map}
use Rattle.std.specs.List.{cons_option, filter_map, flat_map, range_with_len}
use Rattle.std.proofs.lemmas.Bool.{cases_Bool, cases_lt, le-leb, le-ltb, lt-ltb}
use Rattle.std.proofs.lemmas.Grind.{flat_map-append}
use Rattle.std.proofs.lemmas.List.{map-append, map-id}
use Rattle.std.proofs.lemmas.List.FromFn.{map-range_with_len_more}
use Rattle.std.proofs.lemmas.List.Elements.{All-append, All-cons, All-nil, All-weaker}
use Rattle.point_core.specs.declared.clocks.Clock.{Clock}
use Rattle.point_core.specs.declared.context.TheConstants.{CONTEXTS}
use Rattle.point_core.specs.declared.entry.Point.{Point}
use Rattle.point_core.specs.declared.entry.Entry.{Entry}
use Rattle.point_core.specs.declared.entry.Usage.{Usage}
use Rattle.point_core.specs.declared.listing.Listing.{Listing}
use Rattle.point_core.specs.declared.refusal.Refusal.{Refusal}
use Rattle.point_core.specs.Agreement.{AllAbove, HasRisingContexts, listing, pending, point_of, top}
use Rattle.point_core.specs.Latest.{raised_to as later_value}
use Rattle.point_core.specs.Reach.{value_at}
use Rattle.point_core.specs.Usage.{usage_number}
use Rattle.point_core.proofs.Agreement.{listing-contexts}
use Rattle.point_core.proofs.Latest.{applies-true, raised_to-top-append}
use Rattle.point_core.proofs.Listings.{filter_map-contexts, filter_map-range_more, filter_map-range_same}
use Rattle.words_core.specs.declared.trace.Step.{Step}
use Rattle.words_core.specs.theorem.Loads.{HasLoadedAll, clock_seen, loads_at, loads_of}
use Rattle.words_core.specs.theorem.Seat.{SeatModel, raised_to, seen, with_step, with_steps}
use Rattle.words_core.specs.theorem.Trace.{load, on, raised, shown, total}
use Rattle.words_core.specs.theorem.Layout.{mark_word, value_word}
use Rattle.words_core.specs.theorem.Words.{WordsModel}
use Rattle.words_core.proofs.Seen.{seen_stays}
use Rattle.words_core.proofs.Traces.{on-append, raised-append}
use Rattle.resv_core.specs.Shared.{HasLoadedOnce, is_load}
use Rattle.clients_core.proofs.Gathering.{raised-load, raised-steps}
use Rattle.clients_core.specs.Board.{Place, HasListed, HasLooked, HasShown, IsNoLess, look_at, pending_point, place_of, place_to, places_at, places_to, word_at}
use Rattle.clients_core.proofs.Apart.{filter_map-range_rest, top-after, top-before, top-past}

pub place_to-within : (level usage : Usage) (ctx : ℕ) → usage_number usage ≤ usage_number level → place_to level ctx usage ≡ (ctx, usage) ∷ []
place_to-within level usage ctx low = ap (λ b. if b then (ctx, usage) ∷ [] else []) (le-leb (usage_number usage) (usage_number level) low)

-- looks raise nothing

raised-shown : (w k value : ℕ) → raised (on w (shown k value ∷ [])) ≡ 0
raised-shown w k value = elim (cases_Bool (k == w)) [
  | inl is ↦ rw is refl
  | inr not ↦ rw not refl
]

raised-looks : (words : WordsModel) (buffer w : ℕ) (es : List Entry) → raised (on w (map (look_at words buffer) es)) ≡ 0
raised-looks words buffer w [] = refl
raised-looks words buffer w (e ∷ es) =
    let first = raised-shown w (word_at words buffer (place_of e)) e.point.value in
    let rest = raised-looks words buffer w es in
    let looks = map (look_at words buffer) es in
    ap raised (on-append w (look_at words buffer e ∷ []) looks) ∙ raised-append (on w (look_at words buffer e ∷ [])) (on w looks) ∙ (omega (arith, first, rest))

pub raised_to-looks : (words : WordsModel) (buffer w : ℕ) (seat : SeatModel) (es : List Entry) → raised_to (with_steps seat (map (look_at words buffer) es)) w ≡ raised_to seat w
raised_to-looks words buffer w seat es =
    let looks = map (look_at words buffer) es in
    let none = raised-looks words buffer w es in
    ap raised (on-append w seat.trace looks) ∙ raised-append (on w seat.trace) (on w looks) ∙ (omega (arith, none))

-- a seat that has made more steps, none of them a raise of the place, knows no less of it
IsNoLess-before : (words : WordsModel) (buffer : ℕ) (first middle : SeatModel) (steps : List Step) (e : Entry) → middle ≡ with_steps first steps → raised_to middle (word_at words buffer (place_of e)) ≡ raised_to first (word_at words buffer (place_of e)) → IsNoLess words buffer middle e → IsNoLess words buffer first e
IsNoLess-before words buffer first middle steps e entered same own =
    let w = word_at words buffer (place_of e) in
    let stays : seen first w ≤ seen middle w = subst (λ (s : SeatModel). seen first w ≤ seen s w) (sym entered) (seen_stays first w steps) in
    record {
      seen_there = le_trans stays own.seen_there;
      raised = subst (λ n. n ≤ e.point.value) same own.raised;
    }

-- no place, one place, and one list of places after another

pub HasShown-none : (words : WordsModel) (buffer level ctx : ℕ) (seat : SeatModel) (value : ℕ) → HasShown words buffer level ctx [] seat seat value value
HasShown-none words buffer level ctx seat value = record {
  entries = [];
  at = refl;
  steps = ap (λ (steps : List Step). record seat { trace = steps }) (sym (append-nil seat.trace));
  contexts = All-nil (λ (e : Entry). e.point.ctx ≡ ctx);
  latest = refl;
  own = All-nil (IsNoLess words buffer seat);
}

pub HasShown-one : (words : WordsModel) (buffer level : ℕ) (e : Entry) (before after : SeatModel) (old new : ℕ) → after ≡ with_step before (look_at words buffer e) → usage_number e.usage ≤ level → new ≡ max old e.point.value → IsNoLess words buffer before e → HasShown words buffer level e.point.ctx (place_of e ∷ []) before after old new
HasShown-one words buffer level e before after old new step low later own = record {
  entries = e ∷ [];
  at = refl;
  steps = step;
  contexts = All-cons (λ (f : Entry). f.point.ctx ≡ e.point.ctx) e [] refl (All-nil (λ (f : Entry). f.point.ctx ≡ e.point.ctx));
  latest = later ∙ ap (λ (b : Bool). later_value old (if b then Some e.point.value else None)) (sym (applies-true e level e.point.ctx low refl));
  own = All-cons (IsNoLess words buffer before) e [] own (All-nil (IsNoLess words buffer before));
}

-- what a place shows is no less than what the seat knew of it, also by a seat that has looked since
own-later : (words : WordsModel) (buffer : ℕ) (first middle : SeatModel) (es fs : List Entry) → middle ≡ with_steps first (map (look_at words buffer) es) → All (IsNoLess words buffer middle) fs → All (IsNoLess words buffer first) fs
own-later words buffer first middle es fs steps own =
    All-weaker (IsNoLess words buffer middle) (IsNoLess words buffer first)
    (λ e own.
    let w = word_at words buffer (place_of e) in
    IsNoLess-before words buffer first middle (map (look_at words buffer) es) e steps (ap (λ (s : SeatModel). raised_to s w) steps ∙ raised_to-looks words buffer w first es) own)
    fs
    own

steps-append : (words : WordsModel) (buffer : ℕ) (first middle last : SeatModel) (es fs : List Entry) → middle ≡ with_steps first (map (look_at words buffer) es) → last ≡ with_steps middle (map (look_at words buffer) fs) → last ≡ with_steps first (map (look_at words buffer) (es ++ fs))
steps-append words buffer first middle last es fs before after =
    let look = look_at words buffer in
    after
    ∙ ap (λ (s : SeatModel). with_steps s (map look fs)) before
    ∙ ap (λ (steps : List Step). record first { trace = steps }) (append_assoc first.trace (map look es) (map look fs))
    ∙ ap (λ (steps : List Step). with_steps first steps) (sym (map-append look es fs))

places-append : (es fs : List Entry) (ps qs : List Place) → map place_of es ≡ ps → map place_of fs ≡ qs → map place_of (es ++ fs) ≡ ps ++ qs
places-append es fs ps qs before after = map-append place_of es fs ∙ ap (λ (rest : List Place). map place_of es ++ rest) after ∙ ap (λ (start : List Place). start ++ qs) before

pub HasShown-append : {words : WordsModel} {buffer level ctx : ℕ} {ps qs : List Place} {first middle last : SeatModel} {old between new : ℕ} → HasShown words buffer level ctx ps first middle old between → HasShown words buffer level ctx qs middle last between new → HasShown words buffer level ctx (ps ++ qs) first last old new
HasShown-append {words} {buffer} {level} {ctx} {ps} {qs} {first} {middle} {last} {old} {between} {new} h k = record {
  entries = h.entries ++ k.entries;
  at = places-append h.entries k.entries ps qs h.at k.at;
  steps = steps-append words buffer first middle last h.entries k.entries h.steps k.steps;
  contexts = All-append (λ (e : Entry). e.point.ctx ≡ ctx) h.entries k.entries h.contexts k.contexts;
  latest = k.latest ∙ ap (λ (v : ℕ). later_value v (top k.entries level ctx)) h.latest ∙ sym (raised_to-top-append old h.entries k.entries level ctx);
  own = All-append (IsNoLess words buffer first) h.entries k.entries h.own (own-later words buffer first middle h.entries k.entries h.steps k.own);
}

-- the places of one more context
pub places_to-more : (level : Usage) (n ctx : ℕ) → ctx ≡ n + 1 → places_to level (n + 1) ≡ places_to level n ++ places_at level ctx
places_to-more level n ctx is =
    ap (flat_map (places_at level)) (range-more n ctx is)
    ∙ flat_map-append (places_at level) (range_with_len 1 n) (ctx ∷ [])
    ∙ ap (λ (ps : List Place). places_to level n ++ ps) (append-nil (places_at level ctx))
  where
    range-more : (n ctx : ℕ) → ctx ≡ n + 1 → range_with_len 1 (n + 1) ≡ range_with_len 1 n ++ ctx ∷ []
    range-more n ctx is = sym (map-id (range_with_len 1 (n + 1))) ∙ map-range_with_len_more (λ (k : ℕ). k) 1 n ctx (omega arith) ∙ ap (λ (ks : List ℕ). ks ++ ctx ∷ []) (map-id (range_with_len 1 n))

-- loads raise nothing
raised-loads_at : (w ctx : ℕ) (clock : Clock) → raised (on w (loads_at ctx clock)) ≡ 0
raised-loads_at w ctx clock =
    let mark = load (mark_word ctx) 0 in
    let value = load (value_word ctx) clock.value in
    elim (cases_Bool clock.closed) [
      | inl is ↦ rw is (raised-load w (mark_word ctx) (clock.value + 1))
      | inr not ↦
          let first = raised-load w (mark_word ctx) 0 in
          let second = raised-load w (value_word ctx) clock.value in
          rw not (raised-steps w (mark ∷ []) (value ∷ []) ∙ (omega (arith, first, second)))
    ]

raised-loads : (w : ℕ) (clocks : ℕ → Clock) (n : ℕ) → raised (on w (loads_of clocks n)) ≡ 0
raised-loads w clocks zero = refl
raised-loads w clocks (suc n) =
    let rest = raised-loads w clocks n in
    let last = raised-loads_at w (suc n) (clocks (suc n)) in
    raised-steps w (loads_of clocks n) (loads_at (suc n) (clocks (suc n))) ∙ (omega (arith, rest, last))

raised_to-loads : (seat : SeatModel) (w : ℕ) (clocks : ℕ → Clock) (n : ℕ) → raised_to (with_steps seat (loads_of clocks n)) w ≡ raised_to seat w
raised_to-loads seat w clocks n =
    let none = raised-loads w clocks n in
    raised-steps w seat.trace (loads_of clocks n) ∙ (omega (arith, none))

-- the looks at one context after another

pub HasListed-none : (words : WordsModel) (buffer : ℕ) (level : Usage) (seat : SeatModel) (reach : List ℕ) → HasListed words buffer level 0 seat seat reach []
HasListed-none words buffer level seat reach = record {
  entries = [];
  at = refl;
  steps = ap (λ (steps : List Step). record seat { trace = steps }) (sym (append-nil seat.trace));
  within = All-nil (λ (e : Entry). e.point.ctx ≤ 0);
  pending = refl;
  own = All-nil (IsNoLess words buffer seat);
}

-- the point of a context, if it is above the value
abbrev pub point_if_above : ℕ → ℕ → ℕ → Option Point
point_if_above reached ctx value = if nat_lt reached value then Some (point_of ctx value) else None

pending-later : (value ctx : ℕ) (t : Option ℕ) → point_if_above value ctx (later_value value t) ≡ option_map (point_of ctx) (pending value t)
pending-later value ctx None = rw (le-ltb value value (omega arith)) refl
pending-later value ctx (Some p) = elim (cases_lt value p) [
  | inl above ↦ let is : max value p ≡ p = omega arith in rw (is, lt-ltb value p above) refl
  | inr below ↦ let is : max value p ≡ value = omega arith in rw (is, le-ltb value value (omega arith), le-ltb value p below) refl
]

pending-more : (reach : List ℕ) (level n ctx value : ℕ) (es fs : List Entry) → ctx ≡ n + 1 → All (λ e. e.point.ctx ≤ n) es → All (λ e. e.point.ctx ≡ ctx) fs → value ≡ later_value (value_at reach ctx) (top fs level ctx) → filter_map (pending_point reach es level) (range_with_len 1 n) ++ cons_option (point_if_above (value_at reach ctx) ctx value) [] ≡ filter_map (pending_point reach (es ++ fs) level) (range_with_len 1 (n + 1))
pending-more reach level n ctx value es fs is within here latest =
    let both = pending_point reach (es ++ fs) level in
    let next : suc n ≡ n + 1 = omega arith in
    let at : 1 + n ≡ ctx = omega arith in
    let others : filter_map both (range_with_len 1 n) ≡ filter_map (pending_point reach es level) (range_with_len 1 n) =
    filter_map-range_same both (pending_point reach es level) 1 n
    (λ k low high. ap (λ (t : Option ℕ). option_map (point_of k) (pending (value_at reach k) t)) (top-before es fs level k (All-weaker (λ (e : Entry). e.point.ctx ≡ ctx) (λ (e : Entry). e.point.ctx ≢ k) (λ e own same. absurd (omega arith)) fs here))) in
    let last : both ctx ≡ point_if_above (value_at reach ctx) ctx value =
    ap (λ (t : Option ℕ). option_map (point_of ctx) (pending (value_at reach ctx) t)) (top-after es fs level ctx (All-weaker (λ (e : Entry). e.point.ctx ≤ n) (λ (e : Entry). e.point.ctx ≢ ctx) (λ e low same. absurd (omega arith)) es within))
    ∙ sym (pending-later (value_at reach ctx) ctx (top fs level ctx))
    ∙ ap (point_if_above (value_at reach ctx) ctx) (sym latest) in
    ap (λ (ps : List Point). ps ++ cons_option (point_if_above (value_at reach ctx) ctx value) []) (sym others)
    ∙ ap (λ (o : Option Point). filter_map both (range_with_len 1 n) ++ cons_option o []) (sym (ap both at ∙ last))
    ∙ sym (filter_map-range_more both 1 n)
    ∙ ap (λ (k : ℕ). filter_map both (range_with_len 1 k)) next

pub HasListed-more : {words : WordsModel} {buffer : ℕ} {level : Usage} {n ctx : ℕ} {first middle last : SeatModel} {reach : List ℕ} {points : List Point} {value : ℕ} → ctx ≡ n + 1 → HasListed words buffer level n first middle reach points → HasShown words buffer (usage_number level) ctx (places_at level ctx) middle last (value_at reach ctx) value → HasListed words buffer level (n + 1) first last reach (points ++ cons_option (point_if_above (value_at reach ctx) ctx value) [])
HasListed-more {words} {buffer} {level} {n} {ctx} {first} {middle} {last} {reach} {points} {value} is h k = record {
  entries = h.entries ++ k.entries;
  at = places-append h.entries k.entries (places_to level n) (places_at level ctx) h.at k.at ∙ sym (places_to-more level n ctx is);
  steps = steps-append words buffer first middle last h.entries k.entries h.steps k.steps;
  within =
      All-append (λ (e : Entry). e.point.ctx ≤ n + 1) h.entries k.entries
      (All-weaker (λ (e : Entry). e.point.ctx ≤ n) (λ (e : Entry). e.point.ctx ≤ n + 1) (λ e low. omega arith) h.entries h.within)
      (All-weaker (λ (e : Entry). e.point.ctx ≡ ctx) (λ (e : Entry). e.point.ctx ≤ n + 1) (λ e own. omega arith) k.entries k.contexts);
  pending =
      ap (λ (ps : List Point). ps ++ cons_option (point_if_above (value_at reach ctx) ctx value) []) h.pending
      ∙ pending-more reach (usage_number level) n ctx value h.entries k.entries is h.within k.contexts k.latest;
  own = All-append (IsNoLess words buffer first) h.entries k.entries h.own (own-later words buffer first middle h.entries k.entries h.steps k.own);
}

-- a later point is pushed, and none is where it is not later

pub HasListed-pushed : {words : WordsModel} {buffer : ℕ} {level : Usage} {n ctx : ℕ} {first middle last : SeatModel} {reach : List ℕ} {points : List Point} {value : ℕ} → ctx ≡ n + 1 → value_at reach ctx < value → HasListed words buffer level n first middle reach points → HasShown words buffer (usage_number level) ctx (places_at level ctx) middle last (value_at reach ctx) value → HasListed words buffer level (n + 1) first last reach (points ++ point_of ctx value ∷ [])
HasListed-pushed {words} {buffer} {level} {n} {ctx} {first} {middle} {last} {reach} {points} {value} is above h k =
    let one = ap (λ (b : Bool). points ++ cons_option (if b then Some (point_of ctx value) else None) []) (lt-ltb (value_at reach ctx) value above) in
    subst (HasListed words buffer level (n + 1) first last reach) one (HasListed-more is h k)

pub HasListed-reached : {words : WordsModel} {buffer : ℕ} {level : Usage} {n ctx : ℕ} {first middle last : SeatModel} {reach : List ℕ} {points : List Point} {value : ℕ} → ctx ≡ n + 1 → value ≤ value_at reach ctx → HasListed words buffer level n first middle reach points → HasShown words buffer (usage_number level) ctx (places_at level ctx) middle last (value_at reach ctx) value → HasListed words buffer level (n + 1) first last reach points
HasListed-reached {words} {buffer} {level} {n} {ctx} {first} {middle} {last} {reach} {points} {value} is reached h k =
    let none = ap (λ (b : Bool). points ++ cons_option (if b then Some (point_of ctx value) else None) []) (le-ltb (value_at reach ctx) value reached) in
    subst (HasListed words buffer level (n + 1) first last reach) (none ∙ append-nil points) (HasListed-more is h k)

-- the points of all contexts that there are, as a listing
listing-within : (reach : List ℕ) (level n : ℕ) (es : List Entry) → n ≤ CONTEXTS → All (λ e. e.point.ctx ≤ n) es → filter_map (pending_point reach es level) (range_with_len 1 n) ≡ listing es level reach
listing-within reach level n es few within =
    let all : n + (CONTEXTS - n) ≡ CONTEXTS = omega arith in
    sym (filter_map-range_rest (pending_point reach es level) n (CONTEXTS - n) (λ k past. ap (λ (t : Option ℕ). option_map (point_of k) (pending (value_at reach k) t)) (top-past es level n k past within)))
    ∙ filter_map-contexts (pending_point reach es level) (n + (CONTEXTS - n)) all

-- the loads, then the looks, and the listing of what these showed
pub HasLooked-listed : (words : WordsModel) (buffer : ℕ) (level : Usage) (first middle last : SeatModel) (listed : Listing) → words.contexts ≤ CONTEXTS → HasLoadedAll first middle listed.floor → HasListed words buffer level words.contexts middle last listed.floor listed.points → HasLooked words buffer level first last listed
HasLooked-listed words buffer level first middle last listed few loaded h = record {
  seat = middle;
  loaded = loaded;
  entries = h.entries;
  at = h.at;
  steps = h.steps;
  points = h.pending ∙ listing-within listed.floor (usage_number level) words.contexts h.entries few h.within;
  own =
      All-weaker (IsNoLess words buffer middle) (IsNoLess words buffer first)
      (λ e own.
      let w = word_at words buffer (place_of e) in
      let n = first.words.contexts in
      let clocks = clock_seen middle in
      IsNoLess-before words buffer first middle (loads_of clocks n) e loaded.entered (ap (λ (s : SeatModel). raised_to s w) loaded.entered ∙ raised_to-loads first w clocks n) own)
      h.entries
      h.own;
}

-- of points that are the same
pub HasLooked-same : {words : WordsModel} {buffer : ℕ} {level : Usage} {first last : SeatModel} (floor : List ℕ) {points others : List Point} → others ≡ points → HasLooked words buffer level first last (record { points = points; floor = floor }) → HasLooked words buffer level first last (record { points = others; floor = floor })
HasLooked-same {words} {buffer} {level} {first} {last} floor {points} {others} same h = subst (λ (ps : List Point). HasLooked words buffer level first last (record { points = ps; floor = floor })) (sym same) h

-- one look at any word
pub raised_to-shown : (seat : SeatModel) (w k value : ℕ) → raised_to (with_step seat (shown k value)) w ≡ raised_to seat w
raised_to-shown seat w k value =
    let none = raised-shown w k value in
    ap raised (on-append w seat.trace (shown k value ∷ [])) ∙ raised-append (on w seat.trace) (on w (shown k value ∷ [])) ∙ (omega (arith, none))

-- looks load nothing
no-loads : (words : WordsModel) (buffer : ℕ) (es : List Entry) → total is_load (map (look_at words buffer) es) ≡ 0
no-loads words buffer [] = refl
no-loads words buffer (e ∷ es) = let rest = no-loads words buffer es in omega (arith, rest)

-- of every answer: each value was loaded once
pub HasLoadedOnce-looked : (words : WordsModel) (buffer : ℕ) (level : Usage) (before after : SeatModel) (answer : Result Listing Refusal) → IfOk answer (λ l. HasLooked words buffer level before after l) → IfOk answer (λ l. HasLoadedOnce l.floor before after)
HasLoadedOnce-looked words buffer level before after (Ok l) h = record {
  seat = h.seat;
  loaded = h.loaded;
  steps = map (look_at words buffer) h.entries;
  entered = h.steps;
  none = no-loads words buffer h.entries;
}
HasLoadedOnce-looked words buffer level before after (Err e) h = tt

-- what is listed rises by context
pub HasRisingContexts-looked : (words : WordsModel) (buffer : ℕ) (level : Usage) (before after : SeatModel) (answer : Result Listing Refusal) → IfOk answer (λ l. HasLooked words buffer level before after l) → IfOk answer (λ l. HasRisingContexts l.points)
HasRisingContexts-looked words buffer level before after (Ok l) h = subst HasRisingContexts (sym h.points) (listing-contexts h.entries (usage_number level) l.floor).0
HasRisingContexts-looked words buffer level before after (Err e) h = tt

-- and is pending
pub AllAbove-looked : (words : WordsModel) (buffer : ℕ) (level : Usage) (before after : SeatModel) (answer : Result Listing Refusal) → IfOk answer (λ l. HasLooked words buffer level before after l) → IfOk answer (λ l. AllAbove l.floor l.points)
AllAbove-looked words buffer level before after (Ok l) h = subst (AllAbove l.floor) (sym h.points) (listing-contexts h.entries (usage_number level) l.floor).2
AllAbove-looked words buffer level before after (Err e) h = tt
