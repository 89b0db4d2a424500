-- The status of points after a later load of all clocks.
use Rattle.std.proofs.Common.{◌≡◌, ◌≢◌, ℕ, ◌+◌, ◌-◌, ◌≤◌, Bool, true, false, not, ◌||◌, nat_le, List, [], ◌∷◌, refl, sym, ap, ◌∙◌, subst, inl, inr, arith}
use Rattle.std.specs.List.{list_all}
use Rattle.std.proofs.lemmas.Bool.{le-leb, leb-true, cases_lt, and_parts, and_from}
use Rattle.std.proofs.lemmas.List.{get_or_past}
use mathlib.Core.Logic.{dite}
use native.Mathlib.Decide.{ℕ_discrete}
use Rattle.point_core.specs.declared.clocks.Clock.{Clock}
use Rattle.point_core.specs.declared.context.TheConstants.{CONTEXTS}
use Rattle.point_core.specs.declared.entry.Point.{Point}
use Rattle.point_core.specs.declared.status.Status.TheVariants.{Active}
use Rattle.point_core.specs.Clocks.{clock_of, new_clock, clock_at, reached_by, reach_of_clocks, is_past_closing, is_cancelled, some_cancelled, status_of, common_status}
use Rattle.point_core.specs.Reach.{is_reached, value_at}
use Rattle.point_core.proofs.Ticking.{value_at-reach_of_clocks, status_of-not_active}
use Rattle.words_core.specs.theorem.Layout.{value_word, mark_word}
use Rattle.words_core.specs.theorem.Seat.{SeatModel, seen}
use Rattle.words_core.specs.theorem.Words.{WordsModel}
use Rattle.words_core.specs.theorem.Loads.{clock_marked, clock_seen, known_clock, clocks_seen, reach_seen, KeepsClosing, HasLoadedAll}
use Rattle.words_core.proofs.Loads.{kept-loaded}
use Rattle.words_core.proofs.LoadingAll.{clock_marked-closed, at-contexts, length-contexts, known_clock-within, known_clock-past, reach_seen-is}

-- a closed clock stays as it is, and one closes at no less than its value
record Follows (before after : Clock) : Type 0 where
  pub stays : before.closed ≡ true → after ≡ before
  pub last : after.closed ≡ true → before.value ≤ after.value

Follows-same : (clock : Clock) → Follows clock clock
Follows-same clock = record {
  stays = λ _. refl;
  last = λ _. omega arith;
}

Follows-is : {a b c d : Clock} → a ≡ c → b ≡ d → Follows c d → Follows a b
Follows-is {a} {b} {c} {d} before after h = subst (λ k. Follows k b) (sym before) (subst (Follows c) (sym after) h)

-- of one context of the words

marked_value : (m v : ℕ) → m ≡ 0 → (clock_marked m v).value ≡ v
marked_value m v none = ap (λ (k : ℕ). (clock_marked k v).value) none

marked_closed : (m v : ℕ) → m ≢ 0 → (clock_marked m v).closed ≡ true
marked_closed m v some = ap (λ (k : Clock). k.closed) (clock_marked-closed m v (omega arith))

Follows-seen : (before after : SeatModel) (ctx : ℕ) → KeepsClosing before after ctx → Follows (clock_seen before ctx) (clock_seen after ctx)
Follows-seen before after ctx h = record {
  stays = h.stays;
  last = λ closed.
      let mark : ℕ = seen before (mark_word ctx) in
      let value : ℕ = seen before (value_word ctx) in
      dite (ℕ_discrete mark 0)
      (λ none. let is = marked_value mark value none in let low = h.last closed in omega arith)
      (λ some. let is = ap (λ (k : Clock). k.value) (h.stays (marked_closed mark value some)) in omega arith);
}

-- of any context

Follows-known : (before after : SeatModel) (ctx : ℕ) → after.words ≡ before.words → (ctx ≤ before.words.contexts → KeepsClosing before after ctx) → Follows (known_clock before ctx) (known_clock after ctx)
Follows-known before after ctx own h =
    let count : after.words.contexts ≡ before.words.contexts = ap (λ (w : WordsModel). w.contexts) own in
    elim (cases_lt before.words.contexts ctx) [
      | inl past ↦ Follows-is (known_clock-past before ctx past) (known_clock-past after ctx (omega arith)) (Follows-same new_clock)
      | inr inside ↦ Follows-is (known_clock-within before ctx inside) (known_clock-within after ctx (omega arith)) (Follows-seen before after ctx (h inside))
    ]

Follows-loaded : {before after : SeatModel} {reach : List ℕ} → HasLoadedAll before after reach → (ctx : ℕ) → Follows (clock_at (clocks_seen before) ctx) (clock_at (clocks_seen after) ctx)
Follows-loaded {before} {after} h ctx = elim (cases_lt (ctx - 1) CONTEXTS) [
  | inl low ↦
      Follows-is (at-contexts (known_clock before) new_clock CONTEXTS (ctx - 1) refl low) (at-contexts (known_clock after) new_clock CONTEXTS (ctx - 1) refl low)
      (Follows-known before after (ctx - 1 + 1) (kept-loaded h).0 (h.closings (ctx - 1 + 1) (omega arith)))
  | inr beyond ↦
      Follows-is
      (get_or_past (clocks_seen before) (ctx - 1) new_clock (let l = length-contexts (known_clock before) CONTEXTS refl in omega arith))
      (get_or_past (clocks_seen after) (ctx - 1) new_clock (let l = length-contexts (known_clock after) CONTEXTS refl in omega arith))
      (Follows-same new_clock)
]

reaches_more : {before after : SeatModel} {reach : List ℕ} → HasLoadedAll before after reach → (ctx : ℕ) → value_at (reach_of_clocks (clocks_seen before)) ctx ≤ value_at (reach_of_clocks (clocks_seen after)) ctx
reaches_more {before} {after} h ctx =
    let now : value_at (reach_of_clocks (clocks_seen after)) ctx ≡ value_at (reach_seen after) ctx = ap (λ r. value_at r ctx) (reach_seen-is after) in
    let was : value_at (reach_of_clocks (clocks_seen before)) ctx ≡ value_at (reach_seen before) ctx = ap (λ r. value_at r ctx) (reach_seen-is before) in
    let found = ap (λ r. value_at r ctx) h.found in
    let later = h.later.values ctx in
    omega arith

-- a point that is reached

past_same : (closed closes : Bool) (x y v : ℕ) → (closed ≡ true → clock_of y closes ≡ clock_of x closed) → (closes ≡ true → x ≤ y) → nat_le v (reached_by (clock_of x closed)) ≡ true
    → is_past_closing (clock_of y closes) v ≡ is_past_closing (clock_of x closed) v
past_same true closes x y v stays last reached = ap (λ (k : Clock). is_past_closing k v) (stays refl)
past_same false false x y v stays last reached = refl
past_same false true x y v stays last reached =
    let low : v ≤ x = leb-true v x reached in
    let more : x ≤ y = last refl in
    ap not (le-leb v y (omega arith))

stays_cancelled : (clocks later : List Clock) (p : Point) → Follows (clock_at clocks p.ctx) (clock_at later p.ctx) → is_reached (reach_of_clocks clocks) p ≡ true → is_cancelled later p ≡ is_cancelled clocks p
stays_cancelled clocks later p h reached =
    let was : Clock = clock_at clocks p.ctx in
    let now : Clock = clock_at later p.ctx in
    past_same was.closed now.closed was.value now.value p.value h.stays h.last (ap (nat_le p.value) (sym (value_at-reach_of_clocks clocks p.ctx)) ∙ reached)

-- points that are all reached

all_stay : (clocks later : List Clock) (ps : List Point) → ((ctx : ℕ) → Follows (clock_at clocks ctx) (clock_at later ctx)) → ((ctx : ℕ) → value_at (reach_of_clocks clocks) ctx ≤ value_at (reach_of_clocks later) ctx) → list_all (is_reached (reach_of_clocks clocks)) ps ≡ true
    → (list_all (is_reached (reach_of_clocks later)) ps ≡ true) × (some_cancelled later ps ≡ some_cancelled clocks ps)
all_stay clocks later [] follows more all = (refl, refl)
all_stay clocks later (p ∷ ps) follows more all =
    let reached = and_parts (is_reached (reach_of_clocks clocks) p) (list_all (is_reached (reach_of_clocks clocks)) ps) all in
    let rest = all_stay clocks later ps follows more reached.1 in
    let was : p.value ≤ value_at (reach_of_clocks clocks) p.ctx = leb-true p.value (value_at (reach_of_clocks clocks) p.ctx) reached.0 in
    let up = more p.ctx in
    let now : is_reached (reach_of_clocks later) p ≡ true = le-leb p.value (value_at (reach_of_clocks later) p.ctx) (omega arith) in (
      and_from (is_reached (reach_of_clocks later) p) (list_all (is_reached (reach_of_clocks later)) ps) now rest.0,
      λ i. stays_cancelled clocks later p (follows p.ctx) reached.0 i || rest.1 i,
    )

-- the status of points that were signalled or cancelled stays
pub common_status-stays : {before after : SeatModel} {reach : List ℕ} → HasLoadedAll before after reach → (points : List Point) → common_status (clocks_seen before) points ≢ Active → common_status (clocks_seen after) points ≡ common_status (clocks_seen before) points
common_status-stays {before} {after} h points settled =
    let clocks : List Clock = clocks_seen before in
    let later : List Clock = clocks_seen after in
    let all : list_all (is_reached (reach_of_clocks clocks)) points ≡ true = (status_of-not_active (list_all (is_reached (reach_of_clocks clocks)) points) (some_cancelled clocks points) (λ is. is, λ is. is)).0 settled in
    let stay = all_stay clocks later points (Follows-loaded h) (reaches_more h) all in
    λ i. status_of ((stay.0 ∙ sym all) i) (stay.1 i)
