-- One timeline changes its clock, and no other changes.
use Rattle.std.proofs.Common.{◌≡◌, ℕ, ◌+◌, ◌-◌, ◌<◌, ◌≤◌, suc, nat_eq, Bool, true, false, ◌&&◌, refl, sym, ap, ◌∙◌, List, [], ◌∷◌, ◌++◌, length, map, get_or, set, max, replicate, arith, if◌then◌else◌}
use Rattle.std.specs.List.{IsDistinct, AllByRecursion}
use Rattle.std.specs.Cmp.Lexicographic.{nat_list_eq_equiv}
use Rattle.std.proofs.lemmas.List.{length-map, set-append_left}
use Rattle.std.proofs.lemmas.Map.Keys.{IsDistinct-head, IsDistinct-tail}
use Rattle.point_core.specs.declared.context.TheConstants.{CONTEXTS}
use Rattle.point_core.specs.declared.clocks.Clock.{Clock}
use Rattle.point_core.specs.Agreement.{point_of}
use Rattle.point_core.specs.Clocks.{clock_of, new_clock, raised_clock, closed_clock, clock_at, with_clock, reach_of_clocks}
use Rattle.point_core.specs.Reach.{GREATEST, value_at, with_value, reaching, IsAtLeast}
use Rattle.point_core.proofs.Ticking.{value_at-reach_of_clocks, reach_of_clocks-with}
use Rattle.point_core.proofs.Values.{get_or-set_at_least}
use Rattle.timeline_core.specs.Timeline.{Timeline, timeline_of, own_clock, is_named, names_of, own_clocks, has_timeline, context_of, clocks_of, reach_of, clock_named, value_of, is_closed, raised, shut, AreTimelines}
use Rattle.timeline_core.specs.Run.{missing_to}
use Rattle.timeline_core.proofs.Places.{IsPlace, at_place, place-within, place_from-has_timeline, context_of-place, clock_named-place, has_timeline-place}
use lib.Pointwise.{pointwise}

-- the timeline of that name with another clock
abbrev ticked : (Clock → Clock) → Timeline → Timeline
ticked tick t = timeline_of t.name (tick (own_clock t))

abbrev changed : (Clock → Clock) → List Timeline → List ℕ → List Timeline
changed tick ts name = map (λ t. if is_named name t then ticked tick t else t) ts

-- n is added to the value
abbrev more_by : ℕ → Clock → Clock
more_by n clock = clock_of (clock.value + n) clock.closed

module _ (tick : Clock → Clock) where
  name-changed_if : (b : Bool) (t : Timeline) → (if b then ticked tick t else t).name ≡ t.name
  name-changed_if true t = refl
  name-changed_if false t = refl

  names_of-changed : (ts : List Timeline) (name : List ℕ) → names_of (changed tick ts name) ≡ names_of ts
  names_of-changed [] name = refl
  names_of-changed (t ∷ ts) name =
      ap (λ m. m ∷ names_of (changed tick ts name)) (name-changed_if (is_named name t) t) ∙ ap (λ ms. t.name ∷ ms) (names_of-changed ts name)

  -- no timeline of that name
  changed-none : (ts : List Timeline) (name other : List ℕ) → pointwise nat_eq other name ≡ true → AllByRecursion (λ m. pointwise nat_eq other m ≡ false) (names_of ts) → changed tick ts name ≡ ts
  changed-none [] name other is apart = refl
  changed-none (t ∷ ts) name other is apart =
      let isnt : is_named name t ≡ false = nat_list_eq_equiv.symm t.name name ∙ sym (nat_list_eq_equiv.congr other name t.name is) ∙ apart.0 in
      ap (λ b. (if b then ticked tick t else t) ∷ changed tick ts name) isnt ∙ ap (λ us. t ∷ us) (changed-none ts name other is apart.1)

  own_clocks-changed : (ts : List Timeline) (name : List ℕ) (k : ℕ) → IsPlace ts name k → IsDistinct (pointwise nat_eq) (names_of ts) → own_clocks (changed tick ts name) ≡ set (own_clocks ts) k (tick (get_or (own_clocks ts) k new_clock))
  own_clocks-changed ts name k place =
      at_place name (λ us j. IsDistinct (pointwise nat_eq) (names_of us) → own_clocks (changed tick us name) ≡ set (own_clocks us) j (tick (get_or (own_clocks us) j new_clock)))
      (λ t us is apart.
      ap (λ b. own_clocks ((if b then ticked tick t else t) ∷ changed tick us name)) is
      ∙ ap (λ vs. tick (own_clock t) ∷ own_clocks vs) (changed-none us name t.name is (IsDistinct-head (pointwise nat_eq) t.name (names_of us) apart)))
      (λ t us j isnt after rest apart.
      ap (λ b. own_clocks ((if b then ticked tick t else t) ∷ changed tick us name)) isnt
      ∙ ap (λ vs. own_clock t ∷ vs) (rest (IsDistinct-tail (pointwise nat_eq) t.name (names_of us) apart)))
      ts k place

  length-changed : (ts : List Timeline) (name : List ℕ) → length (changed tick ts name) ≡ length ts
  length-changed [] name = refl
  length-changed (t ∷ ts) name = ap suc (length-changed ts name)

  -- among the clocks, one changes
  clocks_of-changed : (ts : List Timeline) (name : List ℕ) → AreTimelines ts → has_timeline ts name ≡ true → clocks_of (changed tick ts name) ≡ with_clock (clocks_of ts) (context_of ts name) (tick (clock_named ts name))
  clocks_of-changed ts name kept has =
      let found = place_from-has_timeline ts name 0 has in
      let k = found.0 in
      let at : context_of ts name - 1 ≡ k = omega (arith, context_of-place ts name k found.1) in
      let low : k < length (own_clocks ts) = rw length-map (place-within ts name k found.1) in
      ap (λ m. own_clocks (changed tick ts name) ++ replicate (CONTEXTS - m) new_clock) (length-changed ts name)
      ∙ ap (λ vs. vs ++ replicate (CONTEXTS - length ts) new_clock) (own_clocks-changed ts name k found.1 kept.distinct)
      ∙ sym (set-append_left (own_clocks ts) (replicate (CONTEXTS - length ts) new_clock) k (tick (get_or (own_clocks ts) k new_clock)) low)
      ∙ ap (λ clock. set (clocks_of ts) k (tick clock)) (sym (clock_named-place ts name k found.1))
      ∙ ap (λ j. set (clocks_of ts) j (tick (clock_named ts name))) (sym at)

  AreTimelines-changed : (ts : List Timeline) (name : List ℕ) → AreTimelines ts → AreTimelines (changed tick ts name)
  AreTimelines-changed ts name kept = record {
    distinct = rw (names_of-changed ts name) kept.distinct;
    room = rw (length-changed ts name) kept.room;
  }

  -- the stored clocks after that change
  changed-stored : {clocks clocks' : List Clock} {ctx : ℕ} (ts : List Timeline) (name : List ℕ) → clocks' ≡ with_clock clocks ctx (tick (clock_at clocks ctx)) → clocks ≡ clocks_of ts → ctx ≡ context_of ts name → AreTimelines ts → has_timeline ts name ≡ true → clocks' ≡ clocks_of (changed tick ts name)
  changed-stored {clocks} {clocks'} {ctx} ts name is before at kept has =
      is ∙ ap (λ cs. with_clock cs ctx (tick (clock_at cs ctx))) before
      ∙ ap (λ x. with_clock (clocks_of ts) x (tick (clock_at (clocks_of ts) x))) at
      ∙ sym (clocks_of-changed ts name kept has)

pub names_of-raised : (ts : List Timeline) (name : List ℕ) (n : ℕ) → names_of (raised ts name n) ≡ names_of ts
names_of-raised ts name n = names_of-changed (more_by n) ts name

pub names_of-shut : (ts : List Timeline) (name : List ℕ) → names_of (shut ts name) ≡ names_of ts
names_of-shut ts name = names_of-changed closed_clock ts name

pub length-shut : (ts : List Timeline) (name : List ℕ) → length (shut ts name) ≡ length ts
length-shut ts name = length-changed closed_clock ts name

pub clocks_of-raised : (ts : List Timeline) (name : List ℕ) (n : ℕ) → AreTimelines ts → has_timeline ts name ≡ true → clocks_of (raised ts name n) ≡ with_clock (clocks_of ts) (context_of ts name) (more_by n (clock_named ts name))
clocks_of-raised ts name n kept has = clocks_of-changed (more_by n) ts name kept has

pub clocks_of-shut : (ts : List Timeline) (name : List ℕ) → AreTimelines ts → has_timeline ts name ≡ true → clocks_of (shut ts name) ≡ with_clock (clocks_of ts) (context_of ts name) (closed_clock (clock_named ts name))
clocks_of-shut ts name kept has = clocks_of-changed closed_clock ts name kept has

-- if there is a timeline of that name, it is closed exactly if its clock is
pub is_closed-open : (ts : List Timeline) (name : List ℕ) → has_timeline ts name ≡ true → is_closed ts name ≡ (clock_named ts name).closed
is_closed-open ts name has = ap (λ b. b && (clock_named ts name).closed) has

pub has_timeline-closed : (ts : List Timeline) (name : List ℕ) → is_closed ts name ≡ true → has_timeline ts name ≡ true
has_timeline-closed ts name is = first_of (has_timeline ts name) (clock_named ts name).closed is
  where
    first_of : (a b : Bool) → (a && b) ≡ true → a ≡ true
    first_of true b h = refl
    first_of false b h = h

-- the reach of an open timeline is its value
pub value_at-open : (ts : List Timeline) (name : List ℕ) → (clock_named ts name).closed ≡ false → value_at (reach_of ts) (context_of ts name) ≡ value_of ts name
value_at-open ts name still =
    value_at-reach_of_clocks (clocks_of ts) (context_of ts name) ∙ ap (λ b. if b then GREATEST else value_of ts name) still

-- in the reach, one value rises
pub reach_of-raised : (ts : List Timeline) (name : List ℕ) (n : ℕ) → AreTimelines ts → has_timeline ts name ≡ true → (clock_named ts name).closed ≡ false → reach_of (raised ts name n) ≡ with_value (reach_of ts) (context_of ts name) (value_of ts name + n)
reach_of-raised ts name n kept has still =
    ap reach_of_clocks (clocks_of-raised ts name n kept has)
    ∙ reach_of_clocks-with (clocks_of ts) (context_of ts name - 1) (more_by n (clock_named ts name))
    ∙ ap (λ b. with_value (reach_of ts) (context_of ts name) (if b then GREATEST else value_of ts name + n)) still

-- the reach after an increment is the reach with the increment's point
pub reaching-raised : (ts : List Timeline) (name : List ℕ) (n ctx value : ℕ) → ctx ≡ context_of ts name → AreTimelines ts → has_timeline ts name ≡ true → (clock_at (clocks_of ts) ctx).closed ≡ false → value ≡ value_of ts name + n → reaching (reach_of ts) (point_of ctx value) ≡ reach_of (raised ts name n)
reaching-raised ts name n ctx value is kept has still sum =
    let open_clock : (clock_named ts name).closed ≡ false = ap (λ x. (clock_at (clocks_of ts) x).closed) (sym is) ∙ still in
    let before : value_at (reach_of ts) ctx ≡ value_of ts name = ap (value_at (reach_of ts)) is ∙ value_at-open ts name open_clock in
    let greater : max (value_at (reach_of ts) ctx) value ≡ value_of ts name + n = omega arith in
    ap (with_value (reach_of ts) ctx) greater
    ∙ ap (λ c. with_value (reach_of ts) c (value_of ts name + n)) is
    ∙ sym (reach_of-raised ts name n kept has open_clock)

pub reach_of-shut : (ts : List Timeline) (name : List ℕ) → AreTimelines ts → has_timeline ts name ≡ true → reach_of (shut ts name) ≡ with_value (reach_of ts) (context_of ts name) GREATEST
reach_of-shut ts name kept has =
    ap reach_of_clocks (clocks_of-shut ts name kept has)
    ∙ reach_of_clocks-with (clocks_of ts) (context_of ts name - 1) (closed_clock (clock_named ts name))

-- the reach after a closing is the reach with the point of the greatest value
pub reach_of-shut-reaching : (ts : List Timeline) (name : List ℕ) → AreTimelines ts → has_timeline ts name ≡ true → (clock_named ts name).closed ≡ false → value_of ts name ≤ GREATEST → reach_of (shut ts name) ≡ reaching (reach_of ts) (point_of (context_of ts name) GREATEST)
reach_of-shut-reaching ts name kept has still low =
    let before = value_at-open ts name still in
    let highest : GREATEST ≡ max (value_at (reach_of ts) (context_of ts name)) GREATEST = omega arith in
    reach_of-shut ts name kept has ∙ ap (with_value (reach_of ts) (context_of ts name)) highest

pub AreTimelines-raised : (ts : List Timeline) (name : List ℕ) (n : ℕ) → AreTimelines ts → AreTimelines (raised ts name n)
AreTimelines-raised ts name n kept = AreTimelines-changed (more_by n) ts name kept

pub AreTimelines-shut : (ts : List Timeline) (name : List ℕ) → AreTimelines ts → AreTimelines (shut ts name)
AreTimelines-shut ts name kept = AreTimelines-changed closed_clock ts name kept

-- a reach with a value that rose is at least the reach before
pub IsAtLeast-reaching : (reach : List ℕ) (ctx value : ℕ) → value_at reach ctx ≤ value → IsAtLeast (with_value reach ctx value) reach
IsAtLeast-reaching reach ctx value low = record { values = λ other. get_or-set_at_least reach (ctx - 1) value (other - 1) low }

-- the stored clocks after the value was raised by n
pub raised-stored : {clocks clocks' : List Clock} {ctx value : ℕ} (ts : List Timeline) (name : List ℕ) (n : ℕ) → clocks' ≡ with_clock clocks ctx (raised_clock (clock_at clocks ctx) value) → clocks ≡ clocks_of ts → ctx ≡ context_of ts name → value ≡ value_of ts name + n → AreTimelines ts → has_timeline ts name ≡ true → clocks' ≡ clocks_of (raised ts name n)
raised-stored {clocks} {clocks'} {ctx} {value} ts name n is before at sum kept has =
    let own : clock_at clocks ctx ≡ clock_named ts name = ap (λ cs. clock_at cs ctx) before ∙ ap (clock_at (clocks_of ts)) at in
    let same : (clock_at clocks ctx).value ≡ value_of ts name = ap (λ (c : Clock). c.value) own in
    let highest : max (clock_at clocks ctx).value value ≡ (clock_at clocks ctx).value + n = omega arith in
    changed-stored (more_by n) ts name (is ∙ ap (λ v. with_clock clocks ctx (clock_of v (clock_at clocks ctx).closed)) highest) before at kept has

-- the stored clocks after the timeline at a place was raised to a value
pub raised-missing : {clocks clocks' : List Clock} (ctx value : ℕ) (ts : List Timeline) (name : List ℕ) → clocks' ≡ with_clock clocks ctx (raised_clock (clock_at clocks ctx) value) → clocks ≡ clocks_of ts → 1 ≤ ctx → AreTimelines ts → IsPlace ts name (ctx - 1) → clocks' ≡ clocks_of (raised ts name (missing_to ts ctx value))
raised-missing {clocks} {clocks'} ctx value ts name is before low kept place =
    let n = missing_to ts ctx value in
    let at : ctx ≡ context_of ts name = omega (arith, context_of-place ts name (ctx - 1) place) in
    let same : value_of ts name ≡ (clock_at (clocks_of ts) ctx).value = ap (λ x. (clock_at (clocks_of ts) x).value) (sym at) in
    let stored : (clock_at clocks ctx).value ≡ (clock_at (clocks_of ts) ctx).value = ap (λ cs. (clock_at cs ctx).value) before in
    let highest : max (clock_at clocks ctx).value value ≡ max (clock_at clocks ctx).value (value_of ts name + n) = omega (arith, same, stored) in
    raised-stored {value = value_of ts name + n} ts name n (is ∙ ap (λ v. with_clock clocks ctx (clock_of v (clock_at clocks ctx).closed)) highest) before at refl kept (has_timeline-place ts name (ctx - 1) place)

-- the stored clocks after the timeline was closed
pub shut-stored : {clocks clocks' : List Clock} {ctx : ℕ} (ts : List Timeline) (name : List ℕ) → clocks' ≡ with_clock clocks ctx (closed_clock (clock_at clocks ctx)) → clocks ≡ clocks_of ts → ctx ≡ context_of ts name → AreTimelines ts → has_timeline ts name ≡ true → clocks' ≡ clocks_of (shut ts name)
shut-stored ts name is before at kept has = changed-stored closed_clock ts name is before at kept has
