-- What stays of what was found once its schedules are shortened.
use Rattle.std.proofs.Common.{◌≡◌, ℕ, ◌<◌, refl, sym, ap, ◌∙◌, subst, List, length, map, set, get_or, Vec, option_map, arith}
use Rattle.std.specs.Prelude.{Contains}
use Rattle.std.specs.Global.{Global}
use Rattle.std.specs.List.{AllPairs}
use Rattle.std.proofs.lemmas.List.{length-map, get_or-map, map-set, set-get_or}
use Rattle.std.proofs.lemmas.List.Elements.{All-get_or, All-set}
use Rattle.explore_core.specs.declared.found.Found.{Found}
use Rattle.explore_core.specs.declared.found.Given.{Given}
use Rattle.explore_core.specs.declared.found.Race.{Race}
use Rattle.explore_core.specs.Found.{IsTrue, IsOther, IsOtherRace, ListsOnce, IsShortest, HasVisited, IsAll, stuck_of}
use Rattle.explore_core.specs.Moving.{LineAnswer}
use Rattle.explore_core.specs.Schedule.{Lines}
use Rattle.explore_core.specs.Shortening.{AccessPair, AreShortened, IsShortened, line_of, pair_of}
use Rattle.explore_core.proofs.Showing.{Contains-map, Contains-unmap}

-- lists whose elements are for the same

module _ {X Y : Type 0} (f : X → Y) (old new : List X) (same : map f new ≡ map f old) where
  same-length : length new ≡ length old
  same-length = sym (length-map new f) ∙ ap length same ∙ length-map old f

  same-at : (i : ℕ) (d : X) → i < length new → f (get_or new i d) ≡ f (get_or old i d)
  same-at i d low =
      sym (get_or-map f new i d (f d) low) ∙ ap (λ ys. get_or ys i (f d)) same ∙ get_or-map f old i d (f d) (omega (arith, low, same-length))

  AllPairs-same : (R : X → X → Type 0) → ((a b c d : X) → f a ≡ f c → f b ≡ f d → R c d → R a b) → AllPairs R old → AllPairs R new
  AllPairs-same R keeps pairs = λ i j d before low.
      let first : i < length new = omega (arith, before, low) in
      let last : j < length old = omega (arith, low, same-length) in
      keeps (get_or new i d) (get_or new j d) (get_or old i d) (get_or old j d) (same-at i d first) (same-at j d low) (pairs i j d before last)

  Contains-same : (x : X) → Contains old x → (y : X) × Contains new y × (f y ≡ f x)
  Contains-same x there = Contains-unmap f new (f x) (subst (λ ys. Contains ys (f x)) (sym same) (Contains-map f old x there))

-- one more element of a list

pub AreShortened-refl : {X Y : Type 0} (f : X → Y) (P : X → Type 0) (xs : List X) → AreShortened f P xs xs
AreShortened-refl f P xs = record { same = refl; right = λ all. all }

pub AreShortened-set : {X Y : Type 0} (f : X → Y) (P : X → Type 0) (old now : List X) (i : ℕ) (x y : X) → i < length now
    → f y ≡ f (get_or now i x) → (P (get_or now i x) → P y) → AreShortened f P old now → AreShortened f P old (set now i y)
AreShortened-set f P old now i x y low same right before = record {
  same =
      let here : f y ≡ get_or (map f now) i (f x) = same ∙ sym (get_or-map f now i x (f x) low) in
      map-set f now i y ∙ ap (set (map f now) i) here ∙ set-get_or (map f now) i (f x) ∙ before.same;
  right = λ all. All-set P now i y (right (All-get_or P now i x low (before.right all))) (before.right all);
}

-- what is found

other-answer : (a b c d : Given) → line_of a ≡ line_of c → line_of b ≡ line_of d → IsOther c d → IsOther a b
other-answer a b c d first second other = λ client place answer.
    other
    (sym (ap (λ (l : LineAnswer). l.client) first) ∙ client ∙ ap (λ (l : LineAnswer). l.client) second)
    (sym (ap (λ (l : LineAnswer). l.place) first) ∙ place ∙ ap (λ (l : LineAnswer). l.place) second)
    (sym (ap (λ (l : LineAnswer). l.answer) first) ∙ answer ∙ ap (λ (l : LineAnswer). l.answer) second)

other-race : (a b c d : Race) → pair_of a ≡ pair_of c → pair_of b ≡ pair_of d → IsOtherRace c d → IsOtherRace a b
other-race a b c d first second other = λ one two.
    other
    (sym (ap (λ (p : AccessPair). p.one) first) ∙ one ∙ ap (λ (p : AccessPair). p.one) second)
    (sym (ap (λ (p : AccessPair). p.other) first) ∙ two ∙ ap (λ (p : AccessPair). p.other) second)

module _ (plan : Lines) (old new : Found) (is : IsShortened plan old new) where
  ended-same : new.ended ≡ old.ended
  ended-same = ap (λ (f : Found). f.ended) is.rest

  stuck-same : new.stuck ≡ old.stuck
  stuck-same = ap (λ (f : Found). f.stuck) is.rest

  stuck_of-same : stuck_of new ≡ stuck_of old
  stuck_of-same = ap (option_map (λ (v : Vec ℕ Global). v.items)) stuck-same

  pub covered-same : new.covered ≡ old.covered
  covered-same = ap (λ (f : Found). f.covered) is.rest

  states-same : new.states ≡ old.states
  states-same = ap (λ (f : Found). f.states) is.rest

  pub IsTrue-shortened : IsTrue plan old → IsTrue plan new
  IsTrue-shortened true' = record {
    given = is.given.right true'.given;
    ended = rw ended-same true'.ended;
    races = is.races.right true'.races;
    stuck = rw stuck-same true'.stuck;
  }

  pub ListsOnce-shortened : ListsOnce old → ListsOnce new
  ListsOnce-shortened once = record {
    given = AllPairs-same line_of old.given.items new.given.items is.given.same IsOther other-answer once.given;
    ended = rw ended-same once.ended;
    races = AllPairs-same pair_of old.races.items new.races.items is.races.same IsOtherRace other-race once.races;
  }

  pub IsShortest-shortened : IsShortest plan old → IsShortest plan new
  IsShortest-shortened shortest = λ shown schedule now stuck. shortest shown schedule now (sym stuck_of-same ∙ stuck)

  pub HasVisited-shortened : (bound : ℕ) → HasVisited plan bound old → HasVisited plan bound new
  HasVisited-shortened bound visited = record {
    within = rw states-same visited.within;
    enough = λ covered. rw states-same (visited.enough (sym covered-same ∙ covered));
  }

  pub IsAll-shortened : IsAll plan old → IsAll plan new
  IsAll-shortened all = record {
    given = λ schedule client place answer answered.
        let listed = all.given schedule client place answer answered in
        let there = Contains-same line_of old.given.items new.given.items is.given.same listed.0 listed.1 in (
          there.0,
          there.1,
          ap (λ (l : LineAnswer). l.client) there.2 ∙ listed.2,
          ap (λ (l : LineAnswer). l.place) there.2 ∙ listed.3,
          ap (λ (l : LineAnswer). l.answer) there.2 ∙ listed.4,
        );
    ended = λ schedule place answer answered. rw ended-same (all.ended schedule place answer answered);
    races = λ schedule one other race.
        let listed = all.races schedule one other race in
        let there = Contains-same pair_of old.races.items new.races.items is.races.same listed.0 listed.1 in (
          there.0,
          there.1,
          ap (λ (p : AccessPair). p.one) there.2 ∙ listed.2,
          ap (λ (p : AccessPair). p.other) there.2 ∙ listed.3,
        );
    stuck = λ schedule now comes stuck.
        let shown = all.stuck schedule now comes stuck in
        (shown.0, stuck_of-same ∙ shown.1, shown.2);
  }
