-- Timelines found by name or by context.
use Rattle.std.proofs.Common.{◌≡◌, ℕ, ◌+◌, ◌-◌, nat_eq, Bool, true, false, true≢false, cond, ◌||◌, refl, sym, ap, ◌∙◌, List, [], ◌∷◌, ◌++◌, length, position, slice_get, Option, None, Some, arith}
use Rattle.std.specs.Prelude.{option_map, unwrap_or}
use Rattle.std.specs.List.{list_any, position_from}
use Rattle.std.specs.Cmp.Lexicographic.{nat_list_eq_equiv}
use Rattle.std.proofs.lemmas.Iterator.Adapters.{position_from-zero}
use Rattle.std.proofs.lemmas.Option.{slice_get-map}
use Rattle.point_core.proofs.Named.{has_named-names}
use Rattle.timeline_core.specs.Timeline.{Timeline, new_timeline, is_named, names_of, has_timeline, context_of, name_at}
use lib.Pointwise.{pointwise}

pub has_timeline-names_of : (ts : List Timeline) (name : List ℕ) → list_any (pointwise nat_eq name) (names_of ts) ≡ has_timeline ts name
has_timeline-names_of ts name = has_named-names (λ (t : Timeline). t.name) ts name

pub position_from-names_of : (ts : List Timeline) (name : List ℕ) (i : ℕ) → position_from (pointwise nat_eq name) i (names_of ts) ≡ position_from (is_named name) i ts
position_from-names_of [] name i = refl
position_from-names_of (t ∷ ts) name i =
    ap (λ b. cond b (Some i) (position_from (pointwise nat_eq name) (i + 1) (names_of ts))) (nat_list_eq_equiv.symm name t.name)
    ∙ ap (λ o. cond (is_named name t) (Some i) o) (position_from-names_of ts name (i + 1))

or_false : (a b : Bool) → (a || b) ≡ false → (a ≡ false) × (b ≡ false)
or_false true b h = absurd (true≢false h)
or_false false b h = (refl, h)

option_map-cond : {X Y : Type 0} (f : X → Y) (b : Bool) (x : X) (o : Option X) → cond b (Some (f x)) (option_map f o) ≡ option_map f (cond b (Some x) o)
option_map-cond f true x o = refl
option_map-cond f false x o = refl

pub position_from-more : {X : Type 0} (test : X → Bool) (i : ℕ) (xs : List X) → position_from test (i + 1) xs ≡ option_map (λ k. k + 1) (position_from test i xs)
position_from-more test i [] = refl
position_from-more test i (x ∷ xs) =
    ap (λ o. cond (test x) (Some (i + 1)) o) (position_from-more test (i + 1) xs)
    ∙ option_map-cond (λ k. k + 1) (test x) i (position_from test (i + 1) xs)

-- a timeline's context is one past its place
pub context_of-position : (ts : List Timeline) (name : List ℕ) (i : ℕ) → position (pointwise nat_eq name) (names_of ts) ≡ Some i → context_of ts name ≡ i + 1
context_of-position ts name i found =
    let at : position_from (is_named name) 0 ts ≡ Some i = sym (position_from-names_of ts name 0) ∙ sym (position_from-zero (pointwise nat_eq name) (names_of ts)) ∙ found in
    ap (λ o. unwrap_or o 0) (position_from-more (is_named name) 0 ts ∙ ap (option_map (λ k. k + 1)) at)

-- a stored name is the name of a timeline
pub has_timeline-stored : {names : List (List ℕ)} (ts : List Timeline) (name : List ℕ) → names ≡ names_of ts → list_any (pointwise nat_eq name) names ≡ has_timeline ts name
has_timeline-stored {names} ts name e = ap (list_any (pointwise nat_eq name)) e ∙ has_timeline-names_of ts name

-- the result of a look-up among the stored names
pub has_timeline-told : {names : List (List ℕ)} {found is : Bool} (ts : List Timeline) (name : List ℕ) → names ≡ names_of ts → found ≡ list_any (pointwise nat_eq name) names → found ≡ is → has_timeline ts name ≡ is
has_timeline-told ts name e told was = sym (has_timeline-stored ts name e) ∙ sym told ∙ was

pub context_of-stored : {names : List (List ℕ)} (ts : List Timeline) (name : List ℕ) (i : ℕ) → names ≡ names_of ts → Some i ≡ position (pointwise nat_eq name) names → context_of ts name ≡ i + 1
context_of-stored {names} ts name i e found = context_of-position ts name i (ap (position (pointwise nat_eq name)) (sym e) ∙ sym found)

pub name_at-stored : {names : List (List ℕ)} (ts : List Timeline) (ctx : ℕ) → names ≡ names_of ts → slice_get names (ctx - 1) ≡ name_at ts ctx
name_at-stored {names} ts ctx e = ap (λ ns. slice_get ns (ctx - 1)) e ∙ slice_get-map (λ (t : Timeline). t.name) ts (ctx - 1)

-- a new timeline is found at the end
position_from-last : {X : Type 0} (test : X → Bool) (i : ℕ) (xs : List X) (x : X) → list_any test xs ≡ false → test x ≡ true → position_from test i (xs ++ x ∷ []) ≡ Some (i + length xs)
position_from-last test i [] x none is = ap (λ b. cond b (Some i) None) is ∙ ap Some (omega arith)
position_from-last test i (y ∷ xs) x none is =
    let apart = or_false (test y) (list_any test xs) none in
    ap (λ b. cond b (Some i) (position_from test (i + 1) (xs ++ x ∷ []))) apart.0
    ∙ position_from-last test (i + 1) xs x apart.1 is
    ∙ ap Some (omega arith)

pub context_of-new : (ts : List Timeline) (name : List ℕ) → has_timeline ts name ≡ false → context_of (ts ++ new_timeline name ∷ []) name ≡ length ts + 1
context_of-new ts name absent =
    ap (λ o. unwrap_or o 0) (position_from-last (is_named name) 1 ts (new_timeline name) absent (nat_list_eq_equiv.refl name)) ∙ omega arith
