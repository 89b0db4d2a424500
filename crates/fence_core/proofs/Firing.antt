-- Which watches fire, by the put sets that their points agree with.
use Rattle.std.proofs.Common.{◌≡◌, ℕ, Bool, true, false, not, cond, ◌||◌, nat_eq, ◌↔◌, refl, sym, ap, ◌∙◌, List, [], ◌∷◌, ◌++◌, map, filter}
use Rattle.std.specs.List.{AllZip, list_any}
use Rattle.point_core.specs.declared.entry.Entry.{Entry}
use Rattle.point_core.specs.Reach.{IsAtLeast}
use Rattle.point_core.specs.Agreement.{AgreesAbove, as_entries, IsReached, all_reached}
use Rattle.point_core.proofs.Agreement.{AgreesAbove-later, AgreesAbove-sym}
use Rattle.point_core.proofs.Reached.{all_reached-points, all_reached-AgreesAbove, all_reached-IsReached}
use Rattle.fence_core.specs.Watch.{Watch, is_for, cookies_of, IsWatchOf}
use Rattle.fence_core.specs.Watches.{fires}

-- a watch whose points agree above the reach with a put set fires exactly if all that was put is reached
pub fires-AgreesAbove : {reach : List ℕ} (w : Watch) (put : List Entry) → AgreesAbove reach (as_entries w.points) put → fires reach w ≡ all_reached reach 0 put
fires-AgreesAbove {reach} w put agrees = sym (all_reached-points reach w.points) ∙ all_reached-AgreesAbove 0 agrees (AgreesAbove-sym agrees)

pub fires-IsReached : {reach : List ℕ} (w : Watch) (put : List Entry) → AgreesAbove reach (as_entries w.points) put → (fires reach w ≡ true) ↔ IsReached put 0 reach
fires-IsReached {reach} w put agrees =
    let is = fires-AgreesAbove w put agrees in
    let told = all_reached-IsReached reach 0 put in (
      λ fired. told.0 (sym is ∙ fired),
      λ reached. is ∙ told.1 reached,
    )

-- if no watch fires, no cookie is reported
pub fired-none : (reach : List ℕ) (ws : List Watch) → list_any (fires reach) ws ≡ false → cookies_of (filter (fires reach) ws) ≡ []
fired-none reach [] none = refl
fired-none reach (w ∷ ws) none = by (fires reach w) none (fired-none reach ws)
  where
    by : (b : Bool) → (b || list_any (fires reach) ws) ≡ false → (list_any (fires reach) ws ≡ false → cookies_of (filter (fires reach) ws) ≡ []) → cookies_of (cond b (w ∷ filter (fires reach) ws) (filter (fires reach) ws)) ≡ []
    by true none rest = absurd (cc)
    by false none rest = rest none

-- things that have a cookie and a put set, and the watches that stand for them
module _ {X : Type 0} (cookie_of : X → ℕ) (put_of : X → List Entry) where
  pub IsWatchOf-later : {later reach : List ℕ} (w : Watch) (x : X) → IsAtLeast later reach → IsWatchOf cookie_of put_of reach w x → IsWatchOf cookie_of put_of later w x
  IsWatchOf-later w x high h = record { cookie = h.cookie; agrees = AgreesAbove-later high h.agrees }

  pub AllZip-later : {later reach : List ℕ} (ws : List Watch) (xs : List X) → IsAtLeast later reach → AllZip (IsWatchOf cookie_of put_of reach) ws xs → AllZip (IsWatchOf cookie_of put_of later) ws xs
  AllZip-later [] [] high h = tt
  AllZip-later [] (x ∷ xs) high h = absurd h
  AllZip-later (w ∷ ws) [] high h = absurd h
  AllZip-later (w ∷ ws) (x ∷ xs) high h = (IsWatchOf-later w x high h.0, AllZip-later ws xs high h.1)

  cookies_by : (a b : Bool) (w : Watch) (x : X) (ws : List Watch) (xs : List X) → a ≡ b → w.cookie ≡ cookie_of x → cookies_of ws ≡ map cookie_of xs → cookies_of (cond a (w ∷ ws) ws) ≡ map cookie_of (cond b (x ∷ xs) xs)
  cookies_by true true w x ws xs e is rest = cc
  cookies_by false false w x ws xs e is rest = rest
  cookies_by true false w x ws xs e is rest = absurd (cc)
  cookies_by false true w x ws xs e is rest = absurd (cc)

  -- the cookies of the watches that fire are those of the things all of which is reached, in the same order
  pub cookies_of-fires : (reach : List ℕ) (ws : List Watch) (xs : List X) → AllZip (IsWatchOf cookie_of put_of reach) ws xs → cookies_of (filter (fires reach) ws) ≡ map cookie_of (filter (λ x. all_reached reach 0 (put_of x)) xs)
  cookies_of-fires reach [] [] h = refl
  cookies_of-fires reach [] (x ∷ xs) h = absurd h
  cookies_of-fires reach (w ∷ ws) [] h = absurd h
  cookies_of-fires reach (w ∷ ws) (x ∷ xs) h = cookies_by (fires reach w) (all_reached reach 0 (put_of x)) w x (filter (fires reach) ws) (filter (λ y. all_reached reach 0 (put_of y)) xs) (fires-AgreesAbove w (put_of x) h.0.agrees) h.0.cookie (cookies_of-fires reach ws xs h.1)

  left_by : (R : Watch → X → Type 0) (a b : Bool) (w : Watch) (x : X) (ws : List Watch) (xs : List X) → a ≡ b → R w x → AllZip R ws xs → AllZip R (cond a (w ∷ ws) ws) (cond b (x ∷ xs) xs)
  left_by R true true w x ws xs e is rest = (is, rest)
  left_by R false false w x ws xs e is rest = rest
  left_by R true false w x ws xs e is rest = absurd (cc)
  left_by R false true w x ws xs e is rest = absurd (cc)

  -- the watches that don't fire stand for the things of which some is pending
  pub AllZip-left : (reach : List ℕ) (ws : List Watch) (xs : List X) → AllZip (IsWatchOf cookie_of put_of reach) ws xs → AllZip (IsWatchOf cookie_of put_of reach) (filter (λ w. not (fires reach w)) ws) (filter (λ x. not (all_reached reach 0 (put_of x))) xs)
  AllZip-left reach [] [] h = tt
  AllZip-left reach [] (x ∷ xs) h = absurd h
  AllZip-left reach (w ∷ ws) [] h = absurd h
  AllZip-left reach (w ∷ ws) (x ∷ xs) h = left_by (IsWatchOf cookie_of put_of reach) (not (fires reach w)) (not (all_reached reach 0 (put_of x))) w x (filter (λ v. not (fires reach v)) ws) (filter (λ y. not (all_reached reach 0 (put_of y))) xs) (ap not (fires-AgreesAbove w (put_of x) h.0.agrees)) h.0 (AllZip-left reach ws xs h.1)

  -- the same of a cookie that is taken out
  pub AllZip-without : (reach : List ℕ) (cookie : ℕ) (ws : List Watch) (xs : List X) → AllZip (IsWatchOf cookie_of put_of reach) ws xs → AllZip (IsWatchOf cookie_of put_of reach) (filter (λ w. not (is_for cookie w)) ws) (filter (λ x. not (nat_eq (cookie_of x) cookie)) xs)
  AllZip-without reach cookie [] [] h = tt
  AllZip-without reach cookie [] (x ∷ xs) h = absurd h
  AllZip-without reach cookie (w ∷ ws) [] h = absurd h
  AllZip-without reach cookie (w ∷ ws) (x ∷ xs) h = left_by (IsWatchOf cookie_of put_of reach) (not (is_for cookie w)) (not (nat_eq (cookie_of x) cookie)) w x (filter (λ v. not (is_for cookie v)) ws) (filter (λ y. not (nat_eq (cookie_of y) cookie)) xs) (ap (λ k. not (nat_eq k cookie)) h.0.cookie) h.0 (AllZip-without reach cookie ws xs h.1)

  -- a watch of the cookie is pending exactly if such a thing is
  pub list_any-is_for : (reach : List ℕ) (cookie : ℕ) (ws : List Watch) (xs : List X) → AllZip (IsWatchOf cookie_of put_of reach) ws xs → list_any (is_for cookie) ws ≡ list_any (λ x. nat_eq (cookie_of x) cookie) xs
  list_any-is_for reach cookie [] [] h = refl
  list_any-is_for reach cookie [] (x ∷ xs) h = absurd h
  list_any-is_for reach cookie (w ∷ ws) [] h = absurd h
  list_any-is_for reach cookie (w ∷ ws) (x ∷ xs) h =
      ap (λ k. nat_eq k cookie || list_any (is_for cookie) ws) h.0.cookie
      ∙ ap (λ b. nat_eq (cookie_of x) cookie || b) (list_any-is_for reach cookie ws xs h.1)

  -- some watch fires exactly if all of some thing's put set is reached
  pub list_any-fires : (reach : List ℕ) (ws : List Watch) (xs : List X) → AllZip (IsWatchOf cookie_of put_of reach) ws xs → list_any (fires reach) ws ≡ list_any (λ x. all_reached reach 0 (put_of x)) xs
  list_any-fires reach [] [] h = refl
  list_any-fires reach [] (x ∷ xs) h = absurd h
  list_any-fires reach (w ∷ ws) [] h = absurd h
  list_any-fires reach (w ∷ ws) (x ∷ xs) h =
      ap (λ b. b || list_any (fires reach) ws) (fires-AgreesAbove w (put_of x) h.0.agrees)
      ∙ ap (λ b. all_reached reach 0 (put_of x) || b) (list_any-fires reach ws xs h.1)

  -- one more of both
  pub AllZip-push : (reach : List ℕ) (ws : List Watch) (xs : List X) (w : Watch) (x : X) → AllZip (IsWatchOf cookie_of put_of reach) ws xs → IsWatchOf cookie_of put_of reach w x → AllZip (IsWatchOf cookie_of put_of reach) (ws ++ w ∷ []) (xs ++ x ∷ [])
  AllZip-push reach [] [] w x h is = (is, tt)
  AllZip-push reach [] (y ∷ xs) w x h is = absurd h
  AllZip-push reach (v ∷ ws) [] w x h is = absurd h
  AllZip-push reach (v ∷ ws) (y ∷ xs) w x h is = (h.0, AllZip-push reach ws xs w x h.1 is)
