-- Pending watches: one more, and some taken out.
use Rattle.std.proofs.Common.{◌≡◌, ℕ, ◌<◌, ◌≤◌, suc, nat_eq, Bool, true, false, not, cond, ◌||◌, refl, sym, ap, ◌∙◌, subst, List, [], ◌∷◌, ◌++◌, length, filter, arith, length-append}
use Rattle.std.specs.List.{list_any, AllByRecursion, IsDistinct}
use Rattle.std.specs.Cmp.{nat_eq_equiv}
use Rattle.std.proofs.lemmas.List.{map-append}
use Rattle.std.proofs.lemmas.Map.Keys.{IsDistinct-push}
use Rattle.point_core.specs.declared.entry.Point.{Point}
use Rattle.fence_core.specs.declared.watches.TheConstants.{WATCHES}
use Rattle.fence_core.specs.Watch.{Watch, watch_of, is_for, cookies_of, ArePending}

length-filter_le : (p : Watch → Bool) (ws : List Watch) → length (filter p ws) ≤ length ws
length-filter_le p [] = omega arith
length-filter_le p (w ∷ ws) = by (p w) (length-filter_le p ws)
  where
    by : (b : Bool) → length (filter p ws) ≤ length ws → length (cond b (w ∷ filter p ws) (filter p ws)) ≤ suc (length ws)
    by true h = omega arith
    by false h = omega arith

AllByRecursion-cookies_filter : (P : ℕ → Type 0) (p : Watch → Bool) (ws : List Watch) → AllByRecursion P (cookies_of ws) → AllByRecursion P (cookies_of (filter p ws))
AllByRecursion-cookies_filter P p [] h = h
AllByRecursion-cookies_filter P p (w ∷ ws) h = by (p w) (AllByRecursion-cookies_filter P p ws h.1)
  where
    by : (b : Bool) → AllByRecursion P (cookies_of (filter p ws)) → AllByRecursion P (cookies_of (cond b (w ∷ filter p ws) (filter p ws)))
    by true rest = (h.0, rest)
    by false rest = rest

pub IsDistinct-cookies_filter : (p : Watch → Bool) (ws : List Watch) → IsDistinct nat_eq (cookies_of ws) → IsDistinct nat_eq (cookies_of (filter p ws))
unfolding IsDistinct
IsDistinct-cookies_filter p [] h = h
IsDistinct-cookies_filter p (w ∷ ws) h = by (p w) (AllByRecursion-cookies_filter (λ y. nat_eq w.cookie y ≡ false) p ws h.0) (IsDistinct-cookies_filter p ws h.1)
  where
    by : (b : Bool) → AllByRecursion (λ y. nat_eq w.cookie y ≡ false) (cookies_of (filter p ws)) → IsDistinct nat_eq (cookies_of (filter p ws)) → IsDistinct nat_eq (cookies_of (cond b (w ∷ filter p ws) (filter p ws)))
    by true apart rest = (apart, rest)
    by false apart rest = rest

pub ArePending-none : ArePending []
unfolding IsDistinct
ArePending-none = record { distinct = tt; room = omega arith }

-- some taken out
pub ArePending-filter : {ws : List Watch} (p : Watch → Bool) → ArePending ws → ArePending (filter p ws)
ArePending-filter {ws} p h = record {
  distinct = IsDistinct-cookies_filter p ws h.distinct;
  room = let shorter = length-filter_le p ws in let room = h.room in omega arith;
}

pub list_any-cookies_of : (cookie : ℕ) (ws : List Watch) → list_any (nat_eq cookie) (cookies_of ws) ≡ list_any (is_for cookie) ws
list_any-cookies_of cookie [] = refl
list_any-cookies_of cookie (w ∷ ws) =
    ap (λ b. b || list_any (nat_eq cookie) (cookies_of ws)) (nat_eq_equiv.symm cookie w.cookie)
    ∙ ap (λ b. is_for cookie w || b) (list_any-cookies_of cookie ws)

-- one more, of a new cookie
pub ArePending-push : {ws : List Watch} (cookie : ℕ) (points : List Point) → ArePending ws → list_any (is_for cookie) ws ≡ false → length ws < WATCHES → ArePending (ws ++ watch_of cookie points ∷ [])
ArePending-push {ws} cookie points h new low = record {
  distinct = subst (IsDistinct nat_eq) (sym (map-append (λ (w : Watch). w.cookie) ws (watch_of cookie points ∷ []))) (IsDistinct-push nat_eq_equiv (cookies_of ws) cookie h.distinct (list_any-cookies_of cookie ws ∙ new));
  room = let len = length-append ws (watch_of cookie points ∷ []) in omega arith;
}

-- a cookie that no watch has takes none out
pub filter-other : (cookie : ℕ) (ws : List Watch) → list_any (is_for cookie) ws ≡ false → filter (λ w. not (is_for cookie w)) ws ≡ ws
filter-other cookie [] none = refl
filter-other cookie (w ∷ ws) none = by (is_for cookie w) none (filter-other cookie ws)
  where
    by : (b : Bool) → (b || list_any (is_for cookie) ws) ≡ false → (list_any (is_for cookie) ws ≡ false → filter (λ v. not (is_for cookie v)) ws ≡ ws) → cond (not b) (w ∷ filter (λ v. not (is_for cookie v)) ws) (filter (λ v. not (is_for cookie v)) ws) ≡ w ∷ ws
    by true none rest = absurd (cc)
    by false none rest = ap (λ vs. w ∷ vs) (rest none)

pub apart-any : (cookie : ℕ) (ws : List Watch) → AllByRecursion (λ y. nat_eq cookie y ≡ false) (cookies_of ws) → list_any (is_for cookie) ws ≡ false
apart-any cookie [] apart = refl
apart-any cookie (w ∷ ws) apart =
    ap (λ b. b || list_any (is_for cookie) ws) (nat_eq_equiv.symm w.cookie cookie ∙ apart.0)
    ∙ apart-any cookie ws apart.1
