-- Names without a point, and one more name that no other timeline has.
use Rattle.std.proofs.Common.{◌≡◌, ℕ, ◌<◌, ◌^◌, ◌⊎◌, inl, inr, Bool, true, false, true≢false, not, cond, List, [], ◌∷◌, ◌++◌, take, Option, None, Some, refl, sym, ap, subst, ◌∙◌, codes, arith}
use Rattle.std.specs.Prelude.{◌==◌, decimal, is_some, unwrap_or, IfSome}
use Rattle.std.specs.List.{list_all, list_any}
use Rattle.std.specs.Str.Parse.{AllDigits}
use Rattle.std.proofs.lemmas.Bool.{and_from, eqb-true, ne_eqb}
use Rattle.std.proofs.lemmas.Fmt.{decimal_is_IsNumeral}
use Rattle.std.proofs.lemmas.List.Folds.{list_all-map}
use Rattle.std.proofs.lemmas.Str.Parse.{digit_from_value}
use Rattle.point_core.specs.Named.{same_name}
use Rattle.trace_core.specs.declared.fence_event.TimelineKey.{TimelineKey}
use Rattle.trace_core.specs.Keys.{same_timeline}
use Rattle.trace_core.proofs.Same.{same_timeline-is}
use Rattle.trace_script.specs.declared.safe_names.TheConstants.{SAFE_BYTES}
use Rattle.trace_script.specs.Names.{AreApart, AreNames, HasNoPoint, is_safe, name_at, safe_byte, safe_name}

no-point-byte : (b : ℕ) → not (safe_byte b == 46) ≡ true
no-point-byte b = by (is_safe b) refl
  where
    safe : (d : Bool) → (b == 46) ≡ d → is_safe b ≡ true → not d ≡ true
    safe false is passes = refl
    safe true is passes = absurd (true≢false (sym passes ∙ ap is_safe (eqb-true b 46 is)))

    by : (c : Bool) → is_safe b ≡ c → not (cond c b 95 == 46) ≡ true
    by true passes = safe (b == 46) refl passes
    by false fails = refl

pub no-point-safe : (raw : List ℕ) → HasNoPoint (safe_name raw)
no-point-safe raw = list_all-map (λ b. not (b == 46)) safe_byte (take SAFE_BYTES raw) ∙ each (take SAFE_BYTES raw)
  where
    each : (bytes : List ℕ) → list_all (λ b. not (safe_byte b == 46)) bytes ≡ true
    each [] = refl
    each (b ∷ bytes) = and_from (not (safe_byte b == 46)) (list_all (λ x. not (safe_byte x == 46)) bytes) (no-point-byte b) (each bytes)

no-point-digits : (digits : List ℕ) → AllDigits 10 digits → HasNoPoint digits
no-point-digits [] are = refl
no-point-digits (d ∷ digits) are =
    let range = digit_from_value d are.0 in
    and_from (not (d == 46)) (list_all (λ b. not (b == 46)) digits) (ap not (ne_eqb d 46 (λ is. omega (arith, is, range.0)))) (no-point-digits digits are.1)

pub no-point-numbered : (number : ℕ) → number < 2 ^ 64 → HasNoPoint (codes "t" ++ decimal number)
no-point-numbered number h = no-point-digits (decimal number) (decimal_is_IsNumeral number h).0.1

abbrev pub is_taken : List (List ℕ) → List ℕ → Bool
is_taken taken name = list_any (same_name name) taken

pub grown : (taken more : List (List ℕ)) (new : List ℕ) → ((name : List ℕ) → is_taken more name ≡ cond (same_name new name) true (is_taken taken name)) → (name : List ℕ) → is_taken taken name ≡ true → is_taken more name ≡ true
grown taken more new updates name is = updates name ∙ by (same_name new name)
  where
    by : (b : Bool) → cond b true (is_taken taken name) ≡ true
    by true = refl
    by false = is

-- a timeline gets a name
module _ (old new : List (TimelineKey × List ℕ)) (taken : List (List ℕ)) (key : TimelineKey) (name : List ℕ) (updates : (q : TimelineKey) → name_at new q ≡ cond (same_timeline key q) (Some name) (name_at old q)) where
  pub keeps-names : None ≡ name_at old key → (other : TimelineKey) (own : List ℕ) → name_at old other ≡ Some own → name_at new other ≡ Some own
  keeps-names absent other own is = updates other ∙ by (same_timeline key other) refl
    where
      by : (b : Bool) → same_timeline key other ≡ b → cond b (Some name) (name_at old other) ≡ Some own
      by true same = absurd (true≢false (sym (ap is_some is) ∙ ap (λ k. is_some (name_at old k)) (sym (same_timeline-is key other same)) ∙ ap is_some (sym absent)))
      by false apart = is

  given : (q : TimelineKey) (n : List ℕ) → name_at new q ≡ Some n → ((key ≡ q) × (name ≡ n)) ⊎ (name_at old q ≡ Some n)
  given q n is = by (same_timeline key q) refl (sym (updates q) ∙ is)
    where
      by : (b : Bool) → same_timeline key q ≡ b → cond b (Some name) (name_at old q) ≡ Some n → ((key ≡ q) × (name ≡ n)) ⊎ (name_at old q ≡ Some n)
      by true same is = inl (same_timeline-is key q same, ap (λ o. unwrap_or o []) is)
      by false apart is = inr is

  module _ (h : AreNames old taken) (free : is_taken taken name ≡ false) where
    other : (q : TimelineKey) (n : List ℕ) → name_at old q ≡ Some n → name ≡ n → ⊥
    other q n is same = true≢false (sym (h.among q n is) ∙ ap (is_taken taken) (sym same) ∙ free)

    apart : AreApart new
    apart q r n is too = by (given q n is) (given r n too)
      where
        by : ((key ≡ q) × (name ≡ n)) ⊎ (name_at old q ≡ Some n) → ((key ≡ r) × (name ≡ n)) ⊎ (name_at old r ≡ Some n) → q ≡ r
        by (inl mine) (inl yours) = sym mine.0 ∙ yours.0
        by (inl mine) (inr before) = absurd (other r n before mine.1)
        by (inr before) (inl yours) = absurd (other q n before yours.1)
        by (inr before) (inr earlier) = h.apart q r n before earlier

    -- it is another name than those that are taken, and has no point
    pub one-more : (more : List (List ℕ)) → HasNoPoint name → is_taken more name ≡ true → ((n : List ℕ) → is_taken taken n ≡ true → is_taken more n ≡ true) → AreNames new more
    one-more more plain has all = record {
      apart = apart;
      plain = λ q n is. plain-at n (h.plain q n) (given q n is);
      among = λ q n is. among-at n (λ before. all n (h.among q n before)) (given q n is);
    }
      where
        plain-at : {q : TimelineKey} (n : List ℕ) → (name_at old q ≡ Some n → HasNoPoint n) → ((key ≡ q) × (name ≡ n)) ⊎ (name_at old q ≡ Some n) → HasNoPoint n
        plain-at n kept (inl mine) = subst HasNoPoint mine.1 plain
        plain-at n kept (inr before) = kept before

        among-at : {q : TimelineKey} (n : List ℕ) → (name_at old q ≡ Some n → is_taken more n ≡ true) → ((key ≡ q) × (name ≡ n)) ⊎ (name_at old q ≡ Some n) → is_taken more n ≡ true
        among-at n kept (inl mine) = subst (λ x. is_taken more x ≡ true) mine.1 has
        among-at n kept (inr before) = kept before

-- a name of that form has no point
pub plain-of : (o : Option (List ℕ)) (name text : List ℕ) → o ≡ Some name → IfSome o (λ n. n ≡ text) → HasNoPoint text → HasNoPoint name
plain-of o name text is form plain = subst HasNoPoint (sym (subst (λ p. IfSome p (λ n. n ≡ text)) is form)) plain

pub plain-if : (o : Option (List ℕ)) (text : List ℕ) → IfSome o (λ n. n ≡ text) → HasNoPoint text → IfSome o HasNoPoint
plain-if None text form plain = tt
plain-if (Some name) text form plain = subst HasNoPoint (sym form) plain
