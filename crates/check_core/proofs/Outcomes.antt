-- What came of scripts that are checked one after another.
use Rattle.std.proofs.Common.{◌≡◌, ℕ, zero, suc, ◌+◌, ap, List, [], ◌∷◌, ◌++◌, length, Some, sym, ◌∙◌, subst}
use Rattle.std.specs.Prelude.{slice_get}
use Rattle.std.proofs.lemmas.List.{length_push}
use Rattle.std.proofs.lemmas.Option.{none-some, same_Some}
use Rattle.check_core.specs.declared.outcome.CheckOutcome.{CheckOutcome}
use Rattle.check_core.specs.Outcome.{CameOf, CameOfEach, Opens}

-- one script more was checked
pub CameOfEach-push : {N : Type 0} (opens : N → Opens) (names : List N) (outcomes : List CheckOutcome) (name : N) (o : CheckOutcome) → slice_get names (length outcomes) ≡ Some name → CameOfEach opens names outcomes → CameOf (opens name) o → (index : ℕ) (n : N) (p : CheckOutcome) → slice_get names index ≡ Some n → slice_get (outcomes ++ o ∷ []) index ≡ Some p → CameOf (opens n) p
CameOfEach-push opens [] outcomes name o at each came index n p named given = absurd (none-some n named)
CameOfEach-push opens (m ∷ ms) [] name o at each came zero n p named given =
    subst (λ x. CameOf (opens x) p) (same_Some name n (sym at ∙ named)) (subst (CameOf (opens name)) (same_Some o p given) came)
CameOfEach-push opens (m ∷ ms) [] name o at each came (suc index) n p named given = absurd (none-some p given)
CameOfEach-push opens (m ∷ ms) (q ∷ qs) name o at each came zero n p named given = each zero n p named given
CameOfEach-push opens (m ∷ ms) (q ∷ qs) name o at each came (suc index) n p named given =
    CameOfEach-push opens ms qs name o at (λ i. each (suc i)) came index n p named given

pub CameOfEach-next : {N : Type 0} (opens : N → Opens) (names : List N) (outcomes more : List CheckOutcome) (index : ℕ) (name : N) (o : CheckOutcome) → length outcomes ≡ index → slice_get names index ≡ Some name → CameOfEach opens names outcomes → CameOf (opens name) o → more ≡ outcomes ++ o ∷ [] → (length more ≡ index + 1) × CameOfEach opens names more
CameOfEach-next opens names outcomes more index name o count at each came pushed = (
  ap length pushed ∙ length_push outcomes o ∙ ap (λ n. n + 1) count,
  subst (CameOfEach opens names) (sym pushed) (CameOfEach-push opens names outcomes name o (ap (slice_get names) count ∙ at) each came),
)
