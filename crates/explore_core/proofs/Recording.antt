-- Answers that are looked for from the end of a list.
use Rattle.std.proofs.Common.{◌≡◌, ℕ, ◌+◌, ◌≤◌, refl, sym, ap, ◌∙◌, List, length, Some, slice_get, get_or, arith, inl, inr}
use Rattle.std.proofs.lemmas.Bool.{cases_lt}
use Rattle.std.proofs.lemmas.Option.{slice_get_read}
use Rattle.command_core.specs.declared.answer.Answer.{Answer}
use Rattle.explore_core.specs.declared.found.Given.{Given}
use Rattle.explore_core.specs.Found.{Lists}
use Rattle.explore_core.proofs.Finding.{past-within}
use Rattle.explore_core.proofs.Parting.{place-at}

-- it is not that answer of that line
abbrev pub IsNot : ℕ → ℕ → Answer → Given → Type 0
IsNot client place answer g = g.client ≡ client → g.place ≡ place → g.answer ≡ answer → ⊥

-- none of the last is that answer of that line
abbrev pub IsNone : ℕ → ℕ → Answer → ℕ → List Given → Type 0
IsNone client place answer last list =
    (i : ℕ) (g : Given) → slice_get list i ≡ Some g → length list ≤ i + last → IsNot client place answer g

module _ {client place : ℕ} {answer : Answer} (list : List Given) where
  pub IsNone-first : IsNone client place answer 0 list
  IsNone-first = λ i g at far. absurd (omega (arith, past-within list i g at, far))

  pub IsNone-more : (last at : ℕ) (given : Given) → at + last + 1 ≡ length list → given ≡ get_or list at given → IsNot client place answer given
      → IsNone client place answer last list → IsNone client place answer (last + 1) list
  IsNone-more last at given count here other none = λ i g is far. elim (cases_lt (i + last) (length list)) [
    | inl less ↦ (
        let same : i ≡ at = omega (arith, less, far, count) in
        let is_given : given ≡ g = here ∙ (place-at list at g given (ap (slice_get list) (sym same) ∙ is)).1 in
        λ client_is place_is answer_is.
        other (ap (λ (x : Given). x.client) is_given ∙ client_is) (ap (λ (x : Given). x.place) is_given ∙ place_is) (ap (λ (x : Given). x.answer) is_given ∙ answer_is))
    | inr not_less ↦ none i g is (omega (arith, not_less))
  ]

  pub IsNone-all : (last : ℕ) → length list ≤ last → IsNone client place answer last list → Lists list client place answer → ⊥
  IsNone-all last far none lists =
      let there = lists.1 in
      let at : slice_get list there.0 ≡ Some lists.0 = slice_get_read list (length list) there.0 lists.0 refl there.1 (sym there.2) in
      none there.0 lists.0 at (omega (arith, far)) lists.2 lists.3 lists.4
