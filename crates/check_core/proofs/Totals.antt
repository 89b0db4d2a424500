-- Counts of scripts that are added one after another.
use Rattle.std.proofs.Common.{◌≡◌, ◌∙◌, ℕ, ◌+◌, ◌<◌, ap, List, [], ◌∷◌, ◌++◌, length, take, get_or, sym, arith}
use Rattle.std.proofs.lemmas.List.{take_more}
use Rattle.check_core.specs.declared.outcome.CheckOutcome.{CheckOutcome}
use Rattle.check_core.specs.declared.tally.CheckTally.{CheckTally}
use Rattle.check_core.specs.Outcome.{tally_of, totals_of}
use Rattle.check_core.specs.Tally.{IsEmpty, no_counts, sum_of, with_counts}

sum_of-assoc : (a b c : ℕ) → sum_of a (sum_of b c) ≡ sum_of (sum_of a b) c
sum_of-assoc a b c = omega arith

sum_of-zero : (a : ℕ) → sum_of a 0 ≡ sum_of 0 a
sum_of-zero a = omega arith

with_counts-assoc : (t u v : CheckTally) → with_counts t (with_counts u v) ≡ with_counts (with_counts t u) v
with_counts-assoc t u v = λ i. record {
  lines = sum_of-assoc t.lines u.lines v.lines i;
  checked = sum_of-assoc t.checked u.checked v.checked i;
  differing = sum_of-assoc t.differing u.differing v.differing i;
  slips = sum_of-assoc t.slips u.slips v.slips i;
}

with_counts-none : (t : CheckTally) → with_counts t no_counts ≡ with_counts no_counts t
with_counts-none t = λ i. record {
  lines = sum_of-zero t.lines i;
  checked = sum_of-zero t.checked i;
  differing = sum_of-zero t.differing i;
  slips = sum_of-zero t.slips i;
}

totals_of-push : (os : List CheckOutcome) (o : CheckOutcome) → totals_of (os ++ o ∷ []) ≡ with_counts (totals_of os) (tally_of o)
totals_of-push [] o = with_counts-none (tally_of o)
totals_of-push (p ∷ os) o = ap (with_counts (tally_of p)) (totals_of-push os o) ∙ with_counts-assoc (tally_of p) (totals_of os) (tally_of o)

-- one more script was counted
pub totals-next : (os : List CheckOutcome) (index : ℕ) (totals one more : CheckTally) (d : CheckOutcome) → index < length os → totals ≡ totals_of (take index os) → one ≡ tally_of (get_or os index d) → more ≡ with_counts totals one → more ≡ totals_of (take (index + 1) os)
totals-next os index totals one more d low was is added =
    let next = ap totals_of (take_more os index d low) ∙ totals_of-push (take index os) (get_or os index d) in
    added ∙ ap (λ t. with_counts t one) was ∙ ap (with_counts (totals_of (take index os))) is ∙ sym next

pub no_counts-is : (t : CheckTally) → IsEmpty t → t ≡ no_counts
no_counts-is t p = λ i. record { lines = p.lines i; checked = p.checked i; differing = p.differing i; slips = p.slips i }
