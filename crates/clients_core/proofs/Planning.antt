-- The raises of a board beside what plans put in, above values that a seat has gathered.
use Rattle.std.proofs.Common.{◌≡◌, ℕ, zero, suc, ◌+◌, ◌<◌, ◌≤◌, List, [], ◌∷◌, ◌++◌, map, refl, sym, ap, ◌∙◌, subst, arith}
use Rattle.std.specs.List.{range_with_len}
use Rattle.std.proofs.lemmas.List.FromFn.{map-range_with_len_more}
use Rattle.point_core.specs.declared.entry.Entry.{Entry}
use Rattle.point_core.specs.declared.entry.Usage.TheVariants.{Bookkeep}
use Rattle.point_core.specs.declared.listing.TopRow.{TopRow}
use Rattle.point_core.specs.Reach.{value_at}
use Rattle.point_core.specs.Agreement.{AgreesAbove, pending, top}
use Rattle.words_core.specs.theorem.Seat.{SeatModel, added_to, raised_to}
use Rattle.words_core.specs.theorem.Words.{WordsModel}
use Rattle.resv_core.specs.declared.plan.Act.{Act}
use Rattle.resv_core.specs.Resv.{rows_of}
use Rattle.resv_core.specs.Settled.{all_puts, gathered_values}
use Rattle.resv_core.proofs.Runs.{rows_of-AgreesAbove}
use Rattle.clients_core.specs.Board.{AreAsPlanned, places_to, raised_in}
use Rattle.clients_core.proofs.Gathering.{map-contexts, value_at-listed}
use Rattle.clients_core.proofs.Topping.{raised_entries-same}

-- context 0 has the place of context 1
every-context : (xs ys : List ℕ) → ((ctx : ℕ) → 1 ≤ ctx → value_at xs ctx ≡ value_at ys ctx) → (ctx : ℕ) → value_at xs ctx ≡ value_at ys ctx
every-context xs ys same zero = same 1 (omega arith)
every-context xs ys same (suc n) = same (suc n) (omega arith)

AgreesAbove-values : {reach values : List ℕ} {es fs : List Entry} → ((ctx : ℕ) → value_at values ctx ≡ value_at reach ctx) → AgreesAbove reach es fs → AgreesAbove values es fs
AgreesAbove-values {reach} {values} {es} {fs} same h = record {
  tops = λ usage ctx.
      ap (λ (v : ℕ). pending v (top es usage ctx)) (same ctx)
      ∙ h.tops usage ctx
      ∙ sym (ap (λ (v : ℕ). pending v (top fs usage ctx)) (same ctx));
}

pub AreAsPlanned-same : (words : WordsModel) (first later : SeatModel) (plans : List (List Act)) (reach values : List ℕ) → ((w : ℕ) → raised_to later w ≡ raised_to first w) → ((ctx : ℕ) → value_at values ctx ≡ value_at reach ctx) → AreAsPlanned words later plans reach → AreAsPlanned words first plans values
AreAsPlanned-same words first later plans reach values raises same h = λ buffer within.
    subst (λ (es : List Entry). AgreesAbove values es (all_puts buffer plans))
    (raised_entries-same words first later buffer (places_to Bookkeep words.contexts) raises)
    (AgreesAbove-values same (h buffer within))

-- the gathered values are the reach's
pub values-gathered : (reach : List ℕ) (seat : SeatModel) (contexts : ℕ) → ((ctx : ℕ) → 1 ≤ ctx → ctx ≤ contexts → value_at reach ctx ≡ added_to seat ctx) → map (value_at reach) (range_with_len 1 contexts) ≡ gathered_values contexts seat
values-gathered reach seat contexts values = map-contexts (value_at reach) (added_to seat) contexts values

pub value_at-gathered : (reach : List ℕ) (seat : SeatModel) (contexts : ℕ) → ((ctx : ℕ) → 1 ≤ ctx → ctx ≤ contexts → value_at reach ctx ≡ added_to seat ctx) → ((ctx : ℕ) → contexts < ctx → value_at reach ctx ≡ 0) → (ctx : ℕ) → value_at (gathered_values contexts seat) ctx ≡ value_at reach ctx
value_at-gathered reach seat contexts values past =
    every-context (gathered_values contexts seat) reach (λ ctx low. ap (λ (vs : List ℕ). value_at vs ctx) (sym (values-gathered reach seat contexts values)) ∙ value_at-listed reach contexts ctx past low)

-- so what was raised has the rows of what the plans put in
pub tables-planned : (words : WordsModel) (seat : SeatModel) (plans : List (List Act)) (values : List ℕ) → AreAsPlanned words seat plans values → map (λ b. rows_of (raised_in words seat b) values) (range_with_len 0 words.buffers) ≡ map (λ b. rows_of (all_puts b plans) values) (range_with_len 0 words.buffers)
tables-planned words seat plans values h = rows-same words.buffers (λ n within. rows_of-AgreesAbove (h n within))
  where
    raised_rows : ℕ → List TopRow
    raised_rows b = rows_of (raised_in words seat b) values

    planned_rows : ℕ → List TopRow
    planned_rows b = rows_of (all_puts b plans) values

    rows-same : (n : ℕ) → ((b : ℕ) → b < n → raised_rows b ≡ planned_rows b) → map raised_rows (range_with_len 0 n) ≡ map planned_rows (range_with_len 0 n)
    rows-same zero same = refl
    rows-same (suc n) same =
        let next : suc n ≡ n + 1 = omega arith in
        ap (λ (k : ℕ). map raised_rows (range_with_len 0 k)) next
        ∙ map-range_with_len_more raised_rows 0 n n (omega arith)
        ∙ ap (λ (rs : List (List TopRow)). rs ++ raised_rows n ∷ []) (rows-same n (λ b low. same b (omega arith)))
        ∙ ap (λ (r : List TopRow). map planned_rows (range_with_len 0 n) ++ r ∷ []) (same n (omega arith))
        ∙ sym (map-range_with_len_more planned_rows 0 n n (omega arith))
        ∙ ap (λ (k : ℕ). map planned_rows (range_with_len 0 k)) (sym next)
