-- Values beside what plans add up to.
use Rattle.std.proofs.Common.{◌≡◌, ◌+◌, ◌<◌, ◌≤◌, ℕ, List, [], ◌∷◌, ◌++◌, map, length, take, get_or, sym, ap, ◌∙◌}
use Rattle.std.specs.List.{range_with_len}
use Rattle.std.proofs.lemmas.List.{map_more, get_or-map}
use Rattle.std.proofs.lemmas.List.FromFn.{get_or-map-range_with_len, map-range_with_len_more}
use Rattle.point_core.specs.Reach.{value_at}
use Rattle.words_core.specs.theorem.Seat.{SeatModel, added_to}
use Rattle.resv_core.specs.declared.plan.Act.{Act}
use Rattle.resv_core.specs.Settled.{increments_of, values_of, gathered_values}
use Rattle.clients_core.proofs.Gathering.{map-contexts}

-- one more of them is the same
pub values_of-more : (reach : List ℕ) (plans : List (List Act)) (i ctx : ℕ) (d : List Act) → i < length plans → 1 + i ≡ ctx → value_at reach ctx ≡ increments_of (get_or plans i d)
    → map (value_at reach) (range_with_len 1 i) ≡ values_of (take i plans) → map (value_at reach) (range_with_len 1 (i + 1)) ≡ values_of (take (i + 1) plans)
values_of-more reach plans i ctx d low is here before =
    map-range_with_len_more (value_at reach) 1 i ctx is
    ∙ ap (λ (v : ℕ). map (value_at reach) (range_with_len 1 i) ++ v ∷ []) here
    ∙ ap (λ (vs : List ℕ). vs ++ increments_of (get_or plans i d) ∷ []) before
    ∙ sym (map_more increments_of plans i d low)

-- where all are the same, each is
pub value_at-values_of : (reach : List ℕ) (plans : List (List Act)) (i ctx : ℕ) (d : List Act) → i < length plans → 1 + i ≡ ctx
    → map (value_at reach) (range_with_len 1 (length plans)) ≡ values_of plans → value_at reach ctx ≡ increments_of (get_or plans i d)
value_at-values_of reach plans i ctx d low is same =
    sym (get_or-map-range_with_len (value_at reach) 1 (length plans) i ctx 0 low is)
    ∙ ap (λ (vs : List ℕ). get_or vs i 0) same
    ∙ get_or-map increments_of plans i d 0 low

-- what a gathered seat knows, once it has loaded
pub gathered_values-loaded : (reach : List ℕ) (before after : SeatModel) (n : ℕ) → ((ctx : ℕ) → added_to after ctx ≡ added_to before ctx)
    → ((ctx : ℕ) → 1 ≤ ctx → ctx ≤ n → value_at reach ctx ≡ added_to before ctx) → gathered_values n after ≡ map (value_at reach) (range_with_len 1 n)
gathered_values-loaded reach before after n same loaded = map-contexts (added_to after) (value_at reach) n (λ ctx low high. same ctx ∙ sym (loaded ctx low high))
