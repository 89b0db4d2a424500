use Rattle.std.proofs.Common.{◌≡◌, ◌+◌, ◌++◌, ◌∷◌, [], ℕ, List, sym, ap, ◌∙◌, map, arith}
use Rattle.std.specs.List.{range_with_len}
use Rattle.std.proofs.lemmas.List.FromFn.{map-range_with_len_more}
use Rattle.point_core.specs.Reach.{value_at}
use Rattle.clients_core.proofs.gathered_values.listed.Goals as goal

pub loop-index-preserved : goal.loop-index-preserved
loop-index-preserved c =
    let n = c.loop-index.index in
    let reach = c.args.reach.now in
    let is : 1 + n ≡ c.at.result = omega arith in
    record {
      values =
          c.push_reserved.ensures.items
          ∙ ap (λ (vs : List ℕ). vs ++ c.get.result ∷ []) c.loop-index.invariant.values
          ∙ ap (λ (v : ℕ). map (value_at reach) (range_with_len 1 n) ++ v ∷ []) c.get.ensures.value
          ∙ sym (map-range_with_len_more (value_at reach) 1 n c.at.result is);
      len = omega arith;
      places = c.push_reserved.ensures.capacity ∙ c.loop-index.invariant.places;
    }
