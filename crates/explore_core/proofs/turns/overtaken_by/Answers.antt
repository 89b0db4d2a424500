use Rattle.std.proofs.Common.{◌+◌, drop, get_or, map, sym, ap, ◌∙◌, arith}
use Rattle.std.specs.List.{prefix_len, range_with_len, sum_by}
use Rattle.std.proofs.lemmas.List.FromFn.{sum_by-map-range_with_len_more}
use Rattle.explore_core.specs.Schedule.{lines_of}
use Rattle.explore_core.specs.Shortening.{comes_before}
use Rattle.explore_core.proofs.turns.overtaken_by.Goals as goal

pub loop-client-preserved : goal.loop-client-preserved
loop-client-preserved c =
    let plan = c.args.plan.now in
    let made = c.args.made.now in
    let before = prefix_len (comes_before c.args.turn) in
    let client = c.loop-client.client in
    let one = c.overtaken_of.ensures ∙ ap (λ place. before (drop place (lines_of plan client))) c.place_of.ensures in
    c.in_ok-overtaken.ensures.sum
    ∙ ap (λ n. n + c.overtaken_of.result) c.loop-client.invariant
    ∙ ap (λ n. sum_by before (map (λ k. drop (get_or made k 0) (lines_of plan k)) (range_with_len 0 client)) + n) one
    ∙ sym (sum_by-map-range_with_len_more before (λ k. drop (get_or made k 0) (lines_of plan k)) 0 client client (omega arith))
