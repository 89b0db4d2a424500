use Rattle.std.proofs.Common.{◌++◌, ◌∷◌, [], ap, ◌∙◌, arith}
use Rattle.timeline_core.specs.Stored.{timelines_of}
use Rattle.timeline_core.proofs.Rows.{rows_of-next}
use Rattle.timeline_core.proofs.timelines.Timelines.rows.Goals as goal

pub loop-index-preserved : goal.loop-index-preserved
loop-index-preserved c =
    let stored = c.self.inside in
    let names = c.as_slice-names.ensures.keys ∙ c.self.invariant.names_are in
    record {
      so_far =
          c.push_reserved.ensures.items
          ∙ ap (λ rows. rows ++ record { name = c.index-names-index.result; value = c.clock-clock.result.value; closed = c.clock-clock.result.closed } ∷ []) c.loop-index.invariant.so_far
          ∙ rows_of-next (timelines_of stored.names.keys stored.clocks) c.loop-index.index c.index-names-index.result c.clock-clock.result names c.self.invariant.clocks_are c.loop-index-test.true c.index-names-index.is c.at.ensures c.clock-clock.ensures.clock;
      len = omega arith;
      capacity = omega arith;
    }
