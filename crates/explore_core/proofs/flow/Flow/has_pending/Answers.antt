use Rattle.explore_core.specs.Flow.{bounds_of}
use Rattle.explore_core.proofs.Holding.{is-within}
use Rattle.explore_core.proofs.flow.Flow.has_pending.Goals as goal

pub returns-then-has_pending_in_files : goal.returns-then-has_pending_in_files
returns-then-has_pending_in_files c = λ is history stands.
    is-within stands (bounds_of c.args.self.now) (c.has_pending_in_files.ensures c.if-has_pending_in_files.true) (c.has_pending_in_buffers.ensures is)
