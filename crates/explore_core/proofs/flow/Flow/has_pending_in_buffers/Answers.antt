use Rattle.std.proofs.Common.{◌≡◌, true, ◌∙◌, subst}
use Rattle.std.specs.Prelude.{All}
use Rattle.explore_core.specs.Flow.{allows_buffer, bounds_of}
use Rattle.explore_core.proofs.flow.Flow.has_pending_in_buffers.Goals as goal

pub returns : goal.returns
returns c = λ is.
    subst (All (λ name. allows_buffer (bounds_of c.args.self.now) c.args.desk.now name ≡ true)) (c.as_slice.ensures.value ∙ c.in-Ok.ensures.names) (c.allows_buffers.ensures is)
