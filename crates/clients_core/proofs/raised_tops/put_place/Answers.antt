use Rattle.std.proofs.Common.{ap, ◌∙◌}
use Rattle.words_core.specs.theorem.Seat.{SeatModel, raised_to}
use Rattle.clients_core.proofs.Showing.{raised_to-shown}
use Rattle.clients_core.proofs.raised_tops.put_place.Goals as goal

pub returns-clause-same : goal.returns-clause-same
returns-clause-same c = λ w. ap (λ (s : SeatModel). raised_to s w) c.top-value.ensures.entered ∙ raised_to-shown c.args.all.now w _ c.top-value.result
