use Rattle.std.proofs.Common.{◌≤◌, ℕ, ap, ◌∙◌, subst}
use Rattle.words_core.specs.theorem.Seat.{SeatModel, seen}
use Rattle.words_core.specs.theorem.Trace.{wins_of}
use Rattle.words_core.proofs.Driving.{wins_of-both_of}
use Rattle.words_core.proofs.Seen.{seen-both_of}
use Rattle.words_core.proofs.words.Words.join.Goals as goal

pub returns-clause-seen : goal.returns-clause-seen
returns-clause-seen c = λ w. ap (λ (s : SeatModel). seen s w) c.absorb.ensures.both ∙ seen-both_of c.args.seat.now c.args.other w

pub returns-clause-once : goal.returns-clause-once
returns-clause-once c = λ w.
    subst (λ (n : ℕ). n ≤ 1) (ap (λ (s : SeatModel). wins_of w s.trace) c.absorb.ensures.both ∙ wins_of-both_of c.args.seat.now c.args.other w) (c.absorb.ensures.once w)
