use Rattle.std.proofs.Common.{◌≡◌, ◌+◌, ℕ, ap, ◌∙◌}
use Rattle.words_core.specs.theorem.Layout.{flag_word}
use Rattle.words_core.specs.theorem.Seat.{SeatModel, tests_of, with_step}
use Rattle.words_core.specs.theorem.Trace.{wins_of, set_once_step}
use Rattle.words_core.proofs.Driving.{wins_of-won, tests_of-set_once}
use Rattle.words_core.proofs.words.Words.set_once.Goals as goal

pub returns-then-set_flag-eq0-clause-once : goal.returns-then-set_flag-eq0-clause-once
returns-then-set_flag-eq0-clause-once c =
    let seat = c.args.seat.now in
    let w = flag_word c.args.self.now c.args.flag in
    let free : c.set_flag.result ≡ 0 = c.if-set_flag-eq0.true in
    ap (λ (s : SeatModel). wins_of w s.trace) (c.set_flag.ensures.entered ∙ ap (λ (n : ℕ). with_step seat (set_once_step w n)) free)
    ∙ wins_of-won seat w
    ∙ ap (λ (n : ℕ). n + 1) (c.set_flag.ensures.first free).1

pub returns-then-set_flag-eq0-clause-set : goal.returns-then-set_flag-eq0-clause-set
returns-then-set_flag-eq0-clause-set c =
    let w = flag_word c.args.self.now c.args.flag in
    ap (λ (s : SeatModel). tests_of s w) c.set_flag.ensures.entered ∙ tests_of-set_once c.args.seat.now w c.set_flag.result

pub returns-else-set_flag-eq0-clause-set : goal.returns-else-set_flag-eq0-clause-set
returns-else-set_flag-eq0-clause-set c =
    let w = flag_word c.args.self.now c.args.flag in
    ap (λ (s : SeatModel). tests_of s w) c.set_flag.ensures.entered ∙ tests_of-set_once c.args.seat.now w c.set_flag.result
