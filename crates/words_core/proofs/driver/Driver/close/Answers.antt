use Rattle.std.proofs.Common.{ℕ, sym, ap, ◌∙◌, ◌+◌, ◌≡◌, arith}
use Rattle.words_core.specs.theorem.Driver.{DriverModel}
use Rattle.words_core.specs.theorem.Layout.{mark_word}
use Rattle.words_core.specs.theorem.Seat.{SeatModel}
use Rattle.words_core.specs.theorem.Trace.{shuts_of}
use Rattle.words_core.proofs.Driving.{shuts_of-shut}
use Rattle.words_core.proofs.driver.Driver.close.Goals as goal

pub returns-clause-first : goal.returns-clause-first
returns-clause-first c =
    let w = mark_word c.self.inside.ctx in
    let seat = c.finish-seat.result in
    let at = ap (λ (d : DriverModel). d.ctx) c.self.view_is in
    let own : seat ≡ c.self.inside.seat = c.finish-seat.ensures.seat ∙ sym (ap (λ (d : DriverModel). d.seat) c.self.view_is) in
    let none : shuts_of w seat.trace ≡ 0 = ap (λ (s : SeatModel). shuts_of w s.trace) own ∙ c.self.invariant.3 in
    let more = shuts_of-shut seat w (c.self.inside.value + 1) in
    ap (λ (k : ℕ). shuts_of (mark_word k) c.shut.new.seat.trace) (sym at) ∙ ap (λ (s : SeatModel). shuts_of w s.trace) c.shut.ensures.entered ∙ more ∙ omega arith
