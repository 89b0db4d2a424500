use Rattle.std.proofs.Common.{subst, sym}
use Rattle.line_core.proofs.Handling.{on-ok}
use Rattle.check_core.specs.Tally.{IsBelow}
use Rattle.check_core.proofs.Throughout.{checked-all, checked-line, checked-none}
use Rattle.check_core.proofs.checker.Checker.take_text.Goals as goal

pub loop-number-init : goal.loop-number-init
loop-number-init g c = checked-none c.args.text.now c.args.self.now c.requires.fresh

pub take-requires : goal.take-requires
take-requires g c =
    let p = c.loop-number.invariant in
    record { few = subst (IsBelow c.loop-number.self.tally) (sym p.place) p.so_far.few }

pub take_last-requires : goal.take_last-requires
take_last-requires g c =
    let p = c.loop-number.invariant in
    record { few = subst (IsBelow c.loop-number.self.tally) (sym p.place) p.so_far.few }

pub loop-number-preserved : goal.loop-number-preserved
loop-number-preserved g c =
    checked-line c.args.text.now c.loop-number.rest.now c.in-Some.line.now c.in-Some.more.now c.loop-number.number c.loop-number.self c.take.new.self
    c.in-Some.ensures.lines c.loop-number.invariant c.in_ok-take.ensures.ok

pub returns-in_default-clause-answers : goal.returns-in_default-clause-answers
returns-in_default-clause-answers g c =
    on-ok c.take_last.result
    (λ ended none. checked-all c.args.text.now c.loop-number.rest.now c.loop-number.number c.loop-number.self c.take_last.new.self c.in_default.ensures.lines
    c.loop-number.invariant ended none)
    c.take_last.ensures.ok
