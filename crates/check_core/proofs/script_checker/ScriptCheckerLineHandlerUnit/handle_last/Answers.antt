-- By the ending.
use Rattle.std.proofs.Common.{◌≡◌, ◌∙◌, arith, subst, sym}
use Rattle.std.proofs.KnownBytes.{Keeps-trans}
use Rattle.check_core.specs.Slips.{is_slip}
use Rattle.check_core.specs.Tally.{IsBelow}
use Rattle.check_core.proofs.Progress.{HasChecked-last, not-whole}
use Rattle.check_core.proofs.Slips.{one_at_most, slip-line, slip_count-few}
use Rattle.check_core.proofs.script_checker.ScriptCheckerLineHandlerUnit.handle_last.Goals as goal

pub take_last-requires : goal.take_last-requires
take_last-requires g c = record { few = subst (IsBelow c.args.self.now.checker.tally) (sym c.requires.next.is) c.requires.next.so_far.so_far.few }

pub counted-self-requires : goal.counted-self-requires
counted-self-requires g c =
    let next = c.requires.next in
    record {
      few = omega (arith, next.so_far.slips, slip_count-few next.lines, next.is);
      one = omega (arith, c.in_ok-slips-in-Whole.ensures.slips, one_at_most (is_slip c.args.line.now.bytes.now));
    }

pub returns-in_ok-take_last-in-Whole-clause-ok : goal.returns-in_ok-take_last-in-Whole-clause-ok
returns-in_ok-take_last-in-Whole-clause-ok g c =
    let line = c.args.line.now in
    let one = c.in_ok-slips-in-Whole.slips in
    let checker = c.args.self.now.checker in
    λ start lines said text p place held whole. (
    let counted = c.counted-self.ensures ∙ slip-line lines text line.bytes.now c.args.self.now.slips one p.slips c.in_ok-slips-in-Whole.ensures.slips held in
    record {
      checks = HasChecked-last lines said text line.bytes.now line.number c.args.ending checker c.take_last.new.self _ place held whole p.so_far c.in_ok-take_last-in-Whole.ensures.ok counted;
      quiet = λ none no_slips. (let step = c.in_ok-take_last-in-Whole.ensures.quiet none in
          let before : c.args.self.now.slips ≡ 0 = omega (arith, no_slips, c.counted-self.ensures) in
          let here : one ≡ 0 = omega (arith, no_slips, c.counted-self.ensures) in
          Keeps-trans _ _ _ (Keeps-trans _ _ _ (p.quiet step.0 before) (c.in_ok-slips-in-Whole.ensures.quiet here)) step.1);
    })

pub returns-in-TooLong-clause-ok : goal.returns-in-TooLong-clause-ok
returns-in-TooLong-clause-ok g c start lines said text p place held whole = absurd (not-whole c.args.ending c.in-TooLong.is whole)
