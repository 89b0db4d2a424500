-- By how the line was taken.
use Rattle.std.proofs.Common.{◌≡◌, ◌∙◌, arith, refl, subst, sym}
use Rattle.std.proofs.KnownBytes.{Keeps-trans}
use Rattle.check_core.specs.Slips.{is_slip}
use Rattle.check_core.specs.Tally.{IsBelow}
use Rattle.check_core.proofs.Progress.{HasChecked-line}
use Rattle.check_core.proofs.Slips.{one_at_most, slip-line, slip_count-few}
use Rattle.check_core.proofs.script_checker.ScriptCheckerLineHandlerUnit.handle.Goals as goal

pub take-requires : goal.take-requires
take-requires g c = record { few = subst (IsBelow c.args.self.now.checker.tally) (sym c.requires.next.is) c.requires.next.so_far.so_far.few }

pub counted-self-requires : goal.counted-self-requires
counted-self-requires g c =
    let next = c.requires.next in
    record {
      few = omega (arith, next.so_far.slips, slip_count-few next.lines, next.is);
      one = omega (arith, c.in_ok-slips.ensures.slips, one_at_most (is_slip c.args.line.now.bytes.now));
    }

pub returns-clause-ok : goal.returns-clause-ok
returns-clause-ok g c =
    let line = c.args.line.now in
    let one = c.in_ok-slips.slips in
    λ start lines said text p place held. record {
      so_far = HasChecked-line lines text line.bytes.now line.number place held said c.args.self.now.checker c.take.new.self p.so_far _ refl c.in_ok-take.ensures.ok;
      slips = c.counted-self.ensures ∙ slip-line lines text line.bytes.now c.args.self.now.slips one p.slips c.in_ok-slips.ensures.slips held;
      quiet = λ none no_slips. (let step = c.in_ok-take.ensures.quiet none in
          let before : c.args.self.now.slips ≡ 0 = omega (arith, no_slips, c.counted-self.ensures) in
          let here : one ≡ 0 = omega (arith, no_slips, c.counted-self.ensures) in
          Keeps-trans _ _ _ (Keeps-trans _ _ _ (p.quiet step.0 before) (c.in_ok-slips.ensures.quiet here)) step.1);
    }
