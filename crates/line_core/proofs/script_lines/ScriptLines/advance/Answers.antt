use Rattle.std.proofs.Common.{true, false, ap, sym, ◌∙◌}
use Rattle.line_core.specs.ScriptLines.{Advances, ended_at, all_held}
use Rattle.line_core.proofs.GivenLines.{Advances-next, Advances-drained, Advances-turns}
use Rattle.line_core.proofs.script_lines.ScriptLines.advance.Goals as goal

pub returns-in-Some : goal.returns-in-Some
returns-in-Some c =
    let old = c.args.self.now in
    let new = c.end_at.new.self in
    let place = c.in-Some.place in
    let gone = c.go_on.ensures.gone in
    let went : Advances old true new = record {
      place = place;
      found = sym (rw (c.ready.ensures.bytes ∙ ap (λ s. s.ready) gone) at c.in-Some.ensures.place);
      is = c.end_at.ensures.ended ∙ ap (λ s. ended_at s place) gone;
    } in
    record {
      next = λ before now given p. Advances-next before now old new given p true went;
      drained = λ e. Advances-drained old new true e went;
      turns = Advances-turns old new true went;
    }

pub returns-in-None : goal.returns-in-None
returns-in-None c =
    let old = c.args.self.now in
    let new = c.hold_all.new.self in
    let gone = c.go_on.ensures.gone in
    let went : Advances old false new = (
      sym (rw (c.ready.ensures.bytes ∙ ap (λ s. s.ready) gone) at c.in-None.ensures.place),
      c.hold_all.ensures.held ∙ ap all_held gone,
    ) in
    record {
      next = λ before now given p. Advances-next before now old new given p false went;
      drained = λ e. Advances-drained old new false e went;
      turns = Advances-turns old new false went;
    }
