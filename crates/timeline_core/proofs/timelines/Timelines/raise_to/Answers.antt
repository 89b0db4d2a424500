use Rattle.std.proofs.Common.{ℕ, ◌-◌, ◌<◌, List, Option, length, sym, ap, ◌∙◌, arith}
use Rattle.point_core.specs.Reach.{reaching}
use Rattle.point_core.specs.Clocks.{reach_of_clocks}
use Rattle.timeline_core.specs.Timeline.{raised}
use Rattle.timeline_core.specs.Run.{missing_to, raised_if}
use Rattle.timeline_core.proofs.Places.{place-of, name-place}
use Rattle.timeline_core.proofs.Raising.{names_of-raised, AreTimelines-raised, raised-stored, raised-missing}
use Rattle.timeline_core.proofs.Storing.{names-seen, clocks-seen, AreTimelines-seen, AreStored-made, timelines_of-stored}
use Rattle.timeline_core.proofs.timelines.Timelines.raise_to.Goals as goal

pub invariant_of-self : goal.invariant_of-self
invariant_of-self c =
    let p = c.args.point in
    let ts = c.args.self.now in
    let kept = AreTimelines-seen c.self.invariant c.self.view_is in
    let low : (p.ctx - 1) < length ts = omega (arith, c.requires.made, c.raise_to.ensures.context.0) in
    let found = place-of ts (p.ctx - 1) low kept.distinct in
    let after = raised-missing p.ctx p.value ts found.0 c.raise_to.ensures.clocks (clocks-seen c.self.invariant c.self.view_is) c.raise_to.ensures.context.0 kept found.1 in
    let n = missing_to ts p.ctx p.value in
    AreStored-made (raised ts found.0 n) (names-seen c.self.invariant c.self.view_is ∙ sym (names_of-raised ts found.0 n)) after (AreTimelines-raised ts found.0 n kept)

pub returns : goal.returns
returns c = record {
  leaves =
      let p = c.args.point in
      let ts = c.args.self.now in
      let kept = AreTimelines-seen c.self.invariant c.self.view_is in
      let low : (p.ctx - 1) < length ts = omega (arith, c.requires.made, c.raise_to.ensures.context.0) in
      let found = place-of ts (p.ctx - 1) low kept.distinct in
      let after = raised-missing p.ctx p.value ts found.0 c.raise_to.ensures.clocks (clocks-seen c.self.invariant c.self.view_is) c.raise_to.ensures.context.0 kept found.1 in
      let n = missing_to ts p.ctx p.value in
      let new = timelines_of-stored (raised ts found.0 n) (names-seen c.self.invariant c.self.view_is ∙ sym (names_of-raised ts found.0 n)) after in
      ((c.raise_to.ensures.context.0, c.requires.made, c.requires.not_closed), new ∙ ap (λ (name : Option (List ℕ)). raised_if ts name n) (sym (name-place ts found.0 (p.ctx - 1) found.1)));
  reach = ap reach_of_clocks (sym (invariant_of-self c).clocks_are) ∙ c.raise_to.ensures.reach ∙ ap (λ cs. reaching (reach_of_clocks cs) c.args.point) (clocks-seen c.self.invariant c.self.view_is);
  names = sym (invariant_of-self c).names_are ∙ names-seen c.self.invariant c.self.view_is;
  raised = λ name n has at sum.
      let ts = c.args.self.now in
      let after = raised-stored ts name n c.raise_to.ensures.clocks (clocks-seen c.self.invariant c.self.view_is) (sym at) (sym sum) (AreTimelines-seen c.self.invariant c.self.view_is) has in
      timelines_of-stored (raised ts name n) (names-seen c.self.invariant c.self.view_is ∙ sym (names_of-raised ts name n)) after;
}
