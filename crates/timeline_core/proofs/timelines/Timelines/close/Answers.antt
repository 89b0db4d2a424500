use Rattle.std.proofs.Common.{◌≡◌, ℕ, ◌-◌, ◌<◌, List, Option, length, sym, ap, ◌∙◌, arith}
use Rattle.point_core.specs.Reach.{shut_value}
use Rattle.point_core.specs.Clocks.{reach_of_clocks}
use Rattle.timeline_core.specs.Timeline.{context_of, shut}
use Rattle.timeline_core.specs.Run.{shut_if}
use Rattle.timeline_core.proofs.Places.{place-of, name-place, context_of-place, has_timeline-place}
use Rattle.timeline_core.proofs.Raising.{names_of-shut, AreTimelines-shut, shut-stored}
use Rattle.timeline_core.proofs.Storing.{names-seen, clocks-seen, AreTimelines-seen, AreStored-made, timelines_of-stored}
use Rattle.timeline_core.proofs.timelines.Timelines.close.Goals as goal

pub invariant_of-self : goal.invariant_of-self
invariant_of-self c =
    let ctx = c.args.ctx in
    let ts = c.args.self.now in
    let kept = AreTimelines-seen c.self.invariant c.self.view_is in
    let low : (ctx - 1) < length ts = omega (arith, c.requires.made, c.close.ensures.context.0) in
    let found = place-of ts (ctx - 1) low kept.distinct in
    let at : ctx ≡ context_of ts found.0 = omega (arith, c.close.ensures.context.0, context_of-place ts found.0 (ctx - 1) found.1) in
    let after = shut-stored ts found.0 c.close.ensures.clocks (clocks-seen c.self.invariant c.self.view_is) at kept (has_timeline-place ts found.0 (ctx - 1) found.1) in
    AreStored-made (shut ts found.0) (names-seen c.self.invariant c.self.view_is ∙ sym (names_of-shut ts found.0)) after (AreTimelines-shut ts found.0 kept)

pub returns : goal.returns
returns c = record {
  leaves =
      let ctx = c.args.ctx in
      let ts = c.args.self.now in
      let kept = AreTimelines-seen c.self.invariant c.self.view_is in
      let low : (ctx - 1) < length ts = omega (arith, c.requires.made, c.close.ensures.context.0) in
      let found = place-of ts (ctx - 1) low kept.distinct in
      let at : ctx ≡ context_of ts found.0 = omega (arith, c.close.ensures.context.0, context_of-place ts found.0 (ctx - 1) found.1) in
      let after = shut-stored ts found.0 c.close.ensures.clocks (clocks-seen c.self.invariant c.self.view_is) at kept (has_timeline-place ts found.0 (ctx - 1) found.1) in
      let new = timelines_of-stored (shut ts found.0) (names-seen c.self.invariant c.self.view_is ∙ sym (names_of-shut ts found.0)) after in
      ((c.close.ensures.context.0, c.requires.made, c.requires.not_closed), new ∙ ap (λ (name : Option (List ℕ)). shut_if ts name) (sym (name-place ts found.0 (ctx - 1) found.1)));
  reach = ap reach_of_clocks (sym (invariant_of-self c).clocks_are) ∙ c.close.ensures.reach ∙ ap (λ cs. shut_value (reach_of_clocks cs) c.args.ctx) (clocks-seen c.self.invariant c.self.view_is);
  shut = λ name has at.
      let ts = c.args.self.now in
      let after = shut-stored ts name c.close.ensures.clocks (clocks-seen c.self.invariant c.self.view_is) (sym at) (AreTimelines-seen c.self.invariant c.self.view_is) has in
      timelines_of-stored (shut ts name) (names-seen c.self.invariant c.self.view_is ∙ sym (names_of-shut ts name)) after;
}
