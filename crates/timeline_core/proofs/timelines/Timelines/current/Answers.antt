use Rattle.std.proofs.Common.{◌≡◌, ◌≤◌, length, true, false, is_some, refl, sym, ap, ◌∙◌, arith}
use Rattle.std.proofs.lemmas.Option.{MatchOption-at_some}
use Rattle.point_core.specs.declared.clocks.Clock.{Clock}
use Rattle.point_core.specs.Agreement.{point_of}
use Rattle.point_core.specs.Clocks.{clock_at}
use Rattle.point_core.specs.Reach.{GREATEST, reaching}
use Rattle.timeline_core.specs.Timeline.{has_timeline, context_of, clocks_of, reach_of, clock_named, value_of}
use Rattle.timeline_core.proofs.Raising.{reach_of-shut-reaching}
use Rattle.timeline_core.proofs.Storing.{clocks-seen, clock_named-stored, AreTimelines-seen}
use Rattle.timeline_core.proofs.timelines.Timelines.current.Goals as goal

pub returns : goal.returns
returns c =
    let ts = c.args.self.now in
    let name = c.args.name.now in
    let found = c.in_ok-ctx.ensures.ok_part in
    let has : has_timeline ts name ≡ true = c.context.ensures.found.0 (ap is_some found) in
    let made = MatchOption-at_some _ (λ x. (1 ≤ x) × (x ≤ length ts)) c.in_ok-ctx.ctx found c.context.ensures.made in
    let at : c.in_ok-ctx.ctx ≡ context_of ts name = MatchOption-at_some _ (λ x. x ≡ context_of ts name) c.in_ok-ctx.ctx found c.context.ensures.value in
    let clock : c.clock-value.result ≡ clock_named ts name = clock_named-stored ts name (clocks-seen c.self.invariant c.self.view_is) at c.clock-value.ensures.clock in
    let still : (clock_named ts name).closed ≡ false = ap (λ (k : Clock). k.closed) (sym clock) ∙ c.if-closed.false in
    let value : c.clock-value.result.value ≡ value_of ts name = ap (λ (k : Clock). k.value) clock in
    let fits = c.clock-value.type_inv in
    let low : value_of ts name ≤ GREATEST = omega (arith, value, fits) in
    record {
      point = ap (λ x. point_of x c.clock-value.result.value) at ∙ ap (point_of (context_of ts name)) value;
      known = (has, made.1);
      not_closed = ap (λ x. (clock_at (clocks_of ts) x).closed) at ∙ still;
      refused = rw (has, still) refl;
      timelines = AreTimelines-seen c.self.invariant c.self.view_is;
      last = ap (λ x. reaching (reach_of ts) (point_of x GREATEST)) at ∙ sym (reach_of-shut-reaching ts name (AreTimelines-seen c.self.invariant c.self.view_is) has still low);
    }
