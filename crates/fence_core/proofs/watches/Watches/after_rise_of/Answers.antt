use Rattle.std.proofs.Common.{◌∙◌, ap}
use Rattle.std.specs.List.{list_any}
use Rattle.point_core.specs.Reach.{reaching}
use Rattle.fence_core.specs.Watch.{Registry, registry_of}
use Rattle.fence_core.specs.Watches.{fires, without_watches}
use Rattle.fence_core.proofs.Fired.{without_fired, none-left}
use Rattle.fence_core.proofs.watches.Watches.after_rise_of.Goals as goal

pub rise_in_one_context-requires : goal.rise_in_one_context-requires
rise_in_one_context-requires c =
    let reach = reaching c.args.self.now.reach c.args.point.now in
    let left =
    c.remove_all.ensures ∙ ap (λ r. without_watches r c.as_slice.result.now) c.in_ok-cookies.ensures.same ∙ ap (without_watches c.args.self.now) (c.as_slice.ensures.value ∙ c.in_ok-cookies.ensures.fired)
    ∙ ap (λ ws. registry_of ws c.args.self.now.made c.args.self.now.reach) (without_fired reach c.args.self.now.pending c.in_ok-cookies.ensures.pending.distinct) in
    record {
      none_fires = ap (λ (r : Registry). list_any (fires (reaching r.reach c.args.point.now)) r.pending) left ∙ none-left reach c.args.self.now.pending;
    }

pub returns-clause-left : goal.returns-clause-left
returns-clause-left c =
    let reach = reaching c.args.self.now.reach c.args.point.now in
    c.rise_in_one_context.ensures
    ∙ ap (λ (r : Registry). registry_of r.pending r.made (reaching r.reach c.args.point.now))
    (c.remove_all.ensures ∙ ap (λ r. without_watches r c.as_slice.result.now) c.in_ok-cookies.ensures.same ∙ ap (without_watches c.args.self.now) (c.as_slice.ensures.value ∙ c.in_ok-cookies.ensures.fired)
    ∙ ap (λ ws. registry_of ws c.args.self.now.made c.args.self.now.reach) (without_fired reach c.args.self.now.pending c.in_ok-cookies.ensures.pending.distinct))
