use Rattle.std.proofs.Common.{◌∙◌, ap}
use Rattle.std.specs.List.{list_any}
use Rattle.fence_core.specs.Watch.{Registry, registry_of}
use Rattle.fence_core.specs.Watches.{fires, without_watches}
use Rattle.fence_core.proofs.Fired.{without_fired, none-left}
use Rattle.fence_core.proofs.watches.Watches.after_rise.Goals as goal

pub rise_to-requires-clause-none_fires : goal.rise_to-requires-clause-none_fires
rise_to-requires-clause-none_fires c =
    ap (λ (r : Registry). list_any (fires c.args.reach.now) r.pending)
    (c.remove_all.ensures ∙ ap (λ r. without_watches r c.as_slice.result.now) c.in_ok-cookies.ensures.same ∙ ap (without_watches c.args.self.now) (c.as_slice.ensures.value ∙ c.in_ok-cookies.ensures.fired)
    ∙ ap (λ ws. registry_of ws c.args.self.now.made c.args.self.now.reach) (without_fired c.args.reach.now c.args.self.now.pending c.in_ok-cookies.ensures.pending.distinct))
    ∙ none-left c.args.reach.now c.args.self.now.pending

pub returns-clause-left : goal.returns-clause-left
returns-clause-left c =
    c.rise_to.ensures
    ∙ ap (λ (r : Registry). registry_of r.pending r.made c.args.reach.now)
    (c.remove_all.ensures ∙ ap (λ r. without_watches r c.as_slice.result.now) c.in_ok-cookies.ensures.same ∙ ap (without_watches c.args.self.now) (c.as_slice.ensures.value ∙ c.in_ok-cookies.ensures.fired)
    ∙ ap (λ ws. registry_of ws c.args.self.now.made c.args.self.now.reach) (without_fired c.args.reach.now c.args.self.now.pending c.in_ok-cookies.ensures.pending.distinct))
