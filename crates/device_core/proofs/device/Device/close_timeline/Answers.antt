use Rattle.std.proofs.Common.{◌≡◌, ◌∙◌, true, refl, sym, ap, subst, Some, is_some, arith}
use Rattle.std.specs.Prelude.{IfSome}
use Rattle.device_core.specs.declared.errno.Errno.TheVariants.{NoMemory}
use Rattle.device_core.specs.declared.request.Request.TheVariants as request
use Rattle.device_core.specs.theorem.Request.{takes_memory}
use Rattle.device_core.specs.theorem.State.{DeviceState, at, objects_of, timeline_at, IsIndexed}
use Rattle.device_core.proofs.Needing.{close-takes}
use Rattle.device_core.proofs.device.Device.close_timeline.Goals as goal

pub woken_by-requires : goal.woken_by-requires
woken_by-requires c = record {
  indexed = subst (λ index. IsIndexed index c.self.inside.files.entries) (sym c.points-points.ensures.keys) c.self.invariant.indexed;
  below = λ n past. c.self.invariant.files_given n (omega (arith, past));
}

pub returns-in_default-clause-last : goal.returns-in_default-clause-last
returns-in_default-clause-last c =
    let d : DeviceState = record { next = c.self.inside.next; timelines = c.self.inside.timelines.entries; files = c.self.inside.files.entries; buffers = c.self.inside.buffers.entries; index = c.self.inside.timelines.index } in
    let t = c.args.timeline in
    let found : timeline_at c.args.self.now t ≡ Some c.in_ok-_known._known = c.in_ok-_known.ensures.found in
    let there : is_some (at c.self.inside.timelines.entries t) ≡ true = ap (λ (e : DeviceState). is_some (timeline_at e t)) c.self.view_is ∙ ap is_some found in
    subst (λ o. IfSome o (λ _. (NoMemory ≡ NoMemory) × (takes_memory (objects_of c.args.self.now) (request.Close t c.args.now) ≡ true))) (sym found) (
      refl,
      subst (λ (e : DeviceState). takes_memory (objects_of e) (request.Close t c.args.now) ≡ true) c.self.view_is
          (close-takes (objects_of d) t c.args.now there c.self.invariant.files_given c.in_default.ensures.memory.1),
    )
