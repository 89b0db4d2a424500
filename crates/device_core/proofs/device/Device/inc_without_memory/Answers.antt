use Rattle.std.proofs.Common.{◌≡◌, ◌+◌, ◌∙◌, ℕ, false, refl, ap, subst, Some, arith, sym}
use Rattle.device_core.specs.declared.errno.Errno.TheVariants.{NoMemory}
use Rattle.device_core.specs.declared.request.Request.TheVariants as request
use Rattle.device_core.specs.theorem.Request.{IsCause, cause_of, takes_memory}
use Rattle.device_core.specs.theorem.State.{DeviceState, at, objects_of, timeline_at, IsIndexed}
use Rattle.device_core.specs.Woken.{WakesSome, file_wakes}
use Rattle.device_core.proofs.Needing.{inc-refused, inc-spares}
use Rattle.device_core.proofs.device.Device.inc_without_memory.Goals as goal

pub wakes_some-requires : goal.wakes_some-requires
wakes_some-requires c = record {
  indexed = subst (λ index. IsIndexed index c.self.inside.files.entries) (sym c.points.ensures.keys) c.self.invariant.indexed;
  below = λ n past. c.self.invariant.files_given n (omega (arith, past));
}

pub returns-then-wakes_some-clause-refused : goal.returns-then-wakes_some-clause-refused
returns-then-wakes_some-clause-refused c = λ now.
    let d : DeviceState = record { next = c.self.inside.next; timelines = c.self.inside.timelines.entries; files = c.self.inside.files.entries; buffers = c.self.inside.buffers.entries; index = c.self.inside.timelines.index } in
    let known = c.in_ok-known.known in
    let there : at c.self.inside.timelines.entries c.args.timeline ≡ Some known = ap (λ (e : DeviceState). timeline_at e c.args.timeline) c.self.view_is ∙ c.in_ok-known.ensures.found in
    let sum : c.in-Some.value ≡ known.value + c.args.n = omega arith in
    subst (λ (e : DeviceState). IsCause (cause_of (objects_of e) (request.Inc c.args.timeline c.args.n now)) (takes_memory (objects_of e) (request.Inc c.args.timeline c.args.n now)) NoMemory) c.self.view_is
    (inc-refused (objects_of d) c.args.timeline c.args.n now known there (omega arith) c.self.invariant.files_given
    (subst (λ v. WakesSome c.args.timeline v (at c.self.inside.files.entries)) sum (c.if-wakes_some.ensures.some refl)))

pub returns-clause-none : goal.returns-clause-none
returns-clause-none c = λ now.
    let d : DeviceState = record { next = c.self.inside.next; timelines = c.self.inside.timelines.entries; files = c.self.inside.files.entries; buffers = c.self.inside.buffers.entries; index = c.self.inside.timelines.index } in
    let known = c.in_ok-known.known in
    let there : at c.self.inside.timelines.entries c.args.timeline ≡ Some known = ap (λ (e : DeviceState). timeline_at e c.args.timeline) c.self.view_is ∙ c.in_ok-known.ensures.found in
    let sum : c.in-Some.value ≡ known.value + c.args.n = omega arith in
    subst (λ (e : DeviceState). takes_memory (objects_of e) (request.Inc c.args.timeline c.args.n now) ≡ false) c.self.view_is
    (inc-spares (objects_of d) c.args.timeline c.args.n now known there
    (subst (λ v. (m : ℕ) → file_wakes c.args.timeline v (at c.self.inside.files.entries m) ≡ false) sum (c.if-wakes_some.ensures.none refl)))
