use Rattle.std.proofs.Common.{◌≡◌, ◌+◌, ℕ, ◌∙◌, false, refl, sym, ap, subst, Some, arith, rules, cond, nat_eq}
use Rattle.std.specs.Prelude.{IfSome}
use Rattle.device_core.specs.declared.errno.Errno.TheVariants.{NoMemory}
use Rattle.device_core.specs.declared.fence.Timeline.{Timeline}
use Rattle.device_core.specs.declared.request.Request.TheVariants as request
use Rattle.device_core.specs.theorem.Request.{AreWoken, IsCause, cause_of, risen, takes_memory}
use Rattle.device_core.specs.theorem.Fences.{signal_at}
use Rattle.device_core.specs.Floors.{HasRisenQuietly, TimelinesState}
use Rattle.device_core.specs.theorem.State.{DeviceState, at, objects_of, IsIndexed}
use Rattle.device_core.specs.Woken.{WakesSome}
use Rattle.device_core.proofs.Answering.{objects-risen, raised-to}
use Rattle.device_core.proofs.Needing.{inc-refused}
use Rattle.device_core.proofs.Signalled.{quiet-signalled}
use Rattle.device_core.proofs.device.Device.inc.Goals as goal

pub woken_by-requires : goal.woken_by-requires
woken_by-requires c = record {
  indexed = subst (λ index. IsIndexed index c.self.inside.files.entries) (sym (c.points-points.ensures.keys ∙ ap (λ (t : TimelinesState). t.index) c.if-rise_quietly.ensures.unchanged)) c.self.invariant.indexed;
  below = λ n past. c.self.invariant.files_given n (omega (arith, past));
}

pub returns-then-rise_quietly-clause-risen : goal.returns-then-rise_quietly-clause-risen
returns-then-rise_quietly-clause-risen c =
    let d : DeviceState = record { next = c.self.inside.next; timelines = c.self.inside.timelines.entries; files = c.self.inside.files.entries; buffers = c.self.inside.buffers.entries; index = c.self.inside.timelines.index } in
    let e : DeviceState = record d { timelines = c.rise_quietly.new.self.entries; index = c.rise_quietly.new.self.index } in
    let quiet : HasRisenQuietly c.self.inside.timelines c.rise_quietly.new.self c.args.timeline c.args.n = c.if-rise_quietly.ensures.risen in
    let its = at c.self.inside.timelines.entries c.args.timeline in
    subst (λ (o : DeviceState). objects_of e ≡ risen (objects_of o) c.args.timeline c.args.n c.args.now) c.self.view_is
    (objects-risen d e c.args.timeline c.args.n c.args.now its refl quiet.known refl refl quiet.rises
    (quiet-signalled its c.args.timeline c.args.n (signal_at c.args.now false) d.index d.files c.self.invariant.indexed quiet.none))

pub returns-in_default-woken_by-clause-refused : goal.returns-in_default-woken_by-clause-refused
returns-in_default-woken_by-clause-refused c =
    let d : DeviceState = record { next = c.self.inside.next; timelines = c.self.inside.timelines.entries; files = c.self.inside.files.entries; buffers = c.self.inside.buffers.entries; index = c.self.inside.timelines.index } in
    let known = c.in_ok-known.known in
    let there : at c.self.inside.timelines.entries c.args.timeline ≡ Some known = search rules in
    let sum : c.in-Some.value ≡ known.value + c.args.n = omega arith in
    let asked = request.Inc c.args.timeline c.args.n c.args.now in
    subst (λ (o : DeviceState). IsCause (cause_of (objects_of o) asked) (takes_memory (objects_of o) asked) NoMemory) c.self.view_is
    (inc-refused (objects_of d) c.args.timeline c.args.n c.args.now known there (omega arith) c.self.invariant.files_given
    (subst (λ v. WakesSome c.args.timeline v (at c.self.inside.files.entries)) sum c.in_default-woken_by.ensures.memory.1))

pub returns-clause-woken : goal.returns-clause-woken
returns-clause-woken c =
    let d : DeviceState = record { next = c.self.inside.next; timelines = c.self.inside.timelines.entries; files = c.self.inside.files.entries; buffers = c.self.inside.buffers.entries; index = c.self.inside.timelines.index } in
    let e : DeviceState = record d { timelines = c.raise_to.new.self.entries; files = c.raise_to.new.files.entries; index = c.raise_to.new.self.index } in
    let known = c.in_ok-known.known in
    let there : at c.self.inside.timelines.entries c.args.timeline ≡ Some known = search rules in
    let sum : c.in-Some.value ≡ known.value + c.args.n = omega arith in
    let rises = subst (λ (ts : TimelinesState). IfSome (at ts.entries c.args.timeline) (λ (k : Timeline). (q : ℕ) → at e.timelines q ≡ cond (nat_eq c.args.timeline q) (Some (record k { value = c.in-Some.value })) (at ts.entries q))) c.if-rise_quietly.ensures.unchanged c.raise_to.ensures.raised in
    subst (λ (o : DeviceState). AreWoken (objects_of o) (objects_of e) c.in-Ok.woken.items) c.self.view_is
    (raised-to d e c.args.timeline c.args.n c.args.now c.in-Some.value c.in-Ok.woken.items known there sum refl refl rises c.raise_to.ensures.signalled c.in-Ok.ensures.woken c.in-Ok.ensures.rising).1

pub returns-clause-risen : goal.returns-clause-risen
returns-clause-risen c =
    let d : DeviceState = record { next = c.self.inside.next; timelines = c.self.inside.timelines.entries; files = c.self.inside.files.entries; buffers = c.self.inside.buffers.entries; index = c.self.inside.timelines.index } in
    let e : DeviceState = record d { timelines = c.raise_to.new.self.entries; files = c.raise_to.new.files.entries; index = c.raise_to.new.self.index } in
    let known = c.in_ok-known.known in
    let there : at c.self.inside.timelines.entries c.args.timeline ≡ Some known = search rules in
    let sum : c.in-Some.value ≡ known.value + c.args.n = omega arith in
    let rises = subst (λ (ts : TimelinesState). IfSome (at ts.entries c.args.timeline) (λ (k : Timeline). (q : ℕ) → at e.timelines q ≡ cond (nat_eq c.args.timeline q) (Some (record k { value = c.in-Some.value })) (at ts.entries q))) c.if-rise_quietly.ensures.unchanged c.raise_to.ensures.raised in
    subst (λ (o : DeviceState). objects_of e ≡ risen (objects_of o) c.args.timeline c.args.n c.args.now) c.self.view_is
    (raised-to d e c.args.timeline c.args.n c.args.now c.in-Some.value c.in-Ok.woken.items known there sum refl refl rises c.raise_to.ensures.signalled c.in-Ok.ensures.woken c.in-Ok.ensures.rising).0
