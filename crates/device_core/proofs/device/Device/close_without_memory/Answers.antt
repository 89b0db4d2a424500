use Rattle.std.proofs.Common.{◌≡◌, ◌∙◌, true, false, is_some, refl, sym, subst, arith}
use Rattle.device_core.specs.declared.errno.Errno.TheVariants.{NoMemory}
use Rattle.device_core.specs.declared.request.Request.TheVariants as request
use Rattle.device_core.specs.theorem.Request.{IsCause, cause_of, takes_memory}
use Rattle.device_core.specs.theorem.State.{DeviceState, at, objects_of, IsIndexed}
use Rattle.device_core.proofs.Needing.{close-refused, close-spares, drop-spares}
use Rattle.device_core.proofs.device.Device.close_without_memory.Goals as goal

pub wakes_some-requires : goal.wakes_some-requires
wakes_some-requires c = record {
  indexed = subst (λ index. IsIndexed index c.self.inside.files.entries) (sym c.points.ensures.keys) c.self.invariant.indexed;
  below = λ n past. c.self.invariant.files_given n (omega (arith, past));
}

pub returns-then-not-contains_key-clause-none : goal.returns-then-not-contains_key-clause-none
returns-then-not-contains_key-clause-none c = λ now.
    let d : DeviceState = record { next = c.self.inside.next; timelines = c.self.inside.timelines.entries; files = c.self.inside.files.entries; buffers = c.self.inside.buffers.entries; index = c.self.inside.timelines.index } in
    subst (λ (e : DeviceState). takes_memory (objects_of e) (request.Close c.args.number now) ≡ false) c.self.view_is
    (drop-spares (objects_of d) c.args.number now (sym c.contains_key.ensures ∙ c.if-not-contains_key.true))

pub returns-then-wakes_some-clause-refused : goal.returns-then-wakes_some-clause-refused
returns-then-wakes_some-clause-refused c = λ now.
    let d : DeviceState = record { next = c.self.inside.next; timelines = c.self.inside.timelines.entries; files = c.self.inside.files.entries; buffers = c.self.inside.buffers.entries; index = c.self.inside.timelines.index } in
    let there : is_some (at c.self.inside.timelines.entries c.args.number) ≡ true = sym c.contains_key.ensures ∙ c.if-not-contains_key.false in
    subst (λ (e : DeviceState). IsCause (cause_of (objects_of e) (request.Close c.args.number now)) (takes_memory (objects_of e) (request.Close c.args.number now)) NoMemory) c.self.view_is
    (close-refused (objects_of d) c.args.number now there c.self.invariant.files_given (c.if-wakes_some.ensures.some refl))

pub returns-clause-none : goal.returns-clause-none
returns-clause-none c = λ now.
    let d : DeviceState = record { next = c.self.inside.next; timelines = c.self.inside.timelines.entries; files = c.self.inside.files.entries; buffers = c.self.inside.buffers.entries; index = c.self.inside.timelines.index } in
    let there : is_some (at c.self.inside.timelines.entries c.args.number) ≡ true = sym c.contains_key.ensures ∙ c.if-not-contains_key.false in
    subst (λ (e : DeviceState). takes_memory (objects_of e) (request.Close c.args.number now) ≡ false) c.self.view_is
    (close-spares (objects_of d) c.args.number now there (c.if-wakes_some.ensures.none refl))
