use Rattle.std.proofs.Common.{◌-◌, ℕ, List, Err, sym, subst}
use Rattle.std.specs.VecDeque.{deque_len, deque_capacity}
use Rattle.device_core.specs.theorem.History.{history_after}
use Rattle.c_device.specs.Service.{ServiceState, IsStep, AreGiven, open_among}
use Rattle.c_device.proofs.Queued.{given-after, woken-fits}
use Rattle.c_device.proofs.Stepped.{answered-step, refused-step, state}
use Rattle.c_device.proofs.service.Service.step.Goals as goal

pub returns-in-Err : goal.returns-in-Err
returns-in-Err c =
    let d = c.self.inside.device in
    let queue = c.make_room.new.woken.items in
    subst (λ (s : ServiceState). IsStep s (state d (open_among d queue)) c.args.request (Err c.in-Err.refusal)) c.self.view_is
    (refused-step d c.args.request c.in-Err.refusal queue c.self.inside.woken.items c.in-Err.ensures.refused c.make_room.ensures.kept)

pub keep-requires : goal.keep-requires
keep-requires c =
    let queue = c.make_room.new.woken in
    record {
      room = woken-fits c.self.inside.device c.self.invariant.history c.self.invariant.stands c.args.request c.serve-given.result
          (deque_capacity queue - deque_len queue) c.serve-given.ensures.answer c.in_default.ensures.ready;
    }

pub invariant_of-self-2 : goal.invariant_of-self-2
invariant_of-self-2 c =
    let d = c.self.inside.device in
    let e = c.serve-given.new.self in
    let history = c.self.invariant.history in
    let queue = c.make_room.new.woken.items in
    record {
      history = history_after history c.args.request c.serve-given.result;
      stands = c.serve-given.ensures.stands history c.self.invariant.stands;
      given = subst (AreGiven e.next) (sym c.keep.ensures.items)
          (given-after d history c.self.invariant.stands c.args.request c.serve-given.result e queue c.serve-given.ensures.answer
          c.serve-given.ensures.done c.serve-given.ensures.unchanged (c.make_room.ensures.given d.next c.self.invariant.given));
    }

pub returns : goal.returns
returns c =
    let d = c.self.inside.device in
    let e = c.serve-given.new.self in
    let r = c.args.request in
    let given = c.serve-given.result in
    let queue = c.make_room.new.woken.items in
    let old = c.self.inside.woken.items in
    subst (λ (s : ServiceState). IsStep s (state e (open_among e c.keep.new.woken.items)) r given) c.self.view_is
    (subst (λ (ns : List ℕ). IsStep (state d (open_among d old)) (state e (open_among e ns)) r given) (sym c.keep.ensures.items)
    (answered-step d e r given queue old c.serve-given.ensures.answer c.serve-given.ensures.done c.serve-given.ensures.stands
    c.serve-given.ensures.unchanged c.make_room.ensures.kept (c.make_room.ensures.given d.next c.self.invariant.given)))
