use Rattle.std.proofs.Common.{◌≡◌, ◌+◌, ◌≤◌, sym, ap, subst, ◌∙◌, ◌++◌, length, arith}
use Rattle.std.specs.VecDeque.{deque_len, deque_capacity}
use Rattle.std.proofs.lemmas.List.{append-nil}
use Rattle.command_core.specs.declared.answer.Answer.TheVariants as answer
use Rattle.desk_core.specs.theorem.Desk.{Answers, HasHistory}
use Rattle.desk_core.specs.theorem.History.{history_after}
use Rattle.c_desk.specs.Service.{ServiceState, IsStep, cookies_of}
use Rattle.c_desk.proofs.Room.{room-after}
use Rattle.c_desk.proofs.Stepped.{refused_same}
use Rattle.c_desk.proofs.service.Service.step.Goals as goal

pub returns-in-Err : goal.returns-in-Err
returns-in-Err c =
    let new : ServiceState = record { desk = c.self.inside.desk; fired = c.reserve.new.fired.items } in
    let same : new ≡ c.args.self.now = (λ i. record { desk = c.self.inside.desk; fired = c.reserve.ensures.items i }) ∙ c.self.view_is in
    record {
      answered = subst (λ (s : ServiceState). Answers s.desk c.args.command (answer.Refused c.in-Err.refusal)) c.self.view_is c.in-Err.ensures.refused;
      stands = λ history is. subst (λ (s : ServiceState). HasHistory s.desk history) (sym same) is;
      unchanged = same;
      kept = ap (λ (s : ServiceState). s.fired) same ∙ sym (append-nil c.args.self.now.fired);
    }

-- after the step the queue has room for the cookies that it fired, and still for each pending watch
room_then : (c : goal.After-answer-1)
    → (deque_len c.reserve.new.fired + length (cookies_of c.step-answer.result)) + length c.step-answer.new.self.watches.pending ≤ deque_capacity c.reserve.new.fired
room_then c =
    let history = c.self.invariant.history in
    let stands = c.self.invariant.stands in
    let ready = c.in_default.ensures.ready in
    let room = c.self.invariant.room in
    let len = c.reserve.ensures.len in
    let capacity = c.reserve.ensures.capacity in
    room-after c.self.inside.desk c.step-answer.new.self c.args.command c.step-answer.result history (deque_len c.reserve.new.fired) (deque_capacity c.reserve.new.fired)
    (c.step-answer.ensures.answer history stands) ready (omega (arith, room, len, capacity)) stands (c.step-answer.ensures.stands history stands)

pub keep-requires : goal.keep-requires
keep-requires c = let room = room_then c in record { room = omega (arith, room) }

pub invariant_of-self-2 : goal.invariant_of-self-2
invariant_of-self-2 c =
    let history = c.self.invariant.history in
    let ready = c.in_default.ensures.ready in
    let before = c.self.invariant.room in
    let len = c.reserve.ensures.len in
    let capacity = c.reserve.ensures.capacity in
    let held = c.step-answer.ensures.stands history c.self.invariant.stands in
    let room = room-after c.self.inside.desk c.step-answer.new.self c.args.command c.step-answer.result history (deque_len c.reserve.new.fired) (deque_capacity c.reserve.new.fired)
    (c.step-answer.ensures.answer history c.self.invariant.stands) ready (omega (arith, before, len, capacity)) c.self.invariant.stands held in
    let kept = c.keep.ensures.len in
    let same = c.keep.ensures.capacity in
    record {
      history = history_after history c.args.command c.step-answer.result;
      stands = held;
      room = omega (arith, room, kept, same);
    }

pub returns : goal.returns
returns c =
    let new : ServiceState = record { desk = c.step-answer.new.self; fired = c.keep.new.fired.items } in
    let kept = c.keep.ensures.items ∙ ap (λ l. l ++ cookies_of c.step-answer.result) c.reserve.ensures.items in
    subst (λ (s : ServiceState). IsStep s new c.args.command c.step-answer.result) c.self.view_is (record {
      answered = c.step-answer.ensures.answer;
      stands = c.step-answer.ensures.stands;
      unchanged = refused_same c.step-answer.result c.self.inside.desk c.step-answer.new.self c.self.inside.fired.items c.keep.new.fired.items c.step-answer.ensures.unchanged kept;
      kept = kept;
    })
