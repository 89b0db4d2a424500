use Rattle.std.proofs.Common.{rules, ◌+◌, length, ap, ◌∙◌, arith}
use Rattle.std.specs.Result.{result_and}
use Rattle.std.specs.Vec.Iter.{into_iter_items}
use Rattle.clients_core.proofs.Working.{AreJoined-all, AreJoined-none, AreJoined-next, empty-list}
use Rattle.clients_core.proofs.workers.join_all.Goals as goal

pub loop-worker-init : goal.loop-worker-init
loop-worker-init g c = record {
  words = search rules;
  parts = search rules;
  items = search rules;
  answer = search rules;
  promises = search rules;
  joined = AreJoined-none g.T.SharedTable.puts g.T.SharedTable.exports _ c.args.workers.items c.args.all.now c.into_iter-worker-iterator.ensures.into_iter_gives.0;
}

pub loop-worker-preserved : goal.loop-worker-preserved
loop-worker-preserved g c =
    let was = c.loop-worker.invariant in
    let step = c.in-Some.ensures.steps in
    let rest = into_iter_items c.loop-worker.worker-iterator in
    let behind = into_iter_items c.next.new.self in
    let ended = c.join.result in
    record {
      words = search rules;
      parts = search rules;
      items = omega (arith, ap length step.0, step.1, was.items);
      answer = search rules;
      promises = λ k d below. let h = was.promises (k + 1) d in grind rules;
      joined = AreJoined-next g.T.SharedTable.puts g.T.SharedTable.exports rest behind c.args.workers.items c.in-Some.worker ended c.args.all.now c.loop-worker.all c.take_in-ended.new.all c.loop-worker.answer c.and-answer.result
          step.0 c.join.ensures c.take_in-ended.ensures.both (c.and-answer.ensures ∙ ap (result_and c.loop-worker.answer) c.take_in-ended.ensures.answer) was.joined;
    }

pub returns-clause-joined : goal.returns-clause-joined
returns-clause-joined g c =
    AreJoined-all g.T.SharedTable.puts g.T.SharedTable.exports _ c.args.workers.items c.args.all.now c.loop-worker.all c.loop-worker.answer (empty-list _ (c.loop-worker.invariant.items ∙ c.in-None.ensures.steps.0)) c.loop-worker.invariant.joined
