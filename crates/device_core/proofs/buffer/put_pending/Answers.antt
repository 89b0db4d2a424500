use Rattle.std.proofs.Common.{arith}
use Rattle.device_core.proofs.Putting.{put-more, put-all}
use Rattle.device_core.proofs.buffer.put_pending.Goals as goal

pub loop-fence-preserved : goal.loop-fence-preserved
loop-fence-preserved c = record {
  put = put-more c.args.usage c.loop-fence.fences.items c.put_if_pending.new.fences.items _ c.args.put.now c.loop-fence.fence-index _ (omega arith) c.put_if_pending.ensures.put c.loop-fence.invariant.put;
  room = omega arith;
}

pub returns : goal.returns
returns c = record { put = put-all c.args.usage c.loop-fence.fences.items _ c.args.put.now c.loop-fence.fence-index (omega arith) c.loop-fence.invariant.put }
