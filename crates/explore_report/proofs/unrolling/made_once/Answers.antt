use Rattle.explore_report.specs.Lines.{texts_of}
use Rattle.explore_report.proofs.Turns.{made-next}
use Rattle.explore_report.proofs.unrolling.made_once.Goals as goal

pub loop-turn-preserved : goal.loop-turn-preserved
loop-turn-preserved c =
    made-next (texts_of c.args.lines.now) c.in-Some.turn.now c.in-Some.below.now c.loop-turn.rest.now c.below_block-rest.result.now
    c.loop-turn.room c.room_below-room.result c.block_at-block.result c.loop-turn.made.items c.push_made.new.made.items _
    c.in-Some.ensures.cases.0 c.block_at-block.ensures.block c.in_ok-push_made.ensures.pushed c.room_below-room.ensures c.below_block-rest.ensures.rest c.loop-turn.invariant
