use Rattle.std.proofs.Common.{◌≤◌, arith}
use Rattle.point_core.specs.declared.context.TheConstants.{CONTEXTS}
use Rattle.clients_core.proofs.Owning.{own-shown}
use Rattle.clients_core.proofs.Showing.{HasLooked-listed, HasLooked-same}
use Rattle.clients_core.proofs.board.Board.export_into.Goals as goal

pub returns-clause-looked : goal.returns-clause-looked
returns-clause-looked c =
    let floor = c.load_all_into.new.reach in
    let few : c.args.words.now.contexts ≤ CONTEXTS = omega (arith, c.contexts-contexts.ensures) in
    let listed = rw (c.contexts-contexts.ensures.value) at c.latest_shown.ensures.listed in
    HasLooked-same floor c.of.ensures
    (HasLooked-listed c.args.words.now c.args.buffer c.args.usage c.args.seat.now c.load_all_into.new.seat c.latest_shown.new.seat (record { points = c.latest_shown.new.points.items; floor = floor }) few c.load_all_into.ensures.loaded listed)

pub returns-clause-own : goal.returns-clause-own
returns-clause-own c = λ es contexts raised. own-shown c.args.words.now c.args.buffer c.args.usage c.args.seat.now c.latest_shown.new.seat (record { points = c.of.result; floor = c.load_all_into.new.reach }) es (returns-clause-looked c) contexts raised
