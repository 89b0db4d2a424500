use Rattle.std.proofs.Common.{◌≤◌, vec_len, vec_capacity}
use Rattle.clients_core.specs.Board.{HasListed}
use Rattle.clients_core.proofs.board.Look.latest_shown.Given as goal

abbrev pub invariant-loop-index : goal.invariant-loop-index
invariant-loop-index l = record {
  listed : HasListed l.self.words.now l.self.buffer l.self.level l.index l.initial.seat l.seat l.reach l.points.items;
  len : vec_len l.points ≤ l.index;
  places : l.self.contexts ≤ vec_capacity l.points;
}
