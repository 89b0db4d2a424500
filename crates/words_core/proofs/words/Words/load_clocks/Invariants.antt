use Rattle.point_core.specs.Clocks.{new_clock}
use Rattle.words_core.specs.theorem.Loads.{clock_seen}
use Rattle.words_core.proofs.LoadingAll.{HasLoaded, HasFound}
use Rattle.words_core.proofs.words.Words.load_clocks.Given as goal

abbrev pub invariant-loop-index : goal.invariant-loop-index
invariant-loop-index l = record {
  loaded : HasLoaded l.initial.seat l.seat l.index;
  found : HasFound (clock_seen l.seat) new_clock l.index l.clocks;
}
