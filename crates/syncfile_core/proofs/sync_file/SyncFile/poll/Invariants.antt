use Rattle.std.proofs.Common.{◌≡◌}
use Rattle.words_core.proofs.LoadingAll.{HasLoaded}
use Rattle.words_core.specs.theorem.Loads.{clocks_seen}
use Rattle.syncfile_core.specs.Running.{HasFoundTo}
use Rattle.syncfile_core.proofs.sync_file.SyncFile.poll.Given as goal

abbrev pub invariant-loop-index : goal.invariant-loop-index
invariant-loop-index l = record {
  own : l.seat.words ≡ l.words;
  loaded : HasLoaded l.initial.seat l.seat l.index;
  found : HasFoundTo (clocks_seen l.seat) l.self l.index l.found;
}
