use Rattle.words_core.proofs.LoadingAll.{reached_seen, HasLoaded, HasFound}
use Rattle.words_core.proofs.words.Words.load_all_into.Given as goal

abbrev pub invariant-loop-index : goal.invariant-loop-index
invariant-loop-index l = record {
  loaded : HasLoaded l.initial.seat l.seat l.index;
  found : HasFound (reached_seen l.seat) 0 l.index l.reach;
}
