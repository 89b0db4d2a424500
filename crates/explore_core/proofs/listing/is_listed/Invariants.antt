use Rattle.explore_core.proofs.Recording.{IsNone}
use Rattle.explore_core.proofs.listing.is_listed.Given as goal

abbrev pub invariant-loop-index : goal.invariant-loop-index
invariant-loop-index l = record {
  none : IsNone l.client l.place l.answer l.index l.list;
}
