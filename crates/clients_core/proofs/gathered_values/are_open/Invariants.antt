use Rattle.std.proofs.Common.{◌≡◌, ◌≤◌, ℕ}
use Rattle.words_core.specs.theorem.Layout.{mark_word}
use Rattle.words_core.specs.theorem.Trace.{shuts_of}
use Rattle.clients_core.proofs.Gathering.{HasOnlyLoaded}
use Rattle.clients_core.proofs.gathered_values.are_open.Given as goal

abbrev pub invariant-loop-index : goal.invariant-loop-index
invariant-loop-index l = record {
  loaded : HasOnlyLoaded l.initial.all l.all;
  none : (ctx : ℕ) → 1 ≤ ctx → ctx ≤ l.index → shuts_of (mark_word ctx) l.initial.all.trace ≡ 0;
}
