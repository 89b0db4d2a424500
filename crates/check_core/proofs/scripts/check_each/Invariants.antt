use Rattle.std.proofs.Common.{◌≡◌, length, Some}
use Rattle.std.specs.Prelude.{string_bytes}
use Rattle.source_core.specs.Input.{file_named}
use Rattle.source_core.specs.Source.{HasUnread}
use Rattle.check_core.specs.Outcome.{CameOfEach}
use Rattle.check_core.proofs.scripts.check_each.Given as goal

abbrev pub invariant-loop-index : goal.invariant-loop-index
invariant-loop-index g l = record {
  count : length l.outcomes.items ≡ l.index;
  each : CameOfEach
      (λ name. HasUnread g.R.File.Read.remaining g.S.Read.remaining (file_named (Some (string_bytes name))) l.standard_input)
      l.names l.outcomes.items;
}
