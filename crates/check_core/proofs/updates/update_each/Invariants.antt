use Rattle.std.proofs.Common.{◌≡◌, ◌+◌, length, take, string_bytes}
use Rattle.std.specs.Io.KnownBytes.{Appends}
use Rattle.std.specs.Prelude.{All}
use Rattle.line_core.specs.declared.script.TheConstants.{SCRIPT_BYTES}
use Rattle.source_core.specs.FileBytes.{HasFront, WasGiven}
use Rattle.check_core.specs.Update.{IsUpdate, updates_text}
use Rattle.check_core.proofs.updates.update_each.Given as goal

abbrev pub invariant-loop-name : goal.invariant-loop-name
invariant-loop-name g l = record {
  count : length l.updates.items ≡ l.name-index;
  each : All (IsUpdate (HasFront g.R.File.Read.remaining (SCRIPT_BYTES + 1)) (WasGiven g.R.File.Write.contents)) l.updates.items;
  reported : Appends (g.W.Write.contents l.initial.errors) (g.W.Write.contents l.errors)
      (updates_text (λ name. string_bytes name) (take l.name-index l.names) l.updates.items);
}
