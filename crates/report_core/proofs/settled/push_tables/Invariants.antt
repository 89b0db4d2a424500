use Rattle.std.proofs.Common.{◌≡◌, ◌++◌, take}
use Rattle.std.specs.List.{flat_map, enumerate_from}
use Rattle.report_core.specs.Settled.{table_text}
use Rattle.report_core.proofs.settled.push_tables.Given as goal

abbrev pub invariant-loop-buffer : goal.invariant-loop-buffer
invariant-loop-buffer l = l.out.items ≡ l.fn.out.items ++ flat_map table_text (enumerate_from 0 (take l.buffer l.tables))
