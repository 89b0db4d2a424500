use Rattle.std.proofs.Common.{◌≡◌, ◌≤◌, length, take, vec_len, vec_capacity}
use Rattle.desk_core.proofs.Answering.{HasRun}
use Rattle.desk_core.proofs.runs.answer_each.Given as goal

abbrev pub invariant-loop-command : goal.invariant-loop-command
invariant-loop-command l =
    HasRun l.desk (take l.command-index l.commands) l.answers.items
    × (vec_len l.answers ≤ l.command-index)
    × (vec_capacity l.answers ≡ length l.commands)
