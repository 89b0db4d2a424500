use Rattle.std.proofs.Common.{◌≡◌, ◌≤◌, length, take, vec_len, vec_capacity}
use Rattle.device_core.proofs.Histories.{HasRun}
use Rattle.device_core.proofs.runs.run.Given as goal

abbrev pub invariant-loop-request : goal.invariant-loop-request
invariant-loop-request l =
    HasRun l.device (take l.request-index l.requests) l.answers.items
    × (vec_len l.answers ≤ l.request-index)
    × (vec_capacity l.answers ≡ length l.requests)
