-- The name of a task.
use Rattle.std.specs.Prelude.{ℕ, ◌==◌, List, length, position, take, unwrap_or}
use Rattle.trace_core.specs.declared.task.TaskName.{TaskName}

-- the bytes up to a 0
abbrev pub before_zero : List ℕ → List ℕ
before_zero bytes = take (unwrap_or (position (λ byte. byte == 0) bytes) (length bytes)) bytes

abbrev pub task_name : TaskName → List ℕ
task_name name = before_zero name.bytes
