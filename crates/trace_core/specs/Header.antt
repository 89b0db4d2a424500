-- The head of a record, before its event.
use Rattle.std.specs.Prelude.{ℕ, ◌-◌, ◌^◌, Bool, ◌&&◌, nat_le, nat_lt, if◌then◌else◌, List, length, take, drop, Option, None, Some, option_map, codes}
use Rattle.std.specs.List.{prefix_len, suffix_len}
use Rattle.std.specs.Option.{option_and_then}
use Rattle.trace_core.specs.declared.header.Header.{Header}
use Rattle.trace_core.specs.declared.header.TheConstants.{TASK_BYTES, FLAGS_FEWEST, FLAGS_MOST}
use Rattle.trace_core.specs.declared.runs.Class.TheVariants.{Dark, Group}
use Rattle.trace_core.specs.Number.{number_at, time_at}
use Rattle.trace_core.specs.Runs.{is_blank, is_of}
use Rattle.trace_core.specs.Steps.{after, after_blanks, without_blanks}

-- a header, with the bytes of the name and of the text that follows
pub record Head : Type 0 where
  pub task : List ℕ
  pub pid : ℕ
  pub cpu : ℕ
  pub time : ℕ
  pub text : List ℕ

abbrev pub header_from : Header → Head
header_from h = record { task = h.task.now; pid = h.pid; cpu = h.cpu; time = h.time; text = h.text.now }

-- without the blanks around it
unfoldable pub trimmed : List ℕ → List ℕ
trimmed name =
    take (length (without_blanks name) - suffix_len is_blank (without_blanks name)) (without_blanks name)

abbrev pub or_blanks : Option (List ℕ) → List ℕ → Option (List ℕ)
or_blanks (Some rest) bytes = Some rest
or_blanks None bytes = after_blanks bytes

unfoldable pub after_dash : List ℕ → Option (List ℕ)
after_dash bytes = or_blanks (after bytes (codes "-")) bytes

unfoldable pub thread : List ℕ → Option (ℕ × List ℕ)
thread bytes =
    option_and_then
    (λ pid. option_map (λ rest. (pid.0, rest)) (after_blanks pid.1))
    (option_and_then (number_at (2 ^ 32)) (after_dash bytes))

abbrev pub group_or : Option (List ℕ) → List ℕ → Option (List ℕ)
group_or None bytes = Some bytes
group_or (Some group) bytes = after (drop (prefix_len (is_of Group) group) group) (codes ") ")

unfoldable pub after_group : List ℕ → Option (List ℕ)
after_group bytes = group_or (after bytes (codes "(")) bytes

unfoldable pub processor : List ℕ → Option (ℕ × List ℕ)
processor bytes =
    option_and_then
    (λ cpu. option_map (λ rest. (cpu.0, rest)) (option_and_then after_blanks (after cpu.1 (codes "]"))))
    (option_and_then (number_at (2 ^ 32)) (option_and_then (λ rest. after rest (codes "[")) (after_group bytes)))

-- 4 to 6 bytes other than the blank
abbrev pub are_flags : ℕ → Bool
are_flags count = nat_le FLAGS_FEWEST count && nat_le count FLAGS_MOST

unfoldable pub after_flags : List ℕ → Option (List ℕ)
after_flags bytes =
    let count = prefix_len (is_of Dark) bytes in
    if are_flags count then after_blanks (drop count bytes) else Some bytes

abbrev pub with_time : List ℕ → ℕ → ℕ → List ℕ → Option Head
with_time task pid cpu bytes =
    option_and_then
    (λ time. option_map (λ text. record { task = task; pid = pid; cpu = cpu; time = time.0; text = text }) (after time.1 (codes ": ")))
    (option_and_then time_at (after_flags bytes))

-- the header that the piece begins with, and what follows it
unfoldable pub header_of : List ℕ → Option Head
header_of piece =
    if nat_lt (length piece) TASK_BYTES then None
    else option_and_then
    (λ pid. option_and_then (λ cpu. with_time (trimmed (take TASK_BYTES piece)) pid.0 cpu.0 cpu.1) (processor pid.1))
    (thread (drop TASK_BYTES piece))
