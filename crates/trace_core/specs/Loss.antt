-- Lines that report lost events, and notes.
use Rattle.std.specs.Prelude.{ℕ, ◌^◌, ◌||◌, if◌then◌else◌, List, Option, None, Some, option_map, codes}
use Rattle.std.specs.Option.{option_and_then}
use Rattle.std.specs.Str.{bytes_eq}
use Rattle.trace_core.specs.Item.{Meaning, BufferStarted, Counts, Note}
use Rattle.trace_core.specs.Number.{number_at}
use Rattle.trace_core.specs.Steps.{after, after_blanks}

-- the number, if only the text follows it
unfoldable pub counted : List ℕ → List ℕ → Option (Option ℕ)
counted bytes text =
    option_and_then (λ n. if bytes_eq n.1 text then Some (Some n.0) else None) (number_at (2 ^ 64) bytes)

abbrev pub counted_behind : Option (List ℕ) → List ℕ → Option (Option ℕ)
counted_behind (Some rest) bytes = counted rest (codes " EVENTS]")
counted_behind None bytes = counted bytes (codes " EVENTS DROPPED]")

-- how many events were lost, where that is known
unfoldable pub losses : List ℕ → Option (Option ℕ)
losses bytes =
    if bytes_eq bytes (codes "LOST EVENTS]") || bytes_eq bytes (codes "EVENTS DROPPED]") then Some None
    else counted_behind (after bytes (codes "LOST ")) bytes

-- the processor that lost events, and how many
unfoldable pub lost : List ℕ → Option (ℕ × Option ℕ)
lost line =
    option_and_then
    (λ cpu. option_map (λ events. (cpu.0, events)) (option_and_then losses (after cpu.1 (codes " ["))))
    (option_and_then (number_at (2 ^ 32)) (after line (codes "CPU:")))

unfoldable pub buffer_started : List ℕ → Option ℕ
buffer_started line =
    option_and_then
    (λ cpu. option_map (λ _. cpu.0) (after cpu.1 (codes " buffer started ####")))
    (option_and_then (number_at (2 ^ 32)) (after line (codes "##### CPU ")))

abbrev pub processors : List ℕ → Option (ℕ × List ℕ)
processors bytes =
    option_and_then (number_at (2 ^ 32)) (option_and_then (λ rest. after rest (codes "#P:")) (after_blanks bytes))

-- how many events the buffer holds, how many were written to it, and how many processors there are
unfoldable pub counts : List ℕ → Option (ℕ × ℕ × ℕ)
counts line =
    option_and_then
    (λ held. option_and_then
    (λ written. option_map (λ n. (held.0, written.0, n.0)) (processors written.1))
    (option_and_then (number_at (2 ^ 64)) (after held.1 (codes "/"))))
    (option_and_then (number_at (2 ^ 64)) (after line (codes "# entries-in-buffer/entries-written: ")))

abbrev pub counts_or_note : Option (ℕ × ℕ × ℕ) → Meaning
counts_or_note None = Note
counts_or_note (Some n) = Counts n.0 n.1 n.2

abbrev pub started_or : Option ℕ → Meaning → Meaning
started_or None otherwise = otherwise
started_or (Some cpu) otherwise = BufferStarted cpu

-- what a line says that begins with `#`
unfoldable pub note : List ℕ → Meaning
note line = started_or (buffer_started line) (counts_or_note (counts line))
