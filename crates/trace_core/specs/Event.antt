-- The event of a record.
use Rattle.std.specs.Prelude.{ℕ, if◌then◌else◌, List, [], ◌∷◌, take, drop, Option, None, Some, option_map, unwrap_or, codes}
use Rattle.std.specs.List.{prefix_len}
use Rattle.std.specs.Option.{option_and_then}
use Rattle.std.specs.Str.{bytes_eq}
use Rattle.trace_core.specs.declared.event.Event.{Event}
use Rattle.trace_core.specs.declared.event.Event.TheVariants.{Init, Emit, EnableSignal, Signaled, WaitStart, WaitEnd, Destroy}
use Rattle.trace_core.specs.declared.runs.Class.TheVariants.{Word}
use Rattle.trace_core.specs.Runs.{is_of}
use Rattle.trace_core.specs.Steps.{after, after_blanks, without_blanks}

-- what follows `dma_fence_` in the name of each event
abbrev pub kinds : List (List ℕ × Event)
kinds =
    (codes "init", Init)
    ∷ (codes "emit", Emit)
    ∷ (codes "signaled", Signaled)
    ∷ (codes "destroy", Destroy)
    ∷ (codes "enable_signal", EnableSignal)
    ∷ (codes "wait_start", WaitStart)
    ∷ (codes "wait_end", WaitEnd)
    ∷ []

abbrev pub kind_at : List (List ℕ × Event) → List ℕ → Option Event
kind_at [] word = None
kind_at (row ∷ rows) word = if bytes_eq word row.0 then Some row.1 else kind_at rows word

unfoldable pub kind_of : List ℕ → Option Event
kind_of word = kind_at kinds word

-- the text after the name of the events' system, or all of it if it has no such name
unfoldable pub without_system : List ℕ → List ℕ
without_system text = unwrap_or (after text (codes ":dma_fence")) text

-- what follows `:` and blanks
abbrev pub after_colon : List ℕ → Option (List ℕ)
after_colon bytes = option_and_then after_blanks (after bytes (codes ":"))

abbrev pub event_named : List ℕ → Option (Event × List ℕ)
event_named name =
    option_and_then
    (λ event. option_map (λ rest. (event, rest)) (after_colon (drop (prefix_len (is_of Word) name) name)))
    (kind_of (take (prefix_len (is_of Word) name) name))

-- what follows the name of the events' system, once or twice, and `_`
abbrev pub event_name : List ℕ → Option (List ℕ)
event_name text =
    option_and_then (λ rest. after (without_system rest) (codes "_")) (after text (codes "dma_fence"))

-- the event that an event's text begins with, and what follows its name
unfoldable pub event_at : List ℕ → Option (Event × List ℕ)
event_at text = option_and_then event_named (event_name (without_blanks text))
