-- What is known of each key, event by event.
use Rattle.std.specs.Prelude.{ℕ, ◌==◌, Bool, ◌&&◌, if◌then◌else◌, unwrap_or}
use Rattle.std.specs.Map.{lookup}
use Rattle.trace_core.specs.declared.life.Life.{Life}
use Rattle.trace_core.specs.declared.lives.Lives.{Lives}
use Rattle.trace_core.specs.declared.fence_event.FenceKey.{FenceKey}
use Rattle.trace_core.specs.declared.fence_event.FenceEvent.{FenceEvent}
use Rattle.trace_core.specs.Keys.{same_key, unnumbered}
use Rattle.trace_core.specs.Life.{unborn, life_after, settled, without_one}
use Rattle.trace_core.specs.Finding.{is_emit}

-- what is known of the key
abbrev pub life_at : Lives → FenceKey → Life
life_at lives key = unwrap_or (lookup (same_key key) lives.by_key.entries) unborn

-- whether the event gives a number to a fence that was made without one
abbrev pub gives_number : FenceEvent → Life → Bool
gives_number e own = is_emit e.kind && own.pending == 0

abbrev pub without_number : FenceEvent → Life → FenceKey → Life → Life
without_number e own key life =
    if gives_number e own && same_key (unnumbered e.key) key then settled (without_one life) else life

-- the state of a key after event number `born`, from the states of the event's own key and of this one; what was known of
-- fences that are all gone is forgotten
unfoldable pub life_step : FenceEvent → ℕ → Life → FenceKey → Life → Life
life_step e born own key life =
    if same_key e.key key then settled (life_after e.kind born e.time own) else without_number e own key life
