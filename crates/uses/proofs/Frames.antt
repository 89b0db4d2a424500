-- The frames that the example's display finds, by the commands before each refresh.
use Rattle.std.proofs.Common.{◌≡◌, ◌↔◌, ℕ, true, false, List, [], ◌∷◌, ◌++◌, codes, refl}
use Rattle.point_core.specs.declared.entry.Usage.TheVariants.{Write}
use Rattle.command_core.specs.declared.command.Command.{Command}
use Rattle.command_core.specs.declared.command.Command.TheVariants as command
use Rattle.desk_core.specs.theorem.Answer.{is_signalled}
use Rattle.desk_core.specs.theorem.History.{world_of}
use Rattle.uses.specs.declared.example.frame.Frame.{Frame}
use Rattle.uses.specs.declared.example.frame.Frame.TheVariants.{Shown, Late}

-- the commands before the first refresh
abbrev pub begun : List ℕ → List ℕ → List ℕ → List Command
begun gpu buffer drawn =
    [] ++ command.Timeline gpu ∷ [] ++ command.Buffer buffer ∷ [] ++ command.Add buffer gpu 1 Write ∷ [] ++ command.Export drawn buffer 1 ∷ []

-- the commands before the second
abbrev pub ended : List ℕ → List ℕ → List ℕ → List Command
ended gpu buffer drawn = begun gpu buffer drawn ++ command.Inc gpu 1 ∷ []

pub late : (gpu buffer drawn : List ℕ) (frame : Frame) → gpu ≡ codes "gpu" → buffer ≡ codes "buffer" → drawn ≡ codes "drawn" → ((frame ≡ Shown) ↔ (is_signalled (world_of (begun gpu buffer drawn)) drawn ≡ true)) → frame ≡ Late
late gpu buffer drawn Late g b d reported = refl
late gpu buffer drawn Shown g b d reported =
    let shown = reported.0 refl in
    let pending : is_signalled (world_of (begun gpu buffer drawn)) drawn ≡ false = rw (g, b, d) refl in
    absurd (cc)

pub shown : (gpu buffer drawn : List ℕ) (frame : Frame) → gpu ≡ codes "gpu" → buffer ≡ codes "buffer" → drawn ≡ codes "drawn" → ((frame ≡ Shown) ↔ (is_signalled (world_of (ended gpu buffer drawn)) drawn ≡ true)) → frame ≡ Shown
shown gpu buffer drawn frame g b d reported = reported.1 (rw (g, b, d) refl)
