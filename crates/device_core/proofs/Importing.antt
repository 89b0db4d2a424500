-- An import into a buffer of a table.
use Rattle.std.proofs.Common.{◌≡◌, ℕ, nat_eq, cond, sym, ap, ◌∙◌, List, Option, Some, option_map, Result, Ok, Err, OnOk, OnErr}
use Rattle.std.specs.Map.{lookup, set_value}
use Rattle.std.proofs.lemmas.Map.Steps.{set_value_same}
use Rattle.point_core.specs.declared.entry.Usage.{Usage}
use Rattle.device_core.specs.declared.fence.Fence.{Fence}
use Rattle.device_core.specs.declared.errno.Errno.{Errno}
use Rattle.device_core.specs.theorem.State.{FileState, DeviceState, timeline_at, file_at, buffer_at, import_of}
use Rattle.device_core.specs.theorem.Buffers.{BufferState, import_into}

-- a refused import leaves the table as it was
pub refused-unchanged : {X Y : Type 0} (r : Result Y Errno) (number : ℕ) (old new : List (ℕ × X)) (was now : X) → Some was ≡ lookup (nat_eq number) old → new ≡ set_value (nat_eq number) old now → OnErr r (now ≡ was) → OnErr r (new ≡ old)
refused-unchanged (Ok done) number old new was now there left same = tt
refused-unchanged (Err e) number old new was now there left same = left ∙ ap (set_value (nat_eq number) old) same ∙ set_value_same (nat_eq number) old was (sym there)

-- by valid flags, of an open file
pub imported-in : {Y : Type 0} (r : Result Y Errno) (d e : DeviceState) (u : Result Usage Errno) (usage : Usage) (file : ℕ) (f : FileState) (fs : List Fence) (number : ℕ) (new : ℕ → Option BufferState)
    → d ≡ e → Ok usage ≡ u → Some f ≡ file_at d file → fs ≡ f.fences
    → OnOk r ((q : ℕ) → new q ≡ cond (nat_eq number q) (option_map (import_into (timeline_at d) usage fs) (buffer_at d number)) (buffer_at d q))
    → OnOk r ((q : ℕ) → new q ≡ cond (nat_eq number q) (import_of (timeline_at e) u (file_at e file) (buffer_at e number)) (buffer_at e q))
imported-in (Err x) d e u usage file f fs number new is known there fences done = tt
imported-in (Ok y) d e u usage file f fs number new is known there fences done = λ q.
    done q
    ∙ ap (λ gs. cond (nat_eq number q) (import_of (timeline_at d) (Ok usage) (Some (record f { fences = gs })) (buffer_at d number)) (buffer_at d q)) fences
    ∙ ap (λ o. cond (nat_eq number q) (import_of (timeline_at d) (Ok usage) o (buffer_at d number)) (buffer_at d q)) there
    ∙ ap (λ v. cond (nat_eq number q) (import_of (timeline_at d) v (file_at d file) (buffer_at d number)) (buffer_at d q)) known
    ∙ ap (λ x. cond (nat_eq number q) (import_of (timeline_at x) u (file_at x file) (buffer_at x number)) (buffer_at x q)) is
