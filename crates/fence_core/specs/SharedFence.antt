-- A fence that threads share, as contracts see it.
use Rattle.std.specs.Prelude.{◌≡◌, ℕ, nat_le, Bool, true, if◌then◌else◌, List, Option, None, Some, ⊤}
use Rattle.std.specs.List.{list_all}
use Rattle.point_core.specs.declared.entry.Point.{Point}
use Rattle.point_core.specs.declared.refusal.Refusal.{Refusal}
use Rattle.point_core.specs.declared.refusal.Refusal.TheVariants.{Exists, Limit, Signalled, Foreign, Memory}
use Rattle.point_core.specs.declared.refusal.LimitKind.TheVariants.{Watches as WatchesKind}
use Rattle.words_core.specs.theorem.Words.{WordsModel}
use Rattle.words_core.specs.theorem.Won.{WonModel}

-- the words that it is of, its flag, and its points
pub record SharedFenceModel : Type 0 where
  pub words : WordsModel
  pub flag : ℕ
  pub points : List Point

abbrev pub shared_fence_of : WordsModel → ℕ → List Point → SharedFenceModel
shared_fence_of words flag points = record { words = words; flag = flag; points = points }

-- what the call has that set its flag
abbrev pub token_of : SharedFenceModel → WonModel
token_of f = record { words = f.words; flag = f.flag }

-- no context is past the count
abbrev pub are_within : ℕ → List Point → Bool
are_within contexts points = list_all (λ (p : Point). nat_le p.ctx contexts) points

pub record AreWithin (contexts : ℕ) (points : List Point) : Type 0 where
  pub each : are_within contexts points ≡ true

-- why no fence of these points may be made
abbrev pub cause_to_refuse_shared : WordsModel → List Point → Option Refusal
cause_to_refuse_shared words points = if are_within words.contexts points then None else Some Foreign

-- what the call that adds a callback may fail with
abbrev pub IsCallbackRefusal : Refusal → Type 0
IsCallbackRefusal Exists = ⊤
IsCallbackRefusal (Limit WatchesKind) = ⊤
IsCallbackRefusal Signalled = ⊤
IsCallbackRefusal Memory = ⊤
IsCallbackRefusal _ = ⊥
