-- Bytes that are written piece by piece: a prefix that stays a prefix.
use Rattle.std.proofs.Common.{◌≡◌, ℕ, List, ◌++◌, length, drop, ap, ◌∙◌, append_assoc}
use Rattle.std.proofs.Math.Seq.{take-append_seam}
use Rattle.std.proofs.KnownBytes.{starts_with_rest}
use Rattle.std.specs.Io.{StartsWith}

pub StartsWith-append : (new old more : List ℕ) → new ≡ old ++ more → StartsWith new old
StartsWith-append new old more e = rw e (take-append_seam old more)

pub StartsWith-trans : (new middle old more : List ℕ) → StartsWith new middle → middle ≡ old ++ more → StartsWith new old
StartsWith-trans new middle old more s e = StartsWith-append new old (more ++ drop (length middle) new) (starts_with_rest new middle s ∙ ap (λ xs. xs ++ drop (length middle) new) e ∙ append_assoc old more (drop (length middle) new))
