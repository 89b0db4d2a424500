use Rattle.std.proofs.Common.{All, Contains, take}
use Rattle.explore_core.proofs.parts.are_among.Given as goal

abbrev pub invariant-loop-place : goal.invariant-loop-place
invariant-loop-place l = All (Contains l.others) (take l.place l.files)
