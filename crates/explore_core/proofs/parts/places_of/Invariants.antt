use Rattle.std.proofs.Common.{◌≡◌, ℕ, ◌<◌, All, length, map, take}
use Rattle.explore_core.specs.Search.{Begins, file_at, file_look, has_name}
use Rattle.explore_core.proofs.parts.places_of.Given as goal

abbrev pub invariant-loop-name : goal.invariant-loop-name
invariant-loop-name l = record {
  begins : Begins l.initial.table l.table;
  fit : All (λ (i : ℕ). i < length l.table) l.places.items;
  files : map (file_at l.table) l.places.items ≡ map (file_look (has_name l.asked) l.desk) (take l.name-index l.names);
}
