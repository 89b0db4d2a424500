use Rattle.std.proofs.Common.{rules}
use Rattle.std.proofs.lemmas.List.Sorted.{IsNonDecreasingBy-from_sort_by_key}
use Rattle.syncfile_core.specs.declared.file_slots.NumberedName.{NumberedName}
use Rattle.syncfile_core.proofs.file_slots.in_order.Goals as goal

pub returns-clause-rising : goal.returns-clause-rising
returns-clause-rising c = IsNonDecreasingBy-from_sort_by_key (λ (p : NumberedName). p.number) _ c.sort_unstable_by_key.ensures.sorted (λ a r q k. search rules)
