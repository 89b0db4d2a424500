use Rattle.std.proofs.Common.{◌≡◌, ℕ, ◌≤◌, true}
use Rattle.point_core.specs.Agreement.{point_of}
use Rattle.point_core.specs.Usage.{usage_number}
use Rattle.clients_core.specs.Looks.{shows_point}
use Rattle.clients_core.specs.OwnPuts.{point_to}
use Rattle.clients_core.proofs.own_puts.OwnPuts.are_shown.Given as goal

abbrev pub invariant-loop-index : goal.invariant-loop-index
invariant-loop-index l = (ctx : ℕ) → 1 ≤ ctx → ctx ≤ l.index → shows_point l.listing (point_of ctx (point_to l.self (usage_number l.usage) ctx)) ≡ true
