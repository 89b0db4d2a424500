use Rattle.std.proofs.Common.{◌≡◌, take}
use Rattle.fence_core.specs.Watches.{without_watches}
use Rattle.fence_core.proofs.watches.Watches.remove_all.Given as goal

abbrev pub invariant-loop-cookie : goal.invariant-loop-cookie
invariant-loop-cookie l = l.self ≡ without_watches l.fn.self (take l.cookie-index l.cookies)
