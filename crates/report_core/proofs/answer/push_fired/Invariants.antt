use Rattle.std.proofs.Common.{◌≡◌, ◌++◌, take}
use Rattle.std.specs.List.{flat_map}
use Rattle.report_core.specs.Answer.{fired_text}
use Rattle.report_core.proofs.answer.push_fired.Given as goal

abbrev pub invariant-loop-cookie : goal.invariant-loop-cookie
invariant-loop-cookie l = l.out.items ≡ l.fn.out.items ++ flat_map fired_text (take l.cookie-index l.fired)
