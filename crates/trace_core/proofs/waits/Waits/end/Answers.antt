use Rattle.std.proofs.Common.{◌∙◌, ◌-◌, ap, None, Some}
use Rattle.trace_core.proofs.Waiting.{ended, entries-kept, without}
use Rattle.trace_core.proofs.waits.Waits.end.Goals as goal

pub returns-in_default-clause-last : goal.returns-in_default-clause-last
returns-in_default-clause-last c =
    let e = c.args.event.now in
    λ waits are.
    let at = c.saturating_sub.ensures ∙ ap (λ n. n - 1) (c.waiting.ensures.count waits are) in
    ended e.pid e.key c.args.self.now.open.entries waits are c.wait_key-last.result c.saturating_sub.result c.wait_key-last.ensures at None c.in_default.ensures.value

pub returns-in_default-clause-are_open : goal.returns-in_default-clause-are_open
returns-in_default-clause-are_open c =
    let e = c.args.event.now in
    λ waits are.
    let at = c.saturating_sub.ensures ∙ ap (λ n. n - 1) (c.waiting.ensures.count waits are) in
    without e.pid e.key c.args.self.now.open.entries waits are c.wait_key-last.result c.saturating_sub.result c.wait_key-last.ensures at c.shift_remove.new.self.entries c.shift_remove.ensures.entries

pub returns-clause-last : goal.returns-clause-last
returns-clause-last c =
    let e = c.args.event.now in
    λ waits are.
    let at = c.saturating_sub.ensures ∙ ap (λ n. n - 1) (c.waiting.ensures.count waits are) in
    ended e.pid e.key c.args.self.now.open.entries waits are c.wait_key-last.result c.saturating_sub.result c.wait_key-last.ensures at (Some c.in-Some.started) c.in-Some.ensures.value

pub returns-clause-are_open : goal.returns-clause-are_open
returns-clause-are_open c =
    let e = c.args.event.now in
    λ waits are.
    let at = c.saturating_sub.ensures ∙ ap (λ n. n - 1) (c.waiting.ensures.count waits are) in
    let entries = entries-kept c.count.new.self.open c.shift_remove.new.self c.count.ensures.kept ∙ c.shift_remove.ensures.entries in
    without e.pid e.key c.args.self.now.open.entries waits are c.wait_key-last.result c.saturating_sub.result c.wait_key-last.ensures at c.count.new.self.open.entries entries
