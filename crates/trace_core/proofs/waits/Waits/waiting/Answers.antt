use Rattle.std.proofs.Common.{◌∙◌, ap, sym, is_some, arith}
use Rattle.std.specs.Map.{lookup}
use Rattle.trace_core.specs.Waits.{wait_key}
use Rattle.trace_core.proofs.Waiting.{counted, counted-all, kept-next, same_wait}
use Rattle.trace_core.proofs.waits.Waits.waiting.Goals as goal

pub returns-then-not-contains_key : goal.returns-then-not-contains_key
returns-then-not-contains_key c =
    let e = c.args.event.now in
    let es = c.args.self.now.open.entries in
    let none = sym (ap (λ k. is_some (lookup (same_wait k) es)) c.wait_key.ensures) ∙ sym c.contains_key.ensures ∙ c.if-not-contains_key.true in
    record { count = λ waits are. counted e.pid e.key es waits are c.loop-nth.nth c.loop-nth.invariant none }

pub loop-nth-preserved : goal.loop-nth-preserved
loop-nth-preserved c =
    let e = c.args.event.now in
    let es = c.args.self.now.open.entries in
    let some = sym (ap (λ k. is_some (lookup (same_wait k) es)) c.wait_key.ensures) ∙ sym c.contains_key.ensures ∙ c.if-not-contains_key.false in
    kept-next (λ k. is_some (lookup (same_wait (wait_key e.pid e.key k)) es)) c.loop-nth.nth c.loop-nth.invariant some

pub returns : goal.returns
returns c =
    let e = c.args.event.now in
    record { count = λ waits are. counted-all e.pid e.key c.args.self.now.open.entries waits are _ c.len-len.ensures.len (λ k h. c.loop-nth.invariant k (omega arith)) }
