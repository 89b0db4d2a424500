use Rattle.std.proofs.Common.{◌∙◌, ap, cond, Some}
use Rattle.std.specs.Map.{lookup}
use Rattle.std.specs.Prelude.{unwrap_or}
use Rattle.trace_core.specs.Contexts.{context_at, context_after, found_of, no_context}
use Rattle.trace_core.specs.Keys.{same_context}
use Rattle.trace_core.proofs.Puts.{inserted}
use Rattle.trace_core.proofs.contexts.Contexts.see.Goals as goal

pub returns-in-Some-clause-found : goal.returns-in-Some-clause-found
returns-in-Some-clause-found c =
    c.found-found.ensures
    ∙ ap (λ o. found_of c.args.event.now c.args.life c.args.sure (unwrap_or o no_context)) c.in-Some.ensures.value
    ∙ ap (λ k. found_of c.args.event.now c.args.life c.args.sure (context_at c.args.self.now k)) c.context_key-key.ensures

pub returns-clause-seen : goal.returns-clause-seen
returns-clause-seen c =
    let put = context_after c.args.event.now c.args.at c.found-found-2.result in
    let key = c.context_key-key.result in
    let map = c.args.self.now.by_key.entries in
    λ k. inserted no_context (same_context key k) put c.see-2.new.self (lookup (same_context k) c.insert.new.self.entries) (lookup (same_context k) map) (lookup (same_context key) map) c.see-2.ensures c.in_default.ensures.value (c.in-Ok.ensures.updates.0 k ∙ (λ i. cond (same_context key k) (Some c.see-2.new.self) (lookup (same_context k) (c.get_mut.follows.holds-at-none i).entries)))
    ∙ ap (λ q. cond (same_context q k) (put (context_at c.args.self.now q)) (context_at c.args.self.now k)) c.context_key-key.ensures
