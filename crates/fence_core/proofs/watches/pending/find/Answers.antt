use Rattle.std.proofs.Common.{◌∙◌, sym, ap, nat_eq, cond, Some, None}
use Rattle.std.specs.Map.{lookup}
use Rattle.std.specs.Cmp.{nat_eq_equiv}
use Rattle.fence_core.specs.Pending.{if_of}
use Rattle.fence_core.proofs.watches.pending.find.Goals as goal

pub returns-in_default : goal.returns-in_default
returns-in_default c = ap (if_of c.args.registration.now) (c.in_default.ensures.value ∙ ap (λ k. lookup (nat_eq k) c.args.pending.now.entries) c.cookie.ensures)

pub returns-then-eq : goal.returns-then-eq
returns-then-eq c =
    let r = c.args.registration.now in
    let w = c.in-Some.watch.now in
    let found = c.in-Some.ensures.value ∙ ap (λ k. lookup (nat_eq k) c.args.pending.now.entries) c.cookie.ensures in
    sym (ap (λ b. cond b (Some w) None) (nat_eq_equiv.symm r w.place.registration ∙ sym c.eq.ensures ∙ c.if-eq.true)) ∙ ap (if_of r) found

pub returns : goal.returns
returns c =
    let r = c.args.registration.now in
    let w = c.in-Some.watch.now in
    let found = c.in-Some.ensures.value ∙ ap (λ k. lookup (nat_eq k) c.args.pending.now.entries) c.cookie.ensures in
    sym (ap (λ b. cond b (Some w) None) (nat_eq_equiv.symm r w.place.registration ∙ sym c.eq.ensures ∙ c.if-eq.false)) ∙ ap (if_of r) found
