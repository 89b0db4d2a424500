use Rattle.std.proofs.Common.{◌≡◌, ℕ, List, Some, subst, sym}
use Rattle.trace_core.specs.declared.fence_event.TimelineKey.{TimelineKey}
use Rattle.trace_script.specs.Names.{name_at}
use Rattle.trace_script.proofs.Naming.{grown, keeps-names, one-more}
use Rattle.trace_script.proofs.safe_names.SafeNames.name.Goals as goal

pub returns-in-Some-clause-plain : goal.returns-in-Some-clause-plain
returns-in-Some-clause-plain c = c.self.invariant.plain c.args.key _ (sym c.in-Some.ensures.value)

pub invariant_of-self-2 : goal.invariant_of-self-2
invariant_of-self-2 c =
    let taken = c.self.inside.taken.keys in
    let more = c.insert.new.self.keys in
    let name = c.in_ok-name.name in
    one-more c.self.inside.by_key.entries c.insert-2.new.self.entries taken c.args.key name c.in-Ok-insert.ensures.updates.0 c.self.invariant c.in_ok-name.ensures.free more c.in_ok-name.ensures.plain c.in-Ok.ensures.updates.1 (grown taken more name c.in-Ok.ensures.updates.0)

pub returns-clause-kept : goal.returns-clause-kept
returns-clause-kept c =
    subst (λ names. (other : TimelineKey) → (own : List ℕ) → name_at names other ≡ Some own → name_at c.insert-2.new.self.entries other ≡ Some own) c.self.view_is (keeps-names c.self.inside.by_key.entries c.insert-2.new.self.entries c.self.inside.taken.keys c.args.key c.in_ok-name.name c.in-Ok-insert.ensures.updates.0 c.in_default.ensures.value)

pub returns-clause-apart : goal.returns-clause-apart
returns-clause-apart c = (invariant_of-self-2 c).apart
