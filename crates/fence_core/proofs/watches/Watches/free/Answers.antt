use Rattle.std.proofs.Common.{◌<◌, refl, sym, ap, ◌∙◌, length, arith}
use Rattle.std.specs.List.{list_any}
use Rattle.fence_core.specs.declared.watches.TheConstants.{WATCHES, WATCHES_EVER}
use Rattle.fence_core.specs.Watch.{Registry, is_for}
use Rattle.fence_core.proofs.Causes.{cause_to_refuse-there, cause_to_refuse-full, cause_to_refuse-used_up, cause_to_refuse-none, MatchOption-Some, MatchOption-None}
use Rattle.fence_core.proofs.ByCookie.{length-watches_of}
use Rattle.fence_core.proofs.Registered.{list_any-watches_of}
use Rattle.fence_core.proofs.watches.Watches.free.Goals as goal
use Rattle.fence_core.proofs.watches.Watches.free.Goals.{then-len-ge-WATCHES-via-then-len-ge-WATCHES, then-len-ge-WATCHES-via-else-len-ge-WATCHES+then-self}

pub returns-then-contains_key : goal.returns-then-contains_key
returns-then-contains_key c =
    let there =
    sym (ap (λ (r : Registry). list_any (is_for c.args.cookie) r.pending) c.self.view_is)
    ∙ list_any-watches_of c.self.inside.pending.entries c.args.cookie c.self.invariant.0.kept
    ∙ sym c.contains_key.ensures ∙ c.if-contains_key.true in
    MatchOption-Some _ _ _ _ (cause_to_refuse-there c.args.self.now c.args.cookie there) refl

pub returns-then-len-ge-WATCHES : goal.returns-then-len-ge-WATCHES
returns-then-len-ge-WATCHES c =
    let new =
    sym (ap (λ (r : Registry). list_any (is_for c.args.cookie) r.pending) c.self.view_is)
    ∙ list_any-watches_of c.self.inside.pending.entries c.args.cookie c.self.invariant.0.kept
    ∙ sym c.contains_key.ensures ∙ c.if-contains_key.false in
    let len = ap (λ (r : Registry). length r.pending) c.self.view_is in
    let same = length-watches_of c.self.inside.pending.entries c.self.invariant.0.kept in
    let told = c.len.ensures.len in
    let made = ap (λ (r : Registry). r.made) c.self.view_is in
    elim c.then-len-ge-WATCHES.branch [
      | then-len-ge-WATCHES-via-then-len-ge-WATCHES w ↦ MatchOption-Some _ _ _ _ (cause_to_refuse-full c.args.self.now c.args.cookie new (omega arith)) refl
      | then-len-ge-WATCHES-via-else-len-ge-WATCHES+then-self w ↦ MatchOption-Some _ _ _ _ (cause_to_refuse-used_up c.args.self.now c.args.cookie new (omega arith)) refl
    ]

pub returns : goal.returns
returns c =
    let new =
    sym (ap (λ (r : Registry). list_any (is_for c.args.cookie) r.pending) c.self.view_is)
    ∙ list_any-watches_of c.self.inside.pending.entries c.args.cookie c.self.invariant.0.kept
    ∙ sym c.contains_key.ensures ∙ c.if-contains_key.false in
    let len = ap (λ (r : Registry). length r.pending) c.self.view_is in
    let same = length-watches_of c.self.inside.pending.entries c.self.invariant.0.kept in
    let told = c.len.ensures.len in
    let made = ap (λ (r : Registry). r.made) c.self.view_is in
    let room : length c.args.self.now.pending < WATCHES = omega arith in
    let left : c.args.self.now.made < WATCHES_EVER = omega (arith, c.self.inside) in
    MatchOption-None _ _ _ (cause_to_refuse-none c.args.self.now c.args.cookie new room left) refl
