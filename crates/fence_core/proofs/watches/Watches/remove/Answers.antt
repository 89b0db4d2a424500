use Rattle.std.proofs.Common.{sym, ap, ◌∙◌, subst, is_some, not}
use Rattle.std.specs.List.{list_any}
use Rattle.std.proofs.lemmas.Bool.{and_parts}
use Rattle.fence_core.specs.Watch.{Registry, is_for, registry_of}
use Rattle.fence_core.specs.Watches.{without_watch}
use Rattle.fence_core.specs.Pending.{watches_of}
use Rattle.fence_core.specs.PointIndex.{is_same, holds}
use Rattle.fence_core.specs.Registered.{AreRegistered, IsIndexed}
use Rattle.fence_core.proofs.Above.{AreAbove-less}
use Rattle.fence_core.proofs.Pending.{filter-other}
use Rattle.fence_core.proofs.Registered.{list_any-watches_of, watches_of-remove, AreRegistered-remove}
use Rattle.fence_core.proofs.Indexed.{IsIndexed-remove}
use Rattle.fence_core.proofs.watches.Watches.remove.Goals as goal

pub returns-in_default-clause-found : goal.returns-in_default-clause-found
returns-in_default-clause-found c =
    ap is_some c.in_default.ensures.value
    ∙ sym (list_any-watches_of c.self.inside.pending.entries c.args.cookie c.self.invariant.0.kept)
    ∙ ap (λ (r : Registry). list_any (is_for c.args.cookie) r.pending) c.self.view_is

pub returns-in_default-clause-without : goal.returns-in_default-clause-without
returns-in_default-clause-without c =
    let es = c.self.inside.pending.entries in
    let none = list_any-watches_of es c.args.cookie c.self.invariant.0.kept ∙ ap is_some (sym c.in_default.ensures.value) in
    ap (λ xs. registry_of (watches_of xs) c.self.inside.made c.self.inside.reach) c.in_default.ensures.unchanged
    ∙ ap (λ ws. registry_of ws c.self.inside.made c.self.inside.reach) (sym (filter-other c.args.cookie (watches_of es) none))
    ∙ ap (λ r. without_watch r c.args.cookie) c.self.view_is

pub invariant_of-self : goal.invariant_of-self
invariant_of-self c = (
  subst (λ xs. AreRegistered xs c.self.inside.made) (sym c.in_default.ensures.unchanged) c.self.invariant.0,
  subst (λ xs. IsIndexed xs c.self.inside.index) (sym c.in_default.ensures.unchanged) c.self.invariant.1,
  c.self.invariant.2,
)

pub invariant_of-self-2 : goal.invariant_of-self-2
invariant_of-self-2 c =
    let es = c.self.inside.pending.entries in
    let left = c.remove.new.self.entries in
    let w = c.in-Some.watch in
    let there = sym c.in-Some.ensures.value in (
      AreRegistered-remove es left c.self.inside.made c.args.cookie w there c.in-Some.ensures.updates.0 c.in-Some.ensures.unique c.self.invariant.0,
      IsIndexed-remove es left c.self.inside.index c.take.new.self c.args.cookie w c.self.invariant.1 c.self.invariant.0.kept.own there c.in-Some.ensures.updates.0 c.take.ensures.taken,
      λ settled. AreAbove-less c.self.inside.index c.take.new.self c.self.inside.reach (c.self.invariant.2 settled)
          (λ k held. (and_parts (not (is_same w.place k)) (holds c.self.inside.index k) (sym (c.take.ensures.taken k) ∙ held)).1),
    )

pub returns-clause-found : goal.returns-clause-found
returns-clause-found c =
    ap is_some c.in-Some.ensures.value
    ∙ sym (list_any-watches_of c.self.inside.pending.entries c.args.cookie c.self.invariant.0.kept)
    ∙ ap (λ (r : Registry). list_any (is_for c.args.cookie) r.pending) c.self.view_is

pub returns-clause-without : goal.returns-clause-without
returns-clause-without c =
    ap (λ ws. registry_of ws c.self.inside.made c.self.inside.reach)
    (watches_of-remove c.self.inside.pending.entries c.remove.new.self.entries c.self.inside.made c.args.cookie c.in-Some.watch (sym c.in-Some.ensures.value) c.in-Some.ensures.updates.0 c.in-Some.ensures.unique c.self.invariant.0)
    ∙ ap (λ r. without_watch r c.args.cookie) c.self.view_is
