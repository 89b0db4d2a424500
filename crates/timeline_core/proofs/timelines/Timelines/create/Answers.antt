use Rattle.std.proofs.Common.{◌≡◌, ◌+◌, ◌<◌, ◌++◌, ◌∷◌, [], false, true, true≢false, refl, sym, ap, subst, ◌∙◌, length, arith, rules}
use Rattle.std.specs.Prelude.{IfErr}
use Rattle.std.proofs.lemmas.Result.{IfErr-at_err}
use Rattle.point_core.specs.declared.refusal.Refusal.TheVariants.{Exists, Memory}
use Rattle.point_core.specs.declared.context.TheConstants.{CONTEXTS}
use Rattle.timeline_core.specs.Timeline.{has_timeline, new_timeline, context_of, names_of, clocks_of, reach_of, AreTimelines}
use Rattle.timeline_core.proofs.Lookups.{has_timeline-told, context_of-new}
use Rattle.timeline_core.proofs.Storing.{names-seen, clocks-seen, AreTimelines-seen, AreTimelines-new, AreStored-made, timelines_of-stored, clocks_of-new, reach_of-new, length-stored, names-inserted, on_ok}
use Rattle.timeline_core.proofs.timelines.Timelines.create.Goals as goal

absent : (c : goal.After-at) → has_timeline c.args.self.now c.args.name ≡ false
absent c = has_timeline-told c.args.self.now c.args.name (names-seen c.self.invariant c.self.view_is) c.contains.ensures c.if-contains.false

room : (c : goal.After-at) → length c.args.self.now < CONTEXTS
room c = omega (arith, length-stored c.args.self.now (names-seen c.self.invariant c.self.view_is), (AreTimelines-seen c.self.invariant c.self.view_is).room)

names_after : (c : goal.After-at) → c.insert.new.self.keys ≡ names_of (c.args.self.now ++ new_timeline c.args.name ∷ [])
names_after c = names-inserted c.args.self.now c.args.name (names-seen c.self.invariant c.self.view_is) (absent c) (on_ok c.insert.result c.in_ok-map_err.ensures.variant c.insert.ensures.keys)

clocks_after : (c : goal.After-at) → c.self.inside.clocks ≡ clocks_of (c.args.self.now ++ new_timeline c.args.name ∷ [])
clocks_after c = clocks-seen c.self.invariant c.self.view_is ∙ sym (clocks_of-new c.args.self.now c.args.name (room c))

kept : (c : goal.After-at) → AreTimelines (c.args.self.now ++ new_timeline c.args.name ∷ [])
kept c = AreTimelines-new c.args.self.now c.args.name (room c) (names_after c) c.insert.ensures.unique

pub invariant_of-self-2 : goal.invariant_of-self-2
invariant_of-self-2 c = AreStored-made _ (names_after c) (clocks_after c) (kept c)

pub returns-clause-added : goal.returns-clause-added
returns-clause-added c = timelines_of-stored _ (names_after c) (clocks_after c)

pub returns-clause-found : goal.returns-clause-found
returns-clause-found c =
    ap (λ ts. context_of ts c.args.name) (returns-clause-added c) ∙ context_of-new c.args.self.now c.args.name (absent c)
    ∙ sym (c.at.ensures ∙ ap (λ n. n + 1) (c.len-index.ensures.len ∙ length-stored c.args.self.now (names-seen c.self.invariant c.self.view_is)))

pub returns-clause-same_clocks : goal.returns-clause-same_clocks
returns-clause-same_clocks c = ap clocks_of (returns-clause-added c) ∙ clocks_of-new c.args.self.now c.args.name (room c)

pub returns-clause-same_reach : goal.returns-clause-same_reach
returns-clause-same_reach c = ap reach_of (returns-clause-added c) ∙ reach_of-new c.args.self.now c.args.name (room c)

pub returns-clause-exists : goal.returns-clause-exists
returns-clause-exists c = (λ is. cc, λ has. absurd (true≢false (sym has ∙ absent c)))

pub returns-clause-timelines : goal.returns-clause-timelines
returns-clause-timelines c = subst AreTimelines (sym (returns-clause-added c)) (kept c)

present : (c : goal.Then-contains) → has_timeline c.args.self.now c.args.name ≡ true
present c = has_timeline-told c.args.self.now c.args.name (names-seen c.self.invariant c.self.view_is) c.contains.ensures c.if-contains.true

pub returns-then-contains-clause-exists : goal.returns-then-contains-clause-exists
returns-then-contains-clause-exists c = (λ _. present c, λ _. refl)

pub returns-then-contains-clause-limit : goal.returns-then-contains-clause-limit
returns-then-contains-clause-limit c = (λ is. cc, λ h. absurd (true≢false (sym (present c) ∙ h.0)))

pub returns-then-contains-clause-memory : goal.returns-then-contains-clause-memory
returns-then-contains-clause-memory c = λ isnt _. absurd (true≢false (sym (present c) ∙ isnt))

absent_at_limit : (c : goal.Then-index-eq-CONTEXTS) → has_timeline c.args.self.now c.args.name ≡ false
absent_at_limit c = has_timeline-told c.args.self.now c.args.name (names-seen c.self.invariant c.self.view_is) c.contains.ensures c.if-contains.false

pub returns-then-index-eq-CONTEXTS-clause-exists : goal.returns-then-index-eq-CONTEXTS-clause-exists
returns-then-index-eq-CONTEXTS-clause-exists c = (λ is. cc, λ has. absurd (true≢false (sym has ∙ absent_at_limit c)))

pub returns-then-index-eq-CONTEXTS-clause-limit : goal.returns-then-index-eq-CONTEXTS-clause-limit
returns-then-index-eq-CONTEXTS-clause-limit c =
    (λ _. (absent_at_limit c, sym (length-stored c.args.self.now (names-seen c.self.invariant c.self.view_is)) ∙ sym c.len-index.ensures.len ∙ c.if-index-eq-CONTEXTS.true), λ _. refl)

absent_on_refusal : (c : goal.After-from_residual) → has_timeline c.args.self.now c.args.name ≡ false
absent_on_refusal c = has_timeline-told c.args.self.now c.args.name (names-seen c.self.invariant c.self.view_is) c.contains.ensures c.if-contains.false

pub returns-in_err-map_err-clause-exists : goal.returns-in_err-map_err-clause-exists
returns-in_err-map_err-clause-exists c =
    let memory : IfErr c.from_residual.result (λ e. e ≡ Memory) = search rules in
    (λ is. let same : Exists ≡ Memory = IfErr-at_err (λ e. e ≡ Memory) is memory in cc, λ has. absurd (true≢false (sym has ∙ absent_on_refusal c)))

pub returns-clause-leaves : goal.returns-clause-leaves
returns-clause-leaves c = ((absent c, room c), returns-clause-added c)
