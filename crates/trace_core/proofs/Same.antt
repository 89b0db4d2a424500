-- Keys that compare as equal are equal.
use Rattle.std.proofs.Common.{◌≡◌, nat_eq, Bool, true, false, ◌&&◌, cond, refl, sym, ap, ◌∙◌}
use Rattle.std.specs.Bool.{Decides}
use Rattle.std.specs.Cmp.{IsEquivalence}
use Rattle.std.proofs.lemmas.Bool.{eqb-true, and_parts}
use Rattle.std.proofs.lemmas.Cmp.{and_equiv, nat_eq_equiv, on_equiv}
use Rattle.trace_core.specs.declared.fence_event.FenceKey.{FenceKey}
use Rattle.trace_core.specs.declared.fence_event.TimelineKey.{TimelineKey}
use Rattle.trace_core.specs.Keys.{same_timeline, same_key}

pub swap : {X Y : Type 0} (f : X → Y) (b : Bool) (x z : X) (y : Y) → (b ≡ true → x ≡ z) → cond b (f x) y ≡ cond b (f z) y
swap f true x z y is = ap f (is refl)
swap f false x z y is = refl

pub same_timeline-is : (a b : TimelineKey) → same_timeline a b ≡ true → a ≡ b
same_timeline-is a b same =
    let parts = and_parts (nat_eq a.driver b.driver) (nat_eq a.timeline b.timeline) same in
    let driver : a.driver ≡ b.driver = eqb-true a.driver b.driver parts.0 in
    let timeline : a.timeline ≡ b.timeline = eqb-true a.timeline b.timeline parts.1 in
    λ i. record { driver = driver i; timeline = timeline i }

pub same_key-is : (a b : FenceKey) → same_key a b ≡ true → a ≡ b
same_key-is a b same =
    let parts = and_parts (nat_eq a.driver b.driver) (nat_eq a.timeline b.timeline && (nat_eq a.context b.context && nat_eq a.seqno b.seqno)) same in
    let rest = and_parts (nat_eq a.timeline b.timeline) (nat_eq a.context b.context && nat_eq a.seqno b.seqno) parts.1 in
    let last = and_parts (nat_eq a.context b.context) (nat_eq a.seqno b.seqno) rest.1 in
    let driver : a.driver ≡ b.driver = eqb-true a.driver b.driver parts.0 in
    let timeline : a.timeline ≡ b.timeline = eqb-true a.timeline b.timeline rest.0 in
    let context : a.context ≡ b.context = eqb-true a.context b.context last.0 in
    let seqno : a.seqno ≡ b.seqno = eqb-true a.seqno b.seqno last.1 in
    λ i. record { driver = driver i; timeline = timeline i; context = context i; seqno = seqno i }

pub same_key-laws : IsEquivalence same_key
same_key-laws =
    and_equiv (on_equiv (λ key. key.driver) nat_eq_equiv) (and_equiv (on_equiv (λ key. key.timeline) nat_eq_equiv) (
    and_equiv (on_equiv (λ key. key.context) nat_eq_equiv) (on_equiv (λ key. key.seqno) nat_eq_equiv)))

pub same_key-decides : (a b : FenceKey) → Decides (same_key a b) (a ≡ b)
same_key-decides a b = (same_key-is a b, λ is. sym (ap (same_key a) is) ∙ same_key-laws.refl a)
