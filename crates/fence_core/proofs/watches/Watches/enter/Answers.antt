use Rattle.std.proofs.Common.{◌≡◌, ◌<◌, ◌+◌, [], ◌∷◌, ◌++◌, true, ◌||◌, nat_eq, sym, ap, ◌∙◌, subst, length, arith}
use Rattle.std.specs.List.{list_any}
use Rattle.std.specs.Map.{lookup}
use Rattle.fence_core.specs.declared.watches.TheConstants.{WATCHES}
use Rattle.fence_core.specs.declared.watches.registration.TheConstants.{COOKIES}
use Rattle.fence_core.specs.declared.watches.pending.PendingWatch.{PendingWatch}
use Rattle.fence_core.specs.declared.watches.point_index.WaitingPoint.{WaitingPoint}
use Rattle.point_core.proofs.Values.{IsAtLeast-refl}
use Rattle.fence_core.specs.Fence.{members_of}
use Rattle.fence_core.specs.Registration.{numbered, cookie_of}
use Rattle.fence_core.specs.Pending.{watches_of}
use Rattle.fence_core.specs.Watch.{Registry, is_for, watch_of, registry_of}
use Rattle.fence_core.specs.Watches.{with_watch}
use Rattle.fence_core.specs.PointIndex.{is_of, is_same, holds, waiting, IsOneAbove}
use Rattle.fence_core.specs.Registered.{AreRegistered, IsIndexed}
use Rattle.fence_core.proofs.Above.{AreAbove-less, AreAbove-put_above}
use Rattle.fence_core.proofs.Causes.{new-by_cause, room-by_cause}
use Rattle.fence_core.proofs.Registered.{cookie_of-numbered, lookup-new, watches_of-push, AreRegistered-push, members_of-fence_of}
use Rattle.fence_core.proofs.Indexed.{IsIndexed-push, IsIndexed-same, not_held, holds-undo}
use Rattle.fence_core.proofs.watches.Watches.enter.Goals as goal

pub invariant_of-self-in_default : goal.invariant_of-self-in_default
invariant_of-self-in_default c =
    let es = c.self.inside.pending.entries in
    let index = c.self.inside.index in
    let p = waiting c.args.first.now c.of-registration.result in
    let none = ap (λ (r : Registry). list_any (is_for c.args.cookie) r.pending) c.self.view_is ∙ new-by_cause c.args.self.now c.args.cookie (c.requires.free) in
    let new = lookup-new es c.args.cookie c.self.invariant.0.kept none in
    let its : cookie_of c.of-registration.result ≡ c.args.cookie = ap cookie_of c.of-registration.ensures ∙ cookie_of-numbered c.self.inside.made c.args.cookie (omega (arith, c.ranges.cookie.fits)) in
    let unheld = not_held es index p c.self.invariant.1 (ap (λ k. lookup (nat_eq k) es) its ∙ new) in
    let back = holds-undo index c.put.new.self c.take.new.self p c.of-place.result c.of-place.ensures unheld c.in_ok-put.ensures.put c.take.ensures.taken in
    let same = sym c.in_default.ensures.err in (
      subst (λ xs. AreRegistered xs c.self.inside.made) same c.self.invariant.0,
      subst (λ xs. IsIndexed xs c.take.new.self) same (IsIndexed-same es index c.take.new.self c.self.invariant.1 back),
      λ settled. AreAbove-less index c.take.new.self c.self.inside.reach (c.self.invariant.2 settled) (λ k there. sym (back k) ∙ there),
    )

pub invariant_of-self-2 : goal.invariant_of-self-2
invariant_of-self-2 c =
    let es = c.self.inside.pending.entries in
    let more = c.insert.new.self.entries in
    let index = c.self.inside.index in
    let made = c.self.inside.made in
    let first = c.args.first.now in
    let r = c.of-registration.result in
    let w : PendingWatch = record { place = c.of-place.result; fence = c.in_ok-fence.fence } in
    let view = ap (λ (r : Registry). r.pending) c.self.view_is in
    let cause = c.requires.free in
    let none = ap (list_any (is_for c.args.cookie)) view ∙ new-by_cause c.args.self.now c.args.cookie cause in
    let room = subst (λ ws. length ws < WATCHES) (sym view) (room-by_cause c.args.self.now c.args.cookie cause) in
    let new = lookup-new es c.args.cookie c.self.invariant.0.kept none in
    let fits : c.args.cookie < COOKIES = omega (arith, c.ranges.cookie.fits) in
    let is : w.place.registration ≡ numbered made c.args.cookie = ap (λ (k : WaitingPoint). k.registration) c.of-place.ensures ∙ c.of-registration.ensures in
    let its : cookie_of w.place.registration ≡ c.args.cookie = ap cookie_of is ∙ cookie_of-numbered made c.args.cookie fits in
    let points = ap members_of c.in_ok-fence.ensures.fence ∙ members_of-fence_of c.args.points.now in
    let one = c.requires.above in
    let above : IsOneAbove c.self.inside.reach c.args.points.now first = subst (λ (r : Registry). IsOneAbove r.reach c.args.points.now first) (sym c.self.view_is) one in
    let member : is_of (members_of w.fence) w.place.registration w.place ≡ true = ap (λ (k : WaitingPoint). is_of (members_of w.fence) k.registration k) c.of-place.ensures ∙ ap (λ ps. is_of ps r (waiting first r)) points ∙ one.member r in
    let held : (k : WaitingPoint) → holds c.put.new.self k ≡ (is_same w.place k || holds index k) = λ k. c.in_ok-put.ensures.put k ∙ ap (λ p. is_same p k || holds index k) (sym c.of-place.ensures) in (
      AreRegistered-push es more made c.args.cookie w is fits new c.in-Ok.ensures.updates.0 c.in-Ok.ensures.unique c.self.invariant.0 none room,
      IsIndexed-push es more index c.put.new.self c.args.cookie w c.self.invariant.1 new its member c.in-Ok.ensures.updates.0 held,
      λ settled. AreAbove-put_above index c.put.new.self first r c.self.inside.reach c.self.inside.reach (c.self.invariant.2 settled) (IsAtLeast-refl c.self.inside.reach) above.above c.in_ok-put.ensures.put,
    )

pub returns-clause-last : goal.returns-clause-last
returns-clause-last c =
    let es = c.self.inside.pending.entries in
    let more = c.insert.new.self.entries in
    let made = c.self.inside.made in
    let w : PendingWatch = record { place = c.of-place.result; fence = c.in_ok-fence.fence } in
    let none = ap (λ (r : Registry). list_any (is_for c.args.cookie) r.pending) c.self.view_is ∙ new-by_cause c.args.self.now c.args.cookie (c.requires.free) in
    let new = lookup-new es c.args.cookie c.self.invariant.0.kept none in
    let fits : c.args.cookie < COOKIES = omega (arith, c.ranges.cookie.fits) in
    let is : w.place.registration ≡ numbered made c.args.cookie = ap (λ (k : WaitingPoint). k.registration) c.of-place.ensures ∙ c.of-registration.ensures in
    let its : cookie_of w.place.registration ≡ c.args.cookie = ap cookie_of is ∙ cookie_of-numbered made c.args.cookie fits in
    let points = ap members_of c.in_ok-fence.ensures.fence ∙ members_of-fence_of c.args.points.now in
    ap (λ ws. registry_of ws (made + 1) c.self.inside.reach) (watches_of-push es more made c.args.cookie w is fits new c.in-Ok.ensures.updates.0 c.in-Ok.ensures.unique c.self.invariant.0)
    ∙ ap (λ k. registry_of (watches_of es ++ watch_of k (members_of w.fence) ∷ []) (made + 1) c.self.inside.reach) its
    ∙ ap (λ ps. registry_of (watches_of es ++ watch_of c.args.cookie ps ∷ []) (made + 1) c.self.inside.reach) points
    ∙ ap (λ (r : Registry). with_watch r c.args.cookie c.args.points.now r.reach) c.self.view_is
