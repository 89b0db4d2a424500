use Rattle.std.proofs.Common.{◌≡◌, ◌≢◌, true, ◌∙◌, sym, ap, subst, nat_eq, not, ◌&&◌}
use Rattle.std.specs.Prelude.{IfSome, IfNone, option_copied}
use Rattle.std.specs.Map.{lookup, set_value}
use Rattle.std.proofs.lemmas.Bool.{false≢true}
use Rattle.point_core.specs.Reach.{value_at}
use Rattle.fence_core.specs.Fence.{members_of, are_reached}
use Rattle.fence_core.specs.Registration.{cookie_of}
use Rattle.fence_core.specs.PointIndex.{waiting, is_same, is_due, IsOneAbove}
use Rattle.fence_core.specs.declared.watches.point_index.WaitingPoint.{WaitingPoint as Waiting}
use Rattle.fence_core.proofs.Above.{above-not_due}
use Rattle.fence_core.specs.Registered.{AreMoved}
use Rattle.fence_core.proofs.Moved.{AreMoved-same, moved-on, some-above}
use Rattle.fence_core.proofs.watches.point_index.PointIndex.move_on.Goals as goal
use Rattle.fence_core.proofs.watches.point_index.PointIndex.move_on.Goals.{After-replace}

-- the pending watches and the index at the end
moved : (c : After-replace) → AreMoved c.args.reach.now c.args.pending.now.entries c.args.self.now c.replace.new.pending.entries c.take.new.self
moved c =
    let reach = c.args.reach.now in
    let due = c.args.due.now in
    let es = c.args.pending.now.entries in
    let p = c.unwrap-next.result in
    let x = c.unwrap-watch.result.now in
    let found = sym c.find.ensures ∙ ap option_copied c.unwrap-watch.ensures in
    let one : IsOneAbove reach (members_of x.fence) p = subst (λ o. IfSome o (λ q. IsOneAbove reach (members_of x.fence) q)) c.unwrap-next.ensures (subst (λ ps. IfSome c.first_above.result (λ q. IsOneAbove reach ps q)) c.members.ensures.value c.first_above.ensures.above) in
    let apart : due ≢ waiting p due.registration = λ e. false≢true (sym (above-not_due reach p due.registration one.above) ∙ sym (ap (λ (k : Waiting). is_due k.ctx (value_at reach k.ctx) k) e) ∙ c.requires.due) in
    moved-on reach es c.replace.new.pending.entries c.args.self.now c.take.new.self due p x c.requires.placed one.above c.requires.there found (one.member due.registration) apart
    (λ w there.
    c.replace.ensures.moved w (ap (λ (k : Waiting). lookup (nat_eq (cookie_of k.registration)) es) c.of.ensures ∙ there)
    ∙ ap (λ (k : Waiting). set_value (nat_eq (cookie_of k.registration)) es (record { place = k; fence = w.fence })) c.of.ensures)
    (λ k. c.take.ensures.taken k ∙ ap (λ b. not (is_same due k) && b) (c.in_ok-put.ensures.put k))

pub returns-clause-moved : goal.returns-clause-moved
returns-clause-moved c = moved c

pub returns-in_err-put-clause-moved : goal.returns-in_err-put-clause-moved
returns-in_err-put-clause-moved c = AreMoved-same c.args.reach.now c.args.pending.now.entries c.args.self.now c.put.new.self c.requires.placed c.in_err-put.ensures.unchanged

-- it does not fire
pub unwrap-next-requires : goal.unwrap-next-requires
unwrap-next-requires c = some-above c.args.pending.now.entries c.args.reach.now c.args.due.now.registration c.unwrap-watch.result.now c.first_above.result c.requires.placed.kept c.requires.none_fires (sym c.find.ensures ∙ ap option_copied c.unwrap-watch.ensures) (subst (λ ps. IfNone c.first_above.result (are_reached c.args.reach.now ps ≡ true)) c.members.ensures.value c.first_above.ensures.signalled)
