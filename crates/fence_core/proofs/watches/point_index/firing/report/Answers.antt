use Rattle.std.proofs.Common.{List, ℕ, sym, ap, ◌∙◌, cond, Some, None}
use Rattle.std.specs.BTreeMap.{is_at}
use Rattle.std.specs.Ordering.{nat_cmp}
use Rattle.point_core.specs.Reach.{reaching}
use Rattle.fence_core.specs.Pending.{watch_in, watch_if_any}
use Rattle.fence_core.specs.Reported.{at, with_cookies, cookie_if_fires, Fires}
use Rattle.fence_core.specs.Watch.{Watch}
use Rattle.fence_core.proofs.Above.{OnErr-always}
use Rattle.fence_core.proofs.Fired.{reported-none, reported-put, reported-still, only-put}
use Rattle.fence_core.proofs.Gathered.{cookie-found, HasGathered-none, HasGathered-same}
use Rattle.fence_core.proofs.watches.point_index.firing.report.Goals as goal

pub returns-in_default-clause-added : goal.returns-in_default-clause-added
returns-in_default-clause-added c = HasGathered-none c.args.pending.now.entries (reaching c.args.reach.now c.args.point.now) c.args.fired.now.items c.requires.gathered

pub returns-in_default-clause-reported : goal.returns-in_default-clause-reported
returns-in_default-clause-reported c =
    let reach : List ℕ = reaching c.args.reach.now c.args.point.now in
    reported-none c.args.pending.now.entries reach c.args.fired.now.items c.args.registration c.requires.gathered.only_firing (ap (λ o. cookie_if_fires reach (watch_if_any o)) (sym c.in_default.ensures))

pub returns-then-not-is_signalled_with-clause-added : goal.returns-then-not-is_signalled_with-clause-added
returns-then-not-is_signalled_with-clause-added c = HasGathered-none c.args.pending.now.entries (reaching c.args.reach.now c.args.point.now) c.args.fired.now.items c.requires.gathered

pub returns-then-not-is_signalled_with-clause-reported : goal.returns-then-not-is_signalled_with-clause-reported
returns-then-not-is_signalled_with-clause-reported c =
    let reach : List ℕ = reaching c.args.reach.now c.args.point.now in
    let w : Watch = watch_in c.in-Some.watch.now in
    reported-none c.args.pending.now.entries reach c.args.fired.now.items c.args.registration c.requires.gathered.only_firing
    (ap (λ o. cookie_if_fires reach (watch_if_any o)) (sym c.in-Some.ensures) ∙ ap (λ b. cond b (Some w.cookie) None) (sym c.is_signalled_with.ensures ∙ c.if-not-is_signalled_with.true))

pub returns-clause-added : goal.returns-clause-added
returns-clause-added c =
    let es = c.args.pending.now.entries in
    let reach : List ℕ = reaching c.args.reach.now c.args.point.now in
    let old = c.args.fired.now.items in
    let r = c.args.registration in
    let w : Watch = watch_in c.in-Some.watch.now in
    let there = sym (ap watch_if_any c.in-Some.ensures) in
    let fires = sym c.is_signalled_with.ensures ∙ c.if-not-is_signalled_with.false in
    let own = cookie-found es r w there in
    record {
      gathered = record {
        rising = c.in_ok-put.ensures.rising;
        only_firing = only-put es reach old c.put.new.fired.items r w c.requires.gathered.only_firing there fires (λ q. c.in_ok-put.ensures.put q ∙ ap (λ k. cond (is_at (nat_cmp r) q) (Some k) (at (with_cookies old) q)) own);
      };
      still = reported-still es reach old c.put.new.fired.items r w c.requires.gathered.only_firing there fires (λ q. c.in_ok-put.ensures.put q ∙ ap (λ k. cond (is_at (nat_cmp r) q) (Some k) (at (with_cookies old) q)) own);
    }

pub returns-clause-reported : goal.returns-clause-reported
returns-clause-reported c =
    let es = c.args.pending.now.entries in
    let reach : List ℕ = reaching c.args.reach.now c.args.point.now in
    let old = c.args.fired.now.items in
    let r = c.args.registration in
    let w : Watch = watch_in c.in-Some.watch.now in
    let there = sym (ap watch_if_any c.in-Some.ensures) in
    reported-put es reach old c.put.new.fired.items r w c.requires.gathered.only_firing there (sym c.is_signalled_with.ensures ∙ c.if-not-is_signalled_with.false)
    (λ q. c.in_ok-put.ensures.put q ∙ ap (λ k. cond (is_at (nat_cmp r) q) (Some k) (at (with_cookies old) q)) (cookie-found es r w there))

pub returns-in_err-put-clause-added : goal.returns-in_err-put-clause-added
returns-in_err-put-clause-added c = HasGathered-same c.args.pending.now.entries (reaching c.args.reach.now c.args.point.now) c.args.fired.now.items c.put.new.fired.items c.in_err-put.ensures.unchanged c.requires.gathered

pub returns-in_err-put-clause-some_fires : goal.returns-in_err-put-clause-some_fires
returns-in_err-put-clause-some_fires c =
    let some : Fires c.args.pending.now.entries (reaching c.args.reach.now c.args.point.now) = record {
      registration = c.args.registration;
      watch = watch_in c.in-Some.watch.now;
      pending = sym (ap watch_if_any c.in-Some.ensures);
      fires = sym c.is_signalled_with.ensures ∙ c.if-not-is_signalled_with.false;
    } in
    OnErr-always _ _ some
