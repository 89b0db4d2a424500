use Rattle.std.proofs.Common.{◌≡◌, ap, sym, subst, ◌∙◌, length, arith}
use Rattle.std.specs.List.{insert}
use Rattle.std.specs.List.Sorted.{IsStrictlySortedBy}
use Rattle.std.specs.Ordering.{nat_cmp}
use Rattle.std.proofs.lemmas.List.Edits.{insert_end}
use Rattle.fence_core.specs.Reported.{at, with_cookies}
use Rattle.fence_core.proofs.Gathered.{at-found, at-put, rising-put}
use Rattle.fence_core.proofs.watches.point_index.firing.put.Goals as goal

pub returns-in_default-clause-put : goal.returns-in_default-clause-put
returns-in_default-clause-put c = at-found c.args.fired.now.items _ _ c.args.registration c.as_slice.ensures.value c.in_default.ensures.position c.requires.rising

pub returns-then-place-len-clause-put : goal.returns-then-place-len-clause-put
returns-then-place-len-clause-put c = λ q.
    let before = c.args.fired.now.items in
    let r = c.args.registration in
    let end : length before ≡ c.in-Err.place = omega (arith, c.if-place-len.true, c.len.ensures) in
    let is = c.in_ok-push.ensures.items ∙ sym (insert_end before r) ∙ ap (λ n. insert before n r) end in
    ap (λ xs. at (with_cookies xs) q) is ∙ at-put before _ c.in-Err.place r c.as_slice.ensures.value c.in-Err.ensures.position c.requires.rising q

pub returns-then-place-len-clause-rising : goal.returns-then-place-len-clause-rising
returns-then-place-len-clause-rising c =
    let before = c.args.fired.now.items in
    let r = c.args.registration in
    let end : length before ≡ c.in-Err.place = omega (arith, c.if-place-len.true, c.len.ensures) in
    let is = c.in_ok-push.ensures.items ∙ sym (insert_end before r) ∙ ap (λ n. insert before n r) end in
    subst (IsStrictlySortedBy nat_cmp) (sym is) (rising-put before _ c.in-Err.place r c.as_slice.ensures.value c.in-Err.ensures.position c.requires.rising)

pub returns-clause-put : goal.returns-clause-put
returns-clause-put c = λ q. ap (λ xs. at (with_cookies xs) q) c.in_ok-insert.ensures.items ∙ at-put c.args.fired.now.items _ c.in-Err.place c.args.registration c.as_slice.ensures.value c.in-Err.ensures.position c.requires.rising q

pub returns-clause-rising : goal.returns-clause-rising
returns-clause-rising c = subst (IsStrictlySortedBy nat_cmp) (sym c.in_ok-insert.ensures.items) (rising-put c.args.fired.now.items _ c.in-Err.place c.args.registration c.as_slice.ensures.value c.in-Err.ensures.position c.requires.rising)
