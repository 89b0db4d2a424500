use Rattle.std.proofs.Common.{◌≡◌, ◌<◌, ◌+◌, [], ◌∷◌, arith}
use Rattle.point_core.proofs.TwoLists.{AllFrom-nil, AllFrom-later, IsFirstOf-left, IsFirstOf-right, IsFirstOf-left_covers, IsFirstOf-right_covers}
use Rattle.point_core.proofs.merging.first_of.Goals as goal

pub returns-in-Some-parted : goal.returns-in-Some-parted
returns-in-Some-parted c =
    let q = c.in-Some-parted.ensures.parts in
    record { first = rw (q.parts, c.in_default.ensures.parts) (IsFirstOf-right c.in-Some-parted.q [] c.in-Some-parted.qs.now q.context (λ _. AllFrom-nil (c.in-Some-parted.q.ctx + 1))) }

pub returns-in_default-parted : goal.returns-in_default-parted
returns-in_default-parted c =
    let p = c.in-Some.ensures.parts in
    record { first = rw (p.parts, c.in_default-parted.ensures.parts) (IsFirstOf-left c.in-Some.p c.in-Some.ps.now [] p.context (λ _. AllFrom-nil (c.in-Some.p.ctx + 1))) }

pub returns-then-number : goal.returns-then-number
returns-then-number c =
    let p = c.in-Some.ensures.parts in
    let q = c.in-Some-parted-2.ensures.parts in
    let before : c.in-Some.p.ctx < c.in-Some-parted-2.q.ctx = omega (arith, c.number.ensures.value, c.number-2.ensures.value) in
    record { first = rw (p.parts, q.parts) (IsFirstOf-left c.in-Some.p c.in-Some.ps.now (c.in-Some-parted-2.q ∷ c.in-Some-parted-2.qs.now) p.context (AllFrom-later c.in-Some.p.ctx c.in-Some-parted-2.q c.in-Some-parted-2.qs.now before)) }

pub returns-then-number-2 : goal.returns-then-number-2
returns-then-number-2 c =
    let p = c.in-Some.ensures.parts in
    let q = c.in-Some-parted-2.ensures.parts in
    let before : c.in-Some-parted-2.q.ctx < c.in-Some.p.ctx = omega (arith, c.number-else-number.ensures.value, c.number-else-number-2.ensures.value) in
    record { first = rw (p.parts, q.parts) (IsFirstOf-right c.in-Some-parted-2.q (c.in-Some.p ∷ c.in-Some.ps.now) c.in-Some-parted-2.qs.now q.context (AllFrom-later c.in-Some-parted-2.q.ctx c.in-Some.p c.in-Some.ps.now before)) }

pub returns-then-p-q : goal.returns-then-p-q
returns-then-p-q c =
    let p = c.in-Some.ensures.parts in
    let q = c.in-Some-parted-2.ensures.parts in
    let same : c.in-Some.p.ctx ≡ c.in-Some-parted-2.q.ctx = omega (arith, c.number.ensures.value, c.number-2.ensures.value, c.number-else-number.ensures.value, c.number-else-number-2.ensures.value) in
    record { first = rw (p.parts, q.parts) (IsFirstOf-left_covers c.in-Some.p c.in-Some-parted-2.q c.in-Some.ps.now c.in-Some-parted-2.qs.now p.context same (omega arith)) }

pub returns-else-p-q : goal.returns-else-p-q
returns-else-p-q c =
    let p = c.in-Some.ensures.parts in
    let q = c.in-Some-parted-2.ensures.parts in
    let same : c.in-Some.p.ctx ≡ c.in-Some-parted-2.q.ctx = omega (arith, c.number.ensures.value, c.number-2.ensures.value, c.number-else-number.ensures.value, c.number-else-number-2.ensures.value) in
    record { first = rw (p.parts, q.parts) (IsFirstOf-right_covers c.in-Some.p c.in-Some-parted-2.q c.in-Some.ps.now c.in-Some-parted-2.qs.now q.context same (omega arith)) }
