use Rattle.std.proofs.Common.{◌∙◌, sym, refl, inl, inr, arith, nat_eq, nat_le}
use Rattle.std.proofs.lemmas.Bool.{and_from, cases_Bool, eq-eqb, le-leb}
use Rattle.fence_core.specs.PointIndex.{standing_of, holds}
use Rattle.fence_core.proofs.PointIndex.{queue_at-index, has-at, holds-past, due-at}
use Rattle.fence_core.proofs.watches.point_index.first_due.Goals as goal

pub returns-then-index-queues-clause-none : goal.returns-then-index-queues-clause-none
returns-then-index-queues-clause-none c = λ k due. holds-past c.args.queues.now c.index-index.result k (omega arith) (c.index-index.ensures.value ∙ sym (due-at c.args.ctx c.args.value k due).0)

pub returns-in_default-clause-none : goal.returns-in_default-clause-none
returns-in_default-clause-none c =
    let own = queue_at-index c.args.queues.now c.index-index.result c.args.ctx c.index-queues-index.result (omega arith) c.index-index.ensures.value ∙ sym c.index-queues-index.is in
    λ k due. has-at c.args.queues.now c.index-queues-index.result c.args.ctx k own (due-at c.args.ctx c.args.value k due).0 ∙ c.in_default.ensures.none (standing_of k)

-- the first is above the value, and so are all
pub returns-then-first-value-clause-none : goal.returns-then-first-value-clause-none
returns-then-first-value-clause-none c =
    let own = queue_at-index c.args.queues.now c.index-index.result c.args.ctx c.index-queues-index.result (omega arith) c.index-index.ensures.value ∙ sym c.index-queues-index.is in
    λ k due. elim (cases_Bool (holds c.args.queues.now k)) [
      | inl there ↦
          let at = due-at c.args.ctx c.args.value k due in
          let least = c.in-Some.ensures.least (standing_of k) (sym (has-at c.args.queues.now c.index-queues-index.result c.args.ctx k own at.0) ∙ there) in
          absurd (omega (arith, at.1))
      | inr gone ↦ gone
    ]

pub returns-clause-some : goal.returns-clause-some
returns-clause-some c =
    let own = queue_at-index c.args.queues.now c.index-index.result c.args.ctx c.index-queues-index.result (omega arith) c.index-index.ensures.value ∙ sym c.index-queues-index.is in
    let first = c.in-Some.first in (
      and_from (nat_eq c.args.ctx c.args.ctx) (nat_le first.value c.args.value) (eq-eqb c.args.ctx c.args.ctx refl) (le-leb first.value c.args.value (omega arith)),
      has-at c.args.queues.now c.index-queues-index.result c.args.ctx _ own refl ∙ c.in-Some.ensures.some,
    )
