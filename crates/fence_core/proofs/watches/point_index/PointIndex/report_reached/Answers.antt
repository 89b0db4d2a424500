use Rattle.std.proofs.Common.{◌≡◌, ◌+◌, ◌∙◌, ap, sym, subst, arith, inl, inr, length}
use Rattle.std.proofs.lemmas.Bool.{cases_lt}
use Rattle.point_core.specs.Reach.{value_at, reaching}
use Rattle.fence_core.specs.PointIndex.{is_due}
use Rattle.fence_core.specs.Reported.{AreGathered, HasGathered, IsReported, Fires}
use Rattle.fence_core.proofs.Above.{OnErr-always}
use Rattle.fence_core.proofs.Fired.{AreGathered-none}
use Rattle.fence_core.proofs.PointIndex.{holds-within}
use Rattle.fence_core.proofs.watches.point_index.PointIndex.report_reached.Goals as goal

pub loop-index-init : goal.loop-index-init
loop-index-init c = record {
  gathered = AreGathered-none c.args.reach.now c.args.pending.now.entries c.args.fired.now.items c.requires.none_fired;
  all = λ k none due there. let within = holds-within c.args.self.now k there in absurd (omega (arith, within.0));
}

pub report_due-requires : goal.report_due-requires
report_due-requires c = record {
  gathered = subst (λ reach. AreGathered c.args.pending.now.entries reach c.loop-index.fired.items) (sym c.reached_point-point.ensures.reached) c.loop-index.invariant.gathered;
}

pub loop-index-preserved : goal.loop-index-preserved
loop-index-preserved c =
    let es = c.args.pending.now.entries in
    let point = c.reached_point-point.result in
    let own = c.reached_point-point.ensures.reached in
    let new = c.report_due.new.fired.items in
    let added = subst (λ reach. HasGathered es reach c.loop-index.fired.items new) own c.in_ok-report_due.ensures.added in
    record {
      gathered = added.gathered;
      all = λ k within due there. elim (cases_lt k.ctx (c.loop-index.index + 1)) [
        | inl before ↦ added.still k.registration (c.loop-index.invariant.all k (omega (arith, before)) due there)
        | inr last ↦
            let is : k.ctx ≡ point.ctx = omega (arith, within, last, c.reached_point-point.ensures.context) in
            subst (λ reach. IsReported es reach new k.registration) own
            (c.in_ok-report_due.ensures.all k
            (ap (λ ctx. is_due ctx (value_at (reaching c.args.reach.now point) ctx) k) (sym is) ∙ ap (λ reach. is_due k.ctx (value_at reach k.ctx) k) own ∙ due)
            there)
      ];
    }

pub returns-in_err-report_due-clause-gathered : goal.returns-in_err-report_due-clause-gathered
returns-in_err-report_due-clause-gathered c = subst (λ reach. AreGathered c.args.pending.now.entries reach c.report_due.new.fired.items) c.reached_point-point.ensures.reached c.in_err-report_due.ensures.added.gathered

pub returns-in_err-report_due-clause-some_fires : goal.returns-in_err-report_due-clause-some_fires
returns-in_err-report_due-clause-some_fires c = OnErr-always _ _ (subst (λ reach. Fires c.args.pending.now.entries reach) c.reached_point-point.ensures.reached c.in_err-report_due.ensures.some_fires)

pub returns-clause-all : goal.returns-clause-all
returns-clause-all c = λ k due there.
    let within = holds-within c.args.self.now k there in
    let same = ap length c.self.view_is in
    c.loop-index.invariant.all k (omega (arith, within.1, same)) due there
