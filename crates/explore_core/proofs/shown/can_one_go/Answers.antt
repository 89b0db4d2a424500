use Rattle.std.proofs.Common.{◌≡◌, ℕ, length, ap, ◌∙◌, None, inl, inr, arith}
use Rattle.std.proofs.lemmas.Bool.{cases_lt}
use Rattle.explore_core.specs.Schedule.{Lines, MayGo, after_one, made_line}
use Rattle.explore_core.proofs.Finding.{no-next}
use Rattle.explore_core.proofs.Settling.{each-more}
use Rattle.explore_core.proofs.Trying.{clients-count}
use Rattle.explore_core.proofs.shown.can_one_go.Goals as goal

pub loop-client-preserved : goal.loop-client-preserved
loop-client-preserved c = λ now at.
    let plan = c.args.plan.now in
    let before = c.loop-client.invariant now at in
    let stays = c.in_ok-make_next.ensures.stays c.in-Stays.is now before.0 in
    let P : ℕ → Type 0 = λ k. MayGo plan now.made k → after_one plan now k ≡ None in
    (stays.1, λ k low. each-more P 0 c.loop-client.client (λ j from below. before.1 j below) stays.0 k (omega arith) low)

pub returns : goal.returns
returns c = record {
  nobody = λ is now at client may.
      let plan = c.args.plan.now in
      let clients : c.len-client-end.result ≡ length plan.clients =
      c.len-client-end.ensures ∙ c.plan.inside.clients.ok.0 ∙ clients-count plan _ (ap (λ (p : Lines). p.clients) c.plan.view_is) in
      elim (cases_lt client c.loop-client.client) [
        | inl below ↦ (c.loop-client.invariant now at).1 client below may
        | inr above ↦ ap (made_line now client) (no-next plan now client (omega (arith, above, clients, c.loop-client-test.false)))
      ];
}
