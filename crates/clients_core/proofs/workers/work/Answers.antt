use Rattle.std.proofs.Common.{rules, ◌≡◌, ℕ, ◌+◌, inl, inr, refl, subst}
use Rattle.std.proofs.lemmas.Result.{IfErr-weaker}
use Rattle.words_core.specs.theorem.Layout.{claim_word}
use Rattle.words_core.specs.theorem.Seat.{with_step}
use Rattle.words_core.specs.theorem.Trace.{lost}
use Rattle.clients_core.specs.Acting.{client_of}
use Rattle.clients_core.specs.Working.{HasClaimed, claimed_by}
use Rattle.clients_core.proofs.Acting.{OnOk-weaker}
use Rattle.clients_core.proofs.workers.work.Goals as goal

pub returns-in-Err : goal.returns-in-Err
returns-in-Err g c =
    let driving = c.args.driving in
    let found = c.in-Err.ensures.lost in
    let lost-is : c.in-Err.driving ≡ with_step driving (lost (claim_word (c.args.index + 1))) = subst (λ (n : ℕ). c.in-Err.driving ≡ with_step driving (lost (claim_word n))) c.at.ensures found.1 in (
      (search rules, search rules, search rules),
      tt,
      inl (found.0, (c.requires.seats.1, (driving, c.requires.seats.0, lost-is))),
    )

pub returns : goal.returns
returns g c =
    let driving = c.args.driving in
    let before = client_of c.in-Ok.driver c.args.looking in
    let after = client_of c.act_all-answer.new.driver c.act_all-answer.new.seat in
    let claimed : c.in-Ok.driver ≡ claimed_by driving (c.args.index + 1) = subst (λ (n : ℕ). c.in-Ok.driver ≡ claimed_by driving n) c.at.ensures c.in-Ok.ensures.won in
    let begun : HasClaimed c.args.shared.now.words.now (c.args.index + 1) before = (c.requires.seats.1, (driving, c.requires.seats.0, claimed)) in (
      (search rules, search rules, search rules),
      OnOk-weaker c.act_all-answer.result (λ acted. (after, (before, begun, acted), (c.finish.ensures.seat, refl))) c.act_all-answer.ensures.acted,
      IfErr-weaker c.act_all-answer.result _ _ (λ e stopped. inr (after, (before, begun, stopped), (c.finish.ensures.seat, refl))) c.act_all-answer.ensures.stopped,
    )
