use Rattle.std.proofs.Common.{◌≡◌, ◌+◌, ◌++◌, [], List, sym, ap, ◌∙◌, subst, arith}
use Rattle.std.proofs.lemmas.List.Sums.{sum_by-append}
use Rattle.std.proofs.lemmas.Result.{err_from_is_err_and}
use Rattle.resv_core.specs.declared.plan.Act.{Act}
use Rattle.resv_core.specs.Rounds.{acts_of, round_of, rounds_of}
use Rattle.resv_core.specs.Settled.{increment_by, increments_of}
use Rattle.resv_core.proofs.RoundActs.{rounds_of-more}
use Rattle.clients_core.specs.Acting.{KnowPuts, HaveActed, HasStopped, client_of}
use Rattle.clients_core.proofs.Acting.{HaveActed-append, HasStopped-within, increments-before, round-within, rounds_after, rounds-round, within-before}
use Rattle.clients_core.proofs.client.act_rounds.Goals as goal

pub act_round-requires-clause-within : goal.act_round-requires-clause-within
act_round-requires-clause-within g c =
    let round = c.args.round.now in
    let words = c.args.shared.now.words.now in
    λ lifetimes outlive. round-within words.contexts words.buffers round.acts.now c.loop-index.index round.times c.loop-index-test.true c.requires.within

pub act_round-requires-clause-fits : goal.act_round-requires-clause-fits
act_round-requires-clause-fits g c =
    let round = c.args.round.now in
    let all = increments-before round.acts.now c.loop-index.index round.times c.loop-index-test.true in
    λ lifetimes outlive. omega (arith, c.requires.fits, c.loop-index.invariant.value, all)

pub returns-in_err-act_round-clause-stopped : goal.returns-in_err-act_round-clause-stopped
returns-in_err-act_round-clause-stopped g c =
    let p = err_from_is_err_and c.from_residual.result c.from_residual.ensures.1 in
    let round = c.args.round.now in
    let words = c.args.shared.now.words.now in
    let i = c.loop-index.index in
    let puts = g.T.SharedTable.puts c.args.shared.now.table.now in
    let exports = g.T.SharedTable.exports c.args.shared.now.table.now in
    let before = rounds_of round.acts.now i in
    let here = round_of round.acts.now (i + 1) in
    let after = rounds_after round.acts.now i round.times in
    let first = client_of c.args.driver.now c.args.seat.now in
    let now = client_of c.loop-index.driver c.loop-index.seat in
    let then = client_of c.act_round.new.driver c.act_round.new.seat in
    let within = within-before words.contexts words.buffers round.acts.now i round.times c.loop-index-test.true c.requires.within in
    let stopped = c.in_err-act_round.ensures.stopped before c.loop-index.invariant.known within in
    let whole : before ++ (here ++ after) ≡ acts_of round = sym (rounds-round round.acts.now i round.times c.loop-index-test.true) in
    rw (p.1, p.2)
    (subst (λ (acts : List Act). HasStopped puts exports [] acts first then c.in_err-act_round.field-0.0) whole
    (HasStopped-within puts exports [] before here after first now then c.in_err-act_round.field-0.0 c.loop-index.invariant.acted stopped))

pub loop-index-preserved : goal.loop-index-preserved
loop-index-preserved g c =
    let round = c.args.round.now in
    let words = c.args.shared.now.words.now in
    let i = c.loop-index.index in
    let puts = g.T.SharedTable.puts c.args.shared.now.table.now in
    let exports = g.T.SharedTable.exports c.args.shared.now.table.now in
    let before = rounds_of round.acts.now i in
    let here = round_of round.acts.now (i + 1) in
    let first = client_of c.args.driver.now c.args.seat.now in
    let now = client_of c.loop-index.driver c.loop-index.seat in
    let then = client_of c.act_round.new.driver c.act_round.new.seat in
    let within = within-before words.contexts words.buffers round.acts.now i round.times c.loop-index-test.true c.requires.within in
    let more : before ++ here ≡ rounds_of round.acts.now (i + 1) = sym (rounds_of-more round.acts.now i) in
    let increments : increments_of (rounds_of round.acts.now (i + 1)) ≡ increments_of before + increments_of here = ap increments_of (sym more) ∙ sum_by-append increment_by before here in
    record {
      seat = c.act_round.ensures.seats.0;
      driving = c.act_round.ensures.seats.1;
      value = omega (arith, c.in_ok-act_round.ensures.advanced, c.loop-index.invariant.value, increments);
      buffers = c.act_round.ensures.buffers ∙ c.loop-index.invariant.buffers;
      acted = subst (λ (acts : List Act). HaveActed puts exports [] acts first then) more
          (HaveActed-append puts exports [] before here first now then c.loop-index.invariant.acted (c.in_ok-act_round.ensures.acted before c.loop-index.invariant.known within));
      known = subst (λ (acts : List Act). KnowPuts c.args.shared.now.words.now.contexts c.act_round.new.own acts) more (c.in_ok-act_round.ensures.known before c.loop-index.invariant.known);
    }
