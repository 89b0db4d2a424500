use Rattle.std.proofs.Common.{sym, ◌∙◌, inr}
use Rattle.std.proofs.lemmas.Result.{err_from_is_err_and}
use Rattle.syncfile_core.proofs.Polling.{still_active, HasRunOut-more, HasPolled-last}
use Rattle.syncfile_core.proofs.sync_file.SyncFile.wait_for.Goals as goal

pub returns-in_err-poll-clause-refused : goal.returns-in_err-poll-clause-refused
returns-in_err-poll-clause-refused c =
    let p = err_from_is_err_and c.from_residual.result c.from_residual.ensures.1 in
    let told = c.in_err-poll.ensures.foreign in
    rw (p.1, p.2) (inr (told.0, HasPolled-last c.args.self.now c.loop.counter c.args.seat.now c.loop.seat c.poll.new.seat c.args.tries c.loop-test.true c.loop.invariant.0 c.poll.ensures.loaded, told.1))

pub loop-preserved : goal.loop-preserved
loop-preserved c =
    let status = sym c.in_ok-poll.ensures.status ∙ still_active _ (sym c.is_signalled.ensures ∙ c.if-is_signalled.false) in
    let kept = c.poll.ensures.kept in
    (HasRunOut-more c.args.self.now c.loop.counter c.args.seat.now c.loop.seat c.poll.new.seat c.loop.invariant.0 (record { loaded = c.poll.ensures.loaded; borne_out = c.in_ok-poll.ensures.borne_out; active = status }), kept.0 ∙ c.loop.invariant.1, kept.0 ∙ c.loop.invariant.2, kept.1 ∙ c.loop.invariant.3)
