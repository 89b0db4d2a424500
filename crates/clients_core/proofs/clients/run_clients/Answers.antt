use Rattle.std.proofs.Common.{ap, ◌∙◌}
use Rattle.std.proofs.lemmas.Result.{err_from_is_err_and}
use Rattle.words_core.specs.theorem.Seat.{SeatModel}
use Rattle.clients_core.proofs.Working.{HasFailed-refused, HasFailed-unsettled}
use Rattle.clients_core.proofs.clients.run_clients.Goals as goal

pub returns-in_err-all-clause-first : goal.returns-in_err-all-clause-first
returns-in_err-all-clause-first g c = λ none.
    let table = g.T.SharedTable in
    let sizes = c.in_ok-words.ensures.words in
    let refused = HasFailed-refused table.puts table.exports table.settles table.made_for c.args.plans.now c.in_ok-table.table c.in_ok-words.words c.in_ok-table.ensures.words sizes.0 sizes.1 c.in_err-all.ensures.refused in
    let p = err_from_is_err_and c.from_residual-in_err-all.result c.from_residual-in_err-all.ensures.1 in
    rw (p.1, p.2) refused

pub returns-in_err-settled-clause-first : goal.returns-in_err-settled-clause-first
returns-in_err-settled-clause-first g c = λ none.
    let table = g.T.SharedTable in
    let sizes = c.in_ok-words.ensures.words in
    let seat = c.in_ok-words.ensures.seat in
    let failed = HasFailed-unsettled table.puts table.exports table.settles table.made_for c.args.plans.now c.in_ok-table.table c.in_ok-words.words c.in_ok-table.ensures.words sizes.0 sizes.1
    c.in_ok-all.all (c.in_ok-all.ensures.whole.0 ∙ ap (λ (s : SeatModel). s.words) seat) (c.in_ok-all.ensures.whole.1 ∙ ap (λ (s : SeatModel). s.parts) seat)
    c.in_ok-all.ensures.worked c.in_err-settled.ensures.torn c.in_err-settled.ensures.refusals in
    let p = err_from_is_err_and c.from_residual-in_err-settled.result c.from_residual-in_err-settled.ensures.1 in
    rw (p.1, p.2) failed
