use Rattle.std.proofs.Common.{◌≡◌, ℕ, ◌+◌, length, refl, sym, ap, subst, ◌∙◌, arith}
use Rattle.std.proofs.lemmas.Option.{slice_get_read}
use Rattle.std.proofs.lemmas.Result.{err_from_is_err_and}
use Rattle.words_core.specs.theorem.Seat.{SeatModel}
use Rattle.clients_core.specs.Working.{HasEnded}
use Rattle.clients_core.proofs.Working.{AreWorkedOff-ended, HasRefused-ended, HaveAllEnded-joined}
use Rattle.clients_core.proofs.workers.work_in.Goals as goal

pub returns-clause-worked : goal.returns-clause-worked
returns-clause-worked g c =
    let shared = c.args.shared.now in
    let words = shared.words.now in
    let table = shared.table.now in
    let puts = g.T.SharedTable.puts in
    let exports = g.T.SharedTable.exports in
    let plans = c.args.plans.now in
    let some = c.requires.some in
    let plan = c.index-plans-0.result in
    let own = c.work-own.result in
    let started = c.start_others-started in
    let workers = started.new.workers.items in
    let first = c.take_in-first in
    let others = c.join_all-others in
    let number : 0 + 1 ≡ 1 = omega arith in
    let at = slice_get_read plans (length plans) 0 plan refl (omega (arith, some)) c.index-plans-0.is in
    let ended = subst (λ (n : ℕ). HasEnded (puts table) (exports table) words n plan own) number c.work-own.ensures in
    let all = HaveAllEnded-joined puts exports words table plans plan own workers started.new.all first.new.all others.new.all first.result others.result c.and-ended.result
    at ended first.ensures.both first.ensures.answer started.ensures.promises started.ensures.plans others.ensures.joined c.and-ended.ensures in
    let fresh = started.ensures.trace ∙ ap (λ (s : SeatModel). s.trace) c.part-looking.ensures.parent ∙ ap (λ (s : SeatModel). s.trace) c.part-driving.ensures.parent ∙ c.requires.fresh in
    AreWorkedOff-ended (puts table) (exports table) words plans (length workers + 1) started.new.all others.new.all c.and-ended.result started.result fresh started.ensures.all all (sym c.and.ensures ∙ c.in_ok-and.was)

pub returns-in_err-and-clause-refused : goal.returns-in_err-and-clause-refused
returns-in_err-and-clause-refused g c =
    let shared = c.args.shared.now in
    let words = shared.words.now in
    let table = shared.table.now in
    let puts = g.T.SharedTable.puts in
    let exports = g.T.SharedTable.exports in
    let plans = c.args.plans.now in
    let some = c.requires.some in
    let plan = c.index-plans-0.result in
    let own = c.work-own.result in
    let started = c.start_others-started in
    let workers = started.new.workers.items in
    let first = c.take_in-first in
    let others = c.join_all-others in
    let number : 0 + 1 ≡ 1 = omega arith in
    let at = slice_get_read plans (length plans) 0 plan refl (omega (arith, some)) c.index-plans-0.is in
    let ended = subst (λ (n : ℕ). HasEnded (puts table) (exports table) words n plan own) number c.work-own.ensures in
    let all = HaveAllEnded-joined puts exports words table plans plan own workers started.new.all first.new.all others.new.all first.result others.result c.and-ended.result
    at ended first.ensures.both first.ensures.answer started.ensures.promises started.ensures.plans others.ensures.joined c.and-ended.ensures in
    let refused = HasRefused-ended (puts table) (exports table) words plans (length workers + 1) started.new.all others.new.all c.and-ended.result started.result _ started.ensures.memory all (sym c.and.ensures ∙ c.in_err-and.was) in
    let p = err_from_is_err_and c.from_residual-in_err-and.result c.from_residual-in_err-and.ensures.1 in
    rw (p.1, p.2) refused
