use Rattle.std.proofs.Common.{◌≡◌, ◌+◌, ◌*◌, ◌-◌, ◌<◌, ◌≤◌, ◌++◌, ◌∷◌, [], List, Result, length, refl, sym, ap, ◌∙◌, subst, inl, inr, take, append_assoc, arith, le_refl, mul-le-mul_left}
use Rattle.std.proofs.lemmas.List.{take_all, take_more}
use Rattle.std.proofs.lemmas.List.Elements.{All-append, All-take}
use Rattle.std.proofs.lemmas.List.Sums.{sum_by-append}
use Rattle.std.proofs.lemmas.Nat.{column_fits}
use Rattle.std.proofs.lemmas.Result.{err_from_is_err_and}
use Rattle.point_core.specs.declared.refusal.Refusal.{Refusal}
use Rattle.point_core.specs.declared.refusal.Refusal.TheVariants.{TimedOut}
use Rattle.resv_core.specs.declared.plan.Act.{Act}
use Rattle.resv_core.specs.Rounds.{IsInRange, in_round, round_of}
use Rattle.resv_core.specs.Settled.{IsWithin, increment_by, increments_of}
use Rattle.resv_core.proofs.RoundActs.{acts-in_range}
use Rattle.clients_core.specs.Acting.{KnowPuts, HasActed, HaveActed, client_of}
use Rattle.clients_core.proofs.Acting.{All-at, HaveActed-more, HasStopped-next, increments-at, length-round, round-at}
use Rattle.clients_core.proofs.client.act_round.Goals as goal

pub overflow_mul-first : goal.overflow_mul-first
overflow_mul-first g c =
    let round = c.args.round.now in
    let count = c.requires.rounds.count in
    let less : length round.acts.now * (c.args.number - 1) ≤ length round.acts.now * round.times = mul-le-mul_left (length round.acts.now) (omega (arith, c.requires.number)) in
    omega (arith, count, less)

pub overflow_add-place : goal.overflow_add-place
overflow_add-place g c =
    let round = c.args.round.now in
    let count = c.requires.rounds.count in
    let fits = column_fits (length round.acts.now) (c.args.number - 1) (length round.acts.now) round.times (omega (arith, c.requires.number)) (le_refl (length round.acts.now)) in
    omega (arith, count, fits)

pub in_round-act-requires : goal.in_round-act-requires
in_round-act-requires g c =
    let round = c.args.round.now in
    let all = acts-in_range round.acts.now c.args.number round.times c.requires.number.1 c.requires.rounds.points in
    All-at (IsInRange c.args.number) round.acts.now c.loop-index.index c.index-acts-index.result c.loop-index-test.true c.index-acts-index.is all

pub act_once-done-requires-clause-within : goal.act_once-done-requires-clause-within
act_once-done-requires-clause-within g c =
    let words = c.args.shared.now.words.now in
    let given = c.args.round.now.acts.now in
    let n = c.args.number in
    let i = c.loop-index.index in
    let low : i < length (round_of given n) = omega (arith, c.loop-index-test.true, length-round given n) in
    λ lifetimes outlive. All-at (IsWithin words.contexts words.buffers) (round_of given n) i c.in_round-act.result low (round-at given n i c.index-acts-index.result c.in_round-act.result c.loop-index-test.true c.index-acts-index.is c.in_round-act.ensures) c.requires.within

pub act_once-done-requires-clause-fits : goal.act_once-done-requires-clause-fits
act_once-done-requires-clause-fits g c =
    let given = c.args.round.now.acts.now in
    let n = c.args.number in
    let i = c.loop-index.index in
    let low : i < length (round_of given n) = omega (arith, c.loop-index-test.true, length-round given n) in
    let more = increments-at (round_of given n) i c.in_round-act.result low (round-at given n i c.index-acts-index.result c.in_round-act.result c.loop-index-test.true c.index-acts-index.is c.in_round-act.ensures) in
    λ lifetimes outlive. omega (arith, c.loop-index.invariant.value, c.requires.fits, more)

pub returns-then-not-enter-clause-stopped : goal.returns-then-not-enter-clause-stopped
returns-then-not-enter-clause-stopped g c =
    let given = c.args.round.now.acts.now in
    let n = c.args.number in
    let i = c.loop-index.index in
    let now = client_of c.loop-index.driver c.loop-index.seat in
    let low : i < length (round_of given n) = omega (arith, c.loop-index-test.true, length-round given n) in
    λ done known within.
    HasStopped-next (g.T.SharedTable.puts c.args.shared.now.table.now) (g.T.SharedTable.exports c.args.shared.now.table.now) done (round_of given n) i (in_round n c.index-acts-index.result) (client_of c.args.driver.now c.args.seat.now) now now TimedOut low (round-at given n i c.index-acts-index.result (in_round n c.index-acts-index.result) c.loop-index-test.true c.index-acts-index.is refl) (c.loop-index.invariant.acted done known within) (inl (refl, refl))

pub returns-in_err-done-clause-stopped : goal.returns-in_err-done-clause-stopped
returns-in_err-done-clause-stopped g c =
    let p = err_from_is_err_and c.from_residual.result c.from_residual.ensures.1 in
    let words = c.args.shared.now.words.now in
    let given = c.args.round.now.acts.now in
    let n = c.args.number in
    let acts = round_of given n in
    let i = c.loop-index.index in
    let act = c.in_round-act.result in
    let now = client_of c.loop-index.driver c.loop-index.seat in
    let then = client_of c.act_once-done.new.driver c.act_once-done.new.seat in
    let low : i < length (round_of given n) = omega (arith, c.loop-index-test.true, length-round given n) in
    let at = round-at given n i c.index-acts-index.result act c.loop-index-test.true c.index-acts-index.is c.in_round-act.ensures in
    rw (p.1, p.2)
    (λ done known within.
    let within' = All-append (IsWithin words.contexts words.buffers) done (take i acts) within (All-take (IsWithin words.contexts words.buffers) i acts c.requires.within) in
    let acted = subst (λ (r : Result (Unit {0}) Refusal). HasActed (g.T.SharedTable.puts c.args.shared.now.table.now) (g.T.SharedTable.exports c.args.shared.now.table.now) (done ++ take i acts) act now then r) c.in_err-done.was (c.act_once-done.ensures.acted (done ++ take i acts) (c.loop-index.invariant.known done known) within') in
    HasStopped-next (g.T.SharedTable.puts c.args.shared.now.table.now) (g.T.SharedTable.exports c.args.shared.now.table.now) done acts i act (client_of c.args.driver.now c.args.seat.now) now then c.in_err-done.field-0.0 low at (c.loop-index.invariant.acted done known within) (inr acted))

pub loop-index-preserved : goal.loop-index-preserved
loop-index-preserved g c =
    let words = c.args.shared.now.words.now in
    let given = c.args.round.now.acts.now in
    let n = c.args.number in
    let acts = round_of given n in
    let i = c.loop-index.index in
    let act = c.in_round-act.result in
    let now = client_of c.loop-index.driver c.loop-index.seat in
    let then = client_of c.act_once-done.new.driver c.act_once-done.new.seat in
    let low : i < length (round_of given n) = omega (arith, c.loop-index-test.true, length-round given n) in
    let at = round-at given n i c.index-acts-index.result act c.loop-index-test.true c.index-acts-index.is c.in_round-act.ensures in
    let more : take (i + 1) acts ≡ take i acts ++ act ∷ [] = take_more acts i act low ∙ ap (λ (a : Act). take i acts ++ a ∷ []) (sym at) in
    let increments : increments_of (take (i + 1) acts) ≡ increments_of (take i acts) + increment_by act = ap increments_of more ∙ sum_by-append increment_by (take i acts) (act ∷ []) ∙ omega arith in
    record {
      seat = c.act_once-done.ensures.seats.0;
      driving = c.act_once-done.ensures.seats.1;
      value = omega (arith, c.in_ok-done.ensures.advanced, c.loop-index.invariant.value, increments);
      buffers = c.act_once-done.ensures.buffers ∙ c.loop-index.invariant.buffers;
      acted = λ done known within.
          let within' = All-append (IsWithin words.contexts words.buffers) done (take i acts) within (All-take (IsWithin words.contexts words.buffers) i acts c.requires.within) in
          let acted = subst (λ (r : Result (Unit {0}) Refusal). HasActed (g.T.SharedTable.puts c.args.shared.now.table.now) (g.T.SharedTable.exports c.args.shared.now.table.now) (done ++ take i acts) act now then r) c.in_ok-done.was (c.act_once-done.ensures.acted (done ++ take i acts) (c.loop-index.invariant.known done known) within') in
          HaveActed-more (g.T.SharedTable.puts c.args.shared.now.table.now) (g.T.SharedTable.exports c.args.shared.now.table.now) done acts i act (client_of c.args.driver.now c.args.seat.now) now then low at (c.loop-index.invariant.acted done known within) acted;
      known = λ done known.
          subst (λ (xs : List Act). KnowPuts c.args.shared.now.words.now.contexts c.act_once-done.new.own (done ++ xs)) (sym more)
          (subst (λ (xs : List Act). KnowPuts c.args.shared.now.words.now.contexts c.act_once-done.new.own xs) (append_assoc done (take i acts) (act ∷ []))
          (c.in_ok-done.ensures.known (done ++ take i acts) (c.loop-index.invariant.known done known)));
    }

pub returns-clause-known : goal.returns-clause-known
returns-clause-known g c =
    let given = c.args.round.now.acts.now in
    let acts = round_of given c.args.number in
    let end : length (round_of given c.args.number) ≤ c.loop-index.index = omega (arith, c.loop-index-test.false, length-round given c.args.number) in
    let all = take_all c.loop-index.index acts end in
    λ done known. subst (λ (xs : List Act). KnowPuts c.args.shared.now.words.now.contexts c.loop-index.own (done ++ xs)) all (c.loop-index.invariant.known done known)

pub returns-clause-acted : goal.returns-clause-acted
returns-clause-acted g c =
    let given = c.args.round.now.acts.now in
    let acts = round_of given c.args.number in
    let end : length (round_of given c.args.number) ≤ c.loop-index.index = omega (arith, c.loop-index-test.false, length-round given c.args.number) in
    let all = take_all c.loop-index.index acts end in
    λ done known within. subst (λ (xs : List Act). HaveActed (g.T.SharedTable.puts c.args.shared.now.table.now) (g.T.SharedTable.exports c.args.shared.now.table.now) done xs (client_of c.args.driver.now c.args.seat.now) (client_of c.loop-index.driver c.loop-index.seat)) all (c.loop-index.invariant.acted done known within)

pub returns-clause-advanced : goal.returns-clause-advanced
returns-clause-advanced g c =
    let given = c.args.round.now.acts.now in
    let acts = round_of given c.args.number in
    let end : length (round_of given c.args.number) ≤ c.loop-index.index = omega (arith, c.loop-index-test.false, length-round given c.args.number) in
    rw (sym (take_all c.loop-index.index acts end)) c.loop-index.invariant.value
