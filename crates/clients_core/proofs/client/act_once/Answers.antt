use Rattle.std.proofs.Common.{◌∙◌, ◌<◌, length, refl, sym, subst, arith}
use Rattle.std.proofs.lemmas.Result.{err_from_is_err_and}
use Rattle.resv_core.specs.declared.plan.Act.TheVariants.{Inc, Look}
use Rattle.resv_core.specs.Settled.{puts_of}
use Rattle.clients_core.specs.OwnPuts.{AreOwnPuts}
use Rattle.clients_core.proofs.Acting.{KnowPuts-at, KnowPuts-put, KnowPuts-same, puts-within}
use Rattle.clients_core.proofs.client.act_once.Goals as goal

pub returns-in_err-look-in-Look-clause-acted : goal.returns-in_err-look-in-Look-clause-acted
returns-in_err-look-in-Look-clause-acted g c =
    let p = err_from_is_err_and c.from_residual-in_err-look-in-Look.result c.from_residual-in_err-look-in-Look.ensures.1 in
    let words = c.args.shared.now.words.now in
    let buffer = c.in-Look.buffer in
    let within' = rw c.in-Look.is at c.requires.within in
    let low : buffer < length c.args.own.now = omega (arith, within', c.requires.buffers) in
    λ done known within.
    let own = KnowPuts-at words.contexts c.args.own.now done buffer c.index-own-buffer-in-Look.result low c.index-own-buffer-in-Look.is known in
    let there = subst (λ puts. AreOwnPuts words.contexts puts (puts_of buffer done)) c.index-own-buffer-in-Look.is own in
    let judged = c.look.ensures.judged (puts_of buffer done) there (puts-within words.contexts words.buffers buffer done within) in
    rw (c.in-Look.is, p.1, p.2) (refl, (judged.0, judged.1, sym (c.in_err-look-in-Look.was) ∙ judged.2))

pub returns-in_ok-inc-in-Inc-clause-known : goal.returns-in_ok-inc-in-Inc-clause-known
returns-in_ok-inc-in-Inc-clause-known g c = λ done known. rw c.in-Inc.is (KnowPuts-same c.args.shared.now.words.now.contexts c.args.own.now done (Inc c.in-Inc.n) (λ buffer. refl) known)

pub returns-in_ok-put-in-Put-clause-known : goal.returns-in_ok-put-in-Put-clause-known
returns-in_ok-put-in-Put-clause-known g c =
    let there = rw c.in-Put.is at c.requires.within in
    let low : c.in-Put.buffer < length c.args.own.now = omega (arith, there.0, c.requires.buffers) in
    λ done known.
    rw c.in-Put.is
    (KnowPuts-put c.args.shared.now.words.now.contexts c.args.own.now done c.in-Put.buffer c.in-Put.point c.in-Put.usage c.index-own-buffer.result c.put-in-Put.new.self low c.index-own-buffer.is
    (λ es mine. c.put-in-Put.ensures.puts c.args.shared.now.words.now.contexts es there.1 (subst (λ p. AreOwnPuts c.args.shared.now.words.now.contexts p es) c.index-own-buffer.is mine))
    known)

pub returns-in_ok-look-in-Look-clause-acted : goal.returns-in_ok-look-in-Look-clause-acted
returns-in_ok-look-in-Look-clause-acted g c =
    let words = c.args.shared.now.words.now in
    let buffer = c.in-Look.buffer in
    let within' = rw c.in-Look.is at c.requires.within in
    let low : buffer < length c.args.own.now = omega (arith, within', c.requires.buffers) in
    λ done known within.
    let own = KnowPuts-at words.contexts c.args.own.now done buffer c.index-own-buffer-in-Look.result low c.index-own-buffer-in-Look.is known in
    let there = subst (λ puts. AreOwnPuts words.contexts puts (puts_of buffer done)) c.index-own-buffer-in-Look.is own in
    let judged = c.look.ensures.judged (puts_of buffer done) there (puts-within words.contexts words.buffers buffer done within) in
    rw c.in-Look.is (refl, (judged.0, judged.1, sym (c.in_ok-look-in-Look.was) ∙ judged.2))

pub returns-in_ok-look-in-Look-clause-known : goal.returns-in_ok-look-in-Look-clause-known
returns-in_ok-look-in-Look-clause-known g c = λ done known. rw c.in-Look.is (KnowPuts-same c.args.shared.now.words.now.contexts c.args.own.now done (Look c.in-Look.buffer c.in-Look.usage) (λ buffer. refl) known)
