-- Each exit wrote the pieces before it, and a front of its own.
use Rattle.std.proofs.Common.{◌++◌}
use Rattle.std.specs.Prelude.{decimal}
use Rattle.std.proofs.KnownBytes.{Appends-trans}
use Rattle.std.proofs.lemmas.Result.{err_from_is_err_and}
use Rattle.reason_core.specs.Notes.{after_number}
use Rattle.reason_core.proofs.Notes.{AppendsFront-behind, AppendsFront-more}
use Rattle.reason_core.proofs.look.begin.Goals as goal

pub returns-in_err-write_whole-clause-err : goal.returns-in_err-write_whole-clause-err
returns-in_err-write_whole-clause-err g c =
    let p = err_from_is_err_and c.from_residual.result c.from_residual.ensures.1 in
    let place = c.args.place.now in
    let first = rw c.before_number.ensures.bytes at c.in_err-write_whole.ensures.err in
    rw p.1 (AppendsFront-more _ _ _ (decimal place.line ++ after_number place.look) first)

pub returns-in_err-write_whole-2-clause-err : goal.returns-in_err-write_whole-2-clause-err
returns-in_err-write_whole-2-clause-err g c =
    let p = err_from_is_err_and c.from_residual-in_err-write_whole-2.result c.from_residual-in_err-write_whole-2.ensures.1 in
    let place = c.args.place.now in
    let first = rw c.before_number.ensures.bytes at c.in_ok-write_whole.ensures.ok in
    let second = rw (c.as_bytes.ensures.value, c.format.ensures.text) at c.in_err-write_whole-2.ensures.err in
    rw p.1 (AppendsFront-behind _ _ _ _ _ first (AppendsFront-more _ _ _ (after_number place.look) second))

pub returns-in_err-write_whole-3-clause-err : goal.returns-in_err-write_whole-3-clause-err
returns-in_err-write_whole-3-clause-err g c =
    let p = err_from_is_err_and c.from_residual-in_err-write_whole-3.result c.from_residual-in_err-write_whole-3.ensures.1 in
    let first = rw c.before_number.ensures.bytes at c.in_ok-write_whole.ensures.ok in
    let second = rw (c.as_bytes.ensures.value, c.format.ensures.text) at c.in_ok-write_whole-2.ensures.ok in
    let third = rw c.after_number.ensures.bytes at c.in_err-write_whole-3.ensures.err in
    rw p.1 (AppendsFront-behind _ _ _ _ _ first (AppendsFront-behind _ _ _ _ _ second third))

pub returns-clause-ok : goal.returns-clause-ok
returns-clause-ok g c =
    let first = rw c.before_number.ensures.bytes at c.in_ok-write_whole.ensures.ok in
    let second = rw (c.as_bytes.ensures.value, c.format.ensures.text) at c.in_ok-write_whole-2.ensures.ok in
    let third = rw c.after_number.ensures.bytes at c.in_ok-write_whole-3.ensures.ok in
    Appends-trans _ _ _ _ _ first (Appends-trans _ _ _ _ _ second third)
