-- Each exit wrote the pieces before it, and a front of its own.
use Rattle.std.proofs.Common.{[], ◌∷◌}
use Rattle.std.specs.Prelude.{decimal}
use Rattle.std.proofs.KnownBytes.{Appends-trans}
use Rattle.std.proofs.lemmas.Result.{err_from_is_err_and}
use Rattle.point_core.specs.Refusal.{refusal_number, refusal_name}
use Rattle.fencectl_core.proofs.Fronts.{AppendsFront-more, AppendsFront-behind}
use Rattle.fencectl_core.proofs.fault.write_fault.Goals as goal

pub returns-in_err-write_whole-clause-err : goal.returns-in_err-write_whole-clause-err
returns-in_err-write_whole-clause-err g c =
    let p = err_from_is_err_and c.from_residual.result c.from_residual.ensures.1 in
    let r = c.args.refusal in
    let number = AppendsFront-more _ _ _ (decimal (refusal_number r)) c.in_err-write_whole.ensures.err in
    rw p.1 (AppendsFront-more _ _ _ (10 ∷ []) (AppendsFront-more _ _ _ (refusal_name r) (AppendsFront-more _ _ _ (32 ∷ []) number)))

pub returns-in_err-write_whole-2-clause-err : goal.returns-in_err-write_whole-2-clause-err
returns-in_err-write_whole-2-clause-err g c =
    let p = err_from_is_err_and c.from_residual-in_err-write_whole-2.result c.from_residual-in_err-write_whole-2.ensures.1 in
    let number = rw (c.as_bytes.ensures.value, c.format.ensures.text, c.number.ensures) at c.in_err-write_whole-2.ensures.err in
    let cut = AppendsFront-behind _ _ _ _ _ c.in_ok-write_whole.ensures.ok number in
    rw p.1 (AppendsFront-more _ _ _ _ (AppendsFront-more _ _ _ _ (AppendsFront-more _ _ _ _ cut)))

pub returns-in_err-write_whole-3-clause-err : goal.returns-in_err-write_whole-3-clause-err
returns-in_err-write_whole-3-clause-err g c =
    let p = err_from_is_err_and c.from_residual-in_err-write_whole-3.result c.from_residual-in_err-write_whole-3.ensures.1 in
    let number = rw (c.as_bytes.ensures.value, c.format.ensures.text, c.number.ensures) at c.in_ok-write_whole-2.ensures.ok in
    let before = Appends-trans _ _ _ _ _ c.in_ok-write_whole.ensures.ok number in
    let cut = AppendsFront-behind _ _ _ _ _ before c.in_err-write_whole-3.ensures.err in
    rw p.1 (AppendsFront-more _ _ _ _ (AppendsFront-more _ _ _ _ cut))

pub returns-in_err-write_whole-4-clause-err : goal.returns-in_err-write_whole-4-clause-err
returns-in_err-write_whole-4-clause-err g c =
    let p = err_from_is_err_and c.from_residual-in_err-write_whole-4.result c.from_residual-in_err-write_whole-4.ensures.1 in
    let number = rw (c.as_bytes.ensures.value, c.format.ensures.text, c.number.ensures) at c.in_ok-write_whole-2.ensures.ok in
    let before = Appends-trans _ _ _ _ _ (Appends-trans _ _ _ _ _ c.in_ok-write_whole.ensures.ok number) c.in_ok-write_whole-3.ensures.ok in
    let name = rw (c.as_bytes-2.ensures.value, c.name.ensures) at c.in_err-write_whole-4.ensures.err in
    rw p.1 (AppendsFront-more _ _ _ _ (AppendsFront-behind _ _ _ _ _ before name))

pub returns-in_err-write_whole-5-clause-err : goal.returns-in_err-write_whole-5-clause-err
returns-in_err-write_whole-5-clause-err g c =
    let p = err_from_is_err_and c.from_residual-in_err-write_whole-5.result c.from_residual-in_err-write_whole-5.ensures.1 in
    let number = rw (c.as_bytes.ensures.value, c.format.ensures.text, c.number.ensures) at c.in_ok-write_whole-2.ensures.ok in
    let name = rw (c.as_bytes-2.ensures.value, c.name.ensures) at c.in_ok-write_whole-4.ensures.ok in
    let before = Appends-trans _ _ _ _ _ (Appends-trans _ _ _ _ _ c.in_ok-write_whole.ensures.ok number) c.in_ok-write_whole-3.ensures.ok in
    rw p.1 (AppendsFront-behind _ _ _ _ _ (Appends-trans _ _ _ _ _ before name) c.in_err-write_whole-5.ensures.err)
