use Rattle.std.proofs.Common.{◌≡◌, ◌+◌, ◌++◌, take, get_or, ap, ◌∙◌, arith}
use Rattle.std.specs.List.{flat_map, enumerate_from}
use Rattle.std.proofs.lemmas.List.{get_or_default}
use Rattle.std.proofs.lemmas.Result.{err_from_is_err_and}
use Rattle.report_core.specs.Settled.{client_text}
use Rattle.report_core.specs.declared.row_kind.RowKind.TheVariants.{Timeline}
use Rattle.report_core.specs.Row.{row_text}
use Rattle.report_core.proofs.Fronts.{StartsWith-trans}
use Rattle.report_core.proofs.Numbered.{numbered-next}
use Rattle.report_core.proofs.settled.push_clients.Goals as goal

pub returns-in_err-push_row-clause-err : goal.returns-in_err-push_row-clause-err
returns-in_err-push_row-clause-err c =
    let so_far = flat_map client_text (enumerate_from 1 (take c.loop-place.place c.args.values.now)) in
    let begins = StartsWith-trans c.push_row.new.out.items c.loop-place.out.items c.args.out.now.items so_far c.in_err-push_row.ensures.err.1 c.loop-place.invariant in
    let p = err_from_is_err_and c.from_residual.result c.from_residual.ensures.1 in
    rw (p.1, p.2) (c.in_err-push_row.ensures.err.0, begins)

pub loop-place-preserved : goal.loop-place-preserved
loop-place-preserved c =
    let values = c.args.values.now in
    let value = get_or values c.loop-place.place 0 in
    let new = c.loop-place.out.items in
    let later = c.push_row.new.out.items in
    let next : later ≡ new ++ client_text (c.loop-place.place + 1, value) = c.in_ok-push_row.ensures.ok ∙ ap (λ subject. new ++ row_text Timeline subject value) (c.as_bytes.ensures.value ∙ c.numbered-client.ensures.text) in
    numbered-next client_text c.args.out.now.items new later 1 c.loop-place.place (c.loop-place.place + 1) values value c.loop-place-test.true (omega arith) (get_or_default values c.loop-place.place 0 value c.loop-place-test.true) c.loop-place.invariant next
