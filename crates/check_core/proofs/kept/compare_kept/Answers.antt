use Rattle.std.proofs.Common.{◌∙◌, drop, sym, ap}
use Rattle.std.proofs.lemmas.Slice.Eq.{bytes_eq-Decides}
use Rattle.check_core.proofs.Keeping.{kept-equal}
use Rattle.check_core.proofs.kept.compare_kept.Goals as goal

pub returns-then-eq-clause-same : goal.returns-then-eq-clause-same
returns-then-eq-clause-same c =
    let same = (bytes_eq-Decides c.without_first.result.now c.without_first-2.result.now).0 (sym c.eq.ensures ∙ c.if-eq.true) in
    let after = c.without_first.ensures ∙ ap (drop 1) c.as_slice.ensures.value in
    let before = c.without_first-2.ensures ∙ ap (drop 1) c.as_slice-2.ensures.value in
    kept-equal c.args.script.now c.args.text.now c.in_ok-before.before.items c.in_ok-after.after.items c.in_ok-before.ensures.kept
    c.in_ok-after.ensures.kept (sym after ∙ same ∙ before)
