use Rattle.std.proofs.Common.{ap, sym, ◌∙◌}
use Rattle.trace_report.specs.Report.{is_sound}
use Rattle.trace_report.proofs.Reported.{broken, sound}
use Rattle.trace_report.proofs.report.outcome_of.Goals as goal

pub returns-then-is_sound : goal.returns-then-is_sound
returns-then-is_sound c = record {
  verdict = λ steps ledger hangs. sound steps c.args.found.now.hangs.items c.total-total.result hangs (c.total-total.ensures.counted steps ledger)
      (sym (ap (λ fences. is_sound fences c.total-total.result) c.as_slice.ensures.value) ∙ sym c.is_sound.ensures ∙ c.if-is_sound.true);
}

pub returns-else-is_sound : goal.returns-else-is_sound
returns-else-is_sound c = record {
  verdict = λ steps ledger hangs. broken steps c.args.found.now.hangs.items c.total-total.result hangs (c.total-total.ensures.counted steps ledger)
      (sym (ap (λ fences. is_sound fences c.total-total.result) c.as_slice.ensures.value) ∙ sym c.is_sound.ensures ∙ c.if-is_sound.false);
}
