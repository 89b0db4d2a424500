use Rattle.std.proofs.Common.{◌≡◌, map, drop}
use Rattle.line_core.specs.Table.{form_at, forms, form_of}
use Rattle.line_core.proofs.table.command_form.Given as goal

abbrev pub invariant-loop-form : goal.invariant-loop-form
invariant-loop-form l = form_at (map form_of (drop l.form-index l.form-items)) l.word ≡ form_at forms l.word
