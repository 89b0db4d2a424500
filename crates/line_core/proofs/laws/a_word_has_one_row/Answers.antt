use Rattle.std.proofs.Common.{map, refl}
use Rattle.std.proofs.lemmas.Cmp.{nat_list_eq_equiv}
use Rattle.std.proofs.lemmas.Map.Made.{IsDistinct-from_count}
use Rattle.line_core.specs.Table.{Form, forms}
use Rattle.line_core.proofs.laws.a_word_has_one_row.Goals as goal

pub returns : goal.returns
returns c = record { distinct = IsDistinct-from_count nat_list_eq_equiv (map (λ (form : Form). form.word) forms) refl }
