use Rattle.std.proofs.lemmas.Str.Pattern.{split_text_parts}
use Rattle.std.specs.Prelude.{codes}
use Rattle.draw_core.proofs.window.parts_of.Goals as goal

pub returns : goal.returns
returns c = record { parts = split_text_parts (codes "..") c.args.text.now c.split_once.result c.split_once.ensures.cases }
