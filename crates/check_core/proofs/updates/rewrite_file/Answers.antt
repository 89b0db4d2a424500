use Rattle.std.proofs.Common.{sym, subst}
use Rattle.check_core.specs.Update.{Updates}
use Rattle.check_core.proofs.updates.rewrite_file.Goals as goal

pub put_text-requires : goal.put_text-requires
put_text-requires g c = record {
  front = c.requires.front;
  updates = subst (Updates c.args.script.now) (sym c.as_slice.ensures.value) c.in-Ok.ensures.updates;
}
