use Rattle.desk_core.proofs.Doing.{IsDone-unwatch, as_number}
use Rattle.desk_core.proofs.desk.Desk.unwatch.Goals as goal

pub returns : goal.returns
returns c = record {
  done =
      let value = as_number c.remove.result c.from.result c.from.ensures in
      rw (← c.self.view_is, value) (IsDone-unwatch _ c.args.cookie c.remove.result c.remove.new.self c.remove.ensures.found c.remove.ensures.without);
}
