use Rattle.std.proofs.Common.{sym, ap, ◌∙◌, Some}
use Rattle.syncfile_core.specs.SyncFile.{file_at}
use Rattle.syncfile_core.proofs.Placed.{file_at-found, file_at-missing}
use Rattle.syncfile_core.proofs.file_slots.FileSlots.get.Goals as goal

pub returns-in-Some : goal.returns-in-Some
returns-in-Some c = record {
  found =
      ap Some c.deref.ensures
      ∙ sym (file_at-found c.self.inside.names.keys c.self.inside.made.items c.self.inside.next c.self.invariant c.args.name.now c.in-Some.index (sym c.in-Some.ensures.index) c.index.result.now c.index.ensures)
      ∙ ap (λ fs. file_at fs c.args.name.now) c.self.view_is;
}

pub returns-in-None : goal.returns-in-None
returns-in-None c = record {
  found =
      sym (file_at-missing c.self.inside.names.keys c.self.inside.made.items c.self.inside.next c.self.invariant c.args.name.now (sym c.in-None.ensures.index))
      ∙ ap (λ fs. file_at fs c.args.name.now) c.self.view_is;
}
