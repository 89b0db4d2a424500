use Rattle.std.proofs.Common.{length, sym, ap, ◌∙◌}
use Rattle.syncfile_core.specs.Files.{entries_in}
use Rattle.syncfile_core.proofs.Kept.{length-made}
use Rattle.syncfile_core.proofs.Placed.{length-entries_in}
use Rattle.syncfile_core.proofs.file_slots.FileSlots.count.Goals as goal

pub returns : goal.returns
returns c =
    let names = c.self.inside.names.keys in
    let made = c.self.inside.made.items in
    c.len.ensures.len ∙ sym (length-made (entries_in names made) ∙ length-entries_in names made c.self.inside.next c.self.invariant) ∙ ap length c.self.view_is
