use Rattle.syncfile_core.proofs.Renumbering.{AreInPlace-renumbered, files_in-renumbered, length-renumbered}
use Rattle.syncfile_core.proofs.file_slots.next_number.Goals as goal

pub returns-clause-above : goal.returns-clause-above
returns-clause-above c =
    AreInPlace-renumbered c.args.names.now.keys c.put_names_in_order.new.names.keys c.args.made.now c.number_anew.new.made c.args.next c.len-count.result
    c.len-count.ensures.len c.requires c.number_anew.ensures.numbered c.in_ok-put_names_in_order.ensures.names

pub returns-clause-same : goal.returns-clause-same
returns-clause-same c =
    files_in-renumbered c.args.names.now.keys c.put_names_in_order.new.names.keys c.args.made.now c.number_anew.new.made c.args.next c.len-count.result
    c.len-count.ensures.len c.requires c.number_anew.ensures.numbered c.in_ok-put_names_in_order.ensures.names

pub returns-clause-count : goal.returns-clause-count
returns-clause-count c =
    length-renumbered c.args.names.now.keys c.put_names_in_order.new.names.keys c.args.made.now c.number_anew.new.made c.args.next c.len-count.result
    c.len-count.ensures.len c.requires c.number_anew.ensures.numbered c.in_ok-put_names_in_order.ensures.names
