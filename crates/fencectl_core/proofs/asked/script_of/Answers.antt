-- The file that the matches name.
use Rattle.std.proofs.Common.{codes, refl}
use Rattle.clap.specs.Words.{found_of}
use Rattle.fencectl_core.proofs.Matched.{file_read}
use Rattle.fencectl_core.proofs.asked.script_of.Goals as goal

pub returns-in-Some : goal.returns-in-Some
returns-in-Some c =
    file_read (found_of c.args.matches.now) (codes "FILE") c.get_str.result _ c.get_str.ensures (rw c.in-Some.is c.named.ensures)

pub returns-in-None : goal.returns-in-None
returns-in-None c = file_read (found_of c.args.matches.now) (codes "FILE") c.get_str.result _ c.get_str.ensures (rw c.in-None.is refl)
