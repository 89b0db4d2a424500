-- The paths that the matches name.
use Rattle.std.proofs.Common.{codes, refl}
use Rattle.clap.specs.Words.{found_of}
use Rattle.fencectl_core.proofs.Matched.{paths_read}
use Rattle.fencectl_core.proofs.asked.paths_of.Goals as goal

pub returns-in_ok-from_slice-in-Some : goal.returns-in_ok-from_slice-in-Some
returns-in_ok-from_slice-in-Some c = record {
  paths = paths_read (found_of c.args.matches.now) (codes "PATH") c.get_strs.result _ c.get_strs.ensures
      (rw (c.in-Some.is, c.in_ok-from_slice-in-Some.ensures.items) refl);
  refusals = tt;
}

pub returns-in-None : goal.returns-in-None
returns-in-None c = record {
  paths = paths_read (found_of c.args.matches.now) (codes "PATH") c.get_strs.result _ c.get_strs.ensures
      (rw (c.in-None.is, c.new.ensures.items) refl);
  refusals = tt;
}
