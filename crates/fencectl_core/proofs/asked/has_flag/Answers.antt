-- The flag that the matches name.
use Rattle.std.proofs.Common.{◌∙◌}
use Rattle.std.specs.Str.Parse.{ParsesBool}
use Rattle.clap.specs.Words.{found_of}
use Rattle.fencectl_core.proofs.Matched.{flag_read}
use Rattle.fencectl_core.proofs.asked.has_flag.Goals as goal

pub returns : goal.returns
returns c =
    c.unwrap_or.ensures
    ∙ flag_read (λ bs r. ParsesBool bs r) (λ u r g. g) (found_of c.args.matches.now) c.args.name.now c.get_one.result c.get_one.ensures.none c.get_one.ensures.value
