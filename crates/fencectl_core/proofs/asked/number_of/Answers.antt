-- The number that the matches name.
use Rattle.std.specs.Str.Parse.{ParsesUnsigned, ExplainsUnsignedError, HasUnsignedDigitsIfOk}
use Rattle.clap.specs.Words.{found_of}
use Rattle.fencectl_core.proofs.Matched.{number_read}
use Rattle.fencectl_core.proofs.asked.number_of.Goals as goal

pub returns : goal.returns
returns c = λ least.
    let read = number_read (λ bs r. ParsesUnsigned 16 10 bs r × ExplainsUnsignedError 10 bs r × HasUnsignedDigitsIfOk bs r) 16 (λ u r g. g.0)
    (found_of c.args.matches.now) c.args.name.now c.get_one.result c.get_one.ensures.none c.get_one.ensures.value in
    rw c.unwrap_or.ensures (read (rw (← c.unwrap_or.ensures) least))
