use Rattle.line_core.proofs.FirstByte.{first_byte}
use Rattle.line_core.proofs.script.first_line_feed.Goals as goal

pub returns : goal.returns
returns c = record { place = first_byte 10 c.args.bytes.now c.memchr.result c.memchr.ensures }
