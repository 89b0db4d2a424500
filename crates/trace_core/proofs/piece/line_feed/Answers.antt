use Rattle.trace_core.proofs.FirstByte.{first_line_feed}
use Rattle.trace_core.proofs.piece.line_feed.Goals as goal

pub returns : goal.returns
returns c = record { place = first_line_feed c.args.bytes.now c.memchr.result c.memchr.ensures }
