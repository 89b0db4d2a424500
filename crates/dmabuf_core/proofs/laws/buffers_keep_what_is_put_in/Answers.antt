use Rattle.point_core.proofs.Agreement.{AgreesAbove-later}
use Rattle.dmabuf_core.proofs.Putting.{AgreesAbove-added}
use Rattle.dmabuf_core.proofs.laws.buffers_keep_what_is_put_in.Goals as goal

pub returns : goal.returns
returns c = record {
  later = λ reach later before after put added high kept more. AgreesAbove-added before after put added (AgreesAbove-later high kept) more;
}
