use Rattle.std.proofs.Common.{◌≡◌, min, length, arith}
use Rattle.device_core.proofs.Texts.{padded-cut}
use Rattle.device_core.proofs.text.Text.of.Goals as goal

pub returns : goal.returns
returns c =
    let low : c.min-end.result ≡ min 31 (length c.args.bytes.now) = omega arith in
    λ i. record { bytes = padded-cut c.args.bytes.now c.copy_from_slice.new.self _ c.min-end.result c.copy_from_slice.ensures.after (omega arith) low i }
