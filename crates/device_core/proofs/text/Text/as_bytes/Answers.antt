use Rattle.std.proofs.Common.{◌≤◌, length, sym, ◌∙◌, arith}
use Rattle.std.proofs.lemmas.List.{take_all, get_or_past}
use Rattle.device_core.proofs.Texts.{up_to_zero-at}
use Rattle.device_core.proofs.text.Text.as_bytes.Goals as goal

pub returns-then-byte-eq0-clause-bytes : goal.returns-then-byte-eq0-clause-bytes
returns-then-byte-eq0-clause-bytes c = up_to_zero-at c.args.self.now.bytes c.loop-end.end (omega arith) c.loop-end.invariant c.if-byte-eq0.true

pub returns-clause-bytes : goal.returns-clause-bytes
returns-clause-bytes c =
    let bytes = c.args.self.now.bytes in
    let full : length bytes ≤ c.loop-end.end = omega arith in
    sym (take_all c.loop-end.end bytes full) ∙ up_to_zero-at bytes c.loop-end.end (omega arith) c.loop-end.invariant (get_or_past bytes c.loop-end.end 0 full)
