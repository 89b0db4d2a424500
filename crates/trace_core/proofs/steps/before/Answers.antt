use Rattle.std.proofs.Common.{◌∙◌, true, false, length, take, Some, sym, ap, arith}
use Rattle.std.specs.Str.{bytes_eq}
use Rattle.trace_core.proofs.Parts.{before-short, before-at}
use Rattle.trace_core.proofs.steps.before.Goals as goal

pub returns-then-bytes-text : goal.returns-then-bytes-text
returns-then-bytes-text c = record { front = before-short c.args.bytes.now c.args.text.now (omega arith) }

pub returns-then-begins_with : goal.returns-then-begins_with
returns-then-begins_with c =
    let text = c.args.text.now in
    let begins = sym c.if-begins_with.true ∙ c.begins_with.ensures.begins ∙ ap (λ xs. bytes_eq (take (length text) xs) text) c.split_at.ensures.back in
    record { front = ap Some c.split_at.ensures.front ∙ before-at c.args.bytes.now text true (omega arith) begins }

pub returns-else-begins_with : goal.returns-else-begins_with
returns-else-begins_with c =
    let text = c.args.text.now in
    let begins = sym c.if-begins_with.false ∙ c.begins_with.ensures.begins ∙ ap (λ xs. bytes_eq (take (length text) xs) text) c.split_at.ensures.back in
    record { front = before-at c.args.bytes.now text false (omega arith) begins }
