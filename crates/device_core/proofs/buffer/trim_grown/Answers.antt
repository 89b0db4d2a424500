use Rattle.std.proofs.Common.{rules}
use Rattle.std.proofs.lemmas.Fn.{filter_same}
use Rattle.device_core.specs.theorem.Buffers.{is_waiting}
use Rattle.device_core.specs.theorem.State.{at}
use Rattle.device_core.proofs.buffer.trim_grown.Goals as goal

pub returns-clause-kept : goal.returns-clause-kept
returns-clause-kept c =
    filter_same _ (is_waiting (at c.args.timelines.now.entries)) _ (λ x b q k. search rules) c.args.fences.now.items c.retain.new.self.items c.retain.ensures.filtered
