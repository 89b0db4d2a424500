use Rattle.trace_script.specs.Line.{said}
use Rattle.trace_script.proofs.Adding.{added}
use Rattle.trace_script.proofs.text.ScriptDraft.add.Goals as goal

pub returns : goal.returns
returns c = record { lines = added c.args.self.now.bytes.items c.push_line.new.text.items (said c.args.line.now) c.push_line.result c.push_line.ensures.added }
