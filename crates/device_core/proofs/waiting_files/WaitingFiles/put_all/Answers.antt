use Rattle.std.proofs.Common.{rules}
use Rattle.device_core.proofs.InOrder.{same_keys}
use Rattle.device_core.proofs.waiting_files.WaitingFiles.put_all.Goals as goal

pub returns-in_default-clause-unchanged : goal.returns-in_default-clause-unchanged
returns-in_default-clause-unchanged c = same_keys c.take_all.new.self c.args.self.now c.take_all.ensures.ordered c.requires.ordered (λ k. search rules)
