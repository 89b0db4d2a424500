use Rattle.std.proofs.Common.{is_some, rules}
use Rattle.std.proofs.lemmas.Fn.{filter_same}
use Rattle.device_core.specs.theorem.State.{file_at}
use Rattle.c_device.proofs.service.drop_released.Goals as goal

pub returns : goal.returns
returns c =
    filter_same _ (λ n. is_some (file_at c.args.device.now n)) _ (λ x b q k. search rules) c.args.woken.now.items c.retain.new.self.items c.retain.ensures.filtered
