use Rattle.std.proofs.Common.{◌≡◌, subst}
use Rattle.std.specs.Prelude.{OnOk}
use Rattle.point_core.specs.Refusal.{IsRefusedFor}
use Rattle.fence_core.specs.Watches.{cause_to_refuse_watch, with_watch}
use Rattle.fence_core.proofs.watches.Watches.add.Goals as goal

pub returns-clause-refused : goal.returns-clause-refused
returns-clause-refused c = subst (λ ps. IsRefusedFor (cause_to_refuse_watch c.args.self.now c.args.cookie ps c.args.reach.now) c.register.result) c.members.ensures.value c.register.ensures.refused

pub returns-clause-last : goal.returns-clause-last
returns-clause-last c = subst (λ ps. OnOk c.register.result (c.register.new.self ≡ with_watch c.args.self.now c.args.cookie ps c.args.reach.now)) c.members.ensures.value c.register.ensures.last
