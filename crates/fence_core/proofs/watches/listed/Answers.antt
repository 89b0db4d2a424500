use Rattle.std.proofs.Common.{◌∙◌, ap}
use Rattle.fence_core.specs.Registration.{cookie_of}
use Rattle.fence_core.proofs.Gathered.{listed-more, none-listed}
use Rattle.fence_core.proofs.watches.listed.Goals as goal

pub loop-registration-preserved : goal.loop-registration-preserved
loop-registration-preserved c = listed-more c.args.fired.now c.loop-registration.cookies.items c.push.new.self.items c.loop-registration.registration-index c.cookie.result c.registration-item.result c.loop-registration-test.true c.loop-registration.invariant c.in_ok-push.ensures.items (c.cookie.ensures ∙ ap (λ n. cookie_of n) c.registration-item.is)

pub returns-in_err-push-clause-none : goal.returns-in_err-push-clause-none
returns-in_err-push-clause-none c = λ none. absurd (none-listed c.args.fired.now c.loop-registration.registration-index c.loop-registration-test.true none)
