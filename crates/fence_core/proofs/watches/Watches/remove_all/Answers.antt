use Rattle.std.proofs.Common.{◌∙◌, ap, sym, take, get_or}
use Rattle.std.proofs.lemmas.List.{take_more}
use Rattle.fence_core.specs.Watch.{registry_of}
use Rattle.fence_core.specs.Watches.{without_watch, without_watches}
use Rattle.fence_core.proofs.Fired.{without_watches-none, without_watches-push}
use Rattle.fence_core.proofs.watches.Watches.remove_all.Goals as goal

pub loop-cookie-init : goal.loop-cookie-init
loop-cookie-init c = ap (λ ws. registry_of ws c.args.self.now.made c.args.self.now.reach) (sym (without_watches-none c.args.self.now.pending))

pub loop-cookie-preserved : goal.loop-cookie-preserved
loop-cookie-preserved c =
    let before = take c.loop-cookie.cookie-index c.args.cookies.now in
    let cookie = get_or c.args.cookies.now c.loop-cookie.cookie-index 0 in
    c.remove.ensures.without
    ∙ ap (λ r. without_watch r cookie) c.loop-cookie.invariant
    ∙ ap (λ ws. registry_of ws c.args.self.now.made c.args.self.now.reach) (without_watches-push before cookie c.args.self.now.pending)
    ∙ ap (without_watches c.args.self.now) (sym (take_more c.args.cookies.now c.loop-cookie.cookie-index 0 c.loop-cookie-test.true))
