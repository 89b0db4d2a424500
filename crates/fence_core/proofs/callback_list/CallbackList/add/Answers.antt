use Rattle.std.proofs.Common.{◌<◌, ◌∷◌, ◌++◌, [], sym, ap, ◌∙◌, subst, length, nat_eq, if◌then◌else◌, arith}
use Rattle.std.specs.List.{list_any}
use Rattle.fence_core.specs.declared.callback_list.TheConstants.{CALLBACKS}
use Rattle.fence_core.specs.Callbacks.{AreCallbacks}
use Rattle.fence_core.proofs.Held.{AreCallbacks-push}
use Rattle.fence_core.proofs.callback_list.CallbackList.add.Goals as goal

pub invariant_of-self-2 : goal.invariant_of-self-2
invariant_of-self-2 c =
    let cookies = c.self.inside.cookies.items in
    let new = ap (list_any (nat_eq c.args.cookie)) (sym c.as_slice.ensures.value) ∙ sym c.has_cookie.ensures ∙ c.if-has_cookie.false in
    let low : length c.self.inside.cookies.items < CALLBACKS = omega (arith, c.self.inside.cookies.ok.0) in
    let pushed = c.push.ensures.items ∙ ap (λ b. if b then cookies ++ c.args.cookie ∷ [] else cookies) (sym c.in_ok-map_err.ensures.variant) in
    subst (AreCallbacks c.self.inside.taken) (sym pushed) (AreCallbacks-push c.args.cookie c.self.invariant c.if-self.false new low)
