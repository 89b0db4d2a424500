use Rattle.std.proofs.Common.{◌∙◌, ap, nat_eq}
use Rattle.std.specs.Map.{lookup, set_value}
use Rattle.std.proofs.lemmas.Option.{same_Some, none-some}
use Rattle.fence_core.specs.Registration.{cookie_of}
use Rattle.fence_core.specs.declared.watches.pending.PendingWatch.{PendingWatch}
use Rattle.fence_core.proofs.watches.pending.replace.Goals as goal

pub returns-in_default : goal.returns-in_default
returns-in_default c = record {
  moved = λ w there. absurd (none-some w (c.in_default.ensures.value ∙ ap (λ k. lookup (nat_eq k) c.args.pending.now.entries) c.cookie.ensures ∙ there));
}

pub returns : goal.returns
returns c =
    let es = c.args.pending.now.entries in
    let x = c.in-Some.watch.now in
    let v : PendingWatch = record { place = c.args.place.now; fence = x.fence } in
    record {
      moved = λ w there.
          let its = same_Some x w (c.in-Some.ensures.value ∙ ap (λ k. lookup (nat_eq k) es) c.cookie.ensures ∙ there) in
          (c.get_mut.follows.holds v).0
          ∙ ap (λ k. set_value (nat_eq k) es v) c.cookie.ensures
          ∙ ap (λ (u : PendingWatch). set_value (nat_eq (cookie_of c.args.place.now.registration)) es (record { place = c.args.place.now; fence = u.fence })) its;
    }
