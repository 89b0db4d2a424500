use Rattle.std.proofs.Common.{Some, ap, ◌∙◌}
use Rattle.explore_core.proofs.Parting.{Begins-refl}
use Rattle.explore_core.proofs.parts.put_place.Goals as goal

pub returns-in_err-look-clause-begins : goal.returns-in_err-look-clause-begins
returns-in_err-look-clause-begins c = Begins-refl c.args.table.now

pub returns-clause-put : goal.returns-clause-put
returns-clause-put c =
    (c.in_ok-place.place, c.in_ok-place.ensures.there ∙ ap Some c.in_ok-look.ensures.look, c.in_ok-push.ensures.items)
