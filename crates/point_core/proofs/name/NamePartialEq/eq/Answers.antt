use Rattle.std.proofs.Common.{◌∙◌}
use Rattle.point_core.proofs.Names.{same_names}
use Rattle.point_core.proofs.name.NamePartialEq.eq.Goals as goal

pub returns : goal.returns
returns c =
    c.eq.ensures ∙ same_names c.self.inside.stored c.other.inside.stored c.args.self.now c.args.other.now c.self.view_is c.other.view_is c.self.invariant c.other.invariant
