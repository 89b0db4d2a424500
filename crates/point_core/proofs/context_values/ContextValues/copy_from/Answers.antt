use Rattle.std.proofs.Common.{ap, ◌∙◌}
use Rattle.point_core.specs.declared.context.TheConstants.{CONTEXTS}
use Rattle.point_core.specs.Reach.{later_values}
use Rattle.point_core.specs.Used.{padded}
use Rattle.point_core.proofs.InUse.{later_values-replicate, length-padded}
use Rattle.point_core.proofs.context_values.ContextValues.copy_from.Goals as goal

pub returns : goal.returns
returns c =
    let other = padded c.args.other.now in
    record {
      values =
          c.join.ensures.values
          ∙ ap (λ zero. later_values zero other) c.clear.ensures.zero
          ∙ later_values-replicate CONTEXTS other (length-padded c.args.other.now c.requires.in_use);
    }
