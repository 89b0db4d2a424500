use Rattle.std.proofs.Common.{◌≡◌, ◌-◌, ap, ◌∙◌, sym, length, arith}
use Rattle.point_core.specs.declared.context.TheConstants.{CONTEXTS}
use Rattle.point_core.proofs.Latest.{IsLatest-put_point}
use Rattle.point_core.proofs.latest_points.LatestPoints.put.Goals as goal

pub returns-clause-latest : goal.returns-clause-latest
returns-clause-latest c = λ reach es e usage is strong before.
    let place : c.index.result ≡ c.args.point.ctx - 1 = omega arith in
    let full : length c.args.self.now ≡ CONTEXTS = ap length (sym c.self.view_is) ∙ c.self.invariant in
    rw (c.raise.ensures.value, place, c.self.view_is) (IsLatest-put_point c.args.point e is before strong (omega arith) (omega arith))
