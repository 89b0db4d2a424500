use Rattle.std.proofs.Common.{◌≡◌, [], sym, ap, subst, inl, inr, unwrap_or, Contains}
use Rattle.desk_core.specs.Keeping.{points_at}
use Rattle.explore_core.proofs.Settling.{missing-file, IsPendingFor-stays}
use Rattle.explore_core.proofs.persistence.is_unsignalled.Goals as goal

pub returns-in_default : goal.returns-in_default
returns-in_default c = λ is now at. inl (missing-file at.desk c.args.file.now (sym c.in_default.ensures.points))

pub returns : goal.returns
returns c = λ is now at.
    let pending = c.has_pending.ensures is now at in
    let points : c.in-Some.points.now ≡ points_at c.args.position.now.desk.files c.args.file.now = ap (λ o. unwrap_or o []) c.in-Some.ensures.points in
    inr (IsPendingFor-stays c.args.file.now pending.0 at.desk (subst (λ ps. Contains ps pending.0) points pending.1) pending.2)
