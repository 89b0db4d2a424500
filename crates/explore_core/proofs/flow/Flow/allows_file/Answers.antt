use Rattle.std.proofs.Common.{[], ap, ◌∙◌, unwrap_or}
use Rattle.std.specs.List.{list_all}
use Rattle.explore_core.specs.Flow.{allows_point, bounds_of, has_put}
use Rattle.explore_core.proofs.flow.Flow.allows_file.Goals as goal

pub returns-in_default : goal.returns-in_default
returns-in_default c =
    ap (λ o. list_all (allows_point c.args.desk.now.timelines ((bounds_of c.args.self.now).file c.args.name.now)) (unwrap_or o [])) c.in_default.ensures.points

pub returns : goal.returns
returns c =
    c.allow_points.ensures
    ∙ ap (λ puts. list_all (allows_point c.args.desk.now.timelines (has_put puts c.args.name.now)) c.in-Some.points.now) c.as_slice.ensures.value
    ∙ ap (λ o. list_all (allows_point c.args.desk.now.timelines ((bounds_of c.args.self.now).file c.args.name.now)) (unwrap_or o [])) c.in-Some.ensures.points
