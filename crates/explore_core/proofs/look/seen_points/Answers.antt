use Rattle.std.proofs.Common.{◌≡◌, ◌++◌, [], sym, ap, ◌∙◌, filter, unwrap_or}
use Rattle.syncfile_core.proofs.Causes.{IfOk-then}
use Rattle.desk_core.specs.Keeping.{points_at}
use Rattle.explore_core.specs.Search.{has_name, is_to_come}
use Rattle.explore_core.proofs.Showing.{all-seen, part-seen, none-seen}
use Rattle.explore_core.proofs.look.seen_points.Goals as goal

pub returns-in_default : goal.returns-in_default
returns-in_default c = record {
  points =
      let ts = c.args.desk.now.timelines in
      let none : [] ≡ points_at c.args.desk.now.files c.args.file.now = ap (λ o. unwrap_or o []) c.in_default.ensures.points in
      c.new.ensures.items ∙ sym (none-seen (has_name c.args.asked.now c.args.file.now) ts (points_at c.args.desk.now.files c.args.file.now) (sym none));
}

pub returns-then-not-has_name : goal.returns-then-not-has_name
returns-then-not-has_name c = record {
  points =
      let ts = c.args.desk.now.timelines in
      let points : c.in-Some.listed.now ≡ points_at c.args.desk.now.files c.args.file.now = ap (λ o. unwrap_or o []) c.in-Some.ensures.points in
      let seen = part-seen (has_name c.args.asked.now c.args.file.now) ts (points_at c.args.desk.now.files c.args.file.now) (sym c.has_name.ensures ∙ c.if-not-has_name.true) in
      IfOk-then c.points_to_come.result c.points_to_come.ensures.points (λ v is. is ∙ ap (filter (is_to_come ts)) points ∙ sym seen);
}

pub returns : goal.returns
returns c = record {
  points =
      let ts = c.args.desk.now.timelines in
      let points : c.in-Some.listed.now ≡ points_at c.args.desk.now.files c.args.file.now = ap (λ o. unwrap_or o []) c.in-Some.ensures.points in
      c.in_ok-extend_from_slice.ensures.items ∙ ap (λ ps. ps ++ c.in-Some.listed.now) c.new-points.ensures.items ∙ points
      ∙ sym (all-seen (has_name c.args.asked.now c.args.file.now) ts (points_at c.args.desk.now.files c.args.file.now) (sym c.has_name.ensures ∙ c.if-not-has_name.false));
}
