use Rattle.std.proofs.Common.{◌++◌, ◌∷◌, [], filter, take, sym, ap, ◌∙◌}
use Rattle.std.proofs.lemmas.List.{take_more, take_all}
use Rattle.std.proofs.lemmas.List.Elements.{filter-append}
use Rattle.explore_core.specs.Search.{is_to_come}
use Rattle.explore_core.proofs.look.points_to_come.Goals as goal

pub loop-point-preserved : goal.loop-point-preserved
loop-point-preserved c =
    let test = is_to_come c.args.desk.now.timelines in
    let listed = c.args.listed.now in
    let i = c.loop-point.point-index in
    let more = take_more listed i c.point-item.result c.loop-point-test.true ∙ ap (λ d. take i listed ++ d ∷ []) (sym c.point-item.is) in
    c.in_ok-put_to_come.ensures.put ∙ ap (λ ps. ps ++ filter test (c.point-item.result ∷ [])) c.loop-point.invariant
    ∙ sym (filter-append test (take i listed) (c.point-item.result ∷ [])) ∙ ap (filter test) (sym more)

pub returns : goal.returns
returns c = record {
  points = c.loop-point.invariant ∙ ap (filter (is_to_come c.args.desk.now.timelines)) (take_all c.loop-point.point-index c.args.listed.now c.loop-point-test.false);
}
