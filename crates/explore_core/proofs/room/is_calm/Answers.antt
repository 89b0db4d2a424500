use Rattle.std.proofs.Common.{map, ap, ◌∙◌}
use Rattle.std.specs.Prelude.{Vec}
use Rattle.std.specs.Global.{Global}
use Rattle.explore_core.specs.declared.plan.Step.{Step}
use Rattle.explore_core.specs.Schedule.{Lines}
use Rattle.explore_core.proofs.Bounding.{lead-forward}
use Rattle.explore_core.proofs.Calming.{is-calm}
use Rattle.explore_core.proofs.room.is_calm.Goals as goal

pub returns-then-has_room : goal.returns-then-has_room
returns-then-has_room c = record {
  calm = λ is.
      let plan = c.args.plan.now in
      let clients = ap (map (λ (lines : Vec Step Global). lines.items)) c.as_slice.ensures.value ∙ ap (λ (p : Lines). p.clients) c.plan.view_is in
      is-calm plan (record { forward = lead-forward plan _ clients (c.clients_lead_forward.ensures is); room = c.has_room.ensures c.if-has_room.true }) c.requires.explorable;
}
