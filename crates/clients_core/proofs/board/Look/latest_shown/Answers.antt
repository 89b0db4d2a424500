use Rattle.std.proofs.Common.{◌≡◌, ◌+◌, ◌<◌, ◌≤◌, sym, subst, arith}
use Rattle.point_core.specs.Reach.{value_at}
use Rattle.clients_core.specs.Board.{HasListed}
use Rattle.clients_core.proofs.Showing.{HasListed-pushed, HasListed-reached}
use Rattle.clients_core.proofs.board.Look.latest_shown.Goals.{then-value-reached, else-value-reached}
use Rattle.clients_core.proofs.board.Look.latest_shown.Goals as goal

pub loop-index-preserved : goal.loop-index-preserved
loop-index-preserved c =
    let words = c.args.self.now.words.now in
    let reach = c.args.reach.now in
    let n = c.loop-index.index in
    let ctx = c.at-ctx.result in
    let seat = c.latest_at-value.new.seat in
    let value = c.latest_at-value.result in
    let is : ctx ≡ n + 1 = c.at-ctx.ensures in
    let before = c.loop-index.invariant in
    let reached : c.get-reached.result ≡ value_at reach ctx = c.get-reached.ensures.value in
    let shown = rw reached at c.latest_at-value.ensures.shown in
    elim c.if-value-reached.branch [
      | then-value-reached w ↦
          let above : value_at reach ctx < value = omega arith in
          rw w.points-is
          record {
            listed = subst (HasListed words c.args.self.now.buffer c.args.self.now.level (n + 1) c.args.seat.now seat reach) (sym w.push_reserved.ensures.items) (HasListed-pushed is above before.listed shown);
            len = omega arith;
            places = omega (arith, w.push_reserved.ensures.capacity, before.places);
          }
      | else-value-reached w ↦
          let low : value ≤ value_at reach ctx = omega arith in
          rw w.points-is
          record {
            listed = HasListed-reached is low before.listed shown;
            len = omega arith;
            places = before.places;
          }
    ]
