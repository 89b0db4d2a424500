use Rattle.std.proofs.Common.{◌≡◌, [], rules, sym, subst, None, Some}
use Rattle.point_core.specs.Agreement.{HasRisingContexts}
use Rattle.syncfile_core.proofs.Causes.{OnOk-always}
use Rattle.syncfile_core.proofs.Rising.{pending_of-rising}
use Rattle.syncfile_core.proofs.draft.Draft.draw_latest.Goals as goal
use Rattle.syncfile_core.proofs.draft.Draft.draw_latest.Goals.{in-Some+in_ok-list-in-Some, in-None}

pub returns-clause-rising : goal.returns-clause-rising
returns-clause-rising c =
    OnOk-always c.copy_from.result _
    (elim c.match-latest.branch [
      | in-Some+in_ok-list-in-Some w ↦ rw w.self-is (subst HasRisingContexts (sym w.in_ok-list-in-Some.ensures.points) (pending_of-rising (Some w.in-Some.latest.now) c.args.reach.now))
      | in-None w ↦
          let none : c.match-latest.self.points.items ≡ [] = rw w.self-is (search rules) in
          subst HasRisingContexts (sym none) (pending_of-rising None c.args.reach.now)
    ])
