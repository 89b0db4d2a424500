use Rattle.std.proofs.Common.{◌+◌, ◌∙◌, sym, subst}
use Rattle.explore_core.specs.Search.{AreAsked, Extends, Seen}
use Rattle.explore_core.proofs.Levels.{Extends-refl}
use Rattle.explore_core.proofs.Finding.{Extends-kept}
use Rattle.explore_core.proofs.Trying.{later-kept, later-reached, later-seen, seen-after}
use Rattle.explore_core.proofs.tour.Tour.keep_after.Goals as goal

pub returns-in_err-later-clause-extends : goal.returns-in_err-later-clause-extends
returns-in_err-later-clause-extends c = Extends-refl c.args.setup.now.plan.now (c.args.setup.now.depth + 1) c.args.self.now.next

pub returns-in_err-keep-clause-extends : goal.returns-in_err-keep-clause-extends
returns-in_err-keep-clause-extends c =
    let plan = c.args.setup.now.plan.now in
    subst (Extends plan (c.args.setup.now.depth + 1) c.args.self.now.next) (sym c.in_err-keep.ensures.unchanged) (Extends-refl plan (c.args.setup.now.depth + 1) c.args.self.now.next)

pub returns-clause-extends : goal.returns-clause-extends
returns-clause-extends c =
    let plan = c.args.setup.now.plan.now in
    let is = c.as_slice-schedule.ensures.value in
    let asked = subst (AreAsked plan) (sym c.as_slice-asked.ensures.value) c.requires.setup.asked in
    let keeps = c.in_ok-keep.ensures.keeps in
    let later : Seen = record { state = c.in_ok-later.later; look = keeps.0 } in
    let reached = later-reached is c.requires.state c.requires.on c.requires.goes {later = later} c.requires.at c.in_ok-later.ensures.schedule
    (seen-after c.as_slice-asked.result.now asked c.in_ok-later.ensures.schedule (c.in_ok-later.ensures.made ∙ c.as_slice.ensures.value) keeps.1) in
    Extends-kept keeps.2 c.in_ok-keep.ensures.room (later-seen is c.requires.state c.requires.on c.requires.goes reached)

pub returns-clause-kept : goal.returns-clause-kept
returns-clause-kept c =
    let plan = c.args.setup.now.plan.now in
    let is = c.as_slice-schedule.ensures.value in
    let asked = subst (AreAsked plan) (sym c.as_slice-asked.ensures.value) c.requires.setup.asked in
    let keeps = c.in_ok-keep.ensures.keeps in
    let later : Seen = record { state = c.in_ok-later.later; look = keeps.0 } in
    let reached = later-reached is c.requires.state c.requires.on c.requires.goes {later = later} c.requires.at c.in_ok-later.ensures.schedule
    (seen-after c.as_slice-asked.result.now asked c.in_ok-later.ensures.schedule (c.in_ok-later.ensures.made ∙ c.as_slice.ensures.value) keeps.1) in
    later-kept is c.requires.state c.requires.on c.requires.goes reached c.requires.setup.explorable c.requires.next keeps.2
