use Rattle.std.proofs.Common.{List, ℕ, ◌∙◌, sym, ap, subst, inl, inr, arith}
use Rattle.std.proofs.lemmas.Bool.{leb-true, false≢true}
use Rattle.point_core.specs.Reach.{reaching}
use Rattle.fence_core.specs.PointIndex.{has, is_alike, IsRising}
use Rattle.fence_core.specs.Reported.{IsReported}
use Rattle.fence_core.proofs.PointIndex.{IsRising-rest, first-least, alike-registration}
use Rattle.fence_core.proofs.Gathered.{HasGathered-none, HasGathered-more}
use Rattle.fence_core.proofs.Indexed.{or_cases}
use Rattle.fence_core.proofs.watches.point_index.firing.report_low.Goals as goal

pub loop-watch-init : goal.loop-watch-init
loop-watch-init c =
    let rest = c.into_iter-watch-iterator.ensures.into_iter_gives ∙ c.iter-watch-items.ensures.rest in
    let same = c.watches.ensures.keys in (
      tt,
      tt,
      HasGathered-none c.args.pending.now.entries (reaching c.args.reach.now c.args.point.now) c.args.fired.now.items c.requires.gathered,
      subst IsRising (sym rest) c.iter-watch-items.ensures.ordered,
      λ s low there. inl (ap (λ q. has q s) (rest ∙ same) ∙ there),
    )

pub loop-watch-preserved : goal.loop-watch-preserved
loop-watch-preserved c =
    let first = c.in-Some.watch.now in
    let ahead = c.loop-watch.watch-iterator in
    let left = c.next.new.self in
    let steps = c.in-Some.ensures.steps in
    let step = c.in_ok-report.ensures in
    let before = c.loop-watch.invariant in
    let reach : List ℕ = reaching c.args.reach.now c.args.point.now in (
      tt,
      tt,
      HasGathered-more c.args.pending.now.entries reach c.args.fired.now.items c.loop-watch.fired.items c.report.new.fired.items before.2 step.added,
      IsRising-rest ahead left first before.3 steps,
      λ s low there. elim (before.4 s low there) [
        | inl in_ahead ↦ elim (or_cases (is_alike s first) (has left s) (sym (ap (λ q. has q s) steps) ∙ in_ahead)) [
          | inl here ↦ inr (subst (IsReported c.args.pending.now.entries reach c.report.new.fired.items) (sym (alike-registration s first here)) step.reported)
          | inr later ↦ inl later
        ]
        | inr reported ↦ inr (step.added.still s.registration reported)
      ],
    )

-- this one stands above the value, and so do all that are ahead
pub returns-then-watch-value-clause-all : goal.returns-then-watch-value-clause-all
returns-then-watch-value-clause-all c = λ s low there. elim (c.loop-watch.invariant.4 s low there) [
  | inl ahead ↦
      let least = first-least c.loop-watch.watch-iterator c.next.new.self c.in-Some.watch.now s c.loop-watch.invariant.3 c.in-Some.ensures.steps ahead in
      let at = leb-true s.value c.args.value low in
      absurd (omega arith)
  | inr reported ↦ reported
]

pub returns-clause-all : goal.returns-clause-all
returns-clause-all c = λ s low there. elim (c.loop-watch.invariant.4 s low there) [
  | inl ahead ↦ absurd (false≢true (sym (ap (λ q. has q s) c.in-None.ensures.steps.0) ∙ ahead))
  | inr reported ↦ reported
]

pub returns-in_err-report-clause-added : goal.returns-in_err-report-clause-added
returns-in_err-report-clause-added c = HasGathered-more c.args.pending.now.entries (reaching c.args.reach.now c.args.point.now) c.args.fired.now.items c.loop-watch.fired.items c.report.new.fired.items c.loop-watch.invariant.2 c.in_err-report.ensures.added
