use Rattle.std.proofs.Common.{All, Contains, subst}
use Rattle.std.proofs.lemmas.Bool.{false≢true}
use Rattle.std.proofs.lemmas.List.{take_all}
use Rattle.std.proofs.lemmas.List.Elements.{All-nil}
use Rattle.explore_core.proofs.Parting.{All-next-at}
use Rattle.explore_core.proofs.parts.are_among.Goals as goal

pub loop-place-init : goal.loop-place-init
loop-place-init c = All-nil (Contains c.args.others.now)

pub loop-place-preserved : goal.loop-place-preserved
loop-place-preserved c =
    All-next-at (Contains c.args.others.now) c.args.files.now c.loop-place.place _ c.loop-place-test.true c.loop-place.invariant (c.is_among.ensures c.if-not-is_among.false)

pub returns-then-not-is_among : goal.returns-then-not-is_among
returns-then-not-is_among c = λ bad. absurd (false≢true bad)

pub returns : goal.returns
returns c = λ is.
    subst (All (Contains c.args.others.now)) (take_all c.loop-place.place c.args.files.now c.loop-place-test.false) c.loop-place.invariant
