use Rattle.std.proofs.Common.{◌≡◌, ◌+◌, Bool, if◌then◌else◌, sym, ap, ◌∙◌, subst, arith}
use Rattle.words_core.specs.theorem.Layout.{mark_word}
use Rattle.words_core.specs.theorem.Seat.{SeatModel}
use Rattle.words_core.specs.theorem.Trace.{mark_of}
use Rattle.clients_core.proofs.Gathering.{HasOnlyLoaded, HasOnlyLoaded-more, HasClosedNone-more, HasClosedNone-not, added_to-HasOnlyLoaded, raised_to-HasOnlyLoaded}
use Rattle.clients_core.proofs.gathered_values.are_open.Goals as goal

pub returns-then-closed-clause-same : goal.returns-then-closed-clause-same
returns-then-closed-clause-same c =
    let first = c.args.all.now in
    let seat = c.loop-index.all in
    let mark = mark_word c.at.result in
    let loaded = subst (λ (s : SeatModel). HasOnlyLoaded first s) (sym c.closed.ensures.entered) (HasOnlyLoaded-more first seat mark (mark_of mark seat.trace) c.loop-index.invariant.loaded) in
    λ ctx. added_to-HasOnlyLoaded first c.closed.new.self ctx loaded

pub returns-then-closed-clause-raises : goal.returns-then-closed-clause-raises
returns-then-closed-clause-raises c =
    let first = c.args.all.now in
    let seat = c.loop-index.all in
    let mark = mark_word c.at.result in
    let loaded = subst (λ (s : SeatModel). HasOnlyLoaded first s) (sym c.closed.ensures.entered) (HasOnlyLoaded-more first seat mark (mark_of mark seat.trace) c.loop-index.invariant.loaded) in
    λ w. raised_to-HasOnlyLoaded first c.closed.new.self w loaded

pub returns-then-closed-clause-none_closed : goal.returns-then-closed-clause-none_closed
returns-then-closed-clause-none_closed c =
    let ctx = c.at.result in
    let closed = c.closed.ensures.state ∙ ap (λ (b : Bool). if b then 1 else 0) c.if-closed.true in
    let bad = HasClosedNone-not c.args.all.now c.loop-index.all c.args.words.now.contexts ctx (omega arith) (omega arith) c.loop-index.invariant.loaded closed in
    ((λ no. absurd (cc)), (λ none. absurd (bad none)))

pub loop-index-preserved : goal.loop-index-preserved
loop-index-preserved c =
    let first = c.args.all.now in
    let seat = c.loop-index.all in
    let ctx = c.at.result in
    let mark = mark_word ctx in
    let before = c.loop-index.invariant in
    let is : ctx ≡ c.loop-index.index + 1 = c.at.ensures in
    let state = c.closed.ensures.state ∙ ap (λ (b : Bool). if b then 1 else 0) c.if-closed.false in
    record {
      loaded = subst (λ (s : SeatModel). HasOnlyLoaded first s) (sym c.closed.ensures.entered) (HasOnlyLoaded-more first seat mark (mark_of mark seat.trace) before.loaded);
      none = HasClosedNone-more first seat c.loop-index.index ctx is before.loaded state before.none;
    }

pub returns-clause-same : goal.returns-clause-same
returns-clause-same c = λ ctx. added_to-HasOnlyLoaded c.args.all.now c.loop-index.all ctx c.loop-index.invariant.loaded

pub returns-clause-raises : goal.returns-clause-raises
returns-clause-raises c = λ w. raised_to-HasOnlyLoaded c.args.all.now c.loop-index.all w c.loop-index.invariant.loaded
