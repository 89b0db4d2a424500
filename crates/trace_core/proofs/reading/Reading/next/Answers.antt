use Rattle.std.proofs.Common.{ap, ◌∙◌, refl, reverse, subst, sym}
use Rattle.trace_core.specs.declared.reading.Reading.{Reading}
use Rattle.trace_core.specs.Item.{meaning_of}
use Rattle.trace_core.specs.Pieces.{HasPassed}
use Rattle.trace_core.specs.Reading.{GetsAhead, GoesOn, Passes, stage_with}
use Rattle.trace_core.proofs.Stepping.{begins-first, begins-once, got-ahead, reversed, stage-given, told}
use Rattle.trace_core.proofs.reading.Reading.next.Goals as goal

pub returns-clause-more : goal.returns-clause-more
returns-clause-more g c =
    λ span before items seen h.
    let old = c.args.self.now in
    let now = g.R.Read.remaining c.args.reader.now in
    let item = meaning_of c.in-Some.piece.item in
    let stage = c.stage_with-stage.result in
    let reading : Reading = record { pieces = c.pass.new.self; span = old.span; stage = stage; has_begun = old.has_begun } in
    let some = c.in_ok-seen.ensures.events in
    let going = sym c.if-is_over.ensures in
    let at = c.stage_with-stage.ensures ∙ ap (λ s. stage_with old.stage s item) h.span_is ∙ stage-given span old.stage c.in_ok-seen.seen item seen some h.stage in
    let passed = subst (HasPassed before now c.pass.new.self) (reversed item items) (c.pass.ensures.more before now (reverse items) item h.passed c.in-Some.ensures.next) in
    subst (GoesOn span reading c.take.new.self before now items seen) (sym c.next_of-next.ensures) (told span reading c.take.new.self before now items seen stage c.in_ok-seen.seen item some going at (record {
      span_is = h.span_is;
      passed = passed;
      stage = at;
      going = going;
      tracks = c.in_ok-seen.ensures.more items seen h.tracks;
    }))

pub returns-then-begins-clause-ahead : goal.returns-then-begins-clause-ahead
returns-then-begins-clause-ahead g c =
    (begins-once c.stage_with-stage.result c.args.self.now.has_begun (sym c.begins.ensures ∙ c.if-begins.true), refl)

pub returns-then-is_over-clause-ahead : goal.returns-then-is_over-clause-ahead
returns-then-is_over-clause-ahead g c =
    begins-first c.stage_with-stage.result c.args.self.now.has_begun (sym c.if-is_over.ensures) (sym c.begins.ensures ∙ c.if-begins.false)

pub returns-clause-ahead : goal.returns-clause-ahead
returns-clause-ahead g c =
    let old = c.args.self.now in
    let reading : Reading = record { pieces = c.pass.new.self; span = old.span; stage = c.stage_with-stage.result; has_begun = old.has_begun } in
    let passes : Passes old reading = record {
      item = meaning_of c.in-Some.piece.item;
      len = c.in-Some.piece.length;
      next = c.in-Some.ensures.next;
      is = c.pass.ensures.passed;
      begun = refl;
    } in
    subst (GetsAhead old reading (g.R.Read.remaining c.args.reader.now) (g.R.Read.remaining c.args.reader.now)) (sym c.next_of-next.ensures) (got-ahead old reading _ _ passes c.stage_with-stage.result c.in_ok-seen.seen (meaning_of c.in-Some.piece.item) (sym c.begins.ensures ∙ c.if-begins.false))
