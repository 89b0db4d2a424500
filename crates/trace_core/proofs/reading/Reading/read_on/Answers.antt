use Rattle.std.proofs.Common.{inl, inr, refl, reverse, sym}
use Rattle.trace_core.proofs.Passing.{passed-all}
use Rattle.trace_core.proofs.reading.Reading.read_on.Goals as goal

pub returns-then-not-is_whole-clause-more : goal.returns-then-not-is_whole-clause-more
returns-then-not-is_whole-clause-more g c span before items seen h =
    inr (record {
      span_is = h.span_is;
      passed = c.read.ensures.more before (reverse items) h.passed;
      stage = h.stage;
      going = h.going;
      tracks = c.count_dropped.ensures.tracks items seen h.tracks;
    })

pub returns-then-not-is_whole-clause-ahead : goal.returns-then-not-is_whole-clause-ahead
returns-then-not-is_whole-clause-ahead g c = inr (record { more = c.in_ok-dropped.ensures.ahead; begun = refl })

pub returns-clause-more : goal.returns-clause-more
returns-clause-more g c span before items seen h =
    let whole = sym c.if-not-is_whole.ensures.whole in (
      h,
      record {
        rest = c.args.self.now.pieces;
        passed = h.passed;
        over = inl (passed-all before _ c.args.self.now.pieces (reverse items) h.passed whole (c.requires.waiting.all whole));
      },
    )
