use Rattle.std.proofs.lemmas.Bool.{false≢true}
use Rattle.explore_core.proofs.parts.Places.is_same.Goals as goal

pub returns-then-self-other : goal.returns-then-self-other
returns-then-self-other c = λ bad. absurd (false≢true bad)

pub returns-then-self-other-2 : goal.returns-then-self-other-2
returns-then-self-other-2 c = λ bad. absurd (false≢true bad)

pub returns : goal.returns
returns c = λ is.
    let files = c.as_slice.ensures.value in
    let others = c.as_slice-2.ensures.value in
    record {
      timelines = c.if-self-other.false;
      buffers = c.if-self-other-2.false;
      there = rw (files, others) at (c.are_same_files.ensures.there is);
      here = rw (files, others) at (c.are_same_files.ensures.here is);
      count = rw (files, others) at (c.are_same_files.ensures.count is);
    }
