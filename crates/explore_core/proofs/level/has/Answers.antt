use Rattle.std.proofs.Common.{refl}
use Rattle.std.proofs.lemmas.Bool.{false≢true}
use Rattle.std.proofs.lemmas.Option.{slice_get_read}
use Rattle.explore_core.proofs.level.has.Goals as goal

pub returns-in_default : goal.returns-in_default
returns-in_default c = λ bad. absurd (false≢true bad)

pub returns-in_default-get : goal.returns-in_default-get
returns-in_default-get c = λ bad. absurd (false≢true bad)

pub returns-in_default-get-2 : goal.returns-in_default-get-2
returns-in_default-get-2 c = λ bad. absurd (false≢true bad)

pub returns-then-are_same : goal.returns-then-are_same
returns-then-are_same c = λ is.
    let place = c.in-Some.place.now in
    record {
      place = place;
      other = c.in-Some-get.other.now;
      state_at = slice_get_read _ _ place c.in-Some-get.other.now refl c.in-Some-get.ensures.lookup.3.0 c.in-Some-get.ensures.lookup.1;
      others = c.in-Some-get-2.others.now;
      places_at = slice_get_read _ _ place c.in-Some-get-2.others.now refl c.in-Some-get-2.ensures.lookup.3.0 c.in-Some-get-2.ensures.lookup.1;
      made = rw (c.as_slice.ensures.value, c.as_slice-2.ensures.value) at (c.are_same.ensures c.if-are_same.true);
      look = c.is_same.ensures is;
    }
