use Rattle.std.proofs.Common.{refl}
use Rattle.trace_core.proofs.reading.Reading.new.Goals as goal

pub returns : goal.returns
returns c = record {
  none = λ now tracker tracks. record {
    span_is = refl;
    passed = c.new.ensures.none now;
    stage = refl;
    going = refl;
    tracks = tracks;
  };
}
