use Rattle.std.proofs.Common.{[], refl}
use Rattle.trace_core.proofs.tracker.Tracker.new.Goals as goal

pub returns : goal.returns
returns c = record {
  none = record {
    fences = record { steps = []; saw = record { are = tt; seen_are = tt; records = refl }; ledger = c.new-4.ensures; waits = c.new-5.ensures };
    end = c.new.ensures.end;
  };
}
