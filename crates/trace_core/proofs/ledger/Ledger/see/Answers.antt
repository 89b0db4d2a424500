use Rattle.std.proofs.Common.{refl}
use Rattle.trace_core.proofs.Seeing.{found-known, seen}
use Rattle.trace_core.proofs.ledger.Ledger.see.Goals as goal

pub returns-clause-seen : goal.returns-clause-seen
returns-clause-seen c =
    λ steps h. seen c.args.self.now (record {
      events = c.saturating_add-self.result;
      loss = c.args.self.now.loss;
      lives = c.see.new.self;
      contexts = c.see-2.new.self;
      timelines = c.count.new.self;
      total = c.count-2.new.self;
    }) c.args.event.now c.in_ok-life.life c.in_ok-found.found c.timeline_key.result steps (record {
      life-is = c.in_ok-life.ensures.known;
      found-is = c.in_ok-found.ensures.found;
      tk-is = c.timeline_key.ensures;
      events = c.saturating_add-self.ensures;
      loss = refl;
      lives = c.in_ok-life.ensures.seen;
      contexts = c.in_ok-found.ensures.seen;
      timelines = c.in_ok-count.ensures.counted;
      total = c.count-2.ensures;
    }) h

pub returns-clause-found : goal.returns-clause-found
returns-clause-found c =
    λ steps h. found-known c.args.self.now (record {
      events = c.saturating_add-self.result;
      loss = c.args.self.now.loss;
      lives = c.see.new.self;
      contexts = c.see-2.new.self;
      timelines = c.count.new.self;
      total = c.count-2.new.self;
    }) c.args.event.now c.in_ok-life.life c.in_ok-found.found c.timeline_key.result steps (record {
      life-is = c.in_ok-life.ensures.known;
      found-is = c.in_ok-found.ensures.found;
      tk-is = c.timeline_key.ensures;
      events = c.saturating_add-self.ensures;
      loss = refl;
      lives = c.in_ok-life.ensures.seen;
      contexts = c.in_ok-found.ensures.seen;
      timelines = c.in_ok-count.ensures.counted;
      total = c.count-2.ensures;
    }) h
