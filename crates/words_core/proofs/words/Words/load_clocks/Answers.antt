use Rattle.std.proofs.Common.{◌≡◌, ◌+◌, List, sym, ap, subst, arith}
use Rattle.point_core.specs.declared.clocks.Clock.{Clock}
use Rattle.point_core.specs.Clocks.{new_clock}
use Rattle.words_core.specs.theorem.Loads.{clock_seen}
use Rattle.words_core.specs.theorem.Words.{WordsModel}
use Rattle.words_core.proofs.LoadingAll.{clock_seen-kept, HasLoaded-none, HasLoaded-more, HasFound, HasFound-none, HasFound-more, HasLoadedClocks-loaded}
use Rattle.words_core.proofs.words.Words.load_clocks.Goals as goal

pub loop-index-init : goal.loop-index-init
loop-index-init c =
    let seat = c.args.seat.now in
    record {
      loaded = HasLoaded-none seat;
      found = subst (λ (clocks : List Clock). HasFound (clock_seen seat) new_clock 0 clocks) (sym c.zero-clocks.ensures) (HasFound-none (clock_seen seat) new_clock);
    }

pub put-requires : goal.put-requires
put-requires c = let is : c.at-ctx.result ≡ c.loop-index.index + 1 = c.at-ctx.ensures in record { new = c.loop-index.invariant.found.past c.at-ctx.result (omega arith) }

pub loop-index-preserved : goal.loop-index-preserved
loop-index-preserved c =
    let seat = c.loop-index.seat in
    let after = c.clock-clock.new.seat in
    let n = c.loop-index.index in
    let ctx = c.at-ctx.result in
    let clock = c.clock-clock.result in
    let before = c.loop-index.invariant in
    let load = c.clock-clock.ensures in
    let is : ctx ≡ n + 1 = c.at-ctx.ensures in
    record {
      loaded = HasLoaded-more c.args.seat.now seat after n ctx clock is before.loaded load.entered load.found load.later load.last load.stays;
      found = subst (λ (clocks : List Clock). HasFound (clock_seen after) new_clock (n + 1) clocks) (sym c.put.ensures.put)
          (HasFound-more (clock_seen seat) (clock_seen after) new_clock clock n ctx c.loop-index.clocks is c.put.ensures.context before.found
          (clock_seen-kept seat after n ctx clock is load.entered) load.found);
    }

pub returns : goal.returns
returns c =
    let contexts = ap (λ (w : WordsModel). w.contexts) c.self.view_is in
    let own = ap (λ (w : WordsModel). w.contexts) c.requires.own in
    let end = c.loop-index.invariant in
    record { loaded = HasLoadedClocks-loaded c.args.seat.now c.loop-index.seat c.loop-index.index c.loop-index.clocks (omega arith) end.loaded end.found }
