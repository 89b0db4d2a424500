use Rattle.std.proofs.Common.{◌≡◌, ◌+◌, ◌<◌, ◌≤◌, ℕ, sym, ap, subst, ◌∙◌, arith}
use Rattle.point_core.specs.Clocks.{clock_at, new_clock, reach_of_clocks}
use Rattle.words_core.specs.theorem.Loads.{clocks_seen}
use Rattle.words_core.specs.theorem.Seat.{SeatModel}
use Rattle.words_core.specs.theorem.Words.{WordsModel}
use Rattle.words_core.proofs.Loads.{kept-loaded}
use Rattle.words_core.proofs.LoadingAll.{clock_at-seen, clock_at-past, clock_seen-kept, reach_seen-is, HasLoaded-none, HasLoaded-more, HasLoadedClocks-all}
use Rattle.syncfile_core.specs.Running.{HasFoundTo, IsBorneOut, IsBorneOutAt}
use Rattle.syncfile_core.proofs.Passing.{HasFoundTo-same}
use Rattle.syncfile_core.proofs.Polling.{IsBorneOut-seen, IsBorneOut-found, polled-stands_for, polled-stays, foreign-stronger}
use Rattle.syncfile_core.proofs.Standing.{OnOk-from}
use Rattle.syncfile_core.proofs.sync_file.SyncFile.poll.Goals as goal

pub loop-index-init : goal.loop-index-init
loop-index-init c = record {
  own = c.requires.own;
  loaded = HasLoaded-none c.args.seat.now;
  found = c.none-found.ensures.none (clocks_seen c.args.seat.now);
}

pub loop-index-preserved : goal.loop-index-preserved
loop-index-preserved c =
    let seat = c.loop-index.seat in
    let after = c.clock-clock.new.seat in
    let n = c.loop-index.index in
    let ctx = c.at-ctx.result in
    let clock = c.clock-clock.result in
    let before = c.loop-index.invariant in
    let load = c.clock-clock.ensures in
    let is : ctx ≡ n + 1 = c.at-ctx.ensures in
    let words : after.words ≡ seat.words = ap (λ (s : SeatModel). s.words) load.entered in
    let made = c.contexts-contexts.ensures in
    let own : seat.words.contexts ≡ c.args.words.now.contexts = ap (λ (w : WordsModel). w.contexts) before.own in
    let same : after.words.contexts ≡ seat.words.contexts = ap (λ (w : WordsModel). w.contexts) words in
    let here : clock_at (clocks_seen after) ctx ≡ clock = clock_at-seen after ctx (omega arith) (omega arith) (omega arith) ∙ sym load.found in
    let kept : (c' : ℕ) → 1 ≤ c' → c' ≤ n → clock_at (clocks_seen seat) c' ≡ clock_at (clocks_seen after) c' =
    λ c' low high.
    clock_at-seen seat c' low (omega arith) (omega arith)
    ∙ sym (clock_seen-kept seat after n ctx clock is load.entered c' low high)
    ∙ sym (clock_at-seen after c' low (omega arith) (omega arith)) in
    record {
      own = words ∙ before.own;
      loaded = HasLoaded-more c.args.seat.now seat after n ctx clock is before.loaded load.entered load.found load.later load.last load.stays;
      found = c.take_in.ensures.more (clocks_seen after) n is here (HasFoundTo-same (clocks_seen seat) (clocks_seen after) c.args.self.now n c.loop-index.found kept before.found);
    }

pub returns : goal.returns
returns c =
    let first = c.args.seat.now in
    let last = c.loop-index.seat in
    let n = c.loop-index.index in
    let end = c.loop-index.invariant in
    let result = c.status_of.result in
    let made = c.contexts-contexts.ensures in
    let own : last.words.contexts ≡ c.args.words.now.contexts = ap (λ (w : WordsModel). w.contexts) end.own in
    let own' : first.words.contexts ≡ c.args.words.now.contexts = ap (λ (w : WordsModel). w.contexts) c.requires.own in
    let count : n ≡ c.contexts-contexts.result = omega arith in
    let loaded = HasLoadedClocks-all first last n (omega arith) end.loaded in
    let found = subst (λ (k : ℕ). HasFoundTo (clocks_seen last) c.args.self.now k c.loop-index.found) count end.found in
    let past : (ctx : ℕ) → c.contexts-contexts.result < ctx → clock_at (clocks_seen last) ctx ≡ new_clock = λ ctx over. clock_at-past last ctx (omega arith) in
    let same : c.contexts-contexts.result ≡ last.words.contexts = omega arith in
    let status = c.status_of.ensures.status (clocks_seen last) found in
    let out = OnOk-from result (IsBorneOutAt (reach_of_clocks (clocks_seen last)) c.contexts-contexts.result c.args.self.now) (IsBorneOut last c.args.self.now) (IsBorneOut-seen last c.args.self.now (reach_seen-is last) same) (c.status_of.ensures.borne_out (clocks_seen last) found) in
    record {
      kept = kept-loaded loaded.all;
      loaded = loaded;
      status = status;
      stays = polled-stays first last c.args.self.now result loaded status;
      borne_out = out;
      stands = polled-stands_for last c.args.self.now result status out;
      foreign = foreign-stronger result (IsBorneOut-found last c.args.self.now (reach_seen-is last) same) (c.status_of.ensures.foreign (clocks_seen last) made.within.0 found past);
    }
