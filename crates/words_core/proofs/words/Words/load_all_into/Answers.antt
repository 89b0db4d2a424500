use Rattle.std.proofs.Common.{◌≡◌, ◌+◌, ℕ, List, sym, ap, ◌∙◌, subst, arith}
use Rattle.point_core.specs.Clocks.{reached_by}
use Rattle.point_core.specs.Reach.{with_value}
use Rattle.words_core.specs.theorem.Words.{WordsModel}
use Rattle.words_core.proofs.LoadingAll.{reached_seen, clock_seen-kept, raised_from_zero, HasLoaded-none, HasLoaded-more, HasFound, HasFound-none, HasFound-more, HasLoadedAll-loaded}
use Rattle.words_core.proofs.words.Words.load_all_into.Goals as goal

pub loop-index-init : goal.loop-index-init
loop-index-init c =
    let seat = c.args.seat.now in
    record {
      loaded = HasLoaded-none seat;
      found = subst (λ (reach : List ℕ). HasFound (reached_seen seat) 0 0 reach) (sym c.requires.zero) (HasFound-none (reached_seen seat) 0);
    }

pub loop-index-preserved : goal.loop-index-preserved
loop-index-preserved c =
    let seat = c.loop-index.seat in
    let after = c.clock-clock.new.seat in
    let reach = c.loop-index.reach in
    let n = c.loop-index.index in
    let ctx = c.at-ctx.result in
    let clock = c.clock-clock.result in
    let value = c.reached.result in
    let before = c.loop-index.invariant in
    let load = c.clock-clock.ensures in
    let is : ctx ≡ n + 1 = c.at-ctx.ensures in
    let raised : c.raise_to.new.self ≡ with_value reach ctx value = c.raise_to.ensures.value ∙ raised_from_zero reach ctx value (before.found.past ctx (omega arith)) in
    record {
      loaded = HasLoaded-more c.args.seat.now seat after n ctx clock is before.loaded load.entered load.found load.later load.last load.stays;
      found = subst (λ (r : List ℕ). HasFound (reached_seen after) 0 (n + 1) r) (sym raised)
          (HasFound-more (reached_seen seat) (reached_seen after) 0 value n ctx reach is (omega arith) before.found
          (λ k low high. ap reached_by (clock_seen-kept seat after n ctx clock is load.entered k low high))
          (c.reached.ensures ∙ ap reached_by load.found));
    }

pub returns : goal.returns
returns c =
    let contexts = ap (λ (w : WordsModel). w.contexts) c.self.view_is in
    let own = ap (λ (w : WordsModel). w.contexts) c.requires.own in
    let end = c.loop-index.invariant in
    record { loaded = HasLoadedAll-loaded c.args.seat.now c.loop-index.seat c.loop-index.index c.loop-index.reach (omega arith) end.loaded end.found }
