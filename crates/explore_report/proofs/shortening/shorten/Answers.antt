use Rattle.std.proofs.Common.{ap, length, arith, refl}
use Rattle.explore_core.specs.Shortening.{IsTrueAnswer, IsTrueRace, line_of, pair_of}
use Rattle.explore_report.proofs.Shortened.{AreShortened-items}
use Rattle.explore_report.proofs.shortening.shorten.Goals as goal

pub returns : goal.returns
returns c = record {
  shortened =
      let plan = c.args.plan.now.plan in
      let given = c.args.found.now.given in
      let races = c.args.found.now.races in
      record {
        given = AreShortened-items line_of (IsTrueAnswer plan) given _ c.show_wrong.new.given c.as_mut_slice.ensures.value
            (omega (arith, ap length c.as_mut_slice.ensures.value, c.as_mut_slice.ensures.len)) c.show_wrong.ensures.shown;
        races = AreShortened-items pair_of (IsTrueRace plan) races _ c.show_races.new.races c.as_mut_slice-2.ensures.value
            (omega (arith, ap length c.as_mut_slice-2.ensures.value, c.as_mut_slice-2.ensures.len)) c.show_races.ensures.shown;
        rest = refl;
      };
}
