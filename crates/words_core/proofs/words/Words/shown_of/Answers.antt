use Rattle.std.proofs.Common.{ap, subst, ◌∙◌, ℕ}
use Rattle.words_core.specs.theorem.Seat.{SeatModel, HasFound, seen}
use Rattle.words_core.specs.theorem.Trace.{shown}
use Rattle.words_core.proofs.Seen.{seen-with_step_later}
use Rattle.words_core.proofs.words.Words.shown_of.Goals as goal

pub returns : goal.returns
returns c =
    let seat = c.args.seat.now in
    let place = c.entry_place_of-place.result in
    let value = c.shown_at.result in
    let at = c.shown_at.ensures in
    let found : HasFound place value seat c.shown_at.new.seat = record {
      entered = at.entered;
      later = at.later;
      raises = at.raises;
      seen = ap (λ (s : SeatModel). seen s place) at.entered ∙ seen-with_step_later seat (shown place value) at.later;
    } in
    subst (λ (w : ℕ). HasFound w value seat c.shown_at.new.seat) c.entry_place_of-place.ensures.value found
