-- What a call under a lock does to its seat.
use Rattle.std.proofs.Common.{◌≡◌, ℕ, List, [], refl, sym, ap, Ok, Err, Result, IfOk}
use Rattle.std.proofs.lemmas.List.{append-nil}
use Rattle.point_core.specs.declared.listing.Listing.{Listing}
use Rattle.point_core.specs.declared.refusal.Refusal.{Refusal}
use Rattle.words_core.specs.declared.trace.Step.{Step}
use Rattle.words_core.specs.theorem.Loads.{HasLoadedAll}
use Rattle.words_core.specs.theorem.Seat.{SeatModel}
use Rattle.resv_core.specs.Shared.{HasLoadedOnce}

pub HasLoadedOnce-alone : {reach : List ℕ} {before after : SeatModel} → HasLoadedAll before after reach → HasLoadedOnce reach before after
HasLoadedOnce-alone {reach} {before} {after} loaded = record {
  seat = after;
  loaded = loaded;
  steps = [];
  entered = ap (λ (steps : List Step). record after { trace = steps }) (sym (append-nil after.trace));
  none = refl;
}

-- the listing's floor is the reach that was loaded
pub floor-HasLoadedOnce : (result : Result Listing Refusal) (reach : List ℕ) (before after : SeatModel) → IfOk result (λ l. l.floor ≡ reach) → HasLoadedOnce reach before after → IfOk result (λ l. HasLoadedOnce l.floor before after)
floor-HasLoadedOnce (Ok l) reach before after is h = rw is h
floor-HasLoadedOnce (Err e) reach before after is h = tt
