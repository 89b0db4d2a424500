-- Consequences of loading all contexts.
use Rattle.std.proofs.Common.{◌≡◌, ℕ, List, sym, ap, ◌∙◌, subst}
use Rattle.words_core.specs.theorem.Loads.{reach_seen, HasLoadedAll}
use Rattle.words_core.specs.theorem.Seat.{SeatModel}
use Rattle.words_core.specs.theorem.Words.{WordsModel}

-- the reach is what the seat has now seen
pub HasLoadedAll-seen : {before after : SeatModel} {reach : List ℕ} → HasLoadedAll before after reach → HasLoadedAll before after (reach_seen after)
HasLoadedAll-seen {before} {after} h = subst (HasLoadedAll before after) h.found h

-- the seat has the same words and the same parts as before
pub kept-loaded : {before after : SeatModel} {reach : List ℕ} → HasLoadedAll before after reach → (after.words ≡ before.words) × (after.parts ≡ before.parts)
kept-loaded h = (ap (λ (s : SeatModel). s.words) h.entered, ap (λ (s : SeatModel). s.parts) h.entered)

pub contexts-loaded : {words : WordsModel} {before after : SeatModel} {reach : List ℕ} {made : ℕ} → made ≡ words.contexts → before.words ≡ words → HasLoadedAll before after reach → made ≡ after.words.contexts
contexts-loaded is own h = is ∙ sym (ap (λ (w : WordsModel). w.contexts) ((kept-loaded h).0 ∙ own))
