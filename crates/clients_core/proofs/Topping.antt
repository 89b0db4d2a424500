-- Tables of tops that take entries in, one list after another.
use Rattle.std.proofs.Common.{◌≡◌, ℕ, ◌<◌, ◌≤◌, ◌+◌, List, [], ◌∷◌, ◌++◌, length, map, get_or, take, sym, ap, ◌∙◌, subst, append_assoc, append-nil}
use Rattle.std.specs.List.{flat_map}
use Rattle.std.proofs.lemmas.Grind.{flat_map-append}
use Rattle.std.proofs.lemmas.List.{take_more}
use Rattle.std.proofs.lemmas.List.Elements.{All-nil}
use Rattle.point_core.specs.declared.entry.Entry.{Entry}
use Rattle.point_core.specs.declared.context.TheConstants.{CONTEXTS}
use Rattle.point_core.specs.Agreement.{point_of}
use Rattle.point_core.proofs.Agreement.{HasContexts-append}
use Rattle.words_core.specs.theorem.Seat.{SeatModel, raised_to, with_steps}
use Rattle.words_core.specs.theorem.Words.{WordsModel}
use Rattle.words_core.specs.declared.trace.Step.{Step}
use Rattle.resv_core.specs.declared.tops.Tops.{Tops}
use Rattle.resv_core.specs.Resv.{entry_of}
use Rattle.resv_core.specs.Shared.{HasStepped}
use Rattle.resv_core.specs.Tops.{AreTops}
use Rattle.clients_core.specs.Board.{Place, TakesIn, raised_entry, word_at}

pub TakesIn-none : (tops : Tops) → TakesIn [] tops tops
TakesIn-none tops = record {
  tops = λ reach es is. subst (λ (fs : List Entry). AreTops tops reach fs) (sym (append-nil es)) is;
  contexts = All-nil (λ (e : Entry). (1 ≤ e.point.ctx) × (e.point.ctx ≤ CONTEXTS));
}

pub TakesIn-append : {es fs : List Entry} {old middle new : Tops} → TakesIn es old middle → TakesIn fs middle new → TakesIn (es ++ fs) old new
TakesIn-append {es} {fs} {old} {middle} {new} h k = record {
  tops = λ reach before is. subst (λ (gs : List Entry). AreTops new reach gs) (append_assoc before es fs) (k.tops reach (before ++ es) (h.tops reach before is));
  contexts = HasContexts-append es fs h.contexts k.contexts;
}

-- what one more of a list comes to
pub flat_map-take_more : {A B : Type 0} (f : A → List B) (xs : List A) (i : ℕ) (x : A) → i < length xs → x ≡ get_or xs i x → flat_map f (take (i + 1) xs) ≡ flat_map f (take i xs) ++ f x
flat_map-take_more f xs i x within at =
    ap (flat_map f) (take_more xs i x within ∙ ap (λ y. take i xs ++ y ∷ []) (sym at))
    ∙ flat_map-append f (take i xs) (x ∷ [])
    ∙ ap (λ ys. flat_map f (take i xs) ++ ys) (append-nil (f x))

-- a seat that knows of the same raises gives the same entries
pub raised_entries-same : (words : WordsModel) (first later : SeatModel) (buffer : ℕ) (ps : List Place) → ((w : ℕ) → raised_to later w ≡ raised_to first w) → map (raised_entry words later buffer) ps ≡ map (raised_entry words first buffer) ps
raised_entries-same words first later buffer ps same = λ i. map (λ p. entry_of (point_of p.0 (same (word_at words buffer p) i)) p.1) ps

pub HasStepped-none : (seat : SeatModel) → HasStepped seat seat
HasStepped-none seat = ([], ap (λ (steps : List Step). record seat { trace = steps }) (sym (append-nil seat.trace)))

pub HasStepped-append : (first middle last : SeatModel) → HasStepped first middle → HasStepped middle last → HasStepped first last
HasStepped-append first middle last h k = (
  h.0 ++ k.0,
  k.1 ∙ ap (λ (s : SeatModel). with_steps s k.0) h.1 ∙ ap (λ (steps : List Step). record first { trace = steps }) (append_assoc first.trace h.0 k.0),
)

-- of one place, by a seat that knows of the same raises
pub TakesIn-later : (words : WordsModel) (first later : SeatModel) (buffer : ℕ) (p : Place) {old new : Tops} → ((w : ℕ) → raised_to later w ≡ raised_to first w) → TakesIn (raised_entry words later buffer p ∷ []) old new → TakesIn (raised_entry words first buffer p ∷ []) old new
TakesIn-later words first later buffer p {old} {new} same h = subst (λ (es : List Entry). TakesIn es old new) (raised_entries-same words first later buffer (p ∷ []) same) h
