-- A board: what looks at its words show, and what was raised on it.
use Rattle.std.specs.Prelude.{◌≡◌, ℕ, ◌<◌, ◌≤◌, nat_le, List, [], ◌∷◌, ◌++◌, if◌then◌else◌, map, All, Option, option_map}
use Rattle.std.specs.List.{filter_map, flat_map, range_with_len}
use Rattle.point_core.specs.declared.entry.Point.{Point}
use Rattle.point_core.specs.declared.entry.Entry.{Entry}
use Rattle.point_core.specs.declared.entry.Usage.{Usage}
use Rattle.point_core.specs.declared.entry.Usage.TheVariants.{Kernel, Write, Read, Bookkeep}
use Rattle.point_core.specs.declared.listing.Listing.{Listing}
use Rattle.point_core.specs.Agreement.{AgreesAbove, HasContexts, listing, pending_top, point_of, top}
use Rattle.point_core.specs.Latest.{raised_to as later_value}
use Rattle.point_core.specs.Usage.{usage_number}
use Rattle.words_core.specs.declared.trace.Step.{Step}
use Rattle.words_core.specs.theorem.Layout.{board_word}
use Rattle.words_core.specs.theorem.Loads.{HasLoadedAll}
use Rattle.words_core.specs.theorem.Seat.{SeatModel, raised_to, seen, with_step, with_steps}
use Rattle.words_core.specs.theorem.Trace.{raise, shown}
use Rattle.words_core.specs.theorem.Words.{WordsModel}
use Rattle.resv_core.specs.declared.plan.Act.{Act}
use Rattle.resv_core.specs.Resv.{entry_of}
use Rattle.resv_core.specs.Settled.{all_puts}
use Rattle.resv_core.specs.Tops.{AreTops}
use Rattle.resv_core.specs.declared.tops.Tops.{Tops}

-- a place of a buffer's board: a context and a usage
abbrev pub Place : Type 0
Place = ℕ × Usage

abbrev pub place_of : Entry → Place
place_of e = (e.point.ctx, e.usage)

-- the word of a place
abbrev pub word_at : WordsModel → ℕ → Place → ℕ
word_at words buffer place = board_word words buffer place.0 place.1

-- the place, if its usage is up to the level
abbrev pub place_to : Usage → ℕ → Usage → List Place
place_to level ctx usage = if nat_le (usage_number usage) (usage_number level) then (ctx, usage) ∷ [] else []

-- a context's places up to the level, from the strongest usage
abbrev pub places_at : Usage → ℕ → List Place
places_at level ctx = flat_map (place_to level ctx) (Kernel ∷ Write ∷ Read ∷ Bookkeep ∷ [])

-- the places of the first contexts up to the level, by rising number
abbrev pub places_to : Usage → ℕ → List Place
places_to level contexts = flat_map (places_at level) (range_with_len 1 contexts)

-- the fence was put by one raise of its place, which left a value that is no less than its point, nor than what the seat
-- had seen there
pub record HasRaised (words : WordsModel) (buffer : ℕ) (e : Entry) (before after : SeatModel) : Type 0 where
  pub value : ℕ
  pub step : after ≡ with_step before (raise (word_at words buffer (place_of e)) e.point.value value)
  pub point : e.point.value ≤ value
  pub later : seen before (word_at words buffer (place_of e)) ≤ value

-- the entry's point is no less than what the seat had seen at its place, nor than what it had raised it to
pub record IsNoLess (words : WordsModel) (buffer : ℕ) (seat : SeatModel) (e : Entry) : Type 0 where
  pub seen_there : seen seat (word_at words buffer (place_of e)) ≤ e.point.value
  pub raised : raised_to seat (word_at words buffer (place_of e)) ≤ e.point.value

-- the look at a place that showed the entry's point
abbrev pub look_at : WordsModel → ℕ → Entry → Step
look_at words buffer e = shown (word_at words buffer (place_of e)) e.point.value

-- the latest pending point of a context, as a listing has it
abbrev pub pending_point : List ℕ → List Entry → ℕ → ℕ → Option Point
pending_point reach es level ctx = option_map (point_of ctx) (pending_top reach es level ctx)

-- Each of these places of a context is looked at once, in order. Each shows an entry that is no earlier than the seat
-- knew, and the value becomes the latest of `old` and these entries
pub record HasShown (words : WordsModel) (buffer level ctx : ℕ) (places : List Place)
    (before after : SeatModel) (old new : ℕ) : Type 0 where
  pub entries : List Entry
  pub at : map place_of entries ≡ places
  pub steps : after ≡ with_steps before (map (look_at words buffer) entries)
  pub contexts : All (λ e. e.point.ctx ≡ ctx) entries
  pub latest : new ≡ later_value old (top entries level ctx)
  pub own : All (IsNoLess words buffer before) entries

-- one look at each place of the first contexts up to the level, in order: the same, and their pending points
pub record HasListed (words : WordsModel) (buffer : ℕ) (level : Usage) (contexts : ℕ)
    (before after : SeatModel) (reach : List ℕ) (points : List Point) : Type 0 where
  pub entries : List Entry
  pub at : map place_of entries ≡ places_to level contexts
  pub steps : after ≡ with_steps before (map (look_at words buffer) entries)
  pub within : All (λ e. e.point.ctx ≤ contexts) entries
  pub pending : points ≡ filter_map (pending_point reach entries (usage_number level)) (range_with_len 1 contexts)
  pub own : All (IsNoLess words buffer before) entries

-- the loads of each clock, then one look at each place of the buffer up to the level: the entries that these showed, none
-- below what the seat knew of its place, and their listing
pub record HasLooked (words : WordsModel) (buffer : ℕ) (level : Usage) (before after : SeatModel) (listed : Listing) : Type 0 where
  pub seat : SeatModel
  pub loaded : HasLoadedAll before seat listed.floor
  pub entries : List Entry
  pub at : map place_of entries ≡ places_to level words.contexts
  pub steps : after ≡ with_steps seat (map (look_at words buffer) entries)
  pub points : listed.points ≡ listing entries (usage_number level) listed.floor
  pub own : All (IsNoLess words buffer before) entries

-- the seat has raised the entry's place to its point or a later one
abbrev pub IsRaisedBy : WordsModel → ℕ → SeatModel → Entry → Type 0
IsRaisedBy words buffer seat e =
    (e.point.ctx ≤ words.contexts) × (e.point.value ≤ raised_to seat (word_at words buffer (place_of e)))

-- the tables have these entries too
pub record TakesIn (entries : List Entry) (old new : Tops) : Type 0 where
  pub tops : (reach : List ℕ) (es : List Entry) → AreTops old reach es → AreTops new reach (es ++ entries)
  pub contexts : HasContexts entries

-- the greatest point that a place was raised to, if the seat has all parts
abbrev pub raised_entry : WordsModel → SeatModel → ℕ → Place → Entry
raised_entry words seat buffer place = entry_of (point_of place.0 (raised_to seat (word_at words buffer place))) place.1

-- all that was raised in a buffer
abbrev pub raised_in : WordsModel → SeatModel → ℕ → List Entry
raised_in words seat buffer = map (raised_entry words seat buffer) (places_to Bookkeep words.contexts)

-- above the values, each buffer has what the plans put in
abbrev pub AreAsPlanned : WordsModel → SeatModel → List (List Act) → List ℕ → Type 0
AreAsPlanned words seat plans values =
    (buffer : ℕ) → buffer < words.buffers → AgreesAbove values (raised_in words seat buffer) (all_puts buffer plans)
