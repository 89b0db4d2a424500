-- A look at a board shows what its seat has raised.
use Rattle.std.proofs.Common.{◌≡◌, ℕ, zero, suc, ◌+◌, ◌≤◌, List, [], ◌∷◌, ◌++◌, map, refl, sym, ap, ◌∙◌, subst, inl, inr, arith, true, All}
use Rattle.std.proofs.lemmas.Bool.{cases_lt}
use Rattle.std.proofs.lemmas.List.Elements.{All-cons, All-head, All-nil, All-tail, All-weaker}
use Rattle.point_core.specs.declared.context.TheConstants.{CONTEXTS}
use Rattle.point_core.specs.declared.entry.Entry.{Entry}
use Rattle.point_core.specs.declared.entry.Usage.{Usage}
use Rattle.point_core.specs.declared.entry.Usage.TheVariants.{Kernel, Write, Read, Bookkeep}
use Rattle.point_core.specs.declared.listing.Listing.{Listing}
use Rattle.point_core.specs.Agreement.{HasContexts, applies, as_entries, top}
use Rattle.point_core.specs.Latest.{raised_to as latest_of}
use Rattle.point_core.specs.Reach.{value_at}
use Rattle.point_core.specs.Usage.{usage_number}
use Rattle.point_core.proofs.Agreement.{raised_to-pending, top-listing}
use Rattle.point_core.proofs.Latest.{applies-true, put_if, put_if-above, raised_to-if}
use Rattle.words_core.specs.theorem.Seat.{SeatModel, raised_to}
use Rattle.words_core.specs.theorem.Words.{WordsModel}
use Rattle.clients_core.specs.Board.{HasLooked, IsNoLess, IsRaisedBy, Place, place_of, place_to, places_at, places_to, word_at}
use Rattle.clients_core.specs.Looks.{shows_all}
use Rattle.clients_core.proofs.Looking.{entry-shown, shown_at}
use Rattle.clients_core.proofs.Showing.{place_to-within, places_to-more}

All-left : {X : Type 0} (P : X → Type 0) (xs ys : List X) → All P (xs ++ ys) → All P xs
All-left P [] ys h = All-nil P
All-left P (x ∷ xs) ys h = All-cons P x xs (All-head P x (xs ++ ys) h) (All-left P xs ys (All-tail P x (xs ++ ys) h))

All-right : {X : Type 0} (P : X → Type 0) (xs ys : List X) → All P (xs ++ ys) → All P ys
All-right P [] ys h = h
All-right P (x ∷ xs) ys h = All-right P xs ys (All-tail P x (xs ++ ys) h)

-- what holds of all places up to a level holds of each

of-place_to : (P : Place → Type 0) (level usage : Usage) (ctx : ℕ) → usage_number usage ≤ usage_number level → All P (place_to level ctx usage) → P (ctx, usage)
of-place_to P level usage ctx low h = All-head P (ctx, usage) [] (rw (place_to-within level usage ctx low) at h)

of-places_at : (P : Place → Type 0) (level usage : Usage) (ctx : ℕ) → usage_number usage ≤ usage_number level → All P (places_at level ctx) → P (ctx, usage)
of-places_at P level Kernel ctx low h = of-place_to P level Kernel ctx low (All-left P (place_to level ctx Kernel) _ h)
of-places_at P level Write ctx low h = of-place_to P level Write ctx low (All-left P (place_to level ctx Write) _ (All-right P (place_to level ctx Kernel) _ h))
of-places_at P level Read ctx low h = of-place_to P level Read ctx low (All-left P (place_to level ctx Read) _ (All-right P (place_to level ctx Write) _ (All-right P (place_to level ctx Kernel) _ h)))
of-places_at P level Bookkeep ctx low h = of-place_to P level Bookkeep ctx low (All-left P (place_to level ctx Bookkeep) _ (All-right P (place_to level ctx Read) _ (All-right P (place_to level ctx Write) _ (All-right P (place_to level ctx Kernel) _ h))))

of-places_to : (P : Place → Type 0) (level usage : Usage) (n ctx : ℕ) → usage_number usage ≤ usage_number level → 1 ≤ ctx → ctx ≤ n → All P (places_to level n) → P (ctx, usage)
of-places_to P level usage zero ctx low from to h = absurd (omega arith)
of-places_to P level usage (suc n) ctx low from to h =
    let next : suc n ≡ n + 1 = omega arith in
    let parts : All P (places_to level n ++ places_at level (suc n)) = subst (All P) (ap (places_to level) next ∙ places_to-more level n (suc n) next) h in
    elim (cases_lt n ctx) [
      | inl last ↦
          let is : ctx ≡ suc n = omega arith in
          of-places_at P level usage ctx low (subst (λ (c : ℕ). All P (places_at level c)) (sym is) (All-right P (places_to level n) (places_at level (suc n)) parts))
      | inr before ↦ of-places_to P level usage n ctx low from (omega arith) (All-left P (places_to level n) (places_at level (suc n)) parts)
    ]

-- each place's raise is at most the latest of the entries, above any value

abbrev IsWithinLatest : WordsModel → ℕ → SeatModel → ℕ → List Entry → Place → Type 0
IsWithinLatest words buffer seat level es p =
    (value : ℕ) → usage_number p.1 ≤ level → raised_to seat (word_at words buffer p) ≤ latest_of value (top es level p.0)

all-within : (words : WordsModel) (buffer : ℕ) (seat : SeatModel) (level : ℕ) (es : List Entry) → All (λ (e : Entry). raised_to seat (word_at words buffer (place_of e)) ≤ e.point.value) es → All (IsWithinLatest words buffer seat level es) (map place_of es)
all-within words buffer seat level [] own = All-nil (IsWithinLatest words buffer seat level [])
all-within words buffer seat level (e ∷ es) own =
    let Own = λ (f : Entry). raised_to seat (word_at words buffer (place_of f)) ≤ f.point.value in
    let P = IsWithinLatest words buffer seat level (e ∷ es) in
    let first : P (place_of e) = λ value low.
    let mine = All-head Own e es own in
    let is = raised_to-if (applies e level e.point.ctx) value e.point.value (top es level e.point.ctx) in
    let put = ap (λ b. put_if b e.point.value (latest_of value (top es level e.point.ctx))) (applies-true e level e.point.ctx low refl) in
    omega (arith, mine, is, put) in
    let rest = all-within words buffer seat level es (All-tail Own e es own) in
    All-cons P (place_of e) (map place_of es) first
    (All-weaker (IsWithinLatest words buffer seat level es) P
    (λ p within value low.
    let before = within value low in
    let is = raised_to-if (applies e level p.0) value e.point.value (top es level p.0) in
    let above = put_if-above (applies e level p.0) e.point.value (latest_of value (top es level p.0)) in
    omega (arith, before, is, above))
    (map place_of es)
    rest)

-- an entry that the seat has raised is shown
own-late : (words : WordsModel) (buffer : ℕ) (level : Usage) (before after : SeatModel) (l : Listing) (e : Entry) → HasLooked words buffer level before after l → IsRaisedBy words buffer before e → 1 ≤ e.point.ctx → e.point.ctx ≤ CONTEXTS → usage_number e.usage ≤ usage_number level → e.point.value ≤ shown_at l e.point.ctx
own-late words buffer level before after l e h raised from to low =
    let n = usage_number level in
    let P = IsWithinLatest words buffer before n h.entries in
    let value = value_at l.floor e.point.ctx in
    let within = of-places_to P level e.usage words.contexts e.point.ctx low from raised.0 (subst (All P) h.at (all-within words buffer before n h.entries (All-weaker (IsNoLess words buffer before) (λ (f : Entry). raised_to before (word_at words buffer (place_of f)) ≤ f.point.value) (λ f own. own.raised) h.entries h.own))) value low in
    let shown : shown_at l e.point.ctx ≡ latest_of value (top h.entries n e.point.ctx) =
    ap (λ ps. latest_of value (top (as_entries ps) 0 e.point.ctx)) h.points
    ∙ ap (latest_of value) (top-listing h.entries n l.floor 0 e.point.ctx from to)
    ∙ raised_to-pending (omega arith) (top h.entries n e.point.ctx) in
    let mine = raised.1 in
    omega (arith, within, shown, mine)

pub own-shown : (words : WordsModel) (buffer : ℕ) (level : Usage) (before after : SeatModel) (l : Listing) (es : List Entry) → HasLooked words buffer level before after l → HasContexts es → All (IsRaisedBy words buffer before) es → shows_all l (usage_number level) es ≡ true
own-shown words buffer level before after l [] h contexts raised = refl
own-shown words buffer level before after l (e ∷ es) h contexts raised =
    let C = λ (f : Entry). (1 ≤ f.point.ctx) × (f.point.ctx ≤ CONTEXTS) in
    let at = All-head C e es contexts in
    let here = entry-shown l (usage_number level) e (own-late words buffer level before after l e h (All-head (IsRaisedBy words buffer before) e es raised) at.0 at.1) in
    let rest = own-shown words buffer level before after l es h (All-tail C e es contexts) (All-tail (IsRaisedBy words buffer before) e es raised) in
    rw (here, rest) refl
