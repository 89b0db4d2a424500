-- Looks by the places of their parts.
use Rattle.std.proofs.Common.{◌≡◌, ℕ, zero, suc, ◌+◌, ◌<◌, take, refl, sym, ap, ◌∙◌, subst, List, [], ◌∷◌, ◌++◌, length, length-append, map, Option, Some, slice_get, get_or, inl, inr, Contains, arith}
use Rattle.std.specs.Prelude.{All}
use Rattle.std.proofs.lemmas.List.{take_more, append-nil, append_assoc, map-append, length-map, get_or-map}
use Rattle.std.proofs.lemmas.List.Elements.{All-nil, All-cons, All-head, All-tail, All-push, All-weaker}
use Rattle.std.proofs.lemmas.Option.{same_Some, none-some}
use Rattle.explore_core.specs.declared.look.FileLook.{FileLook}
use Rattle.explore_core.specs.declared.parts.Parts.{Parts}
use Rattle.explore_core.specs.declared.parts.Places.{Places}
use Rattle.explore_core.specs.declared.state.State.{State}
use Rattle.explore_core.specs.Search.{Look, Seen, Begins, no_file, file_at, look_of, Fits, IsGrown, AreSamePlaces, AreSameLooks, HasSame, Keeps, seen_in, states_of}
use Rattle.explore_core.proofs.Finding.{All-next, get_or-any}

-- a list that grows

pub Begins-refl : {X : Type 0} (xs : List X) → Begins xs xs
Begins-refl xs = record { added = []; is = sym (append-nil xs) }

pub Begins-same : {X : Type 0} (old new : List X) → new ≡ old → Begins old new
Begins-same old new same = record { added = []; is = same ∙ sym (append-nil old) }

pub Begins-trans : {X : Type 0} {a b c : List X} → Begins a b → Begins b c → Begins a c
Begins-trans {X} {a} {b} {c} g h = record {
  added = g.added ++ h.added;
  is = h.is ∙ ap (λ (xs : List X). xs ++ h.added) g.is ∙ append_assoc a g.added h.added;
}

get-grown : {X : Type 0} (xs ys : List X) (i : ℕ) (d : X) → i < length xs → get_or (xs ++ ys) i d ≡ get_or xs i d
get-grown [] ys i d low = absurd (omega (arith, low))
get-grown (x ∷ xs) ys zero d low = refl
get-grown (x ∷ xs) ys (suc i) d low = get-grown xs ys i d (omega (arith, low))

at-grown : {X : Type 0} {old new : List X} → Begins old new → (i : ℕ) (d : X) → i < length old → get_or new i d ≡ get_or old i d
at-grown {X} {old} {new} g i d low = ap (λ (xs : List X). get_or xs i d) g.is ∙ get-grown old g.added i d low

low-grown : {X : Type 0} {old new : List X} → Begins old new → (i : ℕ) → i < length old → i < length new
low-grown {X} {old} {new} g i low = omega (arith, low, ap length g.is, length-append old g.added)

pub place-at : {X : Type 0} (xs : List X) (i : ℕ) (x d : X) → slice_get xs i ≡ Some x → (i < length xs) × (get_or xs i d ≡ x)
place-at [] i x d at = absurd (none-some x at)
place-at (y ∷ ys) zero x d at = (omega arith, same_Some y x at)
place-at (y ∷ ys) (suc i) x d at = let rest = place-at ys i x d at in (omega (arith, rest.0), rest.1)

pub pushed-at : {X : Type 0} (xs : List X) (x : X) → slice_get (xs ++ x ∷ []) (length xs) ≡ Some x
pushed-at [] x = refl
pushed-at (y ∷ ys) x = pushed-at ys x

-- places one after another

pub Contains-at : {X : Type 0} (xs : List X) (i : ℕ) (d x : X) → i < length xs → get_or xs i d ≡ x → Contains xs x
Contains-at xs i d x low is = (i, low, get_or-any xs i x d low ∙ is)

pub All-next-at : {X : Type 0} (P : X → Type 0) (xs : List X) (i : ℕ) (d : X) → i < length xs → All P (take i xs) → P (get_or xs i d) → All P (take (i + 1) xs)
All-next-at P xs i d low before here = All-next P xs i (get_or xs i d) low (get_or-any xs i d (get_or xs i d) low) before here

-- files by their places

pub Places-grown : {old new : List FileLook} → Begins old new → (places : List ℕ) → All (λ (i : ℕ). i < length old) places → All (λ (i : ℕ). i < length new) places
Places-grown {old} {new} g places all = All-weaker (λ (i : ℕ). i < length old) (λ (i : ℕ). i < length new) (λ i low. low-grown g i low) places all

files-grown : {old new : List FileLook} → Begins old new → (places : List ℕ) → All (λ (i : ℕ). i < length old) places → map (file_at new) places ≡ map (file_at old) places
files-grown g [] all = refl
files-grown {old} {new} g (i ∷ places) all =
    let P : ℕ → Type 0 = λ (j : ℕ). j < length old in
    ap (λ (f : FileLook). f ∷ map (file_at new) places) (at-grown g i no_file (All-head P i places all))
    ∙ ap (λ (fs : List FileLook). file_at old i ∷ fs) (files-grown g places (All-tail P i places all))

pub files-next : {old new : List FileLook} → Begins old new → (look : List ℕ → FileLook) (names : List (List ℕ)) (places : List ℕ) → All (λ (i : ℕ). i < length old) places
    → (i : ℕ) (name : List ℕ) → i < length names → name ≡ get_or names i name → map (file_at old) places ≡ map look (take i names)
    → (place : ℕ) → slice_get new place ≡ Some (look name) → map (file_at new) (places ++ place ∷ []) ≡ map look (take (i + 1) names)
files-next {old} {new} g look names places all i name low at before place there =
    map-append (file_at new) places (place ∷ [])
    ∙ ap (λ (fs : List FileLook). fs ++ file_at new place ∷ []) (files-grown g places all ∙ before)
    ∙ ap (λ (f : FileLook). map look (take i names) ++ f ∷ []) (place-at new place (look name) no_file there).1
    ∙ sym (map-append look (take i names) (name ∷ []))
    ∙ ap (map look) (sym (take_more names i name low ∙ ap (λ (d : List ℕ). take i names ++ d ∷ []) (sym at)))

pub fit-put : {old new : List FileLook} → Begins old new → (places : List ℕ) → All (λ (i : ℕ). i < length old) places → (place : ℕ) (file : FileLook) → slice_get new place ≡ Some file
    → All (λ (i : ℕ). i < length new) (places ++ place ∷ [])
fit-put {old} {new} g places all place file there =
    All-push (λ (i : ℕ). i < length new) places place (Places-grown g places all) (place-at new place file no_file there).0

-- looks by their places

pub look-grown : {old new : Parts} → IsGrown old new → (places : Places) → Fits old places → look_of new places ≡ look_of old places
look-grown {old} {new} g places fits =
    let timelines = at-grown g.timelines places.timelines [] fits.timelines in
    let files = files-grown g.files places.files.items fits.files in
    let buffers = at-grown g.buffers places.buffers [] fits.buffers in
    λ i. record { timelines = timelines i; files = files i; buffers = buffers i }

pub Fits-grown : {old new : Parts} → IsGrown old new → (places : Places) → Fits old places → Fits new places
Fits-grown g places fits = record {
  timelines = low-grown g.timelines places.timelines fits.timelines;
  files = Places-grown g.files places.files.items fits.files;
  buffers = low-grown g.buffers places.buffers fits.buffers;
}

among-map : (f : ℕ → FileLook) (places others : List ℕ) → All (Contains others) places → All (λ (file : FileLook). Contains (map f others) file) (map f places)
among-map f [] others all = All-nil (λ (file : FileLook). Contains (map f others) file)
among-map f (i ∷ places) others all =
    let there = All-head (Contains others) i places all in
    All-cons (λ (file : FileLook). Contains (map f others) file) (f i) (map f places)
    (there.0, omega (arith, there.1, length-map others f), get_or-map f others there.0 i (f i) there.1 ∙ ap f there.2)
    (among-map f places others (All-tail (Contains others) i places all))

same-looks : (parts : Parts) (a b : Places) → AreSamePlaces a b → AreSameLooks (look_of parts a) (look_of parts b)
same-looks parts a b same = record {
  timelines = ap (λ i. get_or parts.timelines i []) same.timelines;
  buffers = ap (λ i. get_or parts.buffers i []) same.buffers;
  there = among-map (file_at parts.files) a.files.items b.files.items same.there;
  here = among-map (file_at parts.files) b.files.items a.files.items same.here;
  count = length-map a.files.items (file_at parts.files) ∙ same.count ∙ sym (length-map b.files.items (file_at parts.files));
}

-- the states that a level keeps

pub fit-grown : {old new : Parts} → IsGrown old new → (all : List Places) → All (Fits old) all → All (Fits new) all
fit-grown {old} {new} g all fits = All-weaker (Fits old) (Fits new) (λ places here. Fits-grown g places here) all fits

pub seen-grown : {old new : Parts} → IsGrown old new → (states : List State) (all : List Places) → All (Fits old) all → seen_in new states all ≡ seen_in old states all
seen-grown g [] all fits = refl
seen-grown g (s ∷ states) [] fits = refl
seen-grown {old} {new} g (s ∷ states) (p ∷ all) fits =
    let seen : Look → Seen = λ (l : Look). record { state = s; look = l } in
    ap (λ (x : Seen). x ∷ seen_in new states all) (ap seen (look-grown g p (All-head (Fits old) p all fits)))
    ∙ ap (λ (xs : List Seen). seen (look_of old p) ∷ xs) (seen-grown g states all (All-tail (Fits old) p all fits))

seen-at : (parts : Parts) (states : List State) (all : List Places) (i : ℕ) (s : State) (p : Places) → slice_get states i ≡ Some s → slice_get all i ≡ Some p
    → slice_get (seen_in parts states all) i ≡ Some (record { state = s; look = look_of parts p })
seen-at parts [] all i s p state places = absurd (none-some s state)
seen-at parts (t ∷ states) [] i s p state places = absurd (none-some p places)
seen-at parts (t ∷ states) (q ∷ all) zero s p state places =
    let seen : State → Places → Option Seen = λ (x : State) (y : Places). Some (record { state = x; look = look_of parts y }) in
    ap (λ (x : State). seen x q) (same_Some t s state) ∙ ap (seen s) (same_Some q p places)
seen-at parts (t ∷ states) (q ∷ all) (suc i) s p state places = seen-at parts states all i s p state places

seen-pushed : (parts : Parts) (states : List State) (all : List Places) (s : State) (p : Places) → length all ≡ length states
    → seen_in parts (states ++ s ∷ []) (all ++ p ∷ []) ≡ seen_in parts states all ++ record { state = s; look = look_of parts p } ∷ []
seen-pushed parts [] [] s p even = refl
seen-pushed parts [] (q ∷ all) s p even = absurd (omega (arith, even))
seen-pushed parts (t ∷ states) [] s p even = absurd (omega (arith, even))
seen-pushed parts (t ∷ states) (q ∷ all) s p even =
    let seen : Seen = record { state = t; look = look_of parts q } in
    ap (λ (ss : List Seen). seen ∷ ss) (seen-pushed parts states all s p (omega (arith, even)))

pub even-pushed : (states : List State) (all : List Places) (s : State) (p : Places) → length all ≡ length states → length (all ++ p ∷ []) ≡ length (states ++ s ∷ [])
even-pushed states all s p even = omega (arith, even, length-append all (p ∷ []), length-append states (s ∷ []))

module _ {old new : Parts} (g : IsGrown old new) (states : List State) (all : List Places) (fits : All (Fits old) all) (state : State) (places : Places) (look : Look) (is : look_of new places ≡ look) where
  pub Keeps-found : HasSame states all state places → Keeps (seen_in old states all) (record { state = state; look = look }) (seen_in new states all)
  Keeps-found same =
      let grown = seen-grown g states all fits in
      let other : Seen = record { state = same.other; look = look_of new same.others } in
      let there = place-at (seen_in new states all) same.place other other (seen-at new states all same.place same.other same.others same.state_at same.places_at) in
      inl (
        grown,
        other,
        subst (λ (ss : List Seen). Contains ss other) grown (same.place, there.0, there.1),
        record { made = same.made; look = subst (λ (l : Look). AreSameLooks l (look_of new same.others)) is (same-looks new places same.others same.look) },
      )

  pub Keeps-pushed : length all ≡ length states → Keeps (seen_in old states all) (record { state = state; look = look }) (seen_in new (states ++ state ∷ []) (all ++ places ∷ []))
  Keeps-pushed even =
      let seen : Look → Seen = λ (l : Look). record { state = state; look = l } in
      inr (seen-pushed new states all state places even ∙ ap (λ (ss : List Seen). ss ++ seen (look_of new places) ∷ []) (seen-grown g states all fits)
      ∙ ap (λ (l : Look). seen_in old states all ++ seen l ∷ []) is)

  pub fit-pushed : Fits new places → All (Fits new) (all ++ places ∷ [])
  fit-pushed here = All-push (Fits new) all places (fit-grown g all fits) here

pub kept-states : (parts : Parts) (states : List State) (all : List Places) → length all ≡ length states → states_of (seen_in parts states all) ≡ states
kept-states parts [] all even = refl
kept-states parts (s ∷ states) [] even = absurd (omega (arith, even))
kept-states parts (s ∷ states) (p ∷ all) even = ap (λ (ss : List State). s ∷ ss) (kept-states parts states all (omega (arith, even)))
