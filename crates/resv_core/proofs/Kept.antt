-- Tables that are kept: points that change nothing, and the entries that the tables represent.
use Rattle.std.proofs.Common.{◌≡◌, ℕ, ◌+◌, ◌-◌, ◌*◌, ◌<◌, ◌≤◌, zero, suc, max, refl, sym, ap, ◌∙◌, subst, List, [], ◌∷◌, ◌++◌, length, replicate, append_assoc, append-nil, Option, None, Some, arith, Bool, true, false, nat_lt, if◌then◌else◌, inl, inr, All}
use Rattle.std.specs.Prelude.{option_map}
use Rattle.std.specs.List.{flat_map, range_with_len}
use Rattle.std.proofs.lemmas.Bool.{cases_lt, lt-ltb, le-ltb}
use Rattle.std.proofs.lemmas.List.{length-append, get_or_past}
use Rattle.std.proofs.lemmas.List.Concat.{flat_map-cons}
use Rattle.std.proofs.lemmas.List.Elements.{All-nil, All-cons, All-append, All-contains}
use Rattle.point_core.specs.declared.context.TheConstants.{CONTEXTS}
use Rattle.point_core.specs.declared.entry.Point.{Point}
use Rattle.point_core.specs.declared.entry.Entry.{Entry}
use Rattle.point_core.specs.declared.entry.Usage.{Usage}
use Rattle.point_core.specs.declared.entry.Usage.TheVariants.{Kernel, Write, Read, Bookkeep}
use Rattle.point_core.specs.Usage.{usage_number}
use Rattle.point_core.specs.Reach.{value_at, IsAtLeast}
use Rattle.point_core.specs.Agreement.{applies, top, pending, pending_top, point_of, contexts, listing, AgreesAbove, HasContexts, IsReached}
use Rattle.point_core.specs.Latest.{raised_to, IsLatest, point_above, points_above}
use Rattle.point_core.proofs.Latest.{put_if, raised_to-top-last}
use Rattle.point_core.proofs.Listings.{filter_map-range_same}
use Rattle.point_core.proofs.Values.{value_at-replicate}
use Rattle.point_core.proofs.Agreement.{AppliesAt-from_true, AgreesAbove-from_raised, AgreesAbove-later, AgreesAbove-sym, raised_to-higher, raised_to-top-above, top-Some, top-outside}
use Rattle.resv_core.specs.declared.tops.Tops.{Tops}
use Rattle.resv_core.specs.Resv.{IsTable, IsTrimmed, entry_of}
use Rattle.resv_core.specs.Tops.{AreTops, entry_above, entries_at}
use Rattle.resv_core.specs.TopTable.{AreDropped, AreRising, entries_of, pending_value}
use Rattle.resv_core.proofs.Compaction.{IsCompacted, IsCompacted-none, IsCompacted-more, AgreesAbove-IsCompacted, AreTops-IsRising, AreTops-at, HasContexts-IsCompacted, cases_context, raised_to-top-stronger, table_at}

pub value_at-none : (ctx : ℕ) → value_at [] ctx ≡ 0
value_at-none ctx = get_or_past [] (ctx - 1) 0 (omega arith)

-- every reach is at least the empty one
pub IsAtLeast-none : (reach : List ℕ) → IsAtLeast reach []
IsAtLeast-none reach = record { values = λ ctx. let none = value_at-none ctx in omega arith }

-- ---- a point that is not later than the usage's

put_if-needless : (b : Bool) (p value : ℕ) → (b ≡ true → p ≤ value) → put_if b p value ≡ value
put_if-needless true p value low = let is = low refl in omega arith
put_if-needless false p value low = refl

IsLatest-needless : {latest reach : List ℕ} {es : List Entry} {level : ℕ} (e : Entry) → IsLatest latest reach es level → e.point.value ≤ raised_to (value_at reach e.point.ctx) (top es (usage_number e.usage) e.point.ctx) → IsLatest latest reach (es ++ e ∷ []) level
IsLatest-needless {latest} {reach} {es} {level} e h low = record {
  values = λ ctx from to.
      h.values ctx from to
      ∙ sym (raised_to-top-last (value_at reach ctx) es e level ctx
      ∙ put_if-needless (applies e level ctx) e.point.value (raised_to (value_at reach ctx) (top es level ctx)) (λ applied.
      let at = AppliesAt-from_true e level ctx applied in
      let below : e.point.value ≤ raised_to (value_at reach ctx) (top es (usage_number e.usage) ctx) = rw (← at.1) low in
      let weaker = raised_to-top-stronger (value_at reach ctx) es (usage_number e.usage) level ctx at.0 in
      omega arith));
}

pub AreTops-needless : {tops : Tops} {reach latest : List ℕ} {es : List Entry} (point : Point) (usage : Usage) → AreTops tops reach es → IsLatest latest reach es (usage_number usage) → 1 ≤ point.ctx → point.ctx ≤ CONTEXTS → point.value ≤ value_at latest point.ctx → AreTops tops reach (es ++ entry_of point usage ∷ [])
AreTops-needless {tops} {reach} {latest} {es} point usage h tell low high below =
    let has : point.value ≤ raised_to (value_at reach point.ctx) (top es (usage_number usage) point.ctx) = rw (← tell.values point.ctx low high) below in
    record {
      kernel = IsLatest-needless (entry_of point usage) h.kernel has;
      write = IsLatest-needless (entry_of point usage) h.write has;
      read = IsLatest-needless (entry_of point usage) h.read has;
      bookkeep = IsLatest-needless (entry_of point usage) h.bookkeep has;
    }

-- ---- points above a reach that is at least the tables'

point_above-risen : (reached lower ctx : ℕ) (t : Option ℕ) → lower ≤ reached → (if nat_lt reached (raised_to lower t) then Some (point_of ctx (raised_to lower t)) else None) ≡ option_map (point_of ctx) (pending reached t)
point_above-risen reached lower ctx None low = rw (le-ltb reached lower low) refl
point_above-risen reached lower ctx (Some p) low = elim (cases_lt reached p) [
  | inl above ↦ let is : max lower p ≡ p = omega arith in rw (is, lt-ltb reached p above) refl
  | inr below ↦ rw (le-ltb reached (max lower p) (omega arith), le-ltb reached p below) refl
]

pub points_above-risen : {latest lower reach : List ℕ} {es : List Entry} {usage : ℕ} → IsLatest latest lower es usage → IsAtLeast reach lower → points_above latest reach ≡ listing es usage reach
unfolding contexts
points_above-risen {latest} {lower} {reach} {es} {usage} h high =
    filter_map-range_same (point_above latest reach) (λ ctx. option_map (point_of ctx) (pending_top reach es usage ctx)) 1 CONTEXTS
    (λ ctx from to. rw (h.values ctx from (omega arith)) (point_above-risen (value_at reach ctx) (value_at lower ctx) ctx (top es usage ctx) (high.values ctx)))

-- ---- whether all points are reached

raised_to-reached : (es : List Entry) (usage ctx value : ℕ) (t : Option ℕ) (reach : List ℕ) → top es usage ctx ≡ t → IsReached es usage reach → value ≤ value_at reach ctx → raised_to value t ≤ value_at reach ctx
raised_to-reached es usage ctx value None reach is reached low = low
raised_to-reached es usage ctx value (Some p) reach is reached low =
    let put = (top-Some es usage ctx p is).0 in
    let below = reached put.0 put.1 put.2.0 in
    let at : put.0.point.value ≤ value_at reach ctx = rw put.2.1 at below in
    let point = put.3 in
    omega arith

pub IsReached-IsLatest : {latest : List ℕ} {es : List Entry} {usage : ℕ} (reach : List ℕ) → IsLatest latest [] es usage → HasContexts es → (((ctx : ℕ) → 1 ≤ ctx → ctx ≤ CONTEXTS → value_at latest ctx ≤ value_at reach ctx) → IsReached es usage reach) × (IsReached es usage reach → (ctx : ℕ) → 1 ≤ ctx → ctx ≤ CONTEXTS → value_at latest ctx ≤ value_at reach ctx)
IsReached-IsLatest {latest} {es} {usage} reach h within = (
  λ below e among strong.
      let has = All-contains (λ (f : Entry). (1 ≤ f.point.ctx) × (f.point.ctx ≤ CONTEXTS)) es e within among in
      let put = raised_to-top-above es usage e.point.ctx (value_at [] e.point.ctx) e among (strong, refl) in
      let is = h.values e.point.ctx has.0 has.1 in
      let low = below e.point.ctx has.0 has.1 in
      omega arith,
  λ reached ctx low high. rw (h.values ctx low high) (raised_to-reached es usage ctx (value_at [] ctx) (top es usage ctx) reach refl reached (let none = value_at-none ctx in omega arith)),
)

-- ---- the entries that the tables represent

flat_map-range_more : {X : Type 0} (f : ℕ → List X) (a n : ℕ) → flat_map f (range_with_len a (suc n)) ≡ flat_map f (range_with_len a n) ++ f (a + n)
flat_map-range_more f a zero =
    let at : a ≡ a + 0 = omega arith in
    flat_map-cons f a [] ∙ append-nil (f a) ∙ ap f at
flat_map-range_more f a (suc n) =
    let at : a + 1 + n ≡ a + suc n = omega arith in
    flat_map-cons f a (range_with_len (a + 1) (suc n))
    ∙ ap (λ xs. f a ++ xs) (flat_map-range_more f (a + 1) n)
    ∙ sym (append_assoc (f a) (flat_map f (range_with_len (a + 1) n)) (f (a + 1 + n)))
    ∙ ap (λ xs. xs ++ f (a + 1 + n)) (sym (flat_map-cons f a (range_with_len (a + 1) n)))
    ∙ ap (λ k. flat_map f (range_with_len a (suc n)) ++ f k) at

IsCompacted-range : (tops : Tops) → AreRising tops → (n : ℕ) → n ≤ CONTEXTS → IsCompacted tops [] n (flat_map (entries_at tops []) (range_with_len 1 n))
IsCompacted-range tops rising zero few = IsCompacted-none tops []
IsCompacted-range tops rising (suc n) few =
    let next : n + 1 ≡ suc n = omega arith in
    let more = IsCompacted-more (IsCompacted-range tops rising n (omega arith)) (1 + n) (omega arith) (rising.each (1 + n) (omega arith) (omega arith)) in
    subst (λ k. IsCompacted tops [] k (flat_map (entries_at tops []) (range_with_len 1 (suc n)))) next
    (subst (IsCompacted tops [] (n + 1)) (sym (flat_map-range_more (entries_at tops []) 1 n)) more)

pub IsCompacted-entries_of : (tops : Tops) → AreRising tops → IsCompacted tops [] CONTEXTS (entries_of tops)
unfolding contexts
IsCompacted-entries_of tops rising = IsCompacted-range tops rising CONTEXTS (omega arith)

pub AreRising-AreTops : {tops : Tops} {es : List Entry} → AreTops tops [] es → AreRising tops
AreRising-AreTops h = record { each = λ ctx low high. AreTops-IsRising h ctx low high }

-- the tables have the latest points of their entries
pub AreTops-entries_of : (tops : Tops) → AreRising tops → AreTops tops [] (entries_of tops)
AreTops-entries_of tops rising =
    let h = IsCompacted-entries_of tops rising in
    record {
      kernel = record { values = λ ctx low high. sym (h.values 0 ctx low high) };
      write = record { values = λ ctx low high. sym (h.values 1 ctx low high) };
      read = record { values = λ ctx low high. sym (h.values 2 ctx low high) };
      bookkeep = record { values = λ ctx low high. sym (h.values 3 ctx low high) };
    }

pub HasContexts-entries_of : (tops : Tops) → AreRising tops → HasContexts (entries_of tops)
HasContexts-entries_of tops rising = HasContexts-IsCompacted (omega arith) (IsCompacted-entries_of tops rising)

-- and their entries agree with all entries that were put
pub AgreesAbove-entries_of : {tops : Tops} {es : List Entry} (reach : List ℕ) → AreTops tops [] es → HasContexts es → AgreesAbove reach (entries_of tops) es
AgreesAbove-entries_of {tops} {es} reach tell within =
    AgreesAbove-later (IsAtLeast-none reach) (AgreesAbove-sym (AgreesAbove-IsCompacted tell within (omega arith) (λ ctx past few. absurd (omega arith)) (IsCompacted-entries_of tops (AreRising-AreTops tell))))

length-entry_above : (stronger : ℕ) (point : Point) (usage : Usage) → length (entry_above stronger point usage) ≤ 1
length-entry_above stronger point usage = elim (cases_lt stronger point.value) [
  | inl above ↦ rw (lt-ltb stronger point.value above) (omega arith)
  | inr same ↦ rw (le-ltb stronger point.value same) (omega arith)
]

length-four : (a b c d : List Entry) → length a ≤ 1 → length b ≤ 1 → length c ≤ 1 → length d ≤ 1 → length (a ++ b ++ c ++ d) ≤ 4
length-four a b c d one two three four =
    let first = length-append a b in
    let second = length-append (a ++ b) c in
    let third = length-append (a ++ b ++ c) d in
    omega arith

length-range : (tops : Tops) (n : ℕ) → length (flat_map (entries_at tops []) (range_with_len 1 n)) ≤ 4 * n
length-range tops zero = omega arith
length-range tops (suc n) =
    let rest = length-range tops n in
    let ctx = 1 + n in
    let here = length-four
    (entry_above (value_at [] ctx) (point_of ctx (value_at tops.kernel ctx)) Kernel)
    (entry_above (value_at tops.kernel ctx) (point_of ctx (value_at tops.write ctx)) Write)
    (entry_above (value_at tops.write ctx) (point_of ctx (value_at tops.read ctx)) Read)
    (entry_above (value_at tops.read ctx) (point_of ctx (value_at tops.bookkeep ctx)) Bookkeep)
    (length-entry_above _ _ _) (length-entry_above _ _ _) (length-entry_above _ _ _) (length-entry_above _ _ _) in
    let both = length-append (flat_map (entries_at tops []) (range_with_len 1 n)) (entries_at tops [] ctx) in
    let more = ap length (flat_map-range_more (entries_at tops []) 1 n) in
    omega arith

length-entries_of : (tops : Tops) → length (entries_of tops) ≤ 4 * CONTEXTS
unfolding contexts
length-entries_of tops = length-range tops CONTEXTS

pub IsTable-entries_of : (tops : Tops) → AreRising tops → IsTable (record { entries = entries_of tops; room = 0 })
IsTable-entries_of tops rising = let few = length-entries_of tops in record { places = omega arith; contexts = HasContexts-entries_of tops rising }

-- ---- no fences yet

IsLatest-zero : {latest reach : List ℕ} {level : ℕ} → reach ≡ replicate CONTEXTS 0 → IsLatest latest reach [] level → IsLatest latest [] [] level
IsLatest-zero {latest} {reach} is h = record {
  values = λ ctx low high. h.values ctx low high ∙ ap (λ r. value_at r ctx) is ∙ value_at-replicate CONTEXTS ctx ∙ sym (value_at-none ctx);
}

pub AreTops-zero : {tops : Tops} {reach : List ℕ} → reach ≡ replicate CONTEXTS 0 → AreTops tops reach [] → AreTops tops [] []
AreTops-zero is h = record {
  kernel = IsLatest-zero is h.kernel;
  write = IsLatest-zero is h.write;
  read = IsLatest-zero is h.read;
  bookkeep = IsLatest-zero is h.bookkeep;
}

-- ---- points that are reached are dropped

pending_value-rising : (reached value higher : ℕ) → value ≤ higher → pending_value reached value ≤ pending_value reached higher
pending_value-rising reached value higher low = elim (cases_lt reached value) [
  | inl above ↦ rw (lt-ltb reached value above, lt-ltb reached higher (omega arith)) low
  | inr below ↦ rw (le-ltb reached value below) (omega arith)
]

max-pending_value : (reached value : ℕ) → max reached (pending_value reached value) ≡ max reached value
max-pending_value reached value = elim (cases_lt reached value) [
  | inl above ↦ rw (lt-ltb reached value above) refl
  | inr below ↦ rw (le-ltb reached value below) (omega arith)
]

pending_value-above : (reached value stronger : ℕ) → stronger < pending_value reached value → reached < pending_value reached value
pending_value-above reached value stronger = elim (cases_lt reached value) [
  | inl above ↦ rw (lt-ltb reached value above) (λ later. above)
  | inr below ↦ rw (le-ltb reached value below) (λ later. absurd (omega arith))
]

pub AreRising-dropped : {reach : List ℕ} {old new : Tops} → AreDropped reach old new → AreRising old → AreRising new
AreRising-dropped {reach} {old} {new} h rising = record {
  each = λ ctx low high.
      let r = rising.each ctx low high in
      record {
        kernel = let none = value_at-none ctx in omega arith;
        write = rw (h.kernel.values ctx low high, h.write.values ctx low high) (pending_value-rising (value_at reach ctx) (value_at old.kernel ctx) (value_at old.write ctx) r.write);
        read = rw (h.write.values ctx low high, h.read.values ctx low high) (pending_value-rising (value_at reach ctx) (value_at old.write ctx) (value_at old.read ctx) r.read);
        bookkeep = rw (h.read.values ctx low high, h.bookkeep.values ctx low high) (pending_value-rising (value_at reach ctx) (value_at old.read ctx) (value_at old.bookkeep ctx) r.bookkeep);
      };
}

table_at-dropped : {reach : List ℕ} {old new : Tops} → AreDropped reach old new → (usage ctx : ℕ) → 1 ≤ ctx → ctx ≤ CONTEXTS → value_at (table_at new usage) ctx ≡ pending_value (value_at reach ctx) (value_at (table_at old usage) ctx)
table_at-dropped h zero ctx low high = h.kernel.values ctx low high
table_at-dropped h (suc zero) ctx low high = h.write.values ctx low high
table_at-dropped h (suc (suc zero)) ctx low high = h.read.values ctx low high
table_at-dropped h (suc (suc (suc usage))) ctx low high = h.bookkeep.values ctx low high

-- above a reach the entries agree with the tables
raised_to-entries_of : (tops : Tops) → AreRising tops → (reach : List ℕ) (usage ctx : ℕ) → 1 ≤ ctx → ctx ≤ CONTEXTS → raised_to (value_at reach ctx) (top (entries_of tops) usage ctx) ≡ max (value_at reach ctx) (value_at (table_at tops usage) ctx)
raised_to-entries_of tops rising reach usage ctx low high =
    raised_to-higher ((IsAtLeast-none reach).values ctx) (top (entries_of tops) usage ctx)
    ∙ ap (max (value_at reach ctx)) (sym (AreTops-at (AreTops-entries_of tops rising) usage ctx low high))

pub AgreesAbove-dropped : {reach : List ℕ} {old new : Tops} → AreDropped reach old new → AreRising old → AgreesAbove reach (entries_of old) (entries_of new)
AgreesAbove-dropped {reach} {old} {new} h rising =
    let rising' = AreRising-dropped h rising in
    AgreesAbove-from_raised (λ usage ctx. elim (cases_context CONTEXTS ctx) [
      | inl has ↦
          raised_to-entries_of old rising reach usage ctx has.0 has.1
          ∙ sym (max-pending_value (value_at reach ctx) (value_at (table_at old usage) ctx))
          ∙ ap (max (value_at reach ctx)) (sym (table_at-dropped h usage ctx has.0 has.1))
          ∙ sym (raised_to-entries_of new rising' reach usage ctx has.0 has.1)
      | inr outside ↦ ap (raised_to (value_at reach ctx)) (top-outside (entries_of old) usage ctx (HasContexts-entries_of old rising) outside ∙ sym (top-outside (entries_of new) usage ctx (HasContexts-entries_of new rising') outside))
    ])

abbrev IsPending : List ℕ → Entry → Type 0
IsPending reach e = value_at reach e.point.ctx < e.point.value

All-entry_above : (reach : List ℕ) (stronger value ctx : ℕ) (usage : Usage) → (stronger < value → value_at reach ctx < value) → All (IsPending reach) (entry_above stronger (point_of ctx value) usage)
All-entry_above reach stronger value ctx usage holds = elim (cases_lt stronger value) [
  | inl above ↦ rw (lt-ltb stronger value above) (All-cons (IsPending reach) (entry_of (point_of ctx value) usage) [] (holds above) (All-nil (IsPending reach)))
  | inr same ↦ rw (le-ltb stronger value same) (All-nil (IsPending reach))
]

All-pending_value : (reach : List ℕ) (stronger value before ctx : ℕ) (usage : Usage) → value ≡ pending_value (value_at reach ctx) before → All (IsPending reach) (entry_above stronger (point_of ctx value) usage)
All-pending_value reach stronger value before ctx usage is = All-entry_above reach stronger value ctx usage (λ later. rw is (pending_value-above (value_at reach ctx) before stronger (rw is at later)))

All-four : (P : Entry → Type 0) (a b c d : List Entry) → All P a → All P b → All P c → All P d → All P (a ++ b ++ c ++ d)
All-four P a b c d one two three four = All-append P (a ++ b ++ c) d (All-append P (a ++ b) c (All-append P a b one two) three) four

All-range : (P : Entry → Type 0) (f : ℕ → List Entry) (n : ℕ) → ((ctx : ℕ) → 1 ≤ ctx → ctx ≤ n → All P (f ctx)) → All P (flat_map f (range_with_len 1 n))
All-range P f zero each = All-nil P
All-range P f (suc n) each = subst (All P) (sym (flat_map-range_more f 1 n)) (All-append P (flat_map f (range_with_len 1 n)) (f (1 + n)) (All-range P f n (λ ctx low high. each ctx low (omega arith))) (each (1 + n) (omega arith) (omega arith)))

All-entries_of : (P : Entry → Type 0) (tops : Tops) → ((ctx : ℕ) → 1 ≤ ctx → ctx ≤ CONTEXTS → All P (entries_at tops [] ctx)) → All P (entries_of tops)
unfolding contexts
All-entries_of P tops each = All-range P (entries_at tops []) CONTEXTS each

pub IsTrimmed-dropped : {reach : List ℕ} {old new : Tops} → AreDropped reach old new → AreRising old → IsTrimmed reach (entries_of new)
IsTrimmed-dropped {reach} {old} {new} h rising = record {
  pending = All-entries_of (IsPending reach) new (λ ctx low high. All-four (IsPending reach)
      (entry_above (value_at [] ctx) (point_of ctx (value_at new.kernel ctx)) Kernel)
      (entry_above (value_at new.kernel ctx) (point_of ctx (value_at new.write ctx)) Write)
      (entry_above (value_at new.write ctx) (point_of ctx (value_at new.read ctx)) Read)
      (entry_above (value_at new.read ctx) (point_of ctx (value_at new.bookkeep ctx)) Bookkeep)
      (All-pending_value reach (value_at [] ctx) (value_at new.kernel ctx) (value_at old.kernel ctx) ctx Kernel (h.kernel.values ctx low high))
      (All-pending_value reach (value_at new.kernel ctx) (value_at new.write ctx) (value_at old.write ctx) ctx Write (h.write.values ctx low high))
      (All-pending_value reach (value_at new.write ctx) (value_at new.read ctx) (value_at old.read ctx) ctx Read (h.read.values ctx low high))
      (All-pending_value reach (value_at new.read ctx) (value_at new.bookkeep ctx) (value_at old.bookkeep ctx) ctx Bookkeep (h.bookkeep.values ctx low high)));
  apart = (IsCompacted-entries_of new (AreRising-dropped h rising)).trimmed.apart;
}
