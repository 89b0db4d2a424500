-- The entries of a table that are kept: one for each context and usage, if it is later than the stronger usages'
-- points.
use Rattle.std.proofs.Common.{◌≡◌, ◌≢◌, ℕ, ◌+◌, ◌<◌, ◌≤◌, ◌⊎◌, zero, suc, max, refl, sym, ap, ◌∙◌, subst, List, [], ◌∷◌, ◌++◌, get_or, append_assoc, append-nil, None, arith, Bool, true, false, ◌==◌, nat_le, ◌&&◌, if◌then◌else◌, inl, inr, All}
use Rattle.std.proofs.lemmas.Bool.{cases_lt, cases_eq, le-ltb, lt-ltb, lt-leb, le-leb, ne_eqb}
use Rattle.std.proofs.Math.Bool.{and-false}
use Rattle.std.proofs.lemmas.List.Elements.{All-push, All-weaker, All-nil, All-cons, All-append, All-contains}
use Rattle.std.proofs.lemmas.List.Quantifiers.{all_pairs_push}
use Rattle.point_core.specs.declared.context.TheConstants.{CONTEXTS}
use Rattle.point_core.specs.declared.entry.Point.{Point}
use Rattle.point_core.specs.declared.entry.Entry.{Entry}
use Rattle.point_core.specs.declared.entry.Usage.{Usage}
use Rattle.point_core.specs.declared.entry.Usage.TheVariants.{Kernel, Write, Read, Bookkeep}
use Rattle.point_core.specs.Usage.{usage_number}
use Rattle.point_core.specs.Reach.{value_at}
use Rattle.point_core.specs.Agreement.{covers, applies, later, top, point_of, AgreesAbove, HasContexts}
use Rattle.point_core.specs.Latest.{raised_to}
use Rattle.point_core.proofs.Latest.{put_if, raised_to-if, raised_to-top-append, applies-true, applies-other, applies-weak}
use Rattle.point_core.proofs.Agreement.{AppliesAt-from_true, AgreesAbove-from_raised, raised_to-above, top-is_none, top-outside}
use Rattle.resv_core.specs.declared.tops.Tops.{Tops}
use Rattle.resv_core.specs.Resv.{entry_of, IsTrimmed}
use Rattle.resv_core.specs.Tops.{AreTops, IsRising, entry_above, entries_at}

put_if-stronger : (b c : Bool) (p value higher : ℕ) → value ≤ higher → (b ≡ true → c ≡ true) → put_if b p value ≤ put_if c p higher
put_if-stronger true c p value higher low is = rw (is refl) (omega arith)
put_if-stronger false true p value higher low is = omega arith
put_if-stronger false false p value higher low is = low

-- an entry that does not apply leaves the value
raised_to-one_other : (value : ℕ) (e : Entry) (usage ctx : ℕ) → applies e usage ctx ≡ false → raised_to value (top (e ∷ []) usage ctx) ≡ value
raised_to-one_other value e usage ctx is = raised_to-if (applies e usage ctx) value e.point.value None ∙ ap (λ b. put_if b e.point.value value) is

raised_to-one : (value : ℕ) (e : Entry) (usage ctx : ℕ) → applies e usage ctx ≡ true → raised_to value (top (e ∷ []) usage ctx) ≡ max e.point.value value
raised_to-one value e usage ctx is = raised_to-if (applies e usage ctx) value e.point.value None ∙ ap (λ b. put_if b e.point.value value) is

-- from the stronger usages' point to the later one
raised_to-entry_above : (stronger p ctx : ℕ) (u : Usage) (usage : ℕ) → stronger ≤ p → usage_number u ≤ usage → raised_to stronger (top (entry_above stronger (point_of ctx p) u) usage ctx) ≡ p
raised_to-entry_above stronger p ctx u usage low strong = elim (cases_lt stronger p) [
  | inl above ↦ rw (lt-ltb stronger p above) (raised_to-one stronger (entry_of (point_of ctx p) u) usage ctx (applies-true (entry_of (point_of ctx p) u) usage ctx strong refl) ∙ omega arith)
  | inr same ↦ rw (le-ltb stronger p same) (omega arith)
]

-- a stronger usage ignores a weaker one's entry
raised_to-entry_above_weak : (value stronger p ctx : ℕ) (u : Usage) (usage at : ℕ) → usage < usage_number u → raised_to value (top (entry_above stronger (point_of ctx p) u) usage at) ≡ value
raised_to-entry_above_weak value stronger p ctx u usage at weak = elim (cases_lt stronger p) [
  | inl above ↦ rw (lt-ltb stronger p above) (raised_to-one_other value (entry_of (point_of ctx p) u) usage at (applies-weak (entry_of (point_of ctx p) u) usage at weak))
  | inr same ↦ rw (le-ltb stronger p same) refl
]

raised_to-entry_above_other : (value stronger p ctx : ℕ) (u : Usage) (usage at : ℕ) → ctx ≢ at → raised_to value (top (entry_above stronger (point_of ctx p) u) usage at) ≡ value
raised_to-entry_above_other value stronger p ctx u usage at apart = elim (cases_lt stronger p) [
  | inl above ↦ rw (lt-ltb stronger p above) (raised_to-one_other value (entry_of (point_of ctx p) u) usage at (applies-other (entry_of (point_of ctx p) u) usage at apart))
  | inr same ↦ rw (le-ltb stronger p same) refl
]

-- one list after the other
raised_to-then : (value : ℕ) {between last : ℕ} (es fs : List Entry) (usage ctx : ℕ) → raised_to value (top es usage ctx) ≡ between → raised_to between (top fs usage ctx) ≡ last → raised_to value (top (es ++ fs) usage ctx) ≡ last
raised_to-then value es fs usage ctx first second = raised_to-top-append value es fs usage ctx ∙ ap (λ v. raised_to v (top fs usage ctx)) first ∙ second

-- the table in which a usage is looked up
abbrev pub table_at : Tops → ℕ → List ℕ
table_at tops zero = tops.kernel
table_at tops (suc zero) = tops.write
table_at tops (suc (suc zero)) = tops.read
table_at tops (suc (suc (suc usage))) = tops.bookkeep

-- the parts of a context's entries
abbrev kernel_part : Tops → List ℕ → ℕ → List Entry
kernel_part tops reach ctx = entry_above (value_at reach ctx) (point_of ctx (value_at tops.kernel ctx)) Kernel

abbrev write_part : Tops → ℕ → List Entry
write_part tops ctx = entry_above (value_at tops.kernel ctx) (point_of ctx (value_at tops.write ctx)) Write

abbrev read_part : Tops → ℕ → List Entry
read_part tops ctx = entry_above (value_at tops.write ctx) (point_of ctx (value_at tops.read ctx)) Read

abbrev bookkeep_part : Tops → ℕ → List Entry
bookkeep_part tops ctx = entry_above (value_at tops.read ctx) (point_of ctx (value_at tops.bookkeep ctx)) Bookkeep

raised_to-parts : (tops : Tops) (reach : List ℕ) (value : ℕ) {first second third last : ℕ} (ctx usage at : ℕ) → raised_to value (top (kernel_part tops reach ctx) usage at) ≡ first → raised_to first (top (write_part tops ctx) usage at) ≡ second → raised_to second (top (read_part tops ctx) usage at) ≡ third → raised_to third (top (bookkeep_part tops ctx) usage at) ≡ last → raised_to value (top (entries_at tops reach ctx) usage at) ≡ last
raised_to-parts tops reach value ctx usage at k w r b =
    raised_to-then value (kernel_part tops reach ctx ++ write_part tops ctx ++ read_part tops ctx) (bookkeep_part tops ctx) usage at
    (raised_to-then value (kernel_part tops reach ctx ++ write_part tops ctx) (read_part tops ctx) usage at (raised_to-then value (kernel_part tops reach ctx) (write_part tops ctx) usage at k w) r)
    b

-- a context's entries agree with its tables
raised_to-entries_at : (tops : Tops) (reach : List ℕ) (ctx usage : ℕ) → IsRising tops reach ctx → raised_to (value_at reach ctx) (top (entries_at tops reach ctx) usage ctx) ≡ value_at (table_at tops usage) ctx
raised_to-entries_at tops reach ctx zero rising = raised_to-parts tops reach (value_at reach ctx) ctx zero ctx
    (raised_to-entry_above (value_at reach ctx) (value_at tops.kernel ctx) ctx Kernel zero rising.kernel (omega arith))
    (raised_to-entry_above_weak (value_at tops.kernel ctx) (value_at tops.kernel ctx) (value_at tops.write ctx) ctx Write zero ctx (omega arith))
    (raised_to-entry_above_weak (value_at tops.kernel ctx) (value_at tops.write ctx) (value_at tops.read ctx) ctx Read zero ctx (omega arith))
    (raised_to-entry_above_weak (value_at tops.kernel ctx) (value_at tops.read ctx) (value_at tops.bookkeep ctx) ctx Bookkeep zero ctx (omega arith))
raised_to-entries_at tops reach ctx (suc zero) rising = raised_to-parts tops reach (value_at reach ctx) ctx 1 ctx
    (raised_to-entry_above (value_at reach ctx) (value_at tops.kernel ctx) ctx Kernel 1 rising.kernel (omega arith))
    (raised_to-entry_above (value_at tops.kernel ctx) (value_at tops.write ctx) ctx Write 1 rising.write (omega arith))
    (raised_to-entry_above_weak (value_at tops.write ctx) (value_at tops.write ctx) (value_at tops.read ctx) ctx Read 1 ctx (omega arith))
    (raised_to-entry_above_weak (value_at tops.write ctx) (value_at tops.read ctx) (value_at tops.bookkeep ctx) ctx Bookkeep 1 ctx (omega arith))
raised_to-entries_at tops reach ctx (suc (suc zero)) rising = raised_to-parts tops reach (value_at reach ctx) ctx 2 ctx
    (raised_to-entry_above (value_at reach ctx) (value_at tops.kernel ctx) ctx Kernel 2 rising.kernel (omega arith))
    (raised_to-entry_above (value_at tops.kernel ctx) (value_at tops.write ctx) ctx Write 2 rising.write (omega arith))
    (raised_to-entry_above (value_at tops.write ctx) (value_at tops.read ctx) ctx Read 2 rising.read (omega arith))
    (raised_to-entry_above_weak (value_at tops.read ctx) (value_at tops.read ctx) (value_at tops.bookkeep ctx) ctx Bookkeep 2 ctx (omega arith))
raised_to-entries_at tops reach ctx (suc (suc (suc usage))) rising = raised_to-parts tops reach (value_at reach ctx) ctx (suc (suc (suc usage))) ctx
    (raised_to-entry_above (value_at reach ctx) (value_at tops.kernel ctx) ctx Kernel (suc (suc (suc usage))) rising.kernel (omega arith))
    (raised_to-entry_above (value_at tops.kernel ctx) (value_at tops.write ctx) ctx Write (suc (suc (suc usage))) rising.write (omega arith))
    (raised_to-entry_above (value_at tops.write ctx) (value_at tops.read ctx) ctx Read (suc (suc (suc usage))) rising.read (omega arith))
    (raised_to-entry_above (value_at tops.read ctx) (value_at tops.bookkeep ctx) ctx Bookkeep (suc (suc (suc usage))) rising.bookkeep (omega arith))

-- and have nothing of any other context
raised_to-entries_at_other : (tops : Tops) (reach : List ℕ) (ctx usage at value : ℕ) → ctx ≢ at → raised_to value (top (entries_at tops reach ctx) usage at) ≡ value
raised_to-entries_at_other tops reach ctx usage at value apart = raised_to-parts tops reach value ctx usage at
    (raised_to-entry_above_other value (value_at reach ctx) (value_at tops.kernel ctx) ctx Kernel usage at apart)
    (raised_to-entry_above_other value (value_at tops.kernel ctx) (value_at tops.write ctx) ctx Write usage at apart)
    (raised_to-entry_above_other value (value_at tops.write ctx) (value_at tops.read ctx) ctx Read usage at apart)
    (raised_to-entry_above_other value (value_at tops.read ctx) (value_at tops.bookkeep ctx) ctx Bookkeep usage at apart)

-- an entry of an earlier context, or of a stronger usage of this context and not later than the stronger usages' points
abbrev pub IsBefore : ℕ → ℕ → ℕ → Entry → Type 0
IsBefore ctx level stronger e = (e.point.ctx < ctx) ⊎ ((e.point.ctx ≡ ctx) × (usage_number e.usage < level) × (e.point.value ≤ stronger))

covers-not : (e : Entry) (u : Usage) (ctx level stronger p : ℕ) → usage_number u ≡ level → stronger < p → IsBefore ctx level stronger e → (covers e (entry_of (point_of ctx p) u) ≡ false) × (covers (entry_of (point_of ctx p) u) e ≡ false)
covers-not e u ctx level stronger p is above (inl earlier) =
    let apart : e.point.ctx ≢ ctx = omega arith in
    let apart' : ctx ≢ e.point.ctx = omega arith in
    (rw (ne_eqb e.point.ctx ctx apart) refl, rw (ne_eqb ctx e.point.ctx apart') refl)
covers-not e u ctx level stronger p is above (inr same) =
    let older : nat_le p e.point.value ≡ false = lt-leb p e.point.value (omega arith) in
    let weaker : nat_le (usage_number u) (usage_number e.usage) ≡ false = lt-leb (usage_number u) (usage_number e.usage) (omega arith) in (
      rw older (and-false ((e.point.ctx == ctx) && nat_le (usage_number e.usage) (usage_number u))),
      rw (weaker, and-false (ctx == e.point.ctx)) refl,
    )

-- the entries that are kept up to a usage of a context
record IsKept (reach : List ℕ) (ctx level stronger : ℕ) (kept : List Entry) : Type 0 where
  trimmed : IsTrimmed reach kept
  before : All (IsBefore ctx level stronger) kept

IsBefore-later : (ctx level stronger p : ℕ) → stronger ≤ p → (e : Entry) → IsBefore ctx level stronger e → IsBefore ctx (level + 1) p e
IsBefore-later ctx level stronger p low e (inl earlier) = inl earlier
IsBefore-later ctx level stronger p low e (inr same) = inr (same.0, omega arith, omega arith)

IsKept-more : (reach : List ℕ) (ctx level stronger p : ℕ) (kept : List Entry) (u : Usage) → usage_number u ≡ level → value_at reach ctx ≤ stronger → stronger ≤ p → IsKept reach ctx level stronger kept → IsKept reach ctx (level + 1) p (kept ++ entry_above stronger (point_of ctx p) u)
IsKept-more reach ctx level stronger p kept u is pending low h = elim (cases_lt stronger p) [
  | inl above ↦ rw (lt-ltb stronger p above) (record {
    trimmed = record {
      pending = All-push (λ (e : Entry). value_at reach e.point.ctx < e.point.value) kept (entry_of (point_of ctx p) u) h.trimmed.pending (omega arith);
      apart = all_pairs_push (λ (e f : Entry). (covers e f ≡ false) × (covers f e ≡ false)) kept (entry_of (point_of ctx p) u) h.trimmed.apart (λ k d at. covers-not (get_or kept k d) u ctx level stronger p is above (h.before k d at));
    };
    before = All-push (IsBefore ctx (level + 1) p) kept (entry_of (point_of ctx p) u) (All-weaker (IsBefore ctx level stronger) (IsBefore ctx (level + 1) p) (IsBefore-later ctx level stronger p low) kept h.before) (inr (refl, omega arith, omega arith));
  })
  | inr same ↦ rw (le-ltb stronger p same, append-nil kept) (record {
    trimmed = h.trimmed;
    before = All-weaker (IsBefore ctx level stronger) (IsBefore ctx (level + 1) p) (IsBefore-later ctx level stronger p low) kept h.before;
  })
]

usage_number-weakest : (u : Usage) → usage_number u ≤ 3
usage_number-weakest Kernel = omega arith
usage_number-weakest Write = omega arith
usage_number-weakest Read = omega arith
usage_number-weakest Bookkeep = omega arith

-- past the weakest usage nothing is added
top-weakest : (es : List Entry) (usage ctx : ℕ) → 3 ≤ usage → top es usage ctx ≡ top es 3 ctx
top-weakest [] usage ctx low = refl
top-weakest (e ∷ es) usage ctx low =
    let strong = usage_number-weakest e.usage in
    ap (λ b. if b && (e.point.ctx == ctx) then later e.point.value (top es usage ctx) else top es usage ctx) (le-leb (usage_number e.usage) usage (omega arith) ∙ sym (le-leb (usage_number e.usage) 3 strong))
    ∙ ap (λ t. if applies e 3 ctx then later e.point.value t else t) (top-weakest es usage ctx low)

pub raised_to-top-stronger : (value : ℕ) (es : List Entry) (usage weaker ctx : ℕ) → usage ≤ weaker → raised_to value (top es usage ctx) ≤ raised_to value (top es weaker ctx)
raised_to-top-stronger value [] usage weaker ctx low = omega arith
raised_to-top-stronger value (e ∷ es) usage weaker ctx low =
    let rest = raised_to-top-stronger value es usage weaker ctx low in
    rw (raised_to-if (applies e usage ctx) value e.point.value (top es usage ctx), raised_to-if (applies e weaker ctx) value e.point.value (top es weaker ctx))
    (put_if-stronger (applies e usage ctx) (applies e weaker ctx) e.point.value _ _ rest (λ is. let at = AppliesAt-from_true e usage ctx is in applies-true e weaker ctx (omega (arith, at.0)) at.1))

-- each table has the top at its usage, for every valid context
pub AreTops-at : {tops : Tops} {reach : List ℕ} {es : List Entry} → AreTops tops reach es → (usage ctx : ℕ) → 1 ≤ ctx → ctx ≤ CONTEXTS → value_at (table_at tops usage) ctx ≡ raised_to (value_at reach ctx) (top es usage ctx)
AreTops-at h zero ctx low high = h.kernel.values ctx low high
AreTops-at h (suc zero) ctx low high = h.write.values ctx low high
AreTops-at h (suc (suc zero)) ctx low high = h.read.values ctx low high
AreTops-at {tops} {reach} {es} h (suc (suc (suc usage))) ctx low high = h.bookkeep.values ctx low high ∙ ap (raised_to (value_at reach ctx)) (sym (top-weakest es (suc (suc (suc usage))) ctx (omega arith)))

pub AreTops-IsRising : {tops : Tops} {reach : List ℕ} {es : List Entry} → AreTops tops reach es → (ctx : ℕ) → 1 ≤ ctx → ctx ≤ CONTEXTS → IsRising tops reach ctx
AreTops-IsRising {tops} {reach} {es} h ctx low high = record {
  kernel = rw (h.kernel.values ctx low high) (raised_to-above (value_at reach ctx) (top es 0 ctx));
  write = rw (h.kernel.values ctx low high, h.write.values ctx low high) (raised_to-top-stronger (value_at reach ctx) es 0 1 ctx (omega arith));
  read = rw (h.write.values ctx low high, h.read.values ctx low high) (raised_to-top-stronger (value_at reach ctx) es 1 2 ctx (omega arith));
  bookkeep = rw (h.read.values ctx low high, h.bookkeep.values ctx low high) (raised_to-top-stronger (value_at reach ctx) es 2 3 ctx (omega arith));
}

-- the entries that are kept of the first n contexts
pub record IsCompacted (tops : Tops) (reach : List ℕ) (n : ℕ) (kept : List Entry) : Type 0 where
  pub values : (usage ctx : ℕ) → 1 ≤ ctx → ctx ≤ n → raised_to (value_at reach ctx) (top kept usage ctx) ≡ value_at (table_at tops usage) ctx
  pub contexts : All (λ e. (1 ≤ e.point.ctx) × (e.point.ctx ≤ n)) kept
  pub trimmed : IsTrimmed reach kept

pub IsCompacted-none : (tops : Tops) (reach : List ℕ) → IsCompacted tops reach 0 []
IsCompacted-none tops reach = record {
  values = λ usage ctx low high. absurd (omega arith);
  contexts = All-nil (λ (e : Entry). (1 ≤ e.point.ctx) × (e.point.ctx ≤ 0));
  trimmed = record {
    pending = All-nil (λ (e : Entry). value_at reach e.point.ctx < e.point.value);
    apart = λ i j d before low. absurd (omega arith);
  };
}

-- no entry of a later context is kept yet
raised_to-top-later : (value n ctx usage : ℕ) (kept : List Entry) → n < ctx → All (λ e. (1 ≤ e.point.ctx) × (e.point.ctx ≤ n)) kept → raised_to value (top kept usage ctx) ≡ value
raised_to-top-later value n ctx usage kept past within = ap (raised_to value) (top-is_none kept usage ctx (λ e among at.
    let has = All-contains (λ (f : Entry). (1 ≤ f.point.ctx) × (f.point.ctx ≤ n)) kept e within among in
    omega (arith, at.1)))

All-entry_above : (P : Entry → Type 0) (stronger : ℕ) (point : Point) (u : Usage) → P (entry_of point u) → All P (entry_above stronger point u)
All-entry_above P stronger point u holds = elim (cases_lt stronger point.value) [
  | inl above ↦ rw (lt-ltb stronger point.value above) (All-cons P (entry_of point u) [] holds (All-nil P))
  | inr same ↦ rw (le-ltb stronger point.value same) (All-nil P)
]

All-entries_at : (tops : Tops) (reach : List ℕ) (ctx n : ℕ) → 1 ≤ ctx → ctx ≤ n → All (λ e. (1 ≤ e.point.ctx) × (e.point.ctx ≤ n)) (entries_at tops reach ctx)
All-entries_at tops reach ctx n low high =
    let P : Entry → Type 0 = λ e. (1 ≤ e.point.ctx) × (e.point.ctx ≤ n) in
    let kernel = All-entry_above P (value_at reach ctx) (point_of ctx (value_at tops.kernel ctx)) Kernel (low, high) in
    let write = All-entry_above P (value_at tops.kernel ctx) (point_of ctx (value_at tops.write ctx)) Write (low, high) in
    let read = All-entry_above P (value_at tops.write ctx) (point_of ctx (value_at tops.read ctx)) Read (low, high) in
    let bookkeep = All-entry_above P (value_at tops.read ctx) (point_of ctx (value_at tops.bookkeep ctx)) Bookkeep (low, high) in
    All-append P (kernel_part tops reach ctx ++ write_part tops ctx ++ read_part tops ctx) (bookkeep_part tops ctx) (All-append P (kernel_part tops reach ctx ++ write_part tops ctx) (read_part tops ctx) (All-append P (kernel_part tops reach ctx) (write_part tops ctx) kernel write) read) bookkeep

parts_join : (kept a b c d : List Entry) → kept ++ a ++ b ++ c ++ d ≡ kept ++ (a ++ b ++ c ++ d)
parts_join kept a b c d = simp append_assoc

IsTrimmed-entries_at : (tops : Tops) (reach : List ℕ) (n ctx : ℕ) (kept : List Entry) → n < ctx → IsRising tops reach ctx → All (λ e. (1 ≤ e.point.ctx) × (e.point.ctx ≤ n)) kept → IsTrimmed reach kept → IsTrimmed reach (kept ++ entries_at tops reach ctx)
IsTrimmed-entries_at tops reach n ctx kept past rising within trimmed =
    let none : IsKept reach ctx 0 (value_at reach ctx) kept = record { trimmed = trimmed; before = All-weaker (λ (e : Entry). (1 ≤ e.point.ctx) × (e.point.ctx ≤ n)) (IsBefore ctx 0 (value_at reach ctx)) (λ e has. inl (omega arith)) kept within } in
    let kernel = IsKept-more reach ctx 0 (value_at reach ctx) (value_at tops.kernel ctx) kept Kernel refl (omega arith) rising.kernel none in
    let write = IsKept-more reach ctx 1 (value_at tops.kernel ctx) (value_at tops.write ctx) (kept ++ kernel_part tops reach ctx) Write refl rising.kernel rising.write kernel in
    let read = IsKept-more reach ctx 2 (value_at tops.write ctx) (value_at tops.read ctx) (kept ++ kernel_part tops reach ctx ++ write_part tops ctx) Read refl (omega (arith, rising.kernel, rising.write)) rising.read write in
    let bookkeep = IsKept-more reach ctx 3 (value_at tops.read ctx) (value_at tops.bookkeep ctx) (kept ++ kernel_part tops reach ctx ++ write_part tops ctx ++ read_part tops ctx) Bookkeep refl (omega (arith, rising.kernel, rising.write, rising.read)) rising.bookkeep read in
    subst (IsTrimmed reach) (parts_join kept (kernel_part tops reach ctx) (write_part tops ctx) (read_part tops ctx) (bookkeep_part tops ctx)) bookkeep.trimmed

-- one more context
pub IsCompacted-more : {tops : Tops} {reach : List ℕ} {n : ℕ} {kept : List Entry} → IsCompacted tops reach n kept → (ctx : ℕ) → ctx ≡ n + 1 → IsRising tops reach ctx → IsCompacted tops reach (n + 1) (kept ++ entries_at tops reach ctx)
IsCompacted-more {tops} {reach} {n} {kept} h ctx is rising = record {
  values = λ usage at from to. elim (cases_eq ctx at) [
    | inl same ↦ raised_to-then (value_at reach at) kept (entries_at tops reach ctx) usage at
        (raised_to-top-later (value_at reach at) n at usage kept (omega arith) h.contexts)
        (rw (← same) (raised_to-entries_at tops reach ctx usage rising))
    | inr apart ↦ raised_to-then (value_at reach at) kept (entries_at tops reach ctx) usage at
        (h.values usage at from (omega arith))
        (raised_to-entries_at_other tops reach ctx usage at (value_at (table_at tops usage) at) apart)
  ];
  contexts = All-append (λ (e : Entry). (1 ≤ e.point.ctx) × (e.point.ctx ≤ n + 1)) kept (entries_at tops reach ctx)
      (All-weaker (λ (e : Entry). (1 ≤ e.point.ctx) × (e.point.ctx ≤ n)) (λ (e : Entry). (1 ≤ e.point.ctx) × (e.point.ctx ≤ n + 1)) (λ e has. (has.0, omega (arith, has.1))) kept h.contexts)
      (All-entries_at tops reach ctx (n + 1) (omega arith) (omega arith));
  trimmed = IsTrimmed-entries_at tops reach n ctx kept (omega arith) rising h.contexts h.trimmed;
}

-- whether the context is in range
pub cases_context : (n ctx : ℕ) → ((1 ≤ ctx) × (ctx ≤ n)) ⊎ (1 ≤ ctx → ctx ≤ n → ⊥)
cases_context n ctx = elim (cases_lt n ctx) [
  | inl past ↦ inr (λ low high. omega arith)
  | inr high ↦ elim (cases_lt 0 ctx) [
    | inl low ↦ inl (omega arith, high)
    | inr none ↦ inr (λ low high'. omega arith)
  ]
]

pub HasContexts-IsCompacted : {tops : Tops} {reach : List ℕ} {n : ℕ} {kept : List Entry} → n ≤ CONTEXTS → IsCompacted tops reach n kept → HasContexts kept
HasContexts-IsCompacted {tops} {reach} {n} {kept} within h = All-weaker (λ (e : Entry). (1 ≤ e.point.ctx) × (e.point.ctx ≤ n)) (λ (e : Entry). (1 ≤ e.point.ctx) × (e.point.ctx ≤ CONTEXTS)) (λ e has. (has.0, omega (arith, has.1))) kept h.contexts

-- if the weakest usage has no points, no usage has
table_at-unused : (tops : Tops) (reach : List ℕ) (usage ctx : ℕ) → IsRising tops reach ctx → value_at tops.bookkeep ctx ≡ 0 → (value_at (table_at tops usage) ctx ≡ 0) × (value_at reach ctx ≡ 0)
table_at-unused tops reach zero ctx h none = (omega (arith, h.write, h.read, h.bookkeep), omega (arith, h.kernel, h.write, h.read, h.bookkeep))
table_at-unused tops reach (suc zero) ctx h none = (omega (arith, h.read, h.bookkeep), omega (arith, h.kernel, h.write, h.read, h.bookkeep))
table_at-unused tops reach (suc (suc zero)) ctx h none = (omega (arith, h.bookkeep), omega (arith, h.kernel, h.write, h.read, h.bookkeep))
table_at-unused tops reach (suc (suc (suc usage))) ctx h none = (none, omega (arith, h.kernel, h.write, h.read, h.bookkeep))

-- over all contexts in use, the kept entries agree with the entries
pub AgreesAbove-IsCompacted : {tops : Tops} {reach : List ℕ} {es : List Entry} → AreTops tops reach es → HasContexts es → {n : ℕ} {kept : List Entry} → n ≤ CONTEXTS → ((ctx : ℕ) → n < ctx → ctx ≤ CONTEXTS → value_at tops.bookkeep ctx ≡ 0) → IsCompacted tops reach n kept → AgreesAbove reach es kept
AgreesAbove-IsCompacted {tops} {reach} {es} tell within {n} {kept} few past h = AgreesAbove-from_raised (λ usage ctx. elim (cases_context CONTEXTS ctx) [
  | inl has ↦ sym (AreTops-at tell usage ctx has.0 has.1) ∙ elim (cases_lt n ctx) [
    | inl unused ↦
        let none = table_at-unused tops reach usage ctx (AreTops-IsRising tell ctx has.0 has.1) (past ctx unused has.1) in
        none.0 ∙ sym none.1 ∙ sym (raised_to-top-later (value_at reach ctx) n ctx usage kept unused h.contexts)
    | inr used ↦ sym (h.values usage ctx has.0 used)
  ]
  | inr outside ↦ ap (raised_to (value_at reach ctx)) (top-outside es usage ctx within outside ∙ sym (top-outside kept usage ctx (HasContexts-IsCompacted few h) outside))
])
