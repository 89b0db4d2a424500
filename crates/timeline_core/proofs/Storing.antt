-- Timelines beside the names and values that are stored.
use Rattle.std.proofs.Common.{◌≡◌, ℕ, ◌+◌, ◌-◌, ◌<◌, suc, nat_eq, refl, sym, ap, subst, ◌∙◌, List, [], ◌∷◌, ◌++◌, length, replicate, false, true, true≢false, Result, Ok, Err, is_ok, OnOk, if◌then◌else◌, arith, append_assoc, length-append}
use Rattle.std.proofs.lemmas.List.{map-append, length-map}
use Rattle.std.specs.List.{IsDistinct}
use Rattle.point_core.specs.declared.context.TheConstants.{CONTEXTS}
use Rattle.timeline_core.specs.Timeline.{Timeline, new_timeline, own_clock, names_of, has_timeline, own_clocks, clocks_of, context_of, reach_of, clock_named, AreTimelines}
use Rattle.point_core.specs.declared.clocks.Clock.{Clock}
use Rattle.point_core.specs.Clocks.{new_clock, clock_at, reach_of_clocks}
use Rattle.indexmap.specs.IndexSet.{insert_key}
use Rattle.timeline_core.proofs.Lookups.{has_timeline-stored}
use Rattle.timeline_core.specs.Stored.{timelines_of, AreStored}
use lib.Pointwise.{pointwise}

pub timelines_of-columns : (ts : List Timeline) (zs : List Clock) → timelines_of (names_of ts) (own_clocks ts ++ zs) ≡ ts
timelines_of-columns [] zs = refl
timelines_of-columns (t ∷ ts) zs = ap (λ us. t ∷ us) (timelines_of-columns ts zs)

-- the view of stored names and clocks is the timelines that have them
pub timelines_of-stored : {names : List (List ℕ)} {clocks : List Clock} (ts : List Timeline) → names ≡ names_of ts → clocks ≡ clocks_of ts → timelines_of names clocks ≡ ts
timelines_of-stored {names} {clocks} ts e f =
    ap (λ ns. timelines_of ns clocks) e ∙ ap (timelines_of (names_of ts)) f ∙ timelines_of-columns ts (replicate (CONTEXTS - length ts) new_clock)

pub AreStored-made : {names : List (List ℕ)} {clocks : List Clock} (ts : List Timeline) → names ≡ names_of ts → clocks ≡ clocks_of ts → AreTimelines ts → AreStored names clocks
AreStored-made {names} {clocks} ts e f kept =
    let seen = sym (timelines_of-stored ts e f) in
    record { names_are = e ∙ ap names_of seen; clocks_are = f ∙ ap clocks_of seen; timelines = subst AreTimelines seen kept }

-- a new timeline changes no clock
clocks_more : (n : ℕ) (cs : List Clock) (k : ℕ) → k < n → (cs ++ new_clock ∷ []) ++ replicate (n - (k + 1)) new_clock ≡ cs ++ replicate (n - k) new_clock
clocks_more n cs k low =
    let more : n - k ≡ suc (n - (k + 1)) = omega arith in
    append_assoc cs (new_clock ∷ []) (replicate (n - (k + 1)) new_clock) ∙ ap (λ m. cs ++ replicate m new_clock) (sym more)

pub clocks_of-new : (ts : List Timeline) (name : List ℕ) → length ts < CONTEXTS → clocks_of (ts ++ new_timeline name ∷ []) ≡ clocks_of ts
clocks_of-new ts name low =
    let len : length (ts ++ new_timeline name ∷ []) ≡ length ts + 1 = length-append ts (new_timeline name ∷ []) in
    ap (λ cs. cs ++ replicate (CONTEXTS - length (ts ++ new_timeline name ∷ [])) new_clock) (map-append own_clock ts (new_timeline name ∷ []))
    ∙ ap (λ m. (own_clocks ts ++ new_clock ∷ []) ++ replicate (CONTEXTS - m) new_clock) len
    ∙ clocks_more CONTEXTS (own_clocks ts) (length ts) low

pub reach_of-new : (ts : List Timeline) (name : List ℕ) → length ts < CONTEXTS → reach_of (ts ++ new_timeline name ∷ []) ≡ reach_of ts
reach_of-new ts name low = ap reach_of_clocks (clocks_of-new ts name low)

pub AreTimelines-new : {names' : List (List ℕ)} (ts : List Timeline) (name : List ℕ) → length ts < CONTEXTS → names' ≡ names_of (ts ++ new_timeline name ∷ []) → IsDistinct (pointwise nat_eq) names' → AreTimelines (ts ++ new_timeline name ∷ [])
AreTimelines-new ts name low e apart = record {
  distinct = subst (IsDistinct (pointwise nat_eq)) e apart;
  room = rw (length-append ts (new_timeline name ∷ [])) (omega arith);
}

-- the invariant of the stored fields, said of their view
pub names-seen : {names : List (List ℕ)} {clocks : List Clock} {ts : List Timeline} → AreStored names clocks → timelines_of names clocks ≡ ts → names ≡ names_of ts
names-seen h seen = h.names_are ∙ ap names_of seen

pub clocks-seen : {names : List (List ℕ)} {clocks : List Clock} {ts : List Timeline} → AreStored names clocks → timelines_of names clocks ≡ ts → clocks ≡ clocks_of ts
clocks-seen h seen = h.clocks_are ∙ ap clocks_of seen

pub AreTimelines-seen : {names : List (List ℕ)} {clocks : List Clock} {ts : List Timeline} → AreStored names clocks → timelines_of names clocks ≡ ts → AreTimelines ts
AreTimelines-seen h seen = subst AreTimelines seen h.timelines

-- the clock that is stored at a timeline's context
pub clock_named-stored : {clocks : List Clock} {ctx : ℕ} {clock : Clock} (ts : List Timeline) (name : List ℕ) → clocks ≡ clocks_of ts → ctx ≡ context_of ts name → clock ≡ clock_at clocks ctx → clock ≡ clock_named ts name
clock_named-stored {clocks} {ctx} {clock} ts name before at is = is ∙ ap (λ cs. clock_at cs ctx) before ∙ ap (clock_at (clocks_of ts)) at

pub length-stored : {names : List (List ℕ)} (ts : List Timeline) → names ≡ names_of ts → length names ≡ length ts
length-stored ts e = ap length e ∙ length-map ts (λ t. t.name)

-- the names once one is inserted that was not there
pub names-inserted : {names names' : List (List ℕ)} (ts : List Timeline) (name : List ℕ) → names ≡ names_of ts → has_timeline ts name ≡ false → names' ≡ insert_key (pointwise nat_eq) names name → names' ≡ names_of (ts ++ new_timeline name ∷ [])
names-inserted {names} ts name e absent is =
    is ∙ ap (λ b. if b then names else names ++ name ∷ []) (has_timeline-stored ts name e ∙ absent)
    ∙ ap (λ ns. ns ++ name ∷ []) e ∙ sym (map-append (λ (t : Timeline). t.name) ts (new_timeline name ∷ []))

-- the fact of an `OnOk` whose result is `Ok`
pub on_ok : {T E P : Type 0} (r : Result T E) → true ≡ is_ok r → OnOk r P → P
on_ok (Ok x) is p = p
on_ok (Err e) is p = absurd (true≢false is)
