-- Rows, one timeline after another.
use Rattle.std.proofs.Common.{◌≡◌, ℕ, ◌+◌, ◌-◌, ◌<◌, sym, ap, ◌∙◌, List, [], ◌∷◌, ◌++◌, length, get_or, take, replicate, arith}
use Rattle.std.proofs.Math.ListN.{get_or-append}
use Rattle.std.proofs.lemmas.List.{get_or-map, length-map, map_more}
use Rattle.point_core.specs.declared.context.TheConstants.{CONTEXTS}
use Rattle.point_core.specs.declared.clocks.Clock.{Clock}
use Rattle.point_core.specs.declared.timeline_row.TimelineRow.{TimelineRow}
use Rattle.point_core.specs.Clocks.{new_clock, clock_at}
use Rattle.timeline_core.specs.Timeline.{Timeline, new_timeline, own_clock, names_of, own_clocks, clocks_of, row_of, rows_of}
use Rattle.timeline_core.proofs.Storing.{length-stored}

-- the clock at the next context
clock-next : (ts : List Timeline) (i ctx : ℕ) (t : Timeline) → i < length ts → ctx ≡ i + 1 → clock_at (clocks_of ts) ctx ≡ own_clock (get_or ts i t)
clock-next ts i ctx t low at =
    let place : ctx - 1 ≡ i = omega arith in
    let low' : i < length (own_clocks ts) = rw length-map low in
    ap (λ j. get_or (clocks_of ts) j new_clock) place ∙ get_or-append (own_clocks ts) (replicate (CONTEXTS - length ts) new_clock) new_clock i low' ∙ get_or-map own_clock ts i t new_clock low

abbrev row_with : List ℕ → Clock → TimelineRow
row_with name clock = record { name = name; value = clock.value; closed = clock.closed }

pub rows_of-next : {names : List (List ℕ)} {clocks : List Clock} {ctx : ℕ} (ts : List Timeline) (i : ℕ) (name : List ℕ) (clock : Clock) → names ≡ names_of ts → clocks ≡ clocks_of ts → i < length names → name ≡ get_or names i name → ctx ≡ i + 1 → clock ≡ clock_at clocks ctx → rows_of (take i ts) ++ record { name = name; value = clock.value; closed = clock.closed } ∷ [] ≡ rows_of (take (i + 1) ts)
rows_of-next {names} {clocks} {ctx} ts i name clock e f within is at reads =
    let low : i < length ts = omega (arith, length-stored ts e) in
    let name-is = is ∙ ap (λ ns. get_or ns i name) e ∙ get_or-map (λ (u : Timeline). u.name) ts i (new_timeline name) name low in
    let clock-is = reads ∙ ap (λ cs. clock_at cs ctx) f ∙ clock-next ts i ctx (new_timeline name) low at in
    ap (λ m. rows_of (take i ts) ++ row_with m clock ∷ []) name-is
    ∙ ap (λ c. rows_of (take i ts) ++ row_with (get_or ts i (new_timeline name)).name c ∷ []) clock-is
    ∙ sym (map_more row_of ts i (new_timeline name) low)
