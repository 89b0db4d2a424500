-- How many lines a client leaves out among rows, row by row.
use Rattle.std.proofs.Common.{◌≡◌, ℕ, ◌+◌, ◌<◌, ◌≤◌, true, true≢false, List, [], ◌∷◌, length, get_or, drop, refl, sym, ap, arith}
use Rattle.std.proofs.lemmas.List.{drop_all}
use Rattle.explore_report.specs.declared.row.Row.{Row}
use Rattle.explore_report.specs.declared.way.Way.{Way}
use Rattle.explore_report.specs.declared.way.Way.TheVariants as way
use Rattle.explore_report.specs.Plan.{is_settled, left_out, passed_at, way_below}
use Rattle.explore_report.proofs.Expectations.{drop-at}

-- a client that has come to its line leaves out no more
stays-none : (rows : List Row) → left_out way.Stays rows ≡ 0
stays-none [] = refl
stays-none (row ∷ rows) =
    let here : left_out way.Stays (row ∷ rows) ≡ 0 + left_out way.Stays rows = refl in
    omega (arith, here, stays-none rows)

settled-none : (to : Way) (rows : List Row) → is_settled to ≡ true → left_out to rows ≡ 0
settled-none way.Stays rows is = stays-none rows
settled-none way.Comes rows is = absurd (true≢false (sym is))
settled-none (way.Passes depth) rows is = absurd (true≢false (sym is))

pub left_out-settled : (to : Way) (rows : List Row) (i count all : ℕ) → is_settled to ≡ true → count + left_out to (drop i rows) ≡ all → count ≡ all
left_out-settled to rows i count all is same = omega (arith, same, settled-none to (drop i rows) is)

pub left_out-next : (to : Way) (rows : List Row) (i : ℕ) (row : Row) (before after own all : ℕ) (below : Way) → i < length rows → row ≡ get_or rows i row
    → after ≡ before + own → own ≡ passed_at to row → below ≡ way_below to row → before + left_out to (drop i rows) ≡ all
    → after + left_out below (drop (i + 1) rows) ≡ all
left_out-next to rows i row before after own all below low at sum passed is same =
    let rest = drop (i + 1) rows in
    let here : left_out to (drop i rows) ≡ passed_at to row + left_out (way_below to row) rest = ap (left_out to) (drop-at rows i row low at) in
    let next : left_out below rest ≡ left_out (way_below to row) rest = ap (λ w. left_out w rest) is in
    omega (arith, sum, passed, same, here, next)

pub left_out-end : (to : Way) (rows : List Row) (i count all : ℕ) → length rows ≤ i → count + left_out to (drop i rows) ≡ all → count ≡ all
left_out-end to rows i count all past same =
    let none : left_out to (drop i rows) ≡ 0 = ap (left_out to) (drop_all i rows past) in
    omega (arith, none, same)
