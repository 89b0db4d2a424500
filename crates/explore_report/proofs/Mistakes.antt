-- Why rows make no plan, row by row.
use Rattle.std.proofs.Common.{◌≡◌, ◌⊎◌, inl, inr, ℕ, ◌+◌, ◌-◌, ◌<◌, ◌≤◌, Bool, true, false, true≢false, cond, refl, sym, ap, subst, ◌∙◌, List, [], ◌∷◌, ◌++◌, length, get_or, slice_get, drop, take, All, Option, None, Some, arith, below_more}
use Rattle.std.specs.Prelude.{MatchOption, count_by}
use Rattle.std.proofs.lemmas.List.{drop_all, take_all, take_more}
use Rattle.std.proofs.lemmas.List.Elements.{All-push}
use Rattle.std.proofs.lemmas.List.Sums.{count_by_more_yes, sum_by-take-le}
use Rattle.std.proofs.lemmas.Option.{get_or_from_slice_get, none-some, same_Some, slice_get_read, slice_get_within}
use Rattle.explore_report.specs.declared.cause.TheConstants.{PLAN_LINES}
use Rattle.explore_report.specs.declared.mistake.Mistake.{Mistake}
use Rattle.explore_report.specs.declared.row.Row.{Row}
use Rattle.explore_report.specs.Mistake.{AreFew, AllFit, EndsClosed, EndsWhole, IsClientless, IsLaterMistake, IsMisplaced, IsMissing, IsMistake, IsOpen, Fits, IsPastLimit, IsPlaced, IsPlan, IsMisfit, IsRow, IsWhole, cause_among, cause_of, else_after, in_else, is_unended, unfollowed}
use Rattle.explore_report.specs.Accesses.{is_open, open_after}
use Rattle.explore_report.specs.Rows.{is_line}
use Rattle.explore_report.proofs.Exploring.{All-at}
use Rattle.explore_report.proofs.Expectations.{drop-at}

row-at : (rows : List Row) (i : ℕ) (row : Row) → i < length rows → row ≡ get_or rows i row → IsRow rows i row
row-at rows i row low at = slice_get_read rows (length rows) i row refl low at

rows-more : (rows : List Row) (i : ℕ) (row : Row) → i < length rows → row ≡ get_or rows i row → take (i + 1) rows ≡ take i rows ++ row ∷ []
rows-more rows i row low at = take_more rows i row low ∙ ap (λ r. take i rows ++ r ∷ []) (sym at)

pub misplaced-at : (rows : List Row) (i : ℕ) (row : Row) (m : Mistake) → i < length rows → row ≡ get_or rows i row
    → m.line ≡ row.number → cause_of row.context row.mark ≡ Some m.cause → All IsPlaced (take i rows) → IsMisplaced rows m
misplaced-at rows i row m low at line why first =
    record { index = i; row = row; at = row-at rows i row low at; line = line; why = why; first = first }

pub placed-next : (rows : List Row) (i : ℕ) (row : Row) → i < length rows → row ≡ get_or rows i row
    → All IsPlaced (take i rows) → IsPlaced row → All IsPlaced (take (i + 1) rows)
placed-next rows i row low at before here = subst (All IsPlaced) (sym (rows-more rows i row low at)) (All-push IsPlaced (take i rows) row before here)

pub misfit-at : (rows : List Row) (i : ℕ) (row : Row) (m : Mistake) → i < length rows → row ≡ get_or rows i row
    → m.line ≡ row.number → cause_among (take i rows) row (drop (i + 1) rows) ≡ Some m.cause → ((k : ℕ) → k < i → Fits rows k) → IsMisfit rows m
misfit-at rows i row m low at line why first =
    record { index = i; row = row; at = row-at rows i row low at; line = line; why = why; first = first }

-- a row that the others allow
fit-here : (rows : List Row) (i : ℕ) (row : Row) → IsRow rows i row → cause_among (take i rows) row (drop (i + 1) rows) ≡ None → Fits rows i
fit-here rows i row at own other is = subst (λ r. cause_among (take i rows) r (drop (i + 1) rows) ≡ None) (same_Some row other (sym at ∙ is)) own

pub fit-next : (rows : List Row) (i : ℕ) (row : Row) → i < length rows → row ≡ get_or rows i row
    → ((k : ℕ) → k < i → Fits rows k) → cause_among (take i rows) row (drop (i + 1) rows) ≡ None → (k : ℕ) → k < i + 1 → Fits rows k
fit-next rows i row low at before own = below_more (Fits rows) i before (fit-here rows i row (row-at rows i row low at) own)

pub fit-all : (rows : List Row) (i : ℕ) → length rows ≤ i → ((k : ℕ) → k < i → Fits rows k) → AllFit rows
fit-all rows i past before k row at = before k (omega (arith, slice_get_within rows k row at)) row at

pub few-all : (rows : List Row) (i left : ℕ) → length rows ≤ i → left + count_by is_line (take i rows) ≡ PLAN_LINES → AreFew rows
few-all rows i left past sum =
    let few : count_by is_line (take i rows) ≤ PLAN_LINES = omega arith in
    subst (λ rs. count_by is_line rs ≤ PLAN_LINES) (take_all i rows past) few

-- the rows up to one, and this one, leave it to the others whether a branch is in its `#else`
pub in_else-next : (depth : ℕ) (rows : List Row) (i : ℕ) (row : Row) (inside next all : Bool) → i < length rows → row ≡ get_or rows i row
    → next ≡ else_after depth inside row → in_else depth inside (drop i rows) ≡ all → in_else depth next (drop (i + 1) rows) ≡ all
in_else-next depth rows i row inside next all low at is same =
    ap (λ b. in_else depth b (drop (i + 1) rows)) is ∙ ap (in_else depth inside) (sym (drop-at rows i row low at)) ∙ same

pub in_else-end : (depth : ℕ) (rows : List Row) (i : ℕ) (inside all : Bool) → length rows ≤ i → in_else depth inside (drop i rows) ≡ all → inside ≡ all
in_else-end depth rows i inside all past same = ap (in_else depth inside) (sym (drop_all i rows past)) ∙ same

-- the rows up to one, and this one, leave it to the others whether an access is open
pub is_open-next : (name : List ℕ) (rows : List Row) (i : ℕ) (row : Row) (lasts next all : Bool) → i < length rows → row ≡ get_or rows i row
    → next ≡ open_after name lasts row → is_open name lasts (drop i rows) ≡ all → is_open name next (drop (i + 1) rows) ≡ all
is_open-next name rows i row lasts next all low at is same =
    ap (λ b. is_open name b (drop (i + 1) rows)) is ∙ ap (is_open name lasts) (sym (drop-at rows i row low at)) ∙ same

pub is_open-end : (name : List ℕ) (rows : List Row) (i : ℕ) (lasts all : Bool) → length rows ≤ i → is_open name lasts (drop i rows) ≡ all → lasts ≡ all
is_open-end name rows i lasts all past same = ap (is_open name lasts) (sym (drop_all i rows past)) ∙ same

-- no last row, or one that is about no line that follows
pub ends-none : (rows : List Row) → None ≡ slice_get rows (length rows - 1) → EndsWhole rows
ends-none rows is row at = absurd (none-some row (is ∙ at))

pub ends-row : (rows : List Row) (last : Row) → Some last ≡ slice_get rows (length rows - 1) → unfollowed last.mark ≡ None → EndsWhole rows
ends-row rows last is other row at = subst (λ r. unfollowed r.mark ≡ None) (same_Some last row (is ∙ at)) other

-- rows in which only what is missing may be wrong
pub or_missing : (rows : List Row) (last : ℕ) (o : Option Mistake) → All IsPlaced rows → AllFit rows → AreFew rows
    → MatchOption o (IsWhole rows) (IsMissing rows last) → MatchOption o (IsPlan rows) (IsMistake rows last)
or_missing rows last None placed fit few whole = record { placed = placed; fit = fit; few = few; whole = whole }
or_missing rows last (Some m) placed fit few found = inr (placed, inr (fit, inr (few, found)))

-- no `#if` and no `#atomic` is open below the last row, if there is one

pub closed-none : (rows : List Row) → None ≡ slice_get rows (length rows - 1) → EndsClosed rows
closed-none rows is row at = absurd (none-some row (is ∙ at))

pub closed-row : (rows : List Row) (last : Row) → Some last ≡ slice_get rows (length rows - 1) → is_unended last ≡ false → EndsClosed rows
closed-row rows last is closed row at = subst (λ r. is_unended r ≡ false) (same_Some last row (is ∙ at)) closed

-- an element that passes is counted beyond those before it
counted-at : {X : Type 0} (p : X → Bool) (xs : List X) (i : ℕ) (x : X) → slice_get xs i ≡ Some x → p x ≡ true
    → count_by p (take i xs) < count_by p xs
counted-at p xs i x at passes =
    let low : i < length xs = slice_get_within xs i x at in
    let here : p (get_or xs i x) ≡ true = ap p (get_or_from_slice_get xs i x x at) ∙ passes in
    omega (arith, count_by_more_yes p xs i x low here, sum_by-take-le (λ y. cond (p y) 1 0) xs (i + 1))

not-misplaced : (rows : List Row) (m : Mistake) → IsMisplaced rows m → All IsPlaced rows → ⊥
not-misplaced rows m found placed = none-some m.cause (sym (All-at IsPlaced rows found.index found.row placed found.at) ∙ found.why)

not-misfit : (rows : List Row) (m : Mistake) → IsMisfit rows m → AllFit rows → ⊥
not-misfit rows m found own = none-some m.cause (sym (own found.index found.row found.at) ∙ found.why)

not-past : (rows : List Row) (m : Mistake) → IsPastLimit rows m → AreFew rows → ⊥
not-past rows m found few = absurd (omega (arith, found.full, counted-at is_line rows found.index found.row found.at found.counted))

not-incomplete : (rows : List Row) (last : ℕ) (m : Mistake) → IsOpen rows m ⊎ (EndsClosed rows × IsClientless rows last m) → IsWhole rows → ⊥
not-incomplete rows last m (inl found) whole = true≢false (sym found.inside ∙ whole.closed found.row found.last)
not-incomplete rows last m (inr found) whole = true≢false (sym whole.client ∙ found.1.none)

not-missing : (rows : List Row) (last : ℕ) (m : Mistake) → IsMissing rows last m → IsWhole rows → ⊥
not-missing rows last m (inl found) whole = none-some m.cause (sym (whole.ended found.row found.last) ∙ found.why)
not-missing rows last m (inr found) whole = not-incomplete rows last m found.1 whole

not-last : (rows : List Row) (last : ℕ) (m : Mistake) → IsPastLimit rows m ⊎ (AreFew rows × IsMissing rows last m) → IsPlan rows → ⊥
not-last rows last m (inl found) plan = not-past rows m found plan.few
not-last rows last m (inr found) plan = not-missing rows last m found.1 plan.whole

not-later : (rows : List Row) (last : ℕ) (m : Mistake) → IsLaterMistake rows last m → IsPlan rows → ⊥
not-later rows last m (inl found) plan = not-misfit rows m found plan.fit
not-later rows last m (inr found) plan = not-last rows last m found.1 plan

-- rows with a mistake make no plan
pub no-plan : (rows : List Row) (last : ℕ) (m : Mistake) → IsMistake rows last m → IsPlan rows → ⊥
no-plan rows last m (inl found) plan = not-misplaced rows m found plan.placed
no-plan rows last m (inr found) plan = not-later rows last m found.1 plan
