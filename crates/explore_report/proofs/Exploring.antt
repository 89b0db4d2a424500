-- A plan of rows that are placed can be explored.
use Rattle.std.proofs.Common.{◌≡◌, ℕ, ◌+◌, Bool, true, false, refl, sym, subst, List, [], ◌∷◌, length, Option, None, Some, All, slice_get}
use Rattle.std.specs.Prelude.{unwrap_or, option_map, nat_lt, ◌&&◌, if◌then◌else◌}
use Rattle.std.specs.List.{flat_map}
use Rattle.std.specs.Option.{option_to_list}
use Rattle.std.proofs.lemmas.List.Elements.{All-append, All-cons, All-get_or, All-head, All-nil, All-tail}
use Rattle.std.proofs.lemmas.Option.{get_or_from_slice_get, none-some, same_Some, slice_get_within}
use Rattle.command_core.specs.declared.command.Command.{Command}
use Rattle.command_core.specs.declared.command.Command.TheVariants as command
use Rattle.explore_core.specs.Alike.{AsksOnly}
use Rattle.explore_core.specs.Found.{CanBeExplored, RegistersNone}
use Rattle.explore_core.specs.declared.plan.Step.{Step}
use Rattle.explore_report.specs.declared.context.Section.{Section}
use Rattle.explore_report.specs.declared.context.Section.TheVariants as section
use Rattle.explore_report.specs.declared.mark.Mark.{Mark}
use Rattle.explore_report.specs.declared.mark.Mark.TheVariants as mark
use Rattle.explore_report.specs.declared.purpose.Purpose.{Purpose}
use Rattle.explore_report.specs.declared.row.Row.{Row}
use Rattle.explore_report.specs.Context.{is_continued, is_enclosed, is_same, next_client}
use Rattle.explore_report.specs.declared.cause.Cause.{Cause}
use Rattle.explore_report.specs.declared.cause.Cause.TheVariants as cause
use Rattle.explore_report.specs.declared.cause.TheConstants.{PLAN_CLIENTS}
use Rattle.explore_report.specs.declared.context.Above.{Above}
use Rattle.explore_report.specs.declared.context.Above.TheVariants as above
use Rattle.explore_report.specs.declared.context.Atomic.{Atomic}
use Rattle.explore_report.specs.declared.context.Context.{Context}
use Rattle.explore_report.specs.Mistake.{IsPlaced, cause_of, client_below, command_cause, is_wait, plain_cause, section_cause, unless_noted}
use Rattle.explore_report.specs.Plan.{clients_at, clients_in, commands_at, commands_in, lines_begun, plan_of, step_of, steps_at, steps_from, steps_in}
use Rattle.explore_report.specs.Rows.{command_in, command_said}

-- a client's lines ask for no report, and register no watch
pub record IsQuiet (c : Command) : Type 0 where
  pub asks : AsksOnly (λ name. true) c
  pub registers : RegistersNone c

-- what is known of a command that may stand in a section
abbrev may_stand : Section → Command → Type 0
may_stand section.First c = RegistersNone c
may_stand (section.Client number) c = IsQuiet c
may_stand section.Last c = AsksOnly (λ name. true) c

in_first : (c : Command) → section_cause section.First c ≡ None → RegistersNone c
in_first (command.Watch f cookie) is = none-some cause.Watch (sym is)
in_first _ is = tt

in_last : (c : Command) → section_cause section.Last c ≡ None → AsksOnly (λ name. true) c
in_last command.Report is = none-some cause.Report (sym is)
in_last (command.Info f) is = refl
in_last _ is = tt

in_client : (number : ℕ) (c : Command) → section_cause (section.Client number) c ≡ None → IsQuiet c
in_client number command.Report is = absurd (none-some cause.Report (sym is))
in_client number (command.Watch f cookie) is = absurd (none-some cause.Watch (sym is))
in_client number (command.Info f) is = record { asks = refl; registers = tt }
in_client number _ is = record { asks = tt; registers = tt }

stands : (s : Section) (c : Command) → section_cause s c ≡ None → may_stand s c
stands section.First c is = in_first c is
stands (section.Client number) c is = in_client number c is
stands section.Last c is = in_last c is

-- a command that is checked once is a `wait`, which may be in any section
once_stands : (inside : Atomic) (s : Section) (c : Command) → command_cause above.Once inside s c ≡ None → section_cause s c ≡ None
once_stands inside s (command.Wait f) is = refl
once_stands inside s _ is = absurd (none-some cause.ChecksNothing (sym is))

unless_waits : (b : Bool) (o : Option Cause) → (if b then Some cause.WaitsInside else o) ≡ None → o ≡ None
unless_waits true o is = absurd (none-some cause.WaitsInside (sym is))
unless_waits false o is = is

plain_allows : (inside : Atomic) (s : Section) (c : Command) → plain_cause inside s c ≡ None → section_cause s c ≡ None
plain_allows inside s c is = unless_waits (is_wait c && is_continued inside) (section_cause s c) is

section_allows : (a : Above) (inside : Atomic) (s : Section) (c : Command) → command_cause a inside s c ≡ None → section_cause s c ≡ None
section_allows above.Once inside s c is = once_stands inside s c is
section_allows _ inside s c is = plain_allows inside s c is

-- all elements that a function gives satisfy it
pub All-flat_map : {A B : Type 0} (P : B → Type 0) (Q : A → Type 0) (f : A → List B) → ((a : A) → Q a → All P (f a))
    → (xs : List A) → All Q xs → All P (flat_map f xs)
All-flat_map P Q f each [] all = All-nil P
All-flat_map P Q f each (x ∷ xs) all =
    All-append P (f x) (flat_map f xs) (each x (All-head Q x xs all)) (All-flat_map P Q f each xs (All-tail Q x xs all))

pub All-at : {A : Type 0} (P : A → Type 0) (xs : List A) (i : ℕ) (x : A) → All P xs → slice_get xs i ≡ Some x → P x
All-at P xs i x all is =
    subst P (get_or_from_slice_get xs i x x is) (All-get_or P xs i x (slice_get_within xs i x is) all)

-- a command of a row that stands in the other section
same_stands : (at s : Section) (o : Option Command) (c : Command) → (if is_same at s then o else None) ≡ Some c
    → may_stand at c → may_stand s c
same_stands section.First section.First o c is may = may
same_stands section.First (section.Client k) o c is may = absurd (none-some c is)
same_stands section.First section.Last o c is may = absurd (none-some c is)
same_stands (section.Client n) section.First o c is may = absurd (none-some c is)
same_stands (section.Client n) (section.Client k) o c is may = may
same_stands (section.Client n) section.Last o c is may = absurd (none-some c is)
same_stands section.Last section.First o c is may = absurd (none-some c is)
same_stands section.Last (section.Client k) o c is may = absurd (none-some c is)
same_stands section.Last section.Last o c is may = may

if_said : (b : Bool) (o : Option Command) (c : Command) → (if b then o else None) ≡ Some c → o ≡ Some c
if_said true o c is = is
if_said false o c is = absurd (none-some c is)

mark_stands : (at : Context) (m : Mark) (c : Command) → cause_of at m ≡ None → command_said m ≡ Some c → may_stand at.section c
mark_stands at (mark.Command d) c placed is =
    subst (may_stand at.section) (same_Some d c is) (stands at.section d (section_allows at.above at.atomic at.section d placed))
mark_stands at _ c placed is = absurd (none-some c is)

row_stands : (s : Section) (row : Row) (c : Command) → IsPlaced row → command_in s row ≡ Some c → may_stand s c
row_stands s row c placed is =
    same_stands row.context.section s (command_said row.mark) c is
    (mark_stands row.context row.mark c placed (if_said (is_same row.context.section s) (command_said row.mark) c is))

listed : (o : Option Command) (P : Command → Type 0) → ((c : Command) → o ≡ Some c → P c) → All P (option_to_list o)
listed None P each = All-nil P
listed (Some c) P each = All-cons P c [] (each c refl) (All-nil P)

commands_stand : (s : Section) (rows : List Row) → All IsPlaced rows → All (may_stand s) (commands_in s rows)
commands_stand s rows all =
    All-flat_map (may_stand s) IsPlaced (commands_at s)
    (λ row placed. listed (command_in s row) (may_stand s) (λ c is. row_stands s row c placed is)) rows all

abbrev quiet_step : Step → Type 0
quiet_step step = IsQuiet step.command

listed_step : (aim : Purpose) (lines : List (List ℕ)) (rows : List Row) (place : ℕ) (o : Option Command) (row : Row) (below : List Row) → ((c : Command) → o ≡ Some c → IsQuiet c)
    → All quiet_step (option_to_list (option_map (step_of aim lines rows place row below) o))
listed_step aim lines rows place None row below each = All-nil quiet_step
listed_step aim lines rows place (Some c) row below each = All-cons quiet_step (step_of aim lines rows place row below c) [] (each c refl) (All-nil quiet_step)

steps_quiet : (aim : Purpose) (lines : List (List ℕ)) (all_rows : List Row) (k place : ℕ) (rows : List Row) → All IsPlaced rows
    → All quiet_step (steps_from aim lines all_rows (section.Client k) place rows)
steps_quiet aim lines all_rows k place [] all = All-nil quiet_step
steps_quiet aim lines all_rows k place (row ∷ below) all =
    let s = section.Client k in
    let own = steps_at aim lines all_rows s place row below in
    let placed = All-head IsPlaced row below all in
    All-append quiet_step own (steps_from aim lines all_rows s (place + length own) below)
    (listed_step aim lines all_rows place (command_in s row) row below (λ c is. row_stands s row c placed is))
    (steps_quiet aim lines all_rows k (place + length own) below (All-tail IsPlaced row below all))

-- the section that a placed client begins is a client's
next_of : (b : Bool) (n : ℕ) → (k : ℕ) × ((if b then section.Client (n + 1) else section.Client n) ≡ section.Client k)
next_of true n = (n + 1, refl)
next_of false n = (n, refl)

next_is_client : (a : Above) (inside : Bool) (s : Section) → unless_noted a (if inside then Some cause.NotEnded else client_below s) ≡ None
    → (k : ℕ) × (next_client s ≡ section.Client k)
next_is_client a inside section.First is = (0, refl)
next_is_client a inside (section.Client n) is = next_of (nat_lt n PLAN_CLIENTS) n
next_is_client above.Await inside section.Last is = absurd (none-some cause.AwaitsNothing (sym is))
next_is_client above.Once inside section.Last is = absurd (none-some cause.ChecksNothing (sym is))
next_is_client above.Note inside section.Last is = absurd (none-some cause.NotesNothing (sym is))
next_is_client _ true section.Last is = absurd (none-some cause.NotEnded (sym is))
next_is_client _ false section.Last is = absurd (none-some cause.ClientBelowFinally (sym is))

begun_quiet : (aim : Purpose) (lines : List (List ℕ)) (rows : List Row) → All IsPlaced rows → (at : Context) (m : Mark) → cause_of at m ≡ None
    → All (All quiet_step) (lines_begun aim lines rows at.section m)
begun_quiet aim lines rows all at (mark.Client name) placed =
    let next = next_is_client at.above (is_enclosed at) at.section placed in
    All-cons (All quiet_step) (steps_in aim lines (next_client at.section) rows) []
    (subst (λ s. All quiet_step (steps_in aim lines s rows)) (sym next.1) (steps_quiet aim lines rows next.0 0 rows all)) (All-nil (All quiet_step))
begun_quiet aim lines rows all at _ placed = All-nil (All quiet_step)

clients_quiet : (aim : Purpose) (lines : List (List ℕ)) (rows : List Row) → All IsPlaced rows → All (All quiet_step) (clients_in aim lines rows)
clients_quiet aim lines rows all =
    All-flat_map (All quiet_step) IsPlaced (clients_at aim lines rows) (λ row placed. begun_quiet aim lines rows all row.context row.mark placed) rows all

line_quiet : (lines : List (List Step)) (client place : ℕ) (step : Step) → All (All quiet_step) lines
    → (found : Option (List Step)) → slice_get lines client ≡ found → slice_get (unwrap_or found []) place ≡ Some step → quiet_step step
line_quiet lines client place step all None at is = absurd (none-some step is)
line_quiet lines client place step all (Some steps) at is =
    All-at quiet_step steps place step (All-at (All quiet_step) lines client steps all at) is

-- a plan of rows that are all placed can be explored
pub placed-explorable : (aim : Purpose) (lines : List (List ℕ)) (rows : List Row) → All IsPlaced rows → CanBeExplored (plan_of aim lines rows)
placed-explorable aim lines rows all = record {
  asks = record {
    lines = λ client place step is.
        (line_quiet (clients_in aim lines rows) client place step (clients_quiet aim lines rows all) (slice_get (clients_in aim lines rows) client) refl is).asks;
    last = commands_stand section.Last rows all;
  };
  first = commands_stand section.First rows all;
  lines = λ client place step is.
      (line_quiet (clients_in aim lines rows) client place step (clients_quiet aim lines rows all) (slice_get (clients_in aim lines rows) client) refl is).registers;
}
