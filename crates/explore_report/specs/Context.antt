-- The context of a plan's line: its section, what is directly above it, in how many branches and in which `#atomic` it is, and what
-- notes say of it.
use Rattle.std.specs.Prelude.{ℕ, ◌+◌, ◌-◌, ◌==◌, ◌||◌, nat_lt, Bool, true, false, if◌then◌else◌, List, Option, None, Some}
use Rattle.explore_report.specs.declared.cause.TheConstants.{PLAN_CLIENTS, PLAN_LINES}
use Rattle.explore_report.specs.declared.context.Above.{Above}
use Rattle.explore_report.specs.declared.context.Above.TheVariants as above
use Rattle.explore_report.specs.declared.context.Atomic.{Atomic}
use Rattle.explore_report.specs.declared.context.Atomic.TheVariants as atomic
use Rattle.explore_report.specs.declared.context.Context.{Context}
use Rattle.explore_report.specs.declared.context.Section.{Section}
use Rattle.explore_report.specs.declared.context.Section.TheVariants as section
use Rattle.explore_report.specs.declared.mark.Mark.{Mark}
use Rattle.explore_report.specs.declared.mark.Mark.TheVariants as mark

-- nothing is above the first line of a section
abbrev pub begun : Section → Context
begun s = record { section = s; above = above.Nothing; depth = 0; follows = None; turn = None; atomic = atomic.Outside }

-- the first line of a plan
abbrev pub start : Context
start = begun section.First

-- the section that a client begins; clients past the limit are all of one number
abbrev pub next_client : Section → Section
next_client section.First = section.Client 0
next_client (section.Client number) = if nat_lt number PLAN_CLIENTS then section.Client (number + 1) else section.Client number
next_client section.Last = section.Last

-- one more open branch; each has a line of its own above its `#if`, so a plan has no more of them than lines
abbrev pub one_more : ℕ → ℕ
one_more depth = if nat_lt depth PLAN_LINES then depth + 1 else depth

-- an `#atomic` with one more line above
abbrev pub continued : Atomic → Atomic
continued (atomic.Begins depth) = atomic.Continues depth
continued inside = inside

-- the line is in an `#atomic`
abbrev pub is_inside : Atomic → Bool
is_inside atomic.Outside = false
is_inside _ = true

-- the line is in an `#atomic`, below a line of it
abbrev pub is_continued : Atomic → Bool
is_continued (atomic.Continues depth) = true
is_continued _ = false

-- the line is in an `#atomic`, and in none of the branches in it: that many are open
abbrev pub is_innermost : ℕ → Atomic → Bool
is_innermost depth atomic.Outside = false
is_innermost depth (atomic.Begins around) = around == depth
is_innermost depth (atomic.Continues around) = around == depth

-- the line is in a branch, or in an `#atomic`
abbrev pub is_enclosed : Context → Bool
is_enclosed at = nat_lt 0 at.depth || is_inside at.atomic

-- a line with that directly above it, in that many branches and that `#atomic`, of which no note says more
abbrev pub enclosed : Context → Above → ℕ → Atomic → Context
enclosed at a depth inside =
    record { section = at.section; above = a; depth = depth; follows = None; turn = None; atomic = inside }

-- a line with that directly above it, in that many branches, of which no note says more
abbrev pub branched : Context → Above → ℕ → Context
branched at a depth = enclosed at a depth at.atomic

-- a line with that directly above it, of which no note says more
abbrev pub below : Context → Above → Context
below at a = branched at a at.depth

-- a line of which the notes above say this
abbrev pub noted : Context → Above → Option (List ℕ) → Option ℕ → Context
noted at a follows turn =
    record { section = at.section; above = a; depth = at.depth; follows = follows; turn = turn; atomic = at.atomic }

-- what is directly above the line below a note on it: an `#await` or `#once` stays that
abbrev pub with_note : Above → Above
with_note above.Await = above.Await
with_note above.Once = above.Once
with_note _ = above.Note

-- below an `#end`, which ends the `#atomic` or the innermost branch
abbrev pub ended : Context → Context
ended at =
    if is_innermost at.depth at.atomic then enclosed at above.Nothing at.depth atomic.Outside
    else branched at above.Nothing (at.depth - 1)

-- the context of the line below one that says this
abbrev pub after : Context → Mark → Context
after at (mark.Client name) = begun (next_client at.section)
after at mark.Finally = begun section.Last
after at mark.Await = noted at above.Await at.follows at.turn
after at mark.Once = noted at above.Once at.follows at.turn
after at (mark.Named name) = noted at (with_note at.above) at.follows at.turn
after at (mark.After name) = noted at (with_note at.above) (Some name) at.turn
after at (mark.Turn number) = noted at (with_note at.above) at.follows (Some number)
after at mark.If = branched at above.If (one_more at.depth)
after at mark.Else = below at above.Nothing
after at (mark.Access v name) = below at above.Nothing
after at mark.Atomic = enclosed at above.Nothing at.depth (atomic.Begins at.depth)
after at mark.End = ended at
after at mark.Expected = below at above.Command
after at mark.OrExpected = below at above.Command
after at mark.OrBegins = below at above.Command
after at (mark.Command command) = enclosed at above.Command at.depth (continued at.atomic)
after at (mark.Wrong why) = below at above.Command

abbrev pub is_client : ℕ → Section → Bool
is_client client section.First = false
is_client client (section.Client number) = number == client
is_client client section.Last = false

abbrev pub is_same : Section → Section → Bool
is_same section.First section.First = true
is_same section.First (section.Client number) = false
is_same section.First section.Last = false
is_same (section.Client number) section.First = false
is_same (section.Client number) (section.Client other) = number == other
is_same (section.Client number) section.Last = false
is_same section.Last section.First = false
is_same section.Last (section.Client number) = false
is_same section.Last section.Last = true
