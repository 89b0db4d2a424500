-- What compares as equal is equal: answers.
use Rattle.std.proofs.Common.{◌≡◌, ℕ, nat_eq, Bool, true, ◌&&◌, refl, ap, ◌∙◌, subst, List}
use Rattle.std.proofs.lemmas.Bool.{eqb-true, and_parts, and_from, false≢true}
use lib.Pointwise.{pointwise}
use Rattle.point_core.specs.declared.refusal.LimitKind.{LimitKind}
use Rattle.point_core.specs.declared.refusal.LimitKind.TheVariants as limit
use Rattle.point_core.specs.declared.refusal.Refusal.{Refusal}
use Rattle.point_core.specs.declared.refusal.Refusal.TheVariants as refusal
use Rattle.point_core.specs.declared.status.Status.{Status}
use Rattle.point_core.specs.declared.status.Status.TheVariants as status
use Rattle.point_core.specs.Named.{same_name}
use Rattle.point_core.specs.contracts.refusal.LimitKindPartialEq.TheImpl as of_limit
use Rattle.point_core.specs.contracts.refusal.RefusalPartialEq.TheImpl as of_refusal
use Rattle.point_core.specs.contracts.status.StatusPartialEq.TheImpl as of_status
use Rattle.command_core.specs.declared.answer.Answer.{Answer}
use Rattle.command_core.specs.declared.answer.Answer.TheVariants as answer
use Rattle.command_core.specs.declared.answer.BufferRows.{BufferRows}
use Rattle.command_core.specs.declared.answer.FenceRow.{FenceRow}
use Rattle.command_core.specs.declared.answer.FileRow.{FileRow}
use Rattle.command_core.specs.declared.answer.Info.{Info}
use Rattle.command_core.specs.declared.answer.Maker.{Maker}
use Rattle.command_core.specs.declared.answer.Maker.TheVariants as maker
use Rattle.command_core.specs.declared.answer.ShowRow.{ShowRow}
use Rattle.command_core.specs.Tables.{Tables}
use Rattle.command_core.specs.contracts.answer.AnswerPartialEq.TheImpl as of_answer
use Rattle.command_core.specs.contracts.answer.MakerPartialEq.TheImpl as of_maker
use Rattle.explore_core.proofs.Same.{pointwise-is, pointwise-refl, number-refl, name-is, name-refl, same_usage, usage-is, usage-refl, same_row, row-is, row-refl}

abbrev same_status : Status → Status → Bool
same_status = of_status.ghosts.eq

status-is : (a b : Status) → same_status a b ≡ true → a ≡ b
status-is status.Active status.Active h = refl
status-is status.Signalled status.Signalled h = refl
status-is status.Cancelled status.Cancelled h = refl
status-is _ _ h = absurd (false≢true h)

abbrev same_maker : Maker → Maker → Bool
same_maker = of_maker.ghosts.eq

maker-is : (a b : Maker) → same_maker a b ≡ true → a ≡ b
maker-is maker.SwSync maker.SwSync h = refl
maker-is maker.Stub maker.Stub h = refl
maker-is _ _ h = absurd (false≢true h)

abbrev same_limit : LimitKind → LimitKind → Bool
same_limit = of_limit.ghosts.eq

limit-is : (a b : LimitKind) → same_limit a b ≡ true → a ≡ b
limit-is limit.Timelines limit.Timelines h = refl
limit-is limit.Buffers limit.Buffers h = refl
limit-is limit.Files limit.Files h = refl
limit-is limit.Watches limit.Watches h = refl
limit-is limit.Flags limit.Flags h = refl
limit-is limit.Clients limit.Clients h = refl
limit-is limit.Plan limit.Plan h = refl
limit-is limit.Script limit.Script h = refl
limit-is _ _ h = absurd (false≢true h)

abbrev same_refusal : Refusal → Refusal → Bool
same_refusal = of_refusal.ghosts.eq

refusal-is : (a b : Refusal) → same_refusal a b ≡ true → a ≡ b
refusal-is refusal.Syntax refusal.Syntax h = refl
refusal-is refusal.NoEntry refusal.NoEntry h = refl
refusal-is refusal.Exists refusal.Exists h = refl
refusal-is refusal.Overflow refusal.Overflow h = refl
refusal-is refusal.Flags refusal.Flags h = refl
refusal-is (refusal.Limit k) (refusal.Limit l) h = ap refusal.Limit (limit-is k l h)
refusal-is refusal.Signalled refusal.Signalled h = refl
refusal-is refusal.TimedOut refusal.TimedOut h = refl
refusal-is refusal.Foreign refusal.Foreign h = refl
refusal-is refusal.Torn refusal.Torn h = refl
refusal-is refusal.NotAll refusal.NotAll h = refl
refusal-is refusal.LongLine refusal.LongLine h = refl
refusal-is refusal.Read refusal.Read h = refl
refusal-is refusal.Write refusal.Write h = refl
refusal-is refusal.Cancelled refusal.Cancelled h = refl
refusal-is refusal.Memory refusal.Memory h = refl
refusal-is _ _ h = absurd (false≢true h)

abbrev same_fence : FenceRow → FenceRow → Bool
same_fence a b =
    same_name a.timeline b.timeline && (same_maker a.driver b.driver && (nat_eq a.point b.point && same_status a.status b.status))

fence-is : (a b : FenceRow) → same_fence a b ≡ true → a ≡ b
fence-is a b h =
    let parts = and_parts (same_name a.timeline b.timeline) (same_maker a.driver b.driver && (nat_eq a.point b.point && same_status a.status b.status)) h in
    let rest = and_parts (same_maker a.driver b.driver) (nat_eq a.point b.point && same_status a.status b.status) parts.1 in
    let last = and_parts (nat_eq a.point b.point) (same_status a.status b.status) rest.1 in
    let timeline : a.timeline ≡ b.timeline = name-is a.timeline b.timeline parts.0 in
    let driver : a.driver ≡ b.driver = maker-is a.driver b.driver rest.0 in
    let point : a.point ≡ b.point = eqb-true a.point b.point last.0 in
    let status : a.status ≡ b.status = status-is a.status b.status last.1 in
    λ i. record { timeline = timeline i; driver = driver i; point = point i; status = status i }

abbrev same_info : Info → Info → Bool
same_info a b = same_name a.name b.name && (same_status a.status b.status && pointwise same_fence a.fences b.fences)

info-is : (a b : Info) → same_info a b ≡ true → a ≡ b
info-is a b h =
    let parts = and_parts (same_name a.name b.name) (same_status a.status b.status && pointwise same_fence a.fences b.fences) h in
    let rest = and_parts (same_status a.status b.status) (pointwise same_fence a.fences b.fences) parts.1 in
    let name : a.name ≡ b.name = name-is a.name b.name parts.0 in
    let status : a.status ≡ b.status = status-is a.status b.status rest.0 in
    let fences : a.fences ≡ b.fences = pointwise-is same_fence fence-is a.fences b.fences rest.1 in
    λ i. record { name = name i; status = status i; fences = fences i }

abbrev same_show : ShowRow → ShowRow → Bool
same_show a b = same_usage a.usage b.usage && (same_name a.timeline b.timeline && nat_eq a.point b.point)

show-is : (a b : ShowRow) → same_show a b ≡ true → a ≡ b
show-is a b h =
    let parts = and_parts (same_usage a.usage b.usage) (same_name a.timeline b.timeline && nat_eq a.point b.point) h in
    let rest = and_parts (same_name a.timeline b.timeline) (nat_eq a.point b.point) parts.1 in
    let usage : a.usage ≡ b.usage = usage-is a.usage b.usage parts.0 in
    let timeline : a.timeline ≡ b.timeline = name-is a.timeline b.timeline rest.0 in
    let point : a.point ≡ b.point = eqb-true a.point b.point rest.1 in
    λ i. record { usage = usage i; timeline = timeline i; point = point i }

abbrev same_file_row : FileRow → FileRow → Bool
same_file_row a b = same_name a.name b.name && (same_status a.status b.status && nat_eq a.count b.count)

file_row-is : (a b : FileRow) → same_file_row a b ≡ true → a ≡ b
file_row-is a b h =
    let parts = and_parts (same_name a.name b.name) (same_status a.status b.status && nat_eq a.count b.count) h in
    let rest = and_parts (same_status a.status b.status) (nat_eq a.count b.count) parts.1 in
    let name : a.name ≡ b.name = name-is a.name b.name parts.0 in
    let status : a.status ≡ b.status = status-is a.status b.status rest.0 in
    let count : a.count ≡ b.count = eqb-true a.count b.count rest.1 in
    λ i. record { name = name i; status = status i; count = count i }

abbrev same_buffer_rows : BufferRows → BufferRows → Bool
same_buffer_rows a b = same_name a.name b.name && pointwise same_show a.rows b.rows

buffer_rows-is : (a b : BufferRows) → same_buffer_rows a b ≡ true → a ≡ b
buffer_rows-is a b h =
    let parts = and_parts (same_name a.name b.name) (pointwise same_show a.rows b.rows) h in
    let name : a.name ≡ b.name = name-is a.name b.name parts.0 in
    let rows : a.rows ≡ b.rows = pointwise-is same_show show-is a.rows b.rows parts.1 in
    λ i. record { name = name i; rows = rows i }

abbrev same_tables : Tables → Tables → Bool
same_tables a b = pointwise same_row a.timelines b.timelines && (pointwise same_file_row a.files b.files && pointwise same_buffer_rows a.buffers b.buffers)

tables-are : (a b : Tables) → same_tables a b ≡ true → a ≡ b
tables-are a b h =
    let parts = and_parts (pointwise same_row a.timelines b.timelines) (pointwise same_file_row a.files b.files && pointwise same_buffer_rows a.buffers b.buffers) h in
    let rest = and_parts (pointwise same_file_row a.files b.files) (pointwise same_buffer_rows a.buffers b.buffers) parts.1 in
    let timelines : a.timelines ≡ b.timelines = pointwise-is same_row row-is a.timelines b.timelines parts.0 in
    let files : a.files ≡ b.files = pointwise-is same_file_row file_row-is a.files b.files rest.0 in
    let buffers : a.buffers ≡ b.buffers = pointwise-is same_buffer_rows buffer_rows-is a.buffers b.buffers rest.1 in
    λ i. record { timelines = timelines i; files = files i; buffers = buffers i }

abbrev pub same_answer : Answer → Answer → Bool
same_answer = of_answer.ghosts.eq

raised-is : (m n : ℕ) (xs ys : List ℕ) → (nat_eq m n && pointwise nat_eq xs ys) ≡ true → answer.Raised m xs ≡ answer.Raised n ys
raised-is m n xs ys h =
    let parts = and_parts (nat_eq m n) (pointwise nat_eq xs ys) h in
    ap (λ k. answer.Raised k xs) (eqb-true m n parts.0) ∙ ap (answer.Raised n) (name-is xs ys parts.1)

pub answer-is : (a b : Answer) → same_answer a b ≡ true → a ≡ b
answer-is answer.Done answer.Done h = refl
answer-is (answer.Value m) (answer.Value n) h = ap answer.Value (eqb-true m n h)
answer-is (answer.Raised m xs) (answer.Raised n ys) h = raised-is m n xs ys h
answer-is (answer.Info i) (answer.Info j) h = ap answer.Info (info-is i j h)
answer-is (answer.Show xs) (answer.Show ys) h = ap answer.Show (pointwise-is same_show show-is xs ys h)
answer-is (answer.Report t) (answer.Report u) h = ap answer.Report (tables-are t u h)
answer-is (answer.Refused r) (answer.Refused s) h = ap answer.Refused (refusal-is r s h)
answer-is _ _ h = absurd (false≢true h)

-- what is equal compares as equal

status-refl : (a : Status) → same_status a a ≡ true
status-refl status.Active = refl
status-refl status.Signalled = refl
status-refl status.Cancelled = refl

maker-refl : (a : Maker) → same_maker a a ≡ true
maker-refl maker.SwSync = refl
maker-refl maker.Stub = refl

limit-refl : (a : LimitKind) → same_limit a a ≡ true
limit-refl limit.Timelines = refl
limit-refl limit.Buffers = refl
limit-refl limit.Files = refl
limit-refl limit.Watches = refl
limit-refl limit.Flags = refl
limit-refl limit.Clients = refl
limit-refl limit.Plan = refl
limit-refl limit.Script = refl

refusal-refl : (a : Refusal) → same_refusal a a ≡ true
refusal-refl (refusal.Limit k) = limit-refl k
refusal-refl refusal.Syntax = refl
refusal-refl refusal.NoEntry = refl
refusal-refl refusal.Exists = refl
refusal-refl refusal.Overflow = refl
refusal-refl refusal.Flags = refl
refusal-refl refusal.Signalled = refl
refusal-refl refusal.TimedOut = refl
refusal-refl refusal.Foreign = refl
refusal-refl refusal.Torn = refl
refusal-refl refusal.NotAll = refl
refusal-refl refusal.LongLine = refl
refusal-refl refusal.Read = refl
refusal-refl refusal.Write = refl
refusal-refl refusal.Cancelled = refl
refusal-refl refusal.Memory = refl

fence-refl : (a : FenceRow) → same_fence a a ≡ true
fence-refl a =
    and_from (same_name a.timeline a.timeline) (same_maker a.driver a.driver && (nat_eq a.point a.point && same_status a.status a.status)) (name-refl a.timeline)
    (and_from (same_maker a.driver a.driver) (nat_eq a.point a.point && same_status a.status a.status) (maker-refl a.driver)
    (and_from (nat_eq a.point a.point) (same_status a.status a.status) (number-refl a.point) (status-refl a.status)))

info-refl : (a : Info) → same_info a a ≡ true
info-refl a =
    and_from (same_name a.name a.name) (same_status a.status a.status && pointwise same_fence a.fences a.fences) (name-refl a.name)
    (and_from (same_status a.status a.status) (pointwise same_fence a.fences a.fences) (status-refl a.status) (pointwise-refl same_fence fence-refl a.fences))

show-refl : (a : ShowRow) → same_show a a ≡ true
show-refl a =
    and_from (same_usage a.usage a.usage) (same_name a.timeline a.timeline && nat_eq a.point a.point) (usage-refl a.usage)
    (and_from (same_name a.timeline a.timeline) (nat_eq a.point a.point) (name-refl a.timeline) (number-refl a.point))

file_row-refl : (a : FileRow) → same_file_row a a ≡ true
file_row-refl a =
    and_from (same_name a.name a.name) (same_status a.status a.status && nat_eq a.count a.count) (name-refl a.name)
    (and_from (same_status a.status a.status) (nat_eq a.count a.count) (status-refl a.status) (number-refl a.count))

buffer_rows-refl : (a : BufferRows) → same_buffer_rows a a ≡ true
buffer_rows-refl a = and_from (same_name a.name a.name) (pointwise same_show a.rows a.rows) (name-refl a.name) (pointwise-refl same_show show-refl a.rows)

tables-refl : (a : Tables) → same_tables a a ≡ true
tables-refl a =
    and_from (pointwise same_row a.timelines a.timelines) (pointwise same_file_row a.files a.files && pointwise same_buffer_rows a.buffers a.buffers) (pointwise-refl same_row row-refl a.timelines)
    (and_from (pointwise same_file_row a.files a.files) (pointwise same_buffer_rows a.buffers a.buffers) (pointwise-refl same_file_row file_row-refl a.files)
    (pointwise-refl same_buffer_rows buffer_rows-refl a.buffers))

answer-refl : (a : Answer) → same_answer a a ≡ true
answer-refl answer.Done = refl
answer-refl (answer.Value m) = number-refl m
answer-refl (answer.Raised m xs) = and_from (nat_eq m m) (pointwise nat_eq xs xs) (number-refl m) (name-refl xs)
answer-refl (answer.Info i) = info-refl i
answer-refl (answer.Show xs) = pointwise-refl same_show show-refl xs
answer-refl (answer.Report t) = tables-refl t
answer-refl (answer.Refused r) = refusal-refl r

pub answer-same : (a b : Answer) → a ≡ b → same_answer a b ≡ true
answer-same a b is = subst (λ (x : Answer). same_answer a x ≡ true) is (answer-refl a)
