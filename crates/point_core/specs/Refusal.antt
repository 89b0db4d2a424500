-- The table of errors: number, name, and the word of a limit; and the answer of a call that may be refused.
use Rattle.std.specs.Prelude.{◌≡◌, ℕ, List, codes, Option, None, Some, Result, Ok, Err, ⊤}
use Rattle.point_core.specs.declared.refusal.LimitKind.{LimitKind}
use Rattle.point_core.specs.declared.refusal.LimitKind.TheVariants.{Timelines, Buffers, Files, Watches, Flags as FlagsKind, Clients, Plan, Script}
use Rattle.point_core.specs.declared.refusal.Refusal.{Refusal}
use Rattle.point_core.specs.declared.refusal.Refusal.TheVariants.{Syntax, NoEntry, Exists, Overflow, Flags, Limit, Signalled, TimedOut, Foreign, Torn, NotAll, LongLine, Read, Write, Cancelled, Memory}

abbrev pub refusal_number : Refusal → ℕ
refusal_number Syntax = 1
refusal_number NoEntry = 2
refusal_number Exists = 3
refusal_number Overflow = 4
refusal_number Flags = 5
refusal_number (Limit kind) = 6
refusal_number Signalled = 7
refusal_number TimedOut = 8
refusal_number Foreign = 9
refusal_number Torn = 10
refusal_number NotAll = 11
refusal_number LongLine = 12
refusal_number Read = 13
refusal_number Write = 14
refusal_number Cancelled = 15
refusal_number Memory = 16

abbrev pub refusal_name : Refusal → List ℕ
refusal_name Syntax = codes "Syntax"
refusal_name NoEntry = codes "NoEntry"
refusal_name Exists = codes "Exists"
refusal_name Overflow = codes "Overflow"
refusal_name Flags = codes "Flags"
refusal_name (Limit kind) = codes "Limit"
refusal_name Signalled = codes "Signalled"
refusal_name TimedOut = codes "TimedOut"
refusal_name Foreign = codes "Foreign"
refusal_name Torn = codes "Torn"
refusal_name NotAll = codes "NotAll"
refusal_name LongLine = codes "LongLine"
refusal_name Read = codes "Read"
refusal_name Write = codes "Write"
refusal_name Cancelled = codes "Cancelled"
refusal_name Memory = codes "Memory"

abbrev pub limit_word : LimitKind → List ℕ
limit_word Timelines = codes "timelines"
limit_word Buffers = codes "buffers"
limit_word Files = codes "files"
limit_word Watches = codes "watches"
limit_word FlagsKind = codes "flags"
limit_word Clients = codes "clients"
limit_word Plan = codes "plan"
limit_word Script = codes "script"

-- the call is refused for the cause, and without a cause only with Memory
abbrev pub IsRefusedFor : {T : Type 0} → Option Refusal → Result T Refusal → Type 0
IsRefusedFor (Some cause) result = result ≡ Err cause
IsRefusedFor None (Ok value) = ⊤
IsRefusedFor None (Err refusal) = refusal ≡ Memory
