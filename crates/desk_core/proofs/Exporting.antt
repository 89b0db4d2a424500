-- Why an export is refused, and what it lists.
use Rattle.std.proofs.Common.{◌≡◌, ℕ, Bool, true, false, refl, sym, List, [], Option, None, Some}
use Rattle.std.specs.Prelude.{if◌then◌else◌, option_copied, IfNone, IfSome}
use Rattle.point_core.specs.declared.entry.Entry.{Entry}
use Rattle.point_core.specs.declared.refusal.Refusal.{Refusal}
use Rattle.point_core.specs.declared.refusal.Refusal.TheVariants.{NoEntry, Flags}
use Rattle.point_core.specs.Agreement.{listing}
use Rattle.point_core.specs.Latest.{points_above}
use Rattle.syncfile_core.specs.Drafts.{pending_of}
use Rattle.syncfile_core.specs.Files.{cause_to_refuse}
use Rattle.dmabuf_core.specs.Buffers.{has_buffer, cause_by_flags}
use Rattle.dmabuf_core.specs.Flags.{is_sync_flags}
use Rattle.command_core.specs.declared.command.Command.TheVariants as command
use Rattle.desk_core.specs.theorem.Desk.{DeskState}
use Rattle.desk_core.specs.Keeping.{cause_of}
use denote.Bor.{Bor}

-- why it is refused, with the cause by the name of the file
abbrev cause_with : Bool → Bool → Option Refusal → Option Refusal
cause_with has valid by_name = if has then (if valid then by_name else Some Flags) else Some NoEntry

cause_with-some : (has valid : Bool) (by_name : Option Refusal) (cause : Refusal) → cause_with has valid None ≡ Some cause → cause_with has valid by_name ≡ Some cause
cause_with-some true true by_name cause is = absurd (cc)
cause_with-some true false by_name cause is = is
cause_with-some false valid by_name cause is = is

cause_with-none : (has valid : Bool) (by_name : Option Refusal) → cause_with has valid None ≡ None → cause_with has valid by_name ≡ by_name
cause_with-none true true by_name none = refl
cause_with-none true false by_name none = absurd (cc)
cause_with-none false valid by_name none = absurd (cc)

module _ (d : DeskState) (name b : List ℕ) (flags : ℕ) where
  -- for the buffer or the flags
  pub cause_of-export_buffer : (cause : Refusal) → cause_by_flags d.buffers b flags ≡ Some cause → cause_of d (command.Export name b flags) ≡ Some cause
  cause_of-export_buffer cause is = cause_with-some (has_buffer d.buffers b) (is_sync_flags flags) (cause_to_refuse d.files name) cause is

  -- else for the file
  pub cause_of-export_file : cause_by_flags d.buffers b flags ≡ None → cause_of d (command.Export name b flags) ≡ cause_to_refuse d.files name
  cause_of-export_file none = cause_with-none (has_buffer d.buffers b) (is_sync_flags flags) (cause_to_refuse d.files name) none

-- what a buffer's table has above a reach is what is listed
pub pending_of-listing : (latest : Option (Bor (List ℕ))) (es : List Entry) (usage : ℕ) (reach : List ℕ) → IfNone latest ((reach : List ℕ) → listing es usage reach ≡ []) → IfSome latest (λ l. (reach : List ℕ) → points_above l.now reach ≡ listing es usage reach) → pending_of (option_copied latest) reach ≡ listing es usage reach
pending_of-listing None es usage reach none some = sym (none reach)
pending_of-listing (Some l) es usage reach none some = some reach
