-- The command that the arguments of a call ask for, or their error: Syntax for an invalid name, Flags for a number that
-- is no usage.
use Rattle.std.specs.Prelude.{ℕ, ℤ, nat_le, Bool, ◌&&◌, if◌then◌else◌, List, length, ok_or, Result, Ok, Err}
use Rattle.std.specs.List.{list_all}
use Rattle.point_core.specs.declared.name.TheConstants.{NAME_BYTES}
use Rattle.point_core.specs.declared.entry.Usage.{Usage}
use Rattle.c_handle.specs.Usages.{usage_of as usage_at}
use Rattle.point_core.specs.declared.refusal.Refusal.{Refusal}
use Rattle.point_core.specs.declared.refusal.Refusal.TheVariants.{Syntax, Flags}
use Rattle.point_core.specs.Name.{is_name_byte}
use Rattle.command_core.specs.declared.command.Command.{Command}
use Rattle.command_core.specs.declared.command.Command.TheVariants as command

-- 1 to NAME_BYTES letters, digits, `_`, `.` or `-`
abbrev pub is_name : List ℕ → Bool
is_name bytes = nat_le 1 (length bytes) && nat_le (length bytes) NAME_BYTES && list_all is_name_byte bytes

-- the name with these bytes
abbrev pub name_of : List ℕ → Result (List ℕ) Refusal
name_of bytes = if is_name bytes then Ok bytes else Err Syntax

-- the usage with this number, as Linux's enum dma_resv_usage counts
abbrev pub usage_of : ℤ → Result Usage Refusal
usage_of number = ok_or (usage_at number) Flags

-- the first error, or the function of the value
abbrev pub then_of : {A B : Type 0} → Result A Refusal → (A → Result B Refusal) → Result B Refusal
then_of (Ok a) next = next a
then_of (Err refusal) next = Err refusal

abbrev CommandResult : Type 0
CommandResult = Result Command Refusal

-- a command of one name, of two, and of three
abbrev of_one : (List ℕ → Command) → List ℕ → CommandResult
of_one made a = then_of (name_of a) (λ a. Ok (made a))

abbrev of_two : (List ℕ → List ℕ → Command) → List ℕ → List ℕ → CommandResult
of_two made a b = then_of (name_of a) (λ a. of_one (made a) b)

abbrev of_three : (List ℕ → List ℕ → List ℕ → Command) → List ℕ → List ℕ → List ℕ → CommandResult
of_three made a b c = then_of (name_of a) (λ a. of_two (made a) b c)

abbrev pub timeline_command : List ℕ → CommandResult
timeline_command t = of_one command.Timeline t

abbrev pub inc_command : List ℕ → ℕ → CommandResult
inc_command t n = of_one (λ t. command.Inc t n) t

abbrev pub shut_command : List ℕ → CommandResult
shut_command t = of_one command.Shut t

abbrev pub value_command : List ℕ → CommandResult
value_command t = of_one command.Value t

abbrev pub fence_command : List ℕ → List ℕ → ℕ → CommandResult
fence_command f t p = of_two (λ f t. command.Fence f t p) f t

abbrev pub merge_command : List ℕ → List ℕ → List ℕ → CommandResult
merge_command f a b = of_three command.Merge f a b

abbrev pub close_command : List ℕ → CommandResult
close_command f = of_one command.Close f

abbrev pub wait_command : List ℕ → CommandResult
wait_command f = of_one command.Wait f

abbrev pub info_command : List ℕ → CommandResult
info_command f = of_one command.Info f

abbrev pub buffer_command : List ℕ → CommandResult
buffer_command b = of_one command.Buffer b

abbrev pub add_command : List ℕ → List ℕ → ℕ → ℤ → CommandResult
add_command b t p usage =
    then_of (name_of b) (λ b. then_of (name_of t) (λ t. then_of (usage_of usage) (λ u. Ok (command.Add b t p u))))

abbrev pub import_command : List ℕ → List ℕ → ℕ → CommandResult
import_command b f flags = of_two (λ b f. command.Import b f flags) b f

abbrev pub export_command : List ℕ → List ℕ → ℕ → CommandResult
export_command f b flags = of_two (λ f b. command.Export f b flags) f b

abbrev pub test_command : List ℕ → ℤ → CommandResult
test_command b usage = then_of (name_of b) (λ b. then_of (usage_of usage) (λ u. Ok (command.Test b u)))

abbrev pub trim_command : List ℕ → CommandResult
trim_command b = of_one command.Trim b

abbrev pub show_command : List ℕ → CommandResult
show_command b = of_one command.Show b

abbrev pub watch_command : List ℕ → ℕ → CommandResult
watch_command f cookie = of_one (λ f. command.Watch f cookie) f

abbrev pub unwatch_command : ℕ → CommandResult
unwatch_command cookie = Ok (command.Unwatch cookie)

abbrev pub report_command : CommandResult
report_command = Ok command.Report
