-- Operands: the words after a line's first word, one for each operand of the command, each of its kind.
use Rattle.std.specs.Prelude.{ℕ, nat_le, Bool, ◌&&◌, if◌then◌else◌, List, length, Option, None, Some}
use Rattle.std.specs.Option.{option_and_then}
use Rattle.std.specs.List.{list_all}
use Rattle.point_core.specs.declared.name.TheConstants.{NAME_BYTES}
use Rattle.point_core.specs.Name.{is_name_byte}
use Rattle.point_core.specs.declared.entry.Usage.{Usage}
use Rattle.command_core.specs.declared.command.Command.{Command}
use Rattle.line_core.specs.Number.{number_of}
use Rattle.line_core.specs.Usages.{usage_of, flags_of}
use Rattle.line_core.specs.Words.{one_of, two_of, three_of, four_of}

-- 1 to NAME_BYTES letters, digits, `_`, `.` or `-`
abbrev pub is_name : List ℕ → Bool
is_name word = nat_le 1 (length word) && nat_le (length word) NAME_BYTES && list_all is_name_byte word

abbrev pub name_of : List ℕ → Option (List ℕ)
name_of word = if is_name word then Some word else None

abbrev pub both : {A B : Type 0} → Option A → Option B → Option (A × B)
both None b = None
both (Some a) None = None
both (Some a) (Some b) = Some (a, b)

abbrev pub all_three : {A B C : Type 0} → Option A → Option B → Option C → Option (A × B × C)
all_three None b c = None
all_three (Some a) None c = None
all_three (Some a) (Some b) None = None
all_three (Some a) (Some b) (Some c) = Some (a, b, c)

abbrev pub all_four : {A B C D : Type 0} → Option A → Option B → Option C → Option D → Option (A × B × C × D)
all_four None b c d = None
all_four (Some a) None c d = None
all_four (Some a) (Some b) None d = None
all_four (Some a) (Some b) (Some c) None = None
all_four (Some a) (Some b) (Some c) (Some d) = Some (a, b, c, d)

abbrev pub one_name : List (List ℕ) → Option (List ℕ)
one_name words = option_and_then name_of (one_of words)

abbrev pub one_number : List (List ℕ) → Option ℕ
one_number words = option_and_then number_of (one_of words)

abbrev pub name_and_number : List (List ℕ) → Option (List ℕ × ℕ)
name_and_number words = option_and_then (λ w. both (name_of w.0) (number_of w.1)) (two_of words)

abbrev pub two_names_and_number : List (List ℕ) → Option (List ℕ × List ℕ × ℕ)
two_names_and_number words =
    option_and_then (λ w. all_three (name_of w.0) (name_of w.1) (number_of w.2)) (three_of words)

abbrev pub three_names : List (List ℕ) → Option (List ℕ × List ℕ × List ℕ)
three_names words =
    option_and_then (λ w. all_three (name_of w.0) (name_of w.1) (name_of w.2)) (three_of words)

abbrev pub two_names_number_and_usage : List (List ℕ) → Option (List ℕ × List ℕ × ℕ × Usage)
two_names_number_and_usage words =
    option_and_then (λ w. all_four (name_of w.0) (name_of w.1) (number_of w.2) (usage_of w.3)) (four_of words)

abbrev pub two_names_and_flags : List (List ℕ) → Option (List ℕ × List ℕ × ℕ)
two_names_and_flags words =
    option_and_then (λ w. all_three (name_of w.0) (name_of w.1) (flags_of w.2)) (three_of words)

abbrev pub name_and_usage : List (List ℕ) → Option (List ℕ × Usage)
name_and_usage words = option_and_then (λ w. both (name_of w.0) (usage_of w.1)) (two_of words)

-- the command is made of the operands, and there is none without them
abbrev pub IsMadeOf : {A : Type 0} → (A → Command → Type 0) → Option A → Option Command → Type 0
IsMadeOf makes None None = Unit {0}
IsMadeOf makes None (Some command) = ⊥
IsMadeOf makes (Some operands) None = ⊥
IsMadeOf makes (Some operands) (Some command) = makes operands command
