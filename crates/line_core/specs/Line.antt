-- The checks of one line, in order.
use Rattle.std.specs.Prelude.{ℕ, nat_lt, nat_eq, Bool, if◌then◌else◌, List, [], ◌∷◌, length, Option, None, Some, codes}
use Rattle.std.specs.List.{starts_with}
use Rattle.point_core.specs.declared.refusal.Refusal.TheVariants.{Syntax, LongLine}
use Rattle.command_core.specs.declared.command.Command.{Command}
use Rattle.line_core.specs.declared.line.TheConstants.{LINE_BYTES}
use Rattle.line_core.specs.declared.line.Body.{Body}
use Rattle.line_core.specs.declared.line.Body.TheVariants.{Cmd, Bad}
use Rattle.line_core.specs.Table.{command_from}
use Rattle.line_core.specs.Words.{words_of}

abbrev pub is_comment : List ℕ → Bool
is_comment word = starts_with nat_eq word (codes "#")

abbrev pub command_or_syntax : Option Command → Body
command_or_syntax None = Bad Syntax
command_or_syntax (Some command) = Cmd command

-- a line without words, or whose first word begins with `#`, gives no answer
abbrev pub body_from : List (List ℕ) → Option Body
body_from [] = None
body_from (word ∷ words) = if is_comment word then None else Some (command_or_syntax (command_from word words))

abbrev pub body_of : List ℕ → Option Body
body_of line = if nat_lt LINE_BYTES (length line) then Some (Bad LongLine) else body_from (words_of line)
