-- The table of commands: the word of each, the words that follow it, and the command that they make.
use Rattle.std.specs.Prelude.{ℕ, Bool, true, false, ◌&&◌, is_some, if◌then◌else◌, List, [], ◌∷◌, map, find, Option, None, Some, option_map, codes}
use Rattle.std.specs.Option.{option_and_then}
use Rattle.std.specs.Str.{bytes_eq}
use Rattle.command_core.specs.declared.command.Command.{Command}
use Rattle.command_core.specs.declared.command.Command.TheVariants as command
use Rattle.line_core.specs.declared.table.CommandForm.{CommandForm}
use Rattle.line_core.specs.declared.table.Operand.{Operand}
use Rattle.line_core.specs.declared.table.Operand.TheVariants.{Name, Number, Usage, Flags}
use Rattle.line_core.specs.Following.{is_name, one_name, one_number, name_and_number, two_names_and_number, three_names, two_names_number_and_usage, two_names_and_flags, name_and_usage}
use Rattle.line_core.specs.Number.{is_number}
use Rattle.line_core.specs.Usages.{usage_of, flags_of}
use Rattle.line_core.specs.Words.{are_none}

-- a command's word, and what each word after it has to be
pub record Form : Type 0 where
  pub word : List ℕ
  pub operands : List Operand

-- a row of the table: a form, and the command that the words after the first one make
pub record Row : Type 0 where
  pub form : Form
  pub made : List (List ℕ) → Option Command

abbrev pub form : List ℕ → List Operand → Form
form word operands = record { word = word; operands = operands }

abbrev pub row : List ℕ → List Operand → (List (List ℕ) → Option Command) → Row
row word operands made = record { form = form word operands; made = made }

abbrev pub table : List Row
table =
    row (codes "timeline") (Name ∷ []) (λ words. option_map command.Timeline (one_name words))
    ∷ row (codes "inc") (Name ∷ Number ∷ []) (λ words. option_map (λ w. command.Inc w.0 w.1) (name_and_number words))
    ∷ row (codes "value") (Name ∷ []) (λ words. option_map command.Value (one_name words))
    ∷ row (codes "shut") (Name ∷ []) (λ words. option_map command.Shut (one_name words))
    ∷ row (codes "fence") (Name ∷ Name ∷ Number ∷ [])
    (λ words. option_map (λ w. command.Fence w.0 w.1 w.2) (two_names_and_number words))
    ∷ row (codes "merge") (Name ∷ Name ∷ Name ∷ [])
    (λ words. option_map (λ w. command.Merge w.0 w.1 w.2) (three_names words))
    ∷ row (codes "close") (Name ∷ []) (λ words. option_map command.Close (one_name words))
    ∷ row (codes "wait") (Name ∷ []) (λ words. option_map command.Wait (one_name words))
    ∷ row (codes "info") (Name ∷ []) (λ words. option_map command.Info (one_name words))
    ∷ row (codes "buffer") (Name ∷ []) (λ words. option_map command.Buffer (one_name words))
    ∷ row (codes "add") (Name ∷ Name ∷ Number ∷ Usage ∷ [])
    (λ words. option_map (λ w. command.Add w.0 w.1 w.2 w.3) (two_names_number_and_usage words))
    ∷ row (codes "import") (Name ∷ Name ∷ Flags ∷ [])
    (λ words. option_map (λ w. command.Import w.0 w.1 w.2) (two_names_and_flags words))
    ∷ row (codes "export") (Name ∷ Name ∷ Flags ∷ [])
    (λ words. option_map (λ w. command.Export w.0 w.1 w.2) (two_names_and_flags words))
    ∷ row (codes "test") (Name ∷ Usage ∷ []) (λ words. option_map (λ w. command.Test w.0 w.1) (name_and_usage words))
    ∷ row (codes "trim") (Name ∷ []) (λ words. option_map command.Trim (one_name words))
    ∷ row (codes "watch") (Name ∷ Number ∷ []) (λ words. option_map (λ w. command.Watch w.0 w.1) (name_and_number words))
    ∷ row (codes "unwatch") (Number ∷ []) (λ words. option_map command.Unwatch (one_number words))
    ∷ row (codes "show") (Name ∷ []) (λ words. option_map command.Show (one_name words))
    ∷ row (codes "report") [] (λ words. if are_none words then Some command.Report else None)
    ∷ []

-- a row as the code stores it
abbrev pub form_of : CommandForm → Form
form_of row = form row.word.now row.operands.now

-- the forms of all commands
abbrev pub forms : List Form
forms = map (λ (row : Row). row.form) table

-- the form with that word
abbrev pub form_at : List Form → List ℕ → Option Form
form_at forms word = find (λ (form : Form). bytes_eq word form.word) forms

-- the row with that word
abbrev pub row_at : List Row → List ℕ → Option Row
row_at rows word = find (λ (row : Row). bytes_eq word row.form.word) rows

-- whether the word is well-formed for this operand
abbrev pub matches : Operand → List ℕ → Bool
matches Name word = is_name word
matches Number word = is_number word
matches Usage word = is_some (usage_of word)
matches Flags word = is_some (flags_of word)

-- whether there is exactly one word for each operand, and it matches
abbrev pub fit : List Operand → List (List ℕ) → Bool
fit [] [] = true
fit [] (word ∷ words) = false
fit (operand ∷ operands) [] = false
fit (operand ∷ operands) (word ∷ words) = matches operand word && fit operands words

-- the command of a line whose first word is `word`, by the word's row
abbrev pub command_from : List ℕ → List (List ℕ) → Option Command
command_from word words = option_and_then (λ (row : Row). row.made words) (row_at table word)
