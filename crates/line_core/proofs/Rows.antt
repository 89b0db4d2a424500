-- Rows of the table: a property of each row holds for the row that a line's word finds.
use Rattle.std.proofs.Common.{◌≡◌, ℕ, Bool, true, false, cond, is_some, List, [], ◌∷◌, map, Option, None, Some, option_map, refl, sym, ap, ◌∙◌, codes}
use Rattle.std.specs.List.{AllByRecursion}
use Rattle.std.specs.Option.{option_and_then}
use Rattle.std.proofs.lemmas.List.Elements.{All-from_recursion}
use Rattle.std.proofs.lemmas.Slice.Eq.{bytes_eq-Decides}
use Rattle.std.specs.Str.{bytes_eq}
use Rattle.point_core.proofs.Named.{find-All, find-passes}
use Rattle.point_core.specs.declared.entry.Usage.{Usage as UsageOf}
use Rattle.command_core.specs.declared.command.Command.{Command}
use Rattle.command_core.specs.declared.command.Command.TheVariants as command
use Rattle.command_core.specs.Names.{word_of}
use Rattle.line_core.specs.declared.table.Operand.TheVariants.{Name, Number, Usage, Flags}
use Rattle.line_core.specs.Following.{one_name, one_number, name_and_number, two_names_and_number, three_names, two_names_number_and_usage, two_names_and_flags, name_and_usage}
use Rattle.line_core.specs.Table.{Form, Row, row, table, forms, form_at, row_at, fit, command_from}
use Rattle.line_core.specs.Words.{are_none}
use Rattle.line_core.proofs.Fitting.{by-one_name, by-one_number, by-name_and_number, by-two_names_and_number, by-three_names, by-two_names_number_and_usage, by-two_names_and_flags, by-name_and_usage, fit-none}

-- words make a command exactly if they fit the row, and the command has the row's word
pub record IsRow (row : Row) : Type 0 where
  pub fits : (words : List (List ℕ)) → is_some (row.made words) ≡ fit row.form.operands words
  pub own : (words : List (List ℕ)) (c : Command) → row.made words ≡ Some c → word_of c ≡ row.form.word

-- each command that is made has that word
abbrev AllHave : {A : Type 0} → List ℕ → (A → Command) → Type 0
AllHave {A} word make = (a : A) → word_of (make a) ≡ word

made-own : {A : Type 0} (word : List ℕ) (make : A → Command) → AllHave word make → (read : Option A) (c : Command) → option_map make read ≡ Some c → word_of c ≡ word
made-own word make all None c e = absurd (cc)
made-own word make all (Some a) c e = ap word_of (sym (same (make a) c e)) ∙ all a
  where
    same : (a b : Command) → Some a ≡ Some b → a ≡ b
    same a b e = cc

of-one_name : (word : List ℕ) (make : List ℕ → Command) → AllHave word make → IsRow (row word (Name ∷ []) (λ words. option_map make (one_name words)))
of-one_name word make all = record { fits = by-one_name make; own = λ words c e. made-own word make all (one_name words) c e }

of-one_number : (word : List ℕ) (make : ℕ → Command) → AllHave word make → IsRow (row word (Number ∷ []) (λ words. option_map make (one_number words)))
of-one_number word make all = record { fits = by-one_number make; own = λ words c e. made-own word make all (one_number words) c e }

of-name_and_number : (word : List ℕ) (make : List ℕ × ℕ → Command) → AllHave word make → IsRow (row word (Name ∷ Number ∷ []) (λ words. option_map make (name_and_number words)))
of-name_and_number word make all = record { fits = by-name_and_number make; own = λ words c e. made-own word make all (name_and_number words) c e }

of-two_names_and_number : (word : List ℕ) (make : List ℕ × List ℕ × ℕ → Command) → AllHave word make → IsRow (row word (Name ∷ Name ∷ Number ∷ []) (λ words. option_map make (two_names_and_number words)))
of-two_names_and_number word make all = record { fits = by-two_names_and_number make; own = λ words c e. made-own word make all (two_names_and_number words) c e }

of-three_names : (word : List ℕ) (make : List ℕ × List ℕ × List ℕ → Command) → AllHave word make → IsRow (row word (Name ∷ Name ∷ Name ∷ []) (λ words. option_map make (three_names words)))
of-three_names word make all = record { fits = by-three_names make; own = λ words c e. made-own word make all (three_names words) c e }

of-two_names_number_and_usage : (word : List ℕ) (make : List ℕ × List ℕ × ℕ × UsageOf → Command) → AllHave word make → IsRow (row word (Name ∷ Name ∷ Number ∷ Usage ∷ []) (λ words. option_map make (two_names_number_and_usage words)))
of-two_names_number_and_usage word make all = record { fits = by-two_names_number_and_usage make; own = λ words c e. made-own word make all (two_names_number_and_usage words) c e }

of-two_names_and_flags : (word : List ℕ) (make : List ℕ × List ℕ × ℕ → Command) → AllHave word make → IsRow (row word (Name ∷ Name ∷ Flags ∷ []) (λ words. option_map make (two_names_and_flags words)))
of-two_names_and_flags word make all = record { fits = by-two_names_and_flags make; own = λ words c e. made-own word make all (two_names_and_flags words) c e }

of-name_and_usage : (word : List ℕ) (make : List ℕ × UsageOf → Command) → AllHave word make → IsRow (row word (Name ∷ Usage ∷ []) (λ words. option_map make (name_and_usage words)))
of-name_and_usage word make all = record { fits = by-name_and_usage make; own = λ words c e. made-own word make all (name_and_usage words) c e }

of-none : IsRow (row (codes "report") [] (λ words. cond (are_none words) (Some command.Report) None))
of-none = record { fits = fit-none; own = λ words c e. one_only (are_none words) c e }
  where
    same : (made : Command) → Some command.Report ≡ Some made → made ≡ command.Report
    same made e = cc

    one_only : (none : Bool) (made : Command) → cond none (Some command.Report) None ≡ Some made → word_of made ≡ codes "report"
    one_only true made e = ap word_of (same made e)
    one_only false made e = absurd (cc)

are_rows : AllByRecursion IsRow table
are_rows = search (of-one_name, of-one_number, of-name_and_number, of-two_names_and_number, of-three_names, of-two_names_number_and_usage, of-two_names_and_flags, of-name_and_usage, of-none)

-- the row that is found
found-IsRow : (word : List ℕ) (row : Row) → row_at table word ≡ Some row → IsRow row
found-IsRow word row found = find-All IsRow (λ (r : Row). bytes_eq word r.form.word) table row (All-from_recursion IsRow table are_rows) found

found-word : (word : List ℕ) (row : Row) → row_at table word ≡ Some row → word ≡ row.form.word
found-word word row found = (bytes_eq-Decides word row.form.word).0 (find-passes (λ (r : Row). bytes_eq word r.form.word) table row found)

-- the form of a word is its row's
form_at-row_at : (rows : List Row) (word : List ℕ) → form_at (map (λ (r : Row). r.form) rows) word ≡ option_map (λ (r : Row). r.form) (row_at rows word)
form_at-row_at [] word = refl
form_at-row_at (r ∷ rows) word = either (bytes_eq word r.form.word) (form_at (map (λ (r : Row). r.form) rows) word) (row_at rows word) (form_at-row_at rows word)
  where
    either : (b : Bool) (rest : Option Form) (others : Option Row) → rest ≡ option_map (λ (r : Row). r.form) others → cond b (Some r.form) rest ≡ option_map (λ (r : Row). r.form) (cond b (Some r) others)
    either true rest others e = refl
    either false rest others e = e

-- a word without a row is no command's
pub no-row : (word : List ℕ) (words : List (List ℕ)) → form_at forms word ≡ None → command_from word words ≡ None
no-row word words e = by (row_at table word) (sym (form_at-row_at table word) ∙ e)
  where
    by : (found : Option Row) → option_map (λ (r : Row). r.form) found ≡ None → option_and_then (λ (r : Row). r.made words) found ≡ None
    by None e = refl
    by (Some r) e = absurd (cc)

pub fit-row : (word : List ℕ) (words : List (List ℕ)) (form : Form) → form_at forms word ≡ Some form → is_some (command_from word words) ≡ fit form.operands words
fit-row word words form e = by (row_at table word) refl (sym (form_at-row_at table word) ∙ e)
  where
    same : (a b : Form) → Some a ≡ Some b → a ≡ b
    same a b e = cc

    by : (found : Option Row) → row_at table word ≡ found → option_map (λ (r : Row). r.form) found ≡ Some form → is_some (option_and_then (λ (r : Row). r.made words) found) ≡ fit form.operands words
    by None at e = absurd (cc)
    by (Some r) at e = (found-IsRow word r at).fits words ∙ ap (λ (f : Form). fit f.operands words) (same r.form form e)

-- the command of a line has the line's word
pub has_word : (word : List ℕ) (words : List (List ℕ)) (c : Command) → command_from word words ≡ Some c → word_of c ≡ word
has_word word words c e = by (row_at table word) refl e
  where
    by : (found : Option Row) → row_at table word ≡ found → option_and_then (λ (r : Row). r.made words) found ≡ Some c → word_of c ≡ word
    by None at e = absurd (cc)
    by (Some r) at e = (found-IsRow word r at).own words c e ∙ sym (found-word word r at)
