-- The window that a text spells.
use Rattle.std.specs.Prelude.{◌≡◌, ◌<◌, ◌≤◌, ◌^◌, ℕ, Bool, ◌&&◌, nat_le, List, ◌++◌, codes}
use Rattle.std.specs.Str.Parse.{IsNumeral, digits_value, without_leading_plus}
use Rattle.draw_core.specs.declared.window.Window.{Window}

abbrev pub is_in_window : Window → ℕ → Bool
is_in_window window line = nat_le window.first line && nat_le line window.last

-- the number that decimal digits spell, after a plus or not
abbrev pub spelled : List ℕ → ℕ
spelled digits = digits_value 10 (without_leading_plus digits)

-- the text is decimal digits, after a plus or not, and they spell that number, which fits 32 bits
pub record SpellsNumber (text : List ℕ) (number : ℕ) : Type 0 where
  pub digits : IsNumeral 10 (without_leading_plus text)
  pub value : number ≡ spelled text
  pub fits : number < 2 ^ 32

-- the window has a line: its first line is line 1 or a later one, and its last is not before the first
pub record HasLines (window : Window) : Type 0 where
  pub from_one : 1 ≤ window.first
  pub rising : window.first ≤ window.last

-- two texts spell the numbers of the window's first and last line
pub record SpellsLines (first_text last_text : List ℕ) (window : Window) : Type 0 where
  pub first : SpellsNumber first_text window.first
  pub last : SpellsNumber last_text window.last

-- the text is the numbers of the window's first and last line, with `..` between
pub record Spells (text : List ℕ) (window : Window) : Type 0 where
  pub first_text : List ℕ
  pub last_text : List ℕ
  pub parts : text ≡ first_text ++ (codes ".." ++ last_text)
  pub lines : SpellsLines first_text last_text window
