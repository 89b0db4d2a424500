-- What `$` becomes in the lines of a `#repeat`: the number of the round, or a sum of it.
use Rattle.std.specs.Prelude.{ℕ, ◌+◌, ◌*◌, ◌-◌, ◌==◌, nat_lt, ◌&&◌, if◌then◌else◌, List, [], ◌∷◌, ◌++◌, Option, None, Some, option_map, codes, decimal}
use Rattle.std.specs.Char.{is_ascii_digit}
use Rattle.explore_report.specs.declared.cause.TheConstants.{GROWING}
use Rattle.explore_report.specs.declared.filling.Held.{Held}
use Rattle.explore_report.specs.declared.filling.Held.TheVariants as held

-- the number whose digits are those of that number and the byte, if the byte is a digit and the number has room for it
abbrev pub grown : ℕ → ℕ → Option ℕ
grown n b = if is_ascii_digit b && nat_lt n GROWING then Some (n * 10 + (b - 48)) else None

-- what is held if the byte continues what was held: `$$`, `$+` and `$+K`
abbrev pub continued : Held → ℕ → Option Held
continued held.Nothing b = None
continued held.Round b = if b == 36 then Some held.Dollar else if b == 43 then Some held.Plus else None
continued held.Dollar b = None
continued held.Plus b = option_map held.Sum (grown 0 b)
continued (held.Sum k) b = option_map held.Sum (grown k b)

-- the text of what is held: `$` is the round, `$$` is a `$`, and `$+K` is the sum of the round and K
abbrev pub held_text : ℕ → Held → List ℕ
held_text round held.Nothing = []
held_text round held.Round = decimal round
held_text round held.Dollar = codes "$"
held_text round held.Plus = decimal round ++ codes "+"
held_text round (held.Sum k) = decimal (round + k)

-- a byte that continues nothing: a `$` is held, any other byte is text
abbrev pub held_anew : ℕ → Held
held_anew b = if b == 36 then held.Round else held.Nothing

abbrev pub byte_text : ℕ → List ℕ
byte_text b = if b == 36 then [] else b ∷ []

abbrev pub held_by : ℕ → Option Held → Held
held_by b None = held_anew b
held_by b (Some more) = more

-- what is held below a byte
abbrev pub held_after : Held → ℕ → Held
held_after at b = held_by b (continued at b)

abbrev pub text_by : ℕ → Held → ℕ → Option Held → List ℕ
text_by round at b None = held_text round at ++ byte_text b
text_by round at b (Some more) = []

-- the text that is known at a byte
abbrev pub text_at_byte : ℕ → Held → ℕ → List ℕ
text_at_byte round at b = text_by round at b (continued at b)

-- the text of the bytes that follow what is held
abbrev pub filled_from : ℕ → Held → List ℕ → List ℕ
filled_from round at [] = held_text round at
filled_from round at (b ∷ bytes) = text_at_byte round at b ++ filled_from round (held_after at b) bytes

-- the text of a line in that round
abbrev pub filled : ℕ → List ℕ → List ℕ
filled round bytes = filled_from round held.Nothing bytes
