-- What contracts see of an answer that is expected.
use Rattle.std.specs.Prelude.{ℕ, nat_eq, Bool, if◌then◌else◌, List}
use Rattle.std.specs.List.{starts_with}
use Rattle.std.specs.Str.{bytes_eq}

-- its lines, each with its line feed, and whether more lines may follow
pub record Right : Type 0 where
  pub text : List ℕ
  pub begins : Bool

-- the text is this answer's, or begins with its lines if more may follow
abbrev pub is_right : List ℕ → Right → Bool
is_right text right = if right.begins then starts_with nat_eq text right.text else bytes_eq text right.text
