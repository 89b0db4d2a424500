-- Texts that begin with a line.
use Rattle.std.proofs.Common.{◌≡◌, ◌≢◌, ℕ, List, [], ◌∷◌, ◌++◌, sym, ap, ◌∙◌, append_assoc}
use Rattle.std.proofs.lemmas.List.{append_cancel_left}
use Rattle.check_core.specs.Expected.{ended}

-- a text that does not begin with the line, or in which no line feed follows it
pub other_line : (text line : List ℕ) → ((more : List ℕ) → text ≢ line ++ more) → (more : List ℕ) → text ≢ ended line ++ more
other_line text line other more e = other (10 ∷ more) (e ∙ append_assoc line (10 ∷ []) more)

pub other_end : (text line rest : List ℕ) → text ≡ line ++ rest → ((more : List ℕ) → rest ≢ (10 ∷ []) ++ more) → (more : List ℕ) → text ≢ ended line ++ more
other_end text line rest is other more e =
    other more (append_cancel_left line rest (10 ∷ more) (sym is ∙ e ∙ append_assoc line (10 ∷ []) more))

pub line_and_rest : (text line rest more : List ℕ) → text ≡ line ++ rest → rest ≡ (10 ∷ []) ++ more → text ≡ ended line ++ more
line_and_rest text line rest more is follows = is ∙ ap (λ r. line ++ r) follows ∙ sym (append_assoc line (10 ∷ []) more)
