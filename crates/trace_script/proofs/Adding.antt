-- Lines of a script, one after another.
use Rattle.std.proofs.Common.{◌≡◌, ℕ, List, [], ◌∷◌, ◌++◌, refl, sym, ap, ◌∙◌, append-nil}
use Rattle.std.specs.Prelude.{OnOk, Result, Ok, Err}
use Rattle.std.specs.List.{flat_map}
use Rattle.std.proofs.lemmas.List.Concat.{flat_map-append}
use Rattle.std.proofs.lemmas.List.Elements.{All-nil, All-push}
use Rattle.trace_script.specs.Line.{Said, line_text, AreLines, IsNamed}

pub no-lines : AreLines []
no-lines = ([], refl, All-nil IsNamed)

pub one-more : (old new : List ℕ) (line : Said) → new ≡ old ++ line_text line → IsNamed line → AreLines old → AreLines new
one-more old new line is named are =
    let more = flat_map-append line_text are.0 (line ∷ []) ∙ ap (λ xs. flat_map line_text are.0 ++ xs) (append-nil (line_text line)) in (
      are.0 ++ line ∷ [],
      is ∙ ap (λ xs. xs ++ line_text line) are.1 ∙ sym more,
      All-push IsNamed are.0 line are.2 named,
    )

pub added : {T E : Type 0} (old new : List ℕ) (line : Said) (result : Result T E) → OnOk result (new ≡ old ++ line_text line)
    → OnOk result (IsNamed line → AreLines old → AreLines new)
added old new line (Ok value) is = one-more old new line is
added old new line (Err error) is = is
