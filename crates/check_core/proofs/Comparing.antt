-- The text of an answer, line by line against what is expected.
use Rattle.std.proofs.Common.{◌≡◌, ◌≢◌, ℕ, Bool, true, false, not, List, [], ◌∷◌, ◌++◌, refl, sym, ap, ◌∙◌, append_assoc, append-nil}
use Rattle.std.specs.Str.{bytes_eq}
use Rattle.std.proofs.lemmas.Slice.Eq.{bytes_eq-Decides}
use Rattle.std.proofs.lemmas.List.{append_cancel_left}
use Rattle.std.proofs.lemmas.List.Concat.{flat_map-append}
use Rattle.check_core.specs.Expected.{ended, output_of_lines, is_asked, differs}

not_true : (b : Bool) → b ≢ true → b ≡ false
not_true true h = absurd (h refl)
not_true false h = refl

-- what came so far is as expected
pub came-push : (text came came' line : List ℕ) (before : List (List ℕ)) → text ≡ output_of_lines before ++ came → came ≡ ended line ++ came' → text ≡ output_of_lines (before ++ line ∷ []) ++ came'
came-push text came came' line before is next =
    is ∙ ap (λ c. output_of_lines before ++ c) next ∙ sym (append_assoc (output_of_lines before) (ended line) came') ∙ ap (λ out. out ++ came') (ap (λ one. output_of_lines before ++ one) (sym (append-nil (ended line))) ∙ sym (flat_map-append ended before (line ∷ [])))

pub is_asked-middle : (before : List (List ℕ)) (line : List ℕ) (after : List (List ℕ)) → is_asked (before ++ line ∷ after) ≡ true
is_asked-middle [] line after = refl
is_asked-middle (b ∷ before) line after = refl

differs-from : (expected : List (List ℕ)) (text : List ℕ) → is_asked expected ≡ true → text ≢ output_of_lines expected → differs expected text ≡ true
differs-from [] text asked other = cc
differs-from (line ∷ more) text asked other = ap not (not_true (bytes_eq text (output_of_lines (line ∷ more))) (λ e. other ((bytes_eq-Decides text (output_of_lines (line ∷ more))).0 e)))

differs-not : (expected : List (List ℕ)) (text : List ℕ) → text ≡ output_of_lines expected → differs expected text ≡ false
differs-not [] text is = refl
differs-not (line ∷ more) text is = ap not ((bytes_eq-Decides text (output_of_lines (line ∷ more))).1 is)

-- a line came that is not the expected one
pub other-asked : (expected before after : List (List ℕ)) (line : List ℕ) → expected ≡ before ++ line ∷ after → true ≡ is_asked expected
other-asked expected before after line e = sym (ap is_asked e ∙ is_asked-middle before line after)

pub other-differs : (text came line : List ℕ) (expected before after : List (List ℕ)) → expected ≡ before ++ line ∷ after → text ≡ output_of_lines before ++ came → ((more : List ℕ) → came ≢ ended line ++ more) → true ≡ differs expected text
other-differs text came line expected before after e is other =
    let split : output_of_lines expected ≡ output_of_lines before ++ (ended line ++ output_of_lines after) = ap output_of_lines e ∙ flat_map-append ended before (line ∷ after) in
    sym (differs-from expected text (sym (other-asked expected before after line e)) (λ same.
    other (output_of_lines after) (append_cancel_left (output_of_lines before) came (ended line ++ output_of_lines after) (sym is ∙ same ∙ split))))

-- all of the expected lines came, and nothing else
pub all-differs : (text came : List ℕ) (expected : List (List ℕ)) → text ≡ output_of_lines expected ++ came → came ≡ [] → false ≡ differs expected text
all-differs text came expected is none = sym (differs-not expected text (is ∙ ap (λ c. output_of_lines expected ++ c) none ∙ append-nil (output_of_lines expected)))

-- more came
pub more-differs : (text came : List ℕ) (expected : List (List ℕ)) → is_asked expected ≡ true → text ≡ output_of_lines expected ++ came → came ≢ [] → true ≡ differs expected text
more-differs text came expected asked is more =
    sym (differs-from expected text asked (λ same.
    more (append_cancel_left (output_of_lines expected) came [] (sym is ∙ same ∙ sym (append-nil (output_of_lines expected))))))
