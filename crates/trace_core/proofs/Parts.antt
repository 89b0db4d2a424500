-- The bytes before and after a text.
use Rattle.std.proofs.Common.{◌≡◌, ℕ, ◌+◌, ◌-◌, ◌<◌, ◌≤◌, Bool, true, false, cond, List, [], ◌∷◌, ◌++◌, length, get_or, take, drop, Option, None, Some, option_map, refl, sym, ap, ◌∙◌, append-nil, append_assoc, length-drop, arith}
use Rattle.std.specs.Str.{bytes_eq}
use Rattle.std.proofs.lemmas.Bool.{false_from_ne_true}
use Rattle.std.proofs.lemmas.List.{drop_more, take_more, drop_all, take_all, take_at, get_or-take}
use Rattle.std.proofs.lemmas.List.Prefix.{front_from_reads}
use Rattle.std.proofs.lemmas.Slice.Eq.{bytes_eq-Decides}
use Rattle.trace_core.specs.Steps.{after, before, here_or, with_first, part_at}

bytes_eq-no : (xs ys : List ℕ) → (xs ≡ ys → ⊥) → false ≡ bytes_eq xs ys
bytes_eq-no xs ys other =
    sym (false_from_ne_true (bytes_eq xs ys) (λ e. other ((bytes_eq-Decides xs ys).0 e)))

module _ (bytes text : List ℕ) where
  pub begins-not : (place : ℕ) → place < length text → (get_or bytes place 0 ≡ get_or text place 0 → ⊥) → false ≡ bytes_eq (take (length text) bytes) text
  begins-not place h other =
      bytes_eq-no (take (length text) bytes) text (λ e. other (sym (get_or-take (length text) bytes place 0 h) ∙ ap (λ xs. get_or xs place 0) e))

  pub begins-all : length text ≤ length bytes → ((k : ℕ) → k < length text → get_or bytes k 0 ≡ get_or text k 0) → true ≡ bytes_eq (take (length text) bytes) text
  begins-all h reads =
      sym ((bytes_eq-Decides (take (length text) bytes) text).1 (ap (take (length text)) (front_from_reads 0 bytes text h reads) ∙ take_at text (drop (length text) bytes) (length text) refl))

  pub before-short : length bytes < length text → None ≡ before bytes text
  unfolding before
  before-short h =
      ap (λ b. cond b (Some (take (length bytes - length text) bytes)) None) (bytes_eq-no (drop (length bytes - length text) bytes) text (λ e. absurd (omega (arith, ap length e, length-drop (length bytes - length text) bytes))))

  pub before-at : (b : Bool) → length text ≤ length bytes → b ≡ bytes_eq (take (length text) (drop (length bytes - length text) bytes)) text → cond b (Some (take (length bytes - length text) bytes)) None ≡ before bytes text
  unfolding before
  before-at b h e =
      ap (λ c. cond c (Some (take (length bytes - length text) bytes)) None) (e ∙ ap (λ xs. bytes_eq xs text) (take_all (length text) (drop (length bytes - length text) bytes) (omega (arith, length-drop (length bytes - length text) bytes))))

-- more bytes before the first of the parts
abbrev pub with_front : List ℕ → List ℕ × List ℕ → List ℕ × List ℕ
with_front front parts = (front ++ parts.0, parts.1)

module _ (text bytes : List ℕ) (i : ℕ) where
  abbrev pub IsLeft : Type 0
  IsLeft = part_at text bytes ≡ option_map (with_front (take i bytes)) (part_at text (drop i bytes))

  here : i < length bytes → part_at text (drop i bytes) ≡ here_or (after (drop i bytes) text) (option_map (with_first (get_or bytes i 0)) (part_at text (drop (i + 1) bytes)))
  unfolding part_at
  here h =
      let parts = drop_more bytes i 0 h in
      ap (part_at text) parts ∙ ap (λ xs. here_or (after xs text) (option_map (with_first (get_or bytes i 0)) (part_at text (drop (i + 1) bytes)))) (sym parts)

  regroup : i < length bytes → (o : Option (List ℕ × List ℕ)) → option_map (with_front (take i bytes)) (option_map (with_first (get_or bytes i 0)) o) ≡ option_map (with_front (take (i + 1) bytes)) o
  regroup h None = refl
  regroup h (Some p) =
      ap (λ xs. Some (xs, p.1)) (sym (append_assoc (take i bytes) (get_or bytes i 0 ∷ []) p.0) ∙ ap (λ xs. xs ++ p.0) (sym (take_more bytes i 0 h)))

  pub part_at-later : i < length bytes → after (drop i bytes) text ≡ None → IsLeft → part_at text bytes ≡ option_map (with_front (take (i + 1) bytes)) (part_at text (drop (i + 1) bytes))
  part_at-later h none left =
      left ∙ ap (option_map (with_front (take i bytes))) (here h ∙ ap (λ o. here_or o (option_map (with_first (get_or bytes i 0)) (part_at text (drop (i + 1) bytes)))) none) ∙ regroup h (part_at text (drop (i + 1) bytes))

  pub part_at-here : (rest : List ℕ) → i < length bytes → after (drop i bytes) text ≡ Some rest → IsLeft → Some (take i bytes, rest) ≡ part_at text bytes
  part_at-here rest h some left =
      sym (left ∙ ap (option_map (with_front (take i bytes))) (here h ∙ ap (λ o. here_or o (option_map (with_first (get_or bytes i 0)) (part_at text (drop (i + 1) bytes)))) some) ∙ ap (λ xs. Some (xs, rest)) (append-nil (take i bytes)))

  pub part_at-nowhere : length bytes ≤ i → IsLeft → None ≡ part_at text bytes
  unfolding part_at
  part_at-nowhere h left = sym (left ∙ ap (λ xs. option_map (with_front (take i bytes)) (part_at text xs)) (drop_all i bytes h))

pub part_at-start : (text bytes : List ℕ) → part_at text bytes ≡ option_map (with_front []) (part_at text bytes)
part_at-start text bytes = same (part_at text bytes)
  where
    same : (o : Option (List ℕ × List ℕ)) → o ≡ option_map (with_front []) o
    same None = refl
    same (Some p) = refl
