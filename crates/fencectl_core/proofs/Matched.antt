-- What is read of a command line's matches.
use Rattle.std.proofs.Common.{ℕ, Bool, true, false, List, Option, Some, None, Result, Ok, Err, Bor, ap, ◌∙◌, refl, ◌≡◌, ◌≢◌, ◌≤◌, option_map, map, unwrap_or, codes, arith}
use Rattle.std.specs.Str.{bytes_eq}
use Rattle.std.specs.Str.Parse.{ParsesBool, ParsesUnsigned}
use Rattle.std.proofs.lemmas.Slice.Eq.{bytes_eq-Decides}
use Rattle.clap.specs.Words.{ReadsOne, Text, all_of, first_of, first_value, matched_of, one_of, one_text, raw_values, rows_of}
use Rattle.clap.specs.declared.parser.matches.Found.{Found}
use Rattle.clap.proofs.WalkLemmas.{first_value-rows, one_text-rows, raw_values-rows}
use Rattle.source_core.specs.Input.{file_named}
use Rattle.fencectl_core.specs.Asked.{flag_named, number_named, paths_named}

pub file_read : (found : Found) (id : Text) (name : Option (Bor Text)) (file : Option Text)
    → option_map (λ s. s.now) name ≡ first_value found id → file ≡ file_named (option_map (λ s. s.now) name)
    → file ≡ file_named (first_of id (rows_of found))
file_read found id name file is named = named ∙ ap file_named (is ∙ first_value-rows found id)

pub paths_read : (found : Found) (id : Text) (given : Option (Bor (List (Bor Text)))) (paths : List Text)
    → option_map (λ s. map (λ v. v.now) s.now) given ≡ option_map raw_values (matched_of found id)
    → paths ≡ paths_named (option_map (λ s. map (λ v. v.now) s.now) given) → paths ≡ paths_named (all_of id (rows_of found))
paths_read found id given paths is named = named ∙ ap paths_named (is ∙ raw_values-rows found id)

other : (text : Text) → text ≢ codes "true" → false ≡ bytes_eq text (codes "true")
other text differs = go (bytes_eq text (codes "true")) refl
  where
    go : (b : Bool) → bytes_eq text (codes "true") ≡ b → false ≡ b
    go true e = absurd (differs ((bytes_eq-Decides text (codes "true")).0 e))
    go false e = refl

-- a text that is read as true or false
module _ {E : Type 0} (G : List ℕ → Result Bool E → Type 0) (only : (u : List ℕ) (r : Result Bool E) → G u r → ParsesBool u r) where
  flag : (text : Option Text) (given : Option Bool) → (text ≡ None → given ≡ None)
      → ((t : Text) → text ≡ Some t → ReadsOne G t given) → unwrap_or given false ≡ flag_named text
  flag None given none value = rw (none refl) refl
  flag (Some t) (Some true) none value = let is : t ≡ codes "true" = only t (Ok true) (value t refl) in rw is refl
  flag (Some t) (Some false) none value = let is : t ≡ codes "false" = only t (Ok false) (value t refl) in rw is refl
  flag (Some t) None none value = let e = value t refl in other t (only t (Err e.0) e.1).0

  pub flag_read : (found : Found) (id : Text) (given : Option Bool) → (one_text found id ≡ None → given ≡ None)
      → ((t : Text) → one_text found id ≡ Some t → ReadsOne G t given)
      → unwrap_or given false ≡ flag_named (one_of id (rows_of found))
  flag_read found id given none value = flag (one_text found id) given none value ∙ ap flag_named (one_text-rows found id)

-- a text that is read as a number of at most k bits
module _ {E : Type 0} (G : List ℕ → Result ℕ E → Type 0) (k : ℕ) (only : (u : List ℕ) (r : Result ℕ E) → G u r → ParsesUnsigned k 10 u r) where
  read : (text : Option Text) (given : Option ℕ) → (text ≡ None → given ≡ None) → ((t : Text) → text ≡ Some t → ReadsOne G t given)
      → 1 ≤ unwrap_or given 0 → unwrap_or given 0 ≡ number_named text
  read text None none value least = absurd (omega arith)
  read None (Some n) none value least = cc (none refl)
  read (Some t) (Some n) none value least = (only t (Ok n) (value t refl)).1

  pub number_read : (found : Found) (id : Text) (given : Option ℕ) → (one_text found id ≡ None → given ≡ None)
      → ((t : Text) → one_text found id ≡ Some t → ReadsOne G t given)
      → 1 ≤ unwrap_or given 0 → unwrap_or given 0 ≡ number_named (one_of id (rows_of found))
  number_read found id given none value least = read (one_text found id) given none value least ∙ ap number_named (one_text-rows found id)
