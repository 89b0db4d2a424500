-- The part of a script that was read, and the whole script.
use Rattle.std.proofs.Common.{◌≡◌, ◌⊎◌, inl, inr, ℕ, ◌+◌, ◌<◌, ◌≤◌, cond, List, [], ◌++◌, length, take, Option, None, Some, IfSome, refl, sym, ap, ◌∙◌, subst, append-nil, length-append, arith}
use Rattle.std.specs.Io.KnownBytes.{Consumes, IsAtEnd}
use Rattle.std.proofs.Math.Seq.{take-append_seam}
use Rattle.std.proofs.lemmas.Bool.{le-leb, lt-leb}
use Rattle.std.proofs.lemmas.List.{take-append-le, take_all}
use Rattle.line_core.specs.declared.script.Ending.{Ending}
use Rattle.line_core.specs.declared.script.Ending.TheVariants as ending
use Rattle.line_core.specs.declared.script.TheConstants.{SCRIPT_BYTES}
use Rattle.line_core.specs.Reading.{IsInput, WasRead, EndsSo}
use Rattle.line_core.specs.Script.{lines_until, ending_of, script_of}

-- the bytes that were read are a prefix of the script, which is what the reader had
pub record IsFrontOfInput (known new : Option (List ℕ)) (bytes script : List ℕ) : Type 0 where
  pub input : IsInput known script
  pub more : List ℕ
  pub whole : script ≡ bytes ++ more
  pub end : IsAtEnd new → more ≡ []

pub input_from : (known new : Option (List ℕ)) (bytes : List ℕ) → Consumes known new bytes → (script : List ℕ) × IsFrontOfInput known new bytes script
input_from None new bytes p = (bytes, record { input = tt; more = []; whole = sym (append-nil bytes); end = λ _. refl })
input_from (Some xs) None bytes p = absurd p
input_from (Some xs) (Some ys) bytes p = (xs, record { input = refl; more = ys; whole = p; end = λ e. e })

pub some_input : (known : Option (List ℕ)) → (script : List ℕ) × IsInput known script
some_input None = ([], tt)
some_input (Some xs) = (xs, refl)

module _ (known new : Option (List ℕ)) (bytes script : List ℕ) (p : IsFrontOfInput known new bytes script) where
  pub script_of-whole : EndsSo new bytes ending.Whole → script_of script ≡ lines_until ending.Whole (take SCRIPT_BYTES bytes)
  script_of-whole e =
      let same : script ≡ bytes = p.whole ∙ ap (λ more. bytes ++ more) (p.end e.1) ∙ append-nil bytes in
      let ends : ending_of bytes ≡ ending.Whole = ap (λ b. cond b ending.Whole ending.TooLong) (le-leb (length bytes) SCRIPT_BYTES e.0) in
      ap script_of same ∙ ap (λ end. lines_until end (take SCRIPT_BYTES bytes)) ends

  pub script_of-too_long : EndsSo new bytes ending.TooLong → script_of script ≡ lines_until ending.TooLong (take SCRIPT_BYTES bytes)
  script_of-too_long e =
      let long : SCRIPT_BYTES < length script = omega (arith, e, ap length p.whole, length-append bytes p.more) in
      let ends : ending_of script ≡ ending.TooLong = ap (λ b. cond b ending.Whole ending.TooLong) (lt-leb (length script) SCRIPT_BYTES long) in
      let within : take SCRIPT_BYTES script ≡ take SCRIPT_BYTES bytes = ap (λ xs. take SCRIPT_BYTES xs) p.whole ∙ take-append-le SCRIPT_BYTES bytes p.more (omega (arith, e)) in
      ap (λ xs. lines_until (ending_of script) xs) within ∙ ap (λ end. lines_until end (take SCRIPT_BYTES bytes)) ends

pub lines_until-short : (end : Ending) (bytes : List ℕ) → length bytes ≤ SCRIPT_BYTES → lines_until end (take SCRIPT_BYTES bytes) ≡ lines_until end bytes
lines_until-short end bytes h = ap (lines_until end) (take_all SCRIPT_BYTES bytes h)

-- the bytes that were read are all that the reader had, up to the byte after the limit
pub reads_front : (known left : Option (List ℕ)) (bytes : List ℕ) (end : Ending) → WasRead known left bytes end → (end ≡ ending.Whole) ⊎ (end ≡ ending.TooLong) → IfSome known (λ input. Consumes known left (take (SCRIPT_BYTES + 1) input))
reads_front None left bytes end read ends = tt
reads_front (Some input) None bytes end read ends = absurd read.consumed
reads_front (Some input) (Some more) bytes end read ends =
    let front : take (SCRIPT_BYTES + 1) input ≡ bytes = elim ends [
      | inl e ↦ (let whole = subst (EndsSo (Some more) bytes) e read.ends in
          ap (λ xs. take (SCRIPT_BYTES + 1) xs) (read.consumed ∙ ap (λ xs. bytes ++ xs) whole.1 ∙ append-nil bytes) ∙ take_all (SCRIPT_BYTES + 1) bytes (omega (arith, whole.0)))
      | inr e ↦ (let long = subst (EndsSo (Some more) bytes) e read.ends in
          ap (λ xs. take (SCRIPT_BYTES + 1) xs) read.consumed ∙ ap (λ n. take n (bytes ++ more)) (sym long) ∙ take-append_seam bytes more)
    ] in
    subst (Consumes (Some input) (Some more)) (sym front) read.consumed
