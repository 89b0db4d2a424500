-- The one word `run` asks for the script of standard input.
use Rattle.std.proofs.Common.{◌≡◌, ◌≤◌, ◌<◌, ◌∷◌, refl, List, [], codes, None, length, get_or, arith}
use Rattle.clap.specs.Walk.{walked}
use Rattle.clap.specs.Words.{Text, subcommand_of}
use Rattle.fencectl_core.specs.Asked.{IsRunAlone, Run, asked_by}
use Rattle.fencectl_core.specs.Words.{fencectl}

pub two : {S : Type 0} (xs : List S) (second : S) → 2 ≤ length xs → length xs < 3 → second ≡ get_or xs 1 second
    → (first : S) × (xs ≡ first ∷ second ∷ [])
two [] second least most is = absurd (omega arith)
two (x ∷ []) second least most is = absurd (omega arith)
two (x ∷ y ∷ []) second least most is = (x, rw is refl)
two (x ∷ y ∷ z ∷ xs) second least most is = absurd (omega arith)

run_of : (program : Text) → Run None ≡ asked_by (subcommand_of fencectl (program ∷ codes "run" ∷ []))
unfolding walked
run_of program = refl

pub run_alone : (words : List Text) → IsRunAlone words → Run None ≡ asked_by (subcommand_of fencectl words)
run_alone words alone = rw alone.two (run_of alone.program)
