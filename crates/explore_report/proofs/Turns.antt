-- The turns of a plan, turn by turn.
use Rattle.std.proofs.Common.{◌≡◌, ℕ, ◌+◌, zero, suc, List, [], ◌∷◌, ◌++◌, Option, drop, sym, ap, refl, ◌∙◌, add-one, append_assoc}
use Rattle.explore_report.specs.declared.turn.Turn.{Turn}
use Rattle.explore_report.specs.declared.unrolling.Block.{Block}
use Rattle.explore_report.specs.Turns.{block_at, expanded, in_block, made_at, numbered, room_below}

-- the turn of one more line
pub numbered-next : (above : ℕ) (before after : List Turn) → before ≡ numbered above
    → after ≡ before ++ record { number = above + 1; outer = 0; inner = 0 } ∷ [] → after ≡ numbered (above + 1)
numbered-next above before after so_far pushed =
    pushed
    ∙ ap (λ ts. ts ++ record { number = above + 1; outer = 0; inner = 0 } ∷ []) so_far
    ∙ ap (λ n. numbered above ++ record { number = n; outer = 0; inner = 0 } ∷ []) (add-one above)
    ∙ ap numbered (sym (add-one above))

-- the turns of a block that is made already make nothing
expanded-skip : (lines : List (List ℕ)) (skipped room : ℕ) (turns : List Turn)
    → expanded lines skipped room turns ≡ expanded lines 0 room (drop skipped turns)
expanded-skip lines zero room [] = refl
expanded-skip lines (suc skipped) room [] = refl
expanded-skip lines zero room (t ∷ turns) = refl
expanded-skip lines (suc skipped) room (t ∷ turns) = expanded-skip lines skipped room turns

-- the turns that are made up to a turn, those that it makes, and those of the turns below its block are still all turns
pub made-next : (lines : List (List ℕ)) (t : Turn) (below rest left : List Turn) (room more : ℕ) (block : Option Block) (before after all : List Turn)
    → rest ≡ t ∷ below → block ≡ block_at lines room t below → after ≡ before ++ made_at block t below → more ≡ room_below room block
    → left ≡ drop (in_block block) below → before ++ expanded lines 0 room rest ≡ all → after ++ expanded lines 0 more left ≡ all
made-next lines t below rest left room more block before after all parts is pushed smaller under same =
    ap (λ n. after ++ expanded lines 0 n left) smaller
    ∙ ap (λ ts. after ++ expanded lines 0 (room_below room block) ts) under
    ∙ ap (λ ts. ts ++ expanded lines 0 (room_below room block) (drop (in_block block) below)) pushed
    ∙ ap (λ ts. (before ++ made_at block t below) ++ ts) (sym (expanded-skip lines (in_block block) (room_below room block) below))
    ∙ append_assoc before (made_at block t below) (expanded lines (in_block block) (room_below room block) below)
    ∙ ap (λ b. before ++ (made_at b t below ++ expanded lines (in_block b) (room_below room b) below)) is
    ∙ ap (λ ts. before ++ expanded lines 0 room ts) (sym parts)
    ∙ same
