-- Which answers are expected, line after line.
use Rattle.std.proofs.Common.{◌≡◌, ◌∙◌, ℕ, Bool, true, false, not, ◌||◌, cond, List, [], ◌∷◌, ◌++◌, Option, None, Some, is_some, option_to_list, refl, sym, ap, append-nil}
use Rattle.std.specs.Prelude.{◌&&◌}
use Rattle.std.specs.List.{list_any}
use Rattle.line_core.specs.Line.{body_of}
use Rattle.line_core.specs.Script.{lines_of}
use Rattle.check_core.specs.Asked.{asked_at, asked_in, expects}
use Rattle.check_core.specs.Expected.{expected_after, expected_text, is_asked}
use Rattle.check_core.specs.Kept.{is_expectation}

-- ---- whether the notes below a line expect one

asked-if : (answered : Bool) (text : Option (List ℕ)) (more : List (List ℕ))
    → is_asked (cond answered [] (option_to_list text ++ more)) ≡ ((is_some text && not answered) || (not answered && is_asked more))
asked-if true None more = refl
asked-if true (Some t) more = refl
asked-if false None more = refl
asked-if false (Some t) more = refl

asked-next : (bytes line : List ℕ) (below : List (List ℕ)) → lines_of bytes ≡ line ∷ below
    → is_asked (expected_after (lines_of bytes)) ≡ (is_expectation line || (not (is_some (body_of line)) && is_asked (expected_after below)))
asked-next bytes line below e =
    ap (λ ls. is_asked (expected_after ls)) e ∙ asked-if (is_some (body_of line)) (expected_text line) (expected_after below)

pub asks-here : (bytes line : List ℕ) (below : List (List ℕ)) → lines_of bytes ≡ line ∷ below → is_expectation line ≡ true → is_asked (expected_after (lines_of bytes)) ≡ true
asks-here bytes line below e is =
    asked-next bytes line below e ∙ ap (λ b. b || (not (is_some (body_of line)) && is_asked (expected_after below))) is

pub asks-no_more : (bytes line : List ℕ) (below : List (List ℕ)) → lines_of bytes ≡ line ∷ below → is_expectation line ≡ false → is_some (body_of line) ≡ true → is_asked (expected_after (lines_of bytes)) ≡ false
asks-no_more bytes line below e is answered =
    asked-next bytes line below e ∙ ap (λ b. b || (not (is_some (body_of line)) && is_asked (expected_after below))) is ∙ ap (λ b. not b && is_asked (expected_after below)) answered

pub asks-below : (bytes line : List ℕ) (below : List (List ℕ)) → lines_of bytes ≡ line ∷ below → is_expectation line ≡ false → is_some (body_of line) ≡ false → is_asked (expected_after (lines_of bytes)) ≡ is_asked (expected_after below)
asks-below bytes line below e is answered =
    asked-next bytes line below e ∙ ap (λ b. b || (not (is_some (body_of line)) && is_asked (expected_after below))) is ∙ ap (λ b. not b && is_asked (expected_after below)) answered

or_no : (a b : Bool) → (a || (b && false)) ≡ a
or_no true b = refl
or_no false true = refl
or_no false false = refl

pub asks-last : (bytes : List ℕ) → lines_of bytes ≡ bytes ∷ [] → is_asked (expected_after (lines_of bytes)) ≡ is_expectation bytes
asks-last bytes e = asked-next bytes bytes [] e ∙ or_no (is_expectation bytes) (not (is_some (body_of bytes)))

-- ---- whether any note of a script expects a line

pub expects-here : (bytes line rest : List ℕ) → lines_of bytes ≡ line ∷ lines_of rest → is_expectation line ≡ true → expects bytes ≡ true
expects-here bytes line rest e is = ap (list_any is_expectation) e ∙ ap (λ b. b || expects rest) is

pub expects-below : (bytes line rest : List ℕ) → lines_of bytes ≡ line ∷ lines_of rest → is_expectation line ≡ false → expects bytes ≡ expects rest
expects-below bytes line rest e is = ap (list_any is_expectation) e ∙ ap (λ b. b || expects rest) is

or_none : (a : Bool) → (a || false) ≡ a
or_none true = refl
or_none false = refl

pub expects-last : (bytes : List ℕ) → lines_of bytes ≡ bytes ∷ [] → expects bytes ≡ is_expectation bytes
expects-last bytes e = ap (list_any is_expectation) e ∙ or_none (is_expectation bytes)

-- ---- which answers are expected

pub asked-more : (all : Bool) (bytes line rest : List ℕ) → lines_of bytes ≡ line ∷ lines_of rest → asked_in all (lines_of bytes) ≡ asked_at all line (lines_of rest) ++ asked_in all (lines_of rest)
asked-more all bytes line rest e = ap (asked_in all) e

nothing_below : expected_after (lines_of []) ≡ []
nothing_below = refl

pub asked-last : (all : Bool) (bytes : List ℕ) → lines_of bytes ≡ bytes ∷ [] → asked_in all (lines_of bytes) ≡ asked_at all bytes (lines_of [])
asked-last all bytes e =
    ap (asked_in all) e
    ∙ append-nil (asked_at all bytes [])
    ∙ ap (λ ls. cond (is_some (body_of bytes)) ((all || is_asked ls) ∷ []) []) (sym nothing_below)

pub no_answer : (all : Bool) (asked : List Bool) (line : List ℕ) (below : List (List ℕ)) → is_some (body_of line) ≡ false → asked ≡ asked ++ asked_at all line below
no_answer all asked line below none =
    sym (append-nil asked) ∙ ap (λ ls. asked ++ ls) (sym (ap (λ b. cond b ((all || is_asked (expected_after below)) ∷ []) []) none))

pub one_answer : (all : Bool) (asked more : List Bool) (asks : Bool) (line : List ℕ) (below : List (List ℕ)) → is_some (body_of line) ≡ true → asks ≡ (all || is_asked (expected_after below)) → more ≡ asked ++ asks ∷ [] → more ≡ asked ++ asked_at all line below
one_answer all asked more asks line below some is added =
    added ∙ ap (λ b. asked ++ b ∷ []) is ∙ ap (λ ls. asked ++ ls) (sym (ap (λ b. cond b ((all || is_asked (expected_after below)) ∷ []) []) some))
