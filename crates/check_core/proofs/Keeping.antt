-- The lines that an update keeps, one after another.
use Rattle.std.proofs.Common.{◌≡◌, ◌∙◌, ℕ, Bool, true, false, not, cond, List, [], ◌∷◌, ◌++◌, drop, refl, sym, ap, append_assoc, append-nil}
use Rattle.std.specs.List.{flat_map, join_with_byte}
use Rattle.line_core.specs.Script.{lines_of}
use Rattle.check_core.specs.Kept.{is_expectation, kept, kept_line, kept_lines}

-- what is added for one more line, and what is still ahead
pub more-lines : {T : Type 0} (start text more step here ahead all : List T) → text ++ here ≡ start ++ all → here ≡ step ++ ahead → more ≡ text ++ step → more ++ ahead ≡ start ++ all
more-lines start text more step here ahead all was split added =
    ap (λ t. t ++ ahead) added ∙ append_assoc text step ahead ∙ ap (λ k. text ++ k) (sym split) ∙ was

-- what is added for the last line
pub last-line : {T : Type 0} (start text more step here all : List T) → text ++ here ≡ start ++ all → here ≡ step → more ≡ text ++ step → more ≡ start ++ all
last-line start text more step here all was split added = added ∙ ap (λ k. text ++ k) (sym split) ∙ was

pub kept-next : (bytes line rest : List ℕ) → lines_of bytes ≡ line ∷ lines_of rest → flat_map kept_line (lines_of bytes) ≡ kept_line line ++ flat_map kept_line (lines_of rest)
kept-next bytes line rest e = ap (flat_map kept_line) e

pub kept-last : (bytes : List ℕ) → lines_of bytes ≡ bytes ∷ [] → flat_map kept_line (lines_of bytes) ≡ kept_line bytes
kept-last bytes e = ap (flat_map kept_line) e ∙ append-nil (kept_line bytes)

pub left-out : (text line : List ℕ) (test : Bool) → test ≡ is_expectation line → test ≡ true → text ≡ text ++ kept_line line
left-out text line test is passes = sym (append-nil text) ∙ ap (λ k. text ++ k) (sym (ap (λ b. cond b [] (10 ∷ line)) (sym is ∙ passes)))

pub taken : (text more line : List ℕ) (test : Bool) → test ≡ is_expectation line → test ≡ false → more ≡ text ++ 10 ∷ line → more ≡ text ++ kept_line line
taken text more line test is stays added = added ∙ ap (λ k. text ++ k) (sym (ap (λ b. cond b [] (10 ∷ line)) (sym is ∙ stays)))

-- ---- lines behind line feeds, and lines with line feeds between them

abbrev behind : List ℕ → List ℕ
behind line = 10 ∷ line

behind-if : (line : List ℕ) (lines : List (List ℕ)) (rest : List ℕ) (b : Bool) → flat_map behind lines ≡ rest → flat_map behind (cond (not b) (line ∷ lines) lines) ≡ cond b [] (10 ∷ line) ++ rest
behind-if line lines rest true is = is
behind-if line lines rest false is = ap (λ t. 10 ∷ (line ++ t)) is

behind-kept : (lines : List (List ℕ)) → flat_map behind (kept_lines lines) ≡ flat_map kept_line lines
behind-kept [] = refl
behind-kept (line ∷ lines) = behind-if line (kept_lines lines) (flat_map kept_line lines) (is_expectation line) (behind-kept lines)

between : (lines : List (List ℕ)) → join_with_byte 10 lines ≡ drop 1 (flat_map behind lines)
between [] = refl
between (line ∷ []) = sym (append-nil line)
between (line ∷ next ∷ lines) = ap (λ t. line ++ 10 ∷ t) (between (next ∷ lines))

kept-behind : (script : List ℕ) → kept script ≡ drop 1 (flat_map kept_line (lines_of script))
kept-behind script = between (kept_lines (lines_of script)) ∙ ap (drop 1) (behind-kept (lines_of script))

pub kept-equal : (script text before after : List ℕ) → before ≡ flat_map kept_line (lines_of script) → after ≡ flat_map kept_line (lines_of text) → drop 1 after ≡ drop 1 before → kept text ≡ kept script
kept-equal script text before after was is same =
    kept-behind text ∙ ap (drop 1) (sym is) ∙ same ∙ ap (drop 1) was ∙ sym (kept-behind script)
