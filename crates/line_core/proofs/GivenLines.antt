-- Lines that a reader returns, one after another.
use Rattle.std.proofs.Common.{◌≡◌, ℕ, ◌+◌, ◌-◌, ◌<◌, ◌≤◌, Bool, true, false, cond, List, [], ◌∷◌, ◌++◌, length, take, drop, Option, refl, sym, ap, subst, ◌∙◌, append_assoc, append-nil, length-append, length-take, length-drop, arith}
use Rattle.std.specs.Io.KnownBytes.{Consumes}
use Rattle.std.proofs.KnownBytes.{Consumes-nil, Consumes-trans}
use Rattle.std.proofs.lemmas.Bool.{false≢true}
use Rattle.line_core.specs.declared.script.Ending.{Ending}
use Rattle.line_core.specs.declared.script.TheConstants.{SCRIPT_BYTES}
use Rattle.line_core.specs.Reading.{EndsSo}
use Rattle.line_core.specs.Cutting.{cut}
use Rattle.line_core.specs.Script.{is_line_feed, lines_of}
use Rattle.line_core.specs.ScriptLines.{LinesState, HasGiven, GivesLine, IsDrained, HasEnded, GoesOn, Advances, open_number, gone_on, ended_at, all_held, filled_with, turns_to_come}
use Rattle.line_core.proofs.Cutting.{cut-more, cut-none, take-nothing, take-append}
use Rattle.line_core.proofs.Runs.{slice_split-some, slice_split-none, position-below}
use Rattle.line_core.proofs.Fronts.{glue, glue-cons, some_lines, lines_of-append}

-- a prefix without a line feed, and the bytes after it
lines_of-front : (front more line : List ℕ) (rest : List (List ℕ)) → lines_of front ≡ front ∷ [] → lines_of more ≡ line ∷ rest → lines_of (front ++ more) ≡ (front ++ line) ∷ rest
lines_of-front front more line rest alone e =
    lines_of-append front more ∙ ap (λ ls. glue ls (lines_of more)) alone ∙ ap (λ ls. glue (front ∷ []) ls) e

lines_of-more : (bytes rest line more : List ℕ) → lines_of bytes ≡ line ∷ lines_of rest → lines_of (bytes ++ more) ≡ line ∷ lines_of (rest ++ more)
lines_of-more bytes rest line more e =
    lines_of-append bytes more ∙ ap (λ ls. glue ls (lines_of more)) e ∙ sym (glue-cons line (lines_of rest) (lines_of more) (some_lines rest)) ∙ ap (λ ls. line ∷ ls) (sym (lines_of-append rest more))

pub Given-none : (known : Option (List ℕ)) (s : LinesState) → s.read ≡ 0 → s.number ≡ 1 → s.ended ≡ false → s.line ≡ [] → s.length ≡ 0 → s.ready ≡ [] → HasGiven known known s []
Given-none known s read number ended line len ready = record {
  bytes = [];
  consumed = Consumes-nil known;
  read = read;
  few = omega (arith, read);
  number = ap (λ e. cond e (s.number + 1) s.number) ended ∙ number;
  front = [];
  begun = ap (λ e. cond e [] s.line) ended ∙ line ∙ sym cut-none;
  long = ap (λ e. cond e 0 s.length) ended ∙ len;
  alone = refl;
  split = λ more. ap (λ xs. lines_of (xs ++ more)) (take-nothing SCRIPT_BYTES) ∙ ap (λ xs. lines_of (xs ++ more)) (sym ready);
}

module _ (before now : Option (List ℕ)) (s : LinesState) (given : List (List ℕ)) (p : HasGiven before now s given) where
  -- the next line ends at that place
  pub Given-line : (place : ℕ) → place < length s.ready → lines_of s.ready ≡ take place s.ready ∷ lines_of (drop (place + 1) s.ready) → GivesLine before now given (ended_at (gone_on s) place)
  Given-line place within e =
      let piece = take place s.ready in
      let line = p.front ++ piece in
      let last : open_number s + 1 ≡ length (given ++ line ∷ []) + 1 = omega (arith, p.number, length-append given (line ∷ [])) in
      record {
        line = line;
        is = record {
          held = ap (λ xs. cut (xs ++ piece)) p.begun ∙ cut-more p.front piece;
          long = omega (arith, p.long, length-append p.front piece, length-take place s.ready);
        };
        number = p.number;
        more = record {
          bytes = p.bytes;
          consumed = p.consumed;
          read = p.read;
          few = p.few;
          number = last;
          front = [];
          begun = sym cut-none;
          long = refl;
          alone = refl;
          split = λ more. p.split more ∙ ap (λ ls. given ++ ls) (lines_of-front p.front (s.ready ++ more) piece (lines_of (drop (place + 1) s.ready ++ more)) p.alone (lines_of-more s.ready (drop (place + 1) s.ready) piece more e)) ∙ sym (append_assoc given (line ∷ []) (lines_of (drop (place + 1) s.ready ++ more)));
        };
      }

  -- no line ends among the ready bytes
  pub Given-all : lines_of s.ready ≡ s.ready ∷ [] → HasGiven before now (all_held (gone_on s)) given × IsDrained (all_held (gone_on s))
  Given-all e = (
    record {
      bytes = p.bytes;
      consumed = p.consumed;
      read = p.read;
      few = p.few;
      number = p.number;
      front = p.front ++ s.ready;
      begun = ap (λ xs. cut (xs ++ s.ready)) p.begun ∙ cut-more p.front s.ready;
      long = omega (arith, p.long, length-append p.front s.ready);
      alone = lines_of-front p.front s.ready s.ready [] p.alone e;
      split = λ more. p.split more ∙ ap (λ xs. given ++ lines_of xs) (sym (append_assoc p.front s.ready more));
    },
    (refl, refl),
  )

  -- the bytes were read
  pub Given-read : (now' : Option (List ℕ)) (bytes : List ℕ) → s.ready ≡ [] → Consumes now now' bytes → s.read + length bytes ≤ SCRIPT_BYTES + 1 → HasGiven before now' (filled_with s bytes) given
  Given-read now' bytes none consumed few =
      let room : SCRIPT_BYTES - length p.bytes ≡ SCRIPT_BYTES - s.read = ap (λ n. SCRIPT_BYTES - n) (sym p.read) in
      let ready = take (SCRIPT_BYTES - s.read) bytes in
      let whole : take SCRIPT_BYTES (p.bytes ++ bytes) ≡ take SCRIPT_BYTES p.bytes ++ ready = take-append SCRIPT_BYTES p.bytes bytes ∙ ap (λ n. take SCRIPT_BYTES p.bytes ++ take n bytes) room in
      record {
        bytes = p.bytes ++ bytes;
        consumed = Consumes-trans before now now' p.bytes bytes p.consumed consumed;
        read = omega (arith, p.read, length-append p.bytes bytes);
        few = few;
        number = p.number;
        front = p.front;
        begun = p.begun;
        long = p.long;
        alone = p.alone;
        split = λ more. ap (λ xs. lines_of (xs ++ more)) whole ∙ ap lines_of (append_assoc (take SCRIPT_BYTES p.bytes) ready more) ∙ p.split (ready ++ more) ∙ ap (λ xs. given ++ lines_of (p.front ++ (xs ++ (ready ++ more)))) none;
      }

  -- the script ends
  pub Given-end : (now' : Option (List ℕ)) (end : Ending) → IsDrained s → Consumes before now' p.bytes → EndsSo now' p.bytes end → HasEnded before now' s end given
  Given-end now' end drained consumed ends = record {
    bytes = p.bytes;
    read = record { consumed = consumed; ends = ends };
    last = p.front;
    is = record {
      held = ap (λ e. cond e [] s.line) (sym drained.0) ∙ p.begun;
      long = ap (λ e. cond e 0 s.length) (sym drained.0) ∙ p.long;
    };
    number = ap (λ e. cond e (s.number + 1) s.number) (sym drained.0) ∙ p.number;
    split = ap lines_of (sym (append-nil (take SCRIPT_BYTES p.bytes))) ∙ p.split [] ∙ ap (λ xs. given ++ lines_of (p.front ++ (xs ++ []))) drained.1 ∙ ap (λ xs. given ++ lines_of xs) (append-nil p.front) ∙ ap (λ ls. given ++ ls) p.alone;
  }

-- only the line of the state matters
pub Ended-same : (before now : Option (List ℕ)) (s s' : LinesState) (end : Ending) (given : List (List ℕ)) → HasEnded before now s end given → s'.number ≡ s.number → s'.line ≡ s.line → s'.length ≡ s.length → HasEnded before now s' end given
Ended-same before now s s' end given e number line len = record {
  bytes = e.bytes;
  read = e.read;
  last = e.last;
  is = record { held = line ∙ e.is.held; long = len ∙ e.is.long };
  number = number ∙ e.number;
  split = e.split;
}

-- ---- one more line, or all ready bytes

pub Advances-next : (before now : Option (List ℕ)) (s s' : LinesState) (given : List (List ℕ)) → HasGiven before now s given → (more : Bool) → Advances s more s' → GoesOn before now given more s'
Advances-next before now s s' given p true w =
    subst (GivesLine before now given) (sym w.is) (Given-line before now s given p w.place (position-below is_line_feed s.ready w.place w.found) (slice_split-some is_line_feed s.ready w.place w.found))
Advances-next before now s s' given p false w =
    subst (λ t. HasGiven before now t given × IsDrained t) (sym w.1) (Given-all before now s given p (slice_split-none is_line_feed s.ready w.0))

pub Advances-drained : (s s' : LinesState) (more : Bool) → more ≡ false → Advances s more s' → IsDrained s'
Advances-drained s s' true e w = absurd (false≢true (sym e))
Advances-drained s s' false e w = subst IsDrained (sym w.1) (refl, refl)

pub Advances-turns : (s s' : LinesState) (more : Bool) → Advances s more s' → turns_to_come s' + cond more 1 0 ≤ turns_to_come s
Advances-turns s s' true w =
    let within = position-below is_line_feed s.ready w.place w.found in
    subst (λ t. turns_to_come t + 1 ≤ turns_to_come s) (sym w.is) (omega (arith, within, length-drop (w.place + 1) s.ready))
Advances-turns s s' false w = subst (λ t. turns_to_come t + 0 ≤ turns_to_come s) (sym w.1) (omega arith)
