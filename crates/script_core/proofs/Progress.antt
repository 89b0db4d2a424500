-- Lines that are answered one after another, and the texts that are written on the way.
use Rattle.std.proofs.Common.{◌≡◌, ℕ, suc, ◌+◌, List, [], ◌∷◌, ◌++◌, length, Option, Bool, cond, refl, sym, ap, ◌∙◌, append_assoc, append-nil, zero-add, subst}
use Rattle.std.proofs.lemmas.List.{length_push}
use Rattle.std.proofs.lemmas.List.Sums.{sum_by-append}
use Rattle.std.specs.List.{count_by}
use Rattle.std.specs.Io.KnownBytes.{Appends, Keeps}
use Rattle.std.proofs.KnownBytes.{Appends-nil, Appends-trans, Appends-kept}
use Rattle.command_core.specs.declared.command.Command.{Command}
use Rattle.command_core.specs.declared.answer.Answer.{Answer}
use Rattle.desk_core.specs.theorem.Answer.{is_refused}
use Rattle.desk_core.specs.theorem.Desk.{DeskState, HasHistory}
use Rattle.line_core.specs.declared.line.Line.{Line}
use Rattle.script_core.specs.declared.totals.Totals.{Totals}
use Rattle.report_core.specs.Bytes.{AppendsFront}
use Rattle.report_core.specs.Answer.{text_of}
use Rattle.script_core.specs.Output.{history_after_line, IsLineAnswer, AreLineAnswers, texts_of, Grows, WritesPrefix, Counts}
use Rattle.script_core.specs.Answering.{history_along, Progress, AnswersLines}

pub AreLineAnswers-push : (history : List Command) (ls : List Line) (given : List Answer) (l : Line) (a : Answer) → AreLineAnswers history ls given → IsLineAnswer (history_along history ls given) l.body a → AreLineAnswers history (ls ++ l ∷ []) (given ++ a ∷ [])
AreLineAnswers-push history [] [] l a each is = (is, tt)
AreLineAnswers-push history [] (b ∷ given) l a each is = absurd each
AreLineAnswers-push history (m ∷ ls) [] l a each is = absurd each
AreLineAnswers-push history (m ∷ ls) (b ∷ given) l a each is = (each.0, AreLineAnswers-push (history_after_line history m.body b) ls given l a each.1 is)

pub history_along-push : (history : List Command) (ls : List Line) (given : List Answer) (l : Line) (a : Answer) → AreLineAnswers history ls given → history_along history (ls ++ l ∷ []) (given ++ a ∷ []) ≡ history_after_line (history_along history ls given) l.body a
history_along-push history [] [] l a each = refl
history_along-push history [] (b ∷ given) l a each = absurd each
history_along-push history (m ∷ ls) [] l a each = absurd each
history_along-push history (m ∷ ls) (b ∷ given) l a each = history_along-push (history_after_line history m.body b) ls given l a each.1

texts_of-push : (history : List Command) (ls : List Line) (given : List Answer) (l : Line) (a : Answer) → AreLineAnswers history ls given → texts_of (ls ++ l ∷ []) (given ++ a ∷ []) ≡ texts_of ls given ++ text_of l.number a
texts_of-push history [] [] l a each = append-nil (text_of l.number a)
texts_of-push history [] (b ∷ given) l a each = absurd each
texts_of-push history (m ∷ ls) [] l a each = absurd each
texts_of-push history (m ∷ ls) (b ∷ given) l a each = ap (λ text. text_of m.number b ++ text) (texts_of-push (history_after_line history m.body b) ls given l a each.1) ∙ sym (append_assoc (text_of m.number b) (texts_of ls given) (text_of l.number a))

pub length-answers : (history : List Command) (ls : List Line) (given : List Answer) → AreLineAnswers history ls given → length given ≡ length ls
length-answers history [] [] each = refl
length-answers history [] (b ∷ given) each = absurd each
length-answers history (m ∷ ls) [] each = absurd each
length-answers history (m ∷ ls) (b ∷ given) each = ap suc (length-answers (history_after_line history m.body b) ls given each.1)

count_by_push : (p : Answer → Bool) (xs : List Answer) (x : Answer) → count_by p (xs ++ x ∷ []) ≡ count_by p xs + cond (p x) 1 0
count_by_push p xs x = sum_by-append (λ y. cond (p y) 1 0) xs (x ∷ []) ∙ ap (λ n. count_by p xs + n) (zero-add (cond (p x) 1 0))

pub Progress-none : (desk : DeskState) (totals : Totals) (contents : Option (List ℕ)) → HasHistory desk [] → Counts totals [] → Progress [] desk [] totals contents contents
Progress-none desk totals contents stands counts = record { given = []; each = tt; stands = stands; front = []; texts = refl; appended = Appends-nil contents; counts = counts }

pub Progress-line : (done : List Line) (desk desk' : DeskState) (out out' : List ℕ) (totals totals' : Totals) (old new : Option (List ℕ)) (l : Line) (a : Answer) → Progress done desk out totals old new
    → ((history : List Command) → HasHistory desk history → IsLineAnswer history l.body a)
    → ((history : List Command) → HasHistory desk history → HasHistory desk' (history_after_line history l.body a))
    → out' ≡ out ++ text_of l.number a
    → totals'.lines ≡ totals.lines + 1
    → totals'.refused ≡ totals.refused + cond (is_refused a) 1 0
    → Progress (done ++ l ∷ []) desk' out' totals' old new
Progress-line done desk desk' out out' totals totals' old new l a p is stands e lines refused =
    let before = history_along [] done p.given in
    record {
      given = p.given ++ a ∷ [];
      each = AreLineAnswers-push [] done p.given l a p.each (is before p.stands);
      stands = subst (HasHistory desk') (sym (history_along-push [] done p.given l a p.each)) (stands before p.stands);
      front = p.front;
      texts = texts_of-push [] done p.given l a p.each ∙ ap (λ text. text ++ text_of l.number a) p.texts ∙ append_assoc p.front out (text_of l.number a) ∙ ap (λ text. p.front ++ text) (sym e);
      appended = p.appended;
      counts = record {
        lines = lines ∙ ap (λ n. n + 1) p.counts.lines ∙ sym (length_push p.given a);
        refused = refused ∙ ap (λ n. n + cond (is_refused a) 1 0) p.counts.refused ∙ sym (count_by_push is_refused p.given a);
      };
    }

-- a part of `out` was written
pub Progress-write : (done : List Line) (desk : DeskState) (out out' : List ℕ) (totals : Totals) (old new new' : Option (List ℕ)) → Progress done desk out totals old new
    → (written : List ℕ) × (out ≡ written ++ out') × Appends new new' written → Progress done desk out' totals old new'
Progress-write done desk out out' totals old new new' p w = record {
  given = p.given;
  each = p.each;
  stands = p.stands;
  front = p.front ++ w.0;
  texts = p.texts ∙ ap (λ text. p.front ++ text) w.1 ∙ sym (append_assoc p.front w.0 out');
  appended = Appends-trans old new new' p.front w.0 p.appended w.2;
  counts = p.counts;
}

-- the writer failed, or nothing more was written
pub Progress-front : (lines done rest : List Line) (desk : DeskState) (out : List ℕ) (totals : Totals) (old new new' : Option (List ℕ)) → Progress done desk out totals old new
    → lines ≡ done ++ rest → AppendsFront new new' out → WritesPrefix lines old new'
Progress-front lines done rest desk out totals old new new' p e f = record {
  first = done;
  rest = rest;
  given = p.given;
  whole = e;
  each = p.each;
  written = record {
    front = p.front ++ f.front;
    rest = f.rest;
    whole = p.texts ∙ ap (λ text. p.front ++ text) f.whole ∙ sym (append_assoc p.front f.front f.rest);
    appended = Appends-trans old new new' p.front f.front p.appended f.appended;
  };
}

-- one more line was answered, and a prefix of the pending output and its text was written
pub Progress-unwritten : (done : List Line) (desk : DeskState) (out : List ℕ) (totals : Totals) (old new new' : Option (List ℕ)) (l : Line) (a : Answer) → Progress done desk out totals old new
    → ((history : List Command) → HasHistory desk history → IsLineAnswer history l.body a)
    → AppendsFront new new' (out ++ text_of l.number a) → WritesPrefix (done ++ l ∷ []) old new'
Progress-unwritten done desk out totals old new new' l a p is f = record {
  first = done ++ l ∷ [];
  rest = [];
  given = p.given ++ a ∷ [];
  whole = sym (append-nil (done ++ l ∷ []));
  each = AreLineAnswers-push [] done p.given l a p.each (is (history_along [] done p.given) p.stands);
  written = record {
    front = p.front ++ f.front;
    rest = f.rest;
    whole = texts_of-push [] done p.given l a p.each
        ∙ ap (λ text. text ++ text_of l.number a) p.texts
        ∙ append_assoc p.front out (text_of l.number a)
        ∙ ap (λ text. p.front ++ text) f.whole
        ∙ sym (append_assoc p.front f.front f.rest);
    appended = Appends-trans old new new' p.front f.front p.appended f.appended;
  };
}

-- all was written, and flushed
pub Progress-flushed : (done : List Line) (desk : DeskState) (out : List ℕ) (totals : Totals) (old new new' : Option (List ℕ)) → Progress done desk out totals old new
    → out ≡ [] → Keeps new new' → AnswersLines done totals old new'
Progress-flushed done desk out totals old new new' p none kept =
    let whole : p.front ≡ texts_of done p.given = sym (p.texts ∙ ap (λ text. p.front ++ text) none ∙ append-nil p.front) in
    record {
      given = p.given;
      answers = record { each = p.each; written = subst (Appends old new') whole (Appends-kept old new new' p.front p.appended kept) };
      counts = p.counts;
    }

-- the flush failed
pub Progress-unflushed : (done : List Line) (desk : DeskState) (out : List ℕ) (totals : Totals) (old new new' : Option (List ℕ)) → Progress done desk out totals old new
    → Keeps new new' → WritesPrefix done old new'
Progress-unflushed done desk out totals old new new' p kept = record {
  first = done;
  rest = [];
  given = p.given;
  whole = sym (append-nil done);
  each = p.each;
  written = record { front = p.front; rest = out; whole = p.texts; appended = Appends-kept old new new' p.front p.appended kept };
}

-- no line was answered yet
pub Progress-empty : (desk : DeskState) (out : List ℕ) (totals : Totals) (old new : Option (List ℕ)) → Progress [] desk out totals old new → totals.lines ≡ 0
Progress-empty desk out totals old new p = p.counts.lines ∙ length-answers [] [] p.given p.each

-- nothing was written
pub AppendsFront-none : (contents : Option (List ℕ)) (bytes : List ℕ) → AppendsFront contents contents bytes
AppendsFront-none contents bytes = record { front = []; rest = bytes; whole = refl; appended = Appends-nil contents }

-- all was written
pub AppendsFront-all : (old new : Option (List ℕ)) (bytes : List ℕ) → Appends old new bytes → AppendsFront old new bytes
AppendsFront-all old new bytes appended = record { front = bytes; rest = []; whole = sym (append-nil bytes); appended = appended }

pub WritesPrefix-none : (lines : List Line) (contents : Option (List ℕ)) → WritesPrefix lines contents contents
WritesPrefix-none lines contents = record { first = []; rest = lines; given = []; whole = refl; each = tt; written = AppendsFront-none contents [] }

-- bytes were written, and none was taken back
pub Grows-none : (contents : Option (List ℕ)) → Grows contents contents
Grows-none contents = ([], Appends-nil contents)

pub Grows-front : (old new : Option (List ℕ)) (bytes : List ℕ) → AppendsFront old new bytes → Grows old new
Grows-front old new bytes f = (f.front, f.appended)

pub Grows-trans : (old middle new : Option (List ℕ)) → Grows old middle → Grows middle new → Grows old new
Grows-trans old middle new g h = (g.0 ++ h.0, Appends-trans old middle new g.0 h.0 g.1 h.1)

pub Grows-kept : (old middle new : Option (List ℕ)) → Grows old middle → Keeps middle new → Grows old new
Grows-kept old middle new g kept = (g.0, Appends-kept old middle new g.0 g.1 kept)
