use Rattle.std.proofs.Common.{◌++◌, ◌∷◌, inl, inr, sym, ◌∙◌, arith}
use Rattle.std.proofs.lemmas.List.{take_rest}
use Rattle.trace_core.proofs.Joining.{joined-alone, next-long, next-begins, next-record, next-longer, AreLines-more, within-more}
use Rattle.trace_core.proofs.piece.join.Goals as goal
use Rattle.trace_core.proofs.piece.join.Goals.{then-whole-via-then-whole, then-whole-via-else-whole+then-bytes-gt-PIECE_BYTES, then-end-line-gt-PIECE_BYTES-via-then-end-line-gt-PIECE_BYTES, then-end-line-gt-PIECE_BYTES-via-else-end-line-gt-PIECE_BYTES+then-begins_record}

pub returns-then-whole : goal.returns-then-whole
returns-then-whole c =
    let bytes = c.args.bytes.now in
    let rest = simp take_rest at c.in_default.ensures.all in
    let none = simp take_rest at c.in_default.ensures.none in
    record {
      joining = λ lines are. joined-alone bytes c.args.whole lines c.args.end are rest none (elim c.then-whole.branch [
        | then-whole-via-then-whole w ↦ inl w.if-whole.true
        | then-whole-via-else-whole+then-bytes-gt-PIECE_BYTES w ↦ inr (omega (arith, w.if-bytes-gt-PIECE_BYTES.true))
      ]);
    }

pub returns-then-end-line-gt-PIECE_BYTES : goal.returns-then-end-line-gt-PIECE_BYTES
returns-then-end-line-gt-PIECE_BYTES c =
    let bytes = c.args.bytes.now in
    let line = c.in-Some.line.now in
    let is = simp take_rest at c.in-Some.ensures.line in
    record {
      joining = λ lines are n more may. elim c.then-end-line-gt-PIECE_BYTES.branch [
        | then-end-line-gt-PIECE_BYTES-via-then-end-line-gt-PIECE_BYTES w ↦ next-long bytes c.args.whole lines c.args.end are line c.in-Some.length is n more may (omega (arith, w.if-end-line-gt-PIECE_BYTES.true))
        | then-end-line-gt-PIECE_BYTES-via-else-end-line-gt-PIECE_BYTES+then-begins_record w ↦ next-begins bytes c.args.whole lines c.args.end are line c.in-Some.length is n more may (sym w.begins_record.ensures.begins ∙ w.if-begins_record.true)
      ];
    }

pub returns-in-Some-record_of : goal.returns-in-Some-record_of
returns-in-Some-record_of c =
    let bytes = c.args.bytes.now in
    let is = simp take_rest at c.in-Some.ensures.line in
    record {
      joining = λ lines are. (
        omega arith,
        within-more bytes c.args.whole lines c.args.end are c.in-Some.line.now c.in-Some.length is,
        λ n more may. next-record bytes c.args.whole lines c.args.end are c.in-Some.line.now c.in-Some.length is n more may _ (omega arith) (sym c.begins_record.ensures.begins ∙ c.if-begins_record.false) c.in-Some-record_of.ensures.record,
      );
    }

pub returns-in-None : goal.returns-in-None
returns-in-None c =
    let bytes = c.args.bytes.now in
    let is = simp take_rest at c.in-Some.ensures.line in
    record {
      joining = λ lines are. (
        omega arith,
        (lines ++ 10 ∷ c.in-Some.line.now, AreLines-more bytes c.args.whole lines c.args.end are c.in-Some.line.now c.in-Some.length is, λ n more may. next-longer bytes c.args.whole lines c.args.end are c.in-Some.line.now c.in-Some.length is n more may (omega arith) (sym c.begins_record.ensures.begins ∙ c.if-begins_record.false) c.in-None.ensures.record),
      );
    }
