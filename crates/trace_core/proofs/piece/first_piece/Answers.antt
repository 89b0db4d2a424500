use Rattle.std.proofs.Common.{◌≡◌, true, sym, ◌∙◌, ap}
use Rattle.trace_core.specs.Piece.{is_unread, item_of}
use Rattle.trace_core.proofs.Joining.{first-joined, first-alone, first-read}
use Rattle.trace_core.proofs.piece.first_piece.Goals as goal
use Rattle.trace_core.proofs.piece.first_piece.Goals.{else-is_unread-via-then-is_unread+else-begins_record, else-is_unread-via-else-is_unread}

pub returns-then-begins_record-clause-piece : goal.returns-then-begins_record-clause-piece
returns-then-begins_record-clause-piece c =
    let line = c.in_ok-line.line.now in
    let unread : is_unread (item_of line) ≡ true = sym (c.is_unread.ensures.unread ∙ ap is_unread c.item_of-item.ensures.item) ∙ c.if-is_unread.true in
    first-joined c.args.bytes.now c.args.whole line c.in_ok-line.length c.in_ok-line.ensures.line unread (sym c.begins_record.ensures.begins ∙ c.if-begins_record.true) c.joined.result c.joined.ensures.piece

pub returns-clause-piece : goal.returns-clause-piece
returns-clause-piece c =
    let line = c.in_ok-line.line.now in
    let same = sym (c.is_unread.ensures.unread ∙ ap is_unread c.item_of-item.ensures.item) in
    elim c.else-is_unread.branch [
      | else-is_unread-via-then-is_unread+else-begins_record w ↦ first-alone c.args.bytes.now c.args.whole line c.in_ok-line.length c.in_ok-line.ensures.line (same ∙ w.if-is_unread.true) (sym w.begins_record.ensures.begins ∙ w.if-begins_record.false) _ c.item_of-item.ensures.item
      | else-is_unread-via-else-is_unread w ↦ first-read c.args.bytes.now c.args.whole line c.in_ok-line.length c.in_ok-line.ensures.line (same ∙ w.if-is_unread.false) _ c.item_of-item.ensures.item
    ]
