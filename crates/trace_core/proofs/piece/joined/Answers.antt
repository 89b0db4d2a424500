use Rattle.std.proofs.Common.{◌-◌, ◌++◌, ◌∙◌, drop, refl, ap, arith}
use Rattle.trace_core.specs.Piece.{joined_from, joined_or_unread}
use Rattle.trace_core.proofs.Joining.{fewer, one_fewer, IsJoined-none}
use Rattle.trace_core.proofs.Lines.{joined-no_more}
use Rattle.trace_core.proofs.piece.joined.Goals as goal

pub join-requires : goal.join-requires
join-requires c = record { within = c.loop-lines.invariant.1.within }

pub loop-lines-init : goal.loop-lines-init
loop-lines-init c = (c.args.line.now, c.requires.lines, λ more may. refl, omega arith)

pub loop-lines-preserved : goal.loop-lines-preserved
loop-lines-preserved c =
    let bytes = c.args.bytes.now in
    let n = c.loop-lines.lines in
    let before = c.loop-lines.invariant in
    let joining = c.in-Longer.ensures.joining before.0 before.1 in (
      joining.1.0,
      joining.1.1,
      λ more may. before.2 more may ∙ ap (λ k. joined_from k before.0 (drop c.loop-lines.end bytes ++ more)) (fewer n (omega arith)) ∙ joining.1.2 (4 - n) more may ∙ ap (λ k. joined_from k joining.1.0 (drop c.in-Longer.next bytes ++ more)) (one_fewer n),
      omega (arith, joining.0, before.3),
    )

pub returns-in-Waits-clause-none : goal.returns-in-Waits-clause-none
returns-in-Waits-clause-none c =
    let before = c.loop-lines.invariant in
    c.in-Waits.ensures.joining before.0 before.1

pub returns-in-Alone-clause-piece : goal.returns-in-Alone-clause-piece
returns-in-Alone-clause-piece c =
    let bytes = c.args.bytes.now in
    let n = c.loop-lines.lines in
    let before = c.loop-lines.invariant in
    let joining = c.in-Alone.ensures.joining before.0 before.1 in
    IsJoined-none bytes c.args.whole c.args.line.now c.args.first c.unread_line.result c.unread_line.ensures.unread c.unread_line.ensures.length (λ more may. before.2 more may ∙ ap (λ k. joined_from k before.0 (drop c.loop-lines.end bytes ++ more)) (fewer n (omega arith)) ∙ joining (4 - n) more may)

pub returns-in-Whole-clause-piece : goal.returns-in-Whole-clause-piece
returns-in-Whole-clause-piece c more may =
    let bytes = c.args.bytes.now in
    let n = c.loop-lines.lines in
    let before = c.loop-lines.invariant in
    let joining = c.in-Whole.ensures.joining before.0 before.1 in
    ap (λ o. joined_or_unread o (drop c.args.first bytes ++ more)) (before.2 more may ∙ ap (λ k. joined_from k before.0 (drop c.loop-lines.end bytes ++ more)) (fewer n (omega arith)) ∙ joining.2 (4 - n) more may)

pub returns-in-Whole-clause-takes : goal.returns-in-Whole-clause-takes
returns-in-Whole-clause-takes c =
    let before = c.loop-lines.invariant in
    let joining = c.in-Whole.ensures.joining before.0 before.1 in
    (omega (arith, before.1.some, joining.0), joining.1)

pub returns-clause-piece : goal.returns-clause-piece
returns-clause-piece c =
    let bytes = c.args.bytes.now in
    let before = c.loop-lines.invariant in
    IsJoined-none bytes c.args.whole c.args.line.now c.args.first c.unread_line-2.result c.unread_line-2.ensures.unread c.unread_line-2.ensures.length (λ more may. before.2 more may ∙ ap (λ k. joined_from k before.0 (drop c.loop-lines.end bytes ++ more)) (omega arith) ∙ joined-no_more before.0 (drop c.loop-lines.end bytes ++ more))
