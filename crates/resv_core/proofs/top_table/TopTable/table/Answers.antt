use Rattle.std.proofs.Common.{◌≡◌, [], sym, ap, ◌∙◌, subst}
use Rattle.std.specs.Prelude.{IfOk}
use Rattle.resv_core.specs.Resv.{rows_of}
use Rattle.resv_core.specs.TopTable.{entries_of}
use Rattle.resv_core.proofs.Kept.{IsAtLeast-none}
use Rattle.resv_core.proofs.Reservations.{Stands-Some, entries-None, rows_of-nil}
use Rattle.resv_core.proofs.top_table.TopTable.table.Goals as goal

pub returns-in-Some-clause-rows : goal.returns-in-Some-clause-rows
returns-in-Some-clause-rows c =
    let reach = c.args.reach.now in
    let tops = c.deref.result.now in
    let stands = Stands-Some c.self.inside.tops (λ b. b.value) c.in-Some.tops c.args.self.now tops c.self.view_is c.self.invariant c.in-Some.is c.deref.ensures in
    subst (λ es. IfOk c.rows.result (λ rows. rows.items ≡ rows_of es reach)) (sym stands.entries) (c.rows.ensures.risen [] (entries_of tops) stands.tell (IsAtLeast-none reach))

pub returns-in-None-clause-rows : goal.returns-in-None-clause-rows
returns-in-None-clause-rows c =
    let reach = c.args.reach.now in
    let none = entries-None c.self.inside.tops (λ b. b.value) c.args.self.now c.self.view_is c.in-None.is in
    c.new.ensures.items ∙ sym (rows_of-nil reach) ∙ ap (λ es. rows_of es reach) (sym none)
