use Rattle.resv_core.proofs.resv.Resv.table.Goals as goal

pub returns-clause-rows : goal.returns-clause-rows
returns-clause-rows c = rw (← c.self.view_is) (rw c.as_slice.ensures.value at (c.rows.ensures.rows c.as_slice.result.now c.of.ensures.tops))
