use Rattle.draw_core.proofs.drawing.Drawing.of.Goals as goal

pub returns-clause-refused : goal.returns-clause-refused
returns-clause-refused g c = c.in_ok-run.ensures.refused
