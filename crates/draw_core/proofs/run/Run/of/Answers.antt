use Rattle.draw_core.proofs.run.Run.of.Goals as goal

pub returns-clause-refused : goal.returns-clause-refused
returns-clause-refused g c =
    let ran = rw (c.in_ok-run.ensures.window, c.as_slice.ensures.value, c.in_ok-lines.ensures.ok) at c.in_ok-take_all.ensures.run in
    rw (c.finish.ensures.refused, c.in_ok-hear_before.ensures.refused) (record { given = ran.given; answers = ran.answers; is = ran.refusals })
