use Rattle.fencectl_core.proofs.scripts.explain_script.Goals as goal

pub returns : goal.returns
returns g c = record {
  ended = (c.explain-ended.result, c.status_of_run.ensures.status, c.explain-ended.ensures.run, c.status_of_run.ensures.reported);
}
