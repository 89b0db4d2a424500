use Rattle.fencectl_core.proofs.run.run_script.Goals as goal

pub returns : goal.returns
returns g c = record {
  ended = (c.engine-ended.result, c.status_of_run.ensures.status, c.engine-ended.ensures.run, c.status_of_run.ensures.reported);
}
