use Rattle.fencectl_core.proofs.scripts.json_script.Goals as goal

pub returns : goal.returns
returns g c = record {
  ended = (c.run_json-ended.result, c.status_of_run.ensures.status, c.run_json-ended.ensures.run, c.status_of_run.ensures.reported);
}
