-- A file that the words ask for is asked for by words that the command line does not take.
use Rattle.std.proofs.Common.{Some, ap, inl, inr, map, string_bytes}
use Rattle.std.proofs.lemmas.Result.{IfErr-weaker, IfOk-weaker}
use Rattle.clap.specs.Words.{fault_of, kind_of}
use Rattle.fencectl_core.specs.Asked.{asked_of}
use Rattle.fencectl_core.specs.Words.{fencectl}
use Rattle.fencectl_core.proofs.Alone.{run_alone}
use Rattle.fencectl_core.proofs.Instead.{asked_stays, ends_by, file_asked, usage_fault}
use Rattle.fencectl_core.proofs.usage.action_of.Goals as goal

pub returns-in-Err-clause-asked : goal.returns-in-Err-clause-asked
returns-in-Err-clause-asked g c =
    IfOk-weaker c.action_instead.result _ _
    (λ action. file_asked (map string_bytes c.args.words.now) (kind_of c.in-Err.error) (asked_of action) c.in-Err.ensures.taken)
    c.action_instead.ensures.asked

pub returns-then-is_run_alone-clause-asked : goal.returns-then-is_run_alone-clause-asked
returns-then-is_run_alone-clause-asked g c =
    inl (run_alone (map string_bytes c.args.words.now) (c.is_run_alone.ensures.alone c.if-is_run_alone.true))

pub returns-then-is_run_alone-clause-taken : goal.returns-then-is_run_alone-clause-taken
returns-then-is_run_alone-clause-taken g c =
    λ taken. ap Some (run_alone (map string_bytes c.args.words.now) (c.is_run_alone.ensures.alone c.if-is_run_alone.true))

pub returns-in-Err-clause-status : goal.returns-in-Err-clause-status
returns-in-Err-clause-status g c =
    ends_by (fault_of fencectl (map string_bytes c.args.words.now)) (kind_of c.in-Err.error) c.action_instead.result c.action_instead.ensures.memory
    c.in-Err.ensures.kinds c.action_instead.ensures.status

pub returns-in-Err-clause-refusals : goal.returns-in-Err-clause-refusals
returns-in-Err-clause-refusals g c =
    IfErr-weaker c.action_instead.result _ _ (usage_fault (map string_bytes c.args.words.now)) c.action_instead.ensures.refusals

pub returns-in-Ok-clause-status : goal.returns-in-Ok-clause-status
returns-in-Ok-clause-status g c =
    IfOk-weaker c.action_by.result _ _ (λ action. asked_stays (fault_of fencectl (map string_bytes c.args.words.now)) _ action) c.action_by.ensures.asked

pub returns-in-Ok-clause-refusals : goal.returns-in-Ok-clause-refusals
returns-in-Ok-clause-refusals g c =
    IfErr-weaker c.action_by.result _ _ (λ refusal fault. inr (rw (← c.in-Ok.ensures.matches) fault)) c.action_by.ensures.refusals
