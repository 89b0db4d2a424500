use Rattle.std.proofs.Common.{[], get_or, arith}
use Rattle.device_core.specs.declared.request.Request.TheVariants.{Open}
use Rattle.std.proofs.lemmas.List.{take_more, take_all}
use Rattle.device_core.proofs.Histories.{HasRun-push}
use Rattle.device_core.proofs.Answered.{AreAnswered-run}
use Rattle.device_core.proofs.Tables.{AreTrimmed-stands}
use Rattle.device_core.proofs.Counting.{ReportsNumbers-run, ReportsEachWaking-run}
use Rattle.device_core.proofs.Reporting.{ReportsSums-stands}
use Rattle.device_core.proofs.Said.{ReportsWhatWasPut-stands, ReportsBuffers-stands, ReportsFences-stands}
use Rattle.device_core.proofs.runs.run.Goals as goal

pub returns-clause-sums : goal.returns-clause-sums
returns-clause-sums c =
    let all = take_all c.loop-request.request-index c.args.requests.now c.loop-request-test.false in
    ReportsSums-stands _ _ (rw all at c.loop-request.invariant.0.stands)

pub returns-clause-files : goal.returns-clause-files
returns-clause-files c =
    let all = take_all c.loop-request.request-index c.args.requests.now c.loop-request-test.false in
    ReportsWhatWasPut-stands _ _ (rw all at c.loop-request.invariant.0.stands)

pub returns-clause-buffers : goal.returns-clause-buffers
returns-clause-buffers c =
    let all = take_all c.loop-request.request-index c.args.requests.now c.loop-request-test.false in
    ReportsBuffers-stands _ _ (rw all at c.loop-request.invariant.0.stands)

pub returns-clause-fences : goal.returns-clause-fences
returns-clause-fences c =
    let all = take_all c.loop-request.request-index c.args.requests.now c.loop-request-test.false in
    ReportsFences-stands _ _ (rw all at c.loop-request.invariant.0.stands)

pub loop-request-preserved : goal.loop-request-preserved
loop-request-preserved c =
    let first = Open (record { bytes = [] }) in
    let more = take_more c.args.requests.now c.loop-request.request-index first c.loop-request-test.true in
    rw (more, c.push_reserved.ensures.items)
    (HasRun-push c.serve.new.self (get_or c.args.requests.now c.loop-request.request-index first) c.serve.result c.loop-request.invariant.0 c.serve.ensures.small c.serve.ensures.answer c.serve.ensures.stands, omega arith, omega arith)

pub returns-clause-numbers : goal.returns-clause-numbers
returns-clause-numbers c =
    let all = take_all c.loop-request.request-index c.args.requests.now c.loop-request-test.false in
    ReportsNumbers-run _ _ _ (rw all at c.loop-request.invariant.0.answers) (rw all at c.loop-request.invariant.0.stands)

pub returns-clause-wakings : goal.returns-clause-wakings
returns-clause-wakings c =
    let all = take_all c.loop-request.request-index c.args.requests.now c.loop-request-test.false in
    ReportsEachWaking-run _ _ _ (rw all at c.loop-request.invariant.0.answers) (rw all at c.loop-request.invariant.0.stands)

pub returns-clause-trimmed : goal.returns-clause-trimmed
returns-clause-trimmed c =
    let all = take_all c.loop-request.request-index c.args.requests.now c.loop-request-test.false in
    AreTrimmed-stands _ _ (rw all at c.loop-request.invariant.0.stands)

pub returns-clause-told : goal.returns-clause-told
returns-clause-told c =
    let all = take_all c.loop-request.request-index c.args.requests.now c.loop-request-test.false in
    AreAnswered-run c.args.requests.now _ (rw all at c.loop-request.invariant.0.small) (rw all at c.loop-request.invariant.0.answers)
