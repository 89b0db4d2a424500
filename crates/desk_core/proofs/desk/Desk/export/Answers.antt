use Rattle.std.proofs.Common.{Some, refl}
use Rattle.std.specs.Prelude.{option_copied}
use Rattle.point_core.specs.Usage.{usage_number}
use Rattle.syncfile_core.specs.Drafts.{pending_of}
use Rattle.syncfile_core.specs.Files.{cause_to_refuse}
use Rattle.dmabuf_core.specs.Buffers.{entries_of, cause_by_flags}
use Rattle.dmabuf_core.specs.Flags.{export_usage}
use Rattle.desk_core.specs.theorem.Desk.{DeskState}
use Rattle.desk_core.proofs.Doing.{IsDone-export}
use Rattle.desk_core.proofs.Exporting.{cause_of-export_buffer, cause_of-export_file, pending_of-listing}
use Rattle.desk_core.proofs.Inside.{inside-export}
use Rattle.desk_core.proofs.Waiting.{refused_as, refused_again, accepted_as, uncaused}
use Rattle.desk_core.proofs.desk.Desk.export.Goals as goal

pub returns-in_err-latest-clause-refused : goal.returns-in_err-latest-clause-refused
returns-in_err-latest-clause-refused c =
    let desk : DeskState = record { timelines = c.self.inside.timelines; files = c.self.inside.files; buffers = c.self.inside.buffers; watches = c.self.inside.watches } in
    let cause = cause_of-export_buffer desk c.args.name.now c.args.buffer.now c.args.flags c.in_err-latest.field-0.0 c.in_err-latest.ensures.caused in
    rw (← c.self.view_is) (refused_as _ (Some c.in_err-latest.field-0.0) _ _ cause refl c.from_residual.ensures.1)

pub invariant_of-self-2 : goal.invariant_of-self-2
invariant_of-self-2 c =
    let reach = c.as_reach-reach.result.now in
    let usage = usage_number (export_usage c.args.flags) in
    let listed = pending_of-listing c.in_ok-latest.latest (entries_of c.self.inside.buffers c.args.buffer.now) usage reach c.in_ok-latest.ensures.none c.in_ok-latest.ensures.some in
    inside-export c.adopt_latest.new.self c.args.name.now c.args.buffer.now usage reach (pending_of (option_copied c.in_ok-latest.latest) reach) c.in_ok-adopt_latest.ensures.last listed c.as_reach-reach.ensures.value c.self.invariant

pub returns-in_err-adopt_latest-clause-refused : goal.returns-in_err-adopt_latest-clause-refused
returns-in_err-adopt_latest-clause-refused c =
    let desk : DeskState = record { timelines = c.self.inside.timelines; files = c.self.inside.files; buffers = c.self.inside.buffers; watches = c.self.inside.watches } in
    let none = uncaused (cause_by_flags c.self.inside.buffers c.args.buffer.now c.args.flags) _ _ c.latest.ensures.refused c.in_ok-latest.was in
    let cause = cause_of-export_file desk c.args.name.now c.args.buffer.now c.args.flags none in
    rw (← c.self.view_is)
    (refused_as _ _ _ _ cause (refused_again _ _ (cause_to_refuse c.self.inside.files c.args.name.now) _ c.in_err-adopt_latest.ensures.refused) c.from_residual-in_err-adopt_latest.ensures.1)

pub returns-clause-refused : goal.returns-clause-refused
returns-clause-refused c =
    let desk : DeskState = record { timelines = c.self.inside.timelines; files = c.self.inside.files; buffers = c.self.inside.buffers; watches = c.self.inside.watches } in
    let none = uncaused (cause_by_flags c.self.inside.buffers c.args.buffer.now c.args.flags) _ _ c.latest.ensures.refused c.in_ok-latest.was in
    let cause = cause_of-export_file desk c.args.name.now c.args.buffer.now c.args.flags none in
    rw (← c.self.view_is) (accepted_as _ _ _ _ cause c.in_ok-adopt_latest.ensures.refused)

pub returns-clause-done : goal.returns-clause-done
returns-clause-done c =
    let reach = c.as_reach-reach.result.now in
    let usage = usage_number (export_usage c.args.flags) in
    let listed = pending_of-listing c.in_ok-latest.latest (entries_of c.self.inside.buffers c.args.buffer.now) usage reach c.in_ok-latest.ensures.none c.in_ok-latest.ensures.some in
    rw (← c.self.view_is)
    (IsDone-export _ c.args.name.now c.args.buffer.now c.args.flags reach (pending_of (option_copied c.in_ok-latest.latest) reach) reach c.adopt_latest.new.self c.in_ok-adopt_latest.ensures.last listed c.as_reach-reach.ensures.value)
