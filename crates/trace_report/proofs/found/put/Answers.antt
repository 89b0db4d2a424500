use Rattle.std.proofs.Common.{◌≡◌, ◌++◌, append-nil, subst, sym}
use Rattle.std.specs.Prelude.{OnOk}
use Rattle.trace_core.specs.declared.pending.PendingKind.TheVariants.{Hang, Unknown}
use Rattle.trace_report.proofs.Finding.{hanging-is, put-none, unknown-is}
use Rattle.trace_report.proofs.found.put.Goals as goal

pub returns-in-Hang : goal.returns-in-Hang
returns-in-Hang c = record {
  hangs = subst (λ more. OnOk c.push.result (c.push.new.list.items ≡ c.args.hangs.now.items ++ more)) (sym (hanging-is c.args.fence.now Hang c.in-Hang.is)) c.push.ensures.added;
  unknown = rw c.in-Hang.is (put-none c.push.result c.args.unknown.now.items);
}

pub returns-in-Unknown : goal.returns-in-Unknown
returns-in-Unknown c = record {
  hangs = rw c.in-Unknown.is (put-none c.push-in-Unknown.result c.args.hangs.now.items);
  unknown = subst (λ more. OnOk c.push-in-Unknown.result (c.push-in-Unknown.new.list.items ≡ c.args.unknown.now.items ++ more)) (sym (unknown-is c.args.fence.now Unknown c.in-Unknown.is)) c.push-in-Unknown.ensures.added;
}

pub returns-in-Unnumbered : goal.returns-in-Unnumbered
returns-in-Unnumbered c = rw c.in-Unnumbered.is (record { hangs = sym (append-nil c.args.hangs.now.items); unknown = sym (append-nil c.args.unknown.now.items) })
