use Rattle.std.proofs.Common.{ℕ, ◌+◌, List, [], ◌∷◌, ◌++◌, ◌∙◌, if◌then◌else◌, String, Global, string_bytes, sym, ap, subst}
use Rattle.std.specs.Io.KnownBytes.{Appends}
use Rattle.line_core.specs.declared.script.TheConstants.{SCRIPT_BYTES}
use Rattle.source_core.specs.FileBytes.{HasFront, WasGiven}
use Rattle.check_core.specs.Update.{IsUpdate, update_text}
use Rattle.check_core.proofs.Reported.{each-next, reported-next}
use Rattle.check_core.proofs.updates.update_each.Goals as goal

pub loop-name-preserved : goal.loop-name-preserved
loop-name-preserved g c =
    let text_of : String Global → List ℕ = λ name. string_bytes name in
    let was = c.loop-name.invariant in
    let update = c.in_ok-update.update in
    let contents = g.W.Write.contents in
    let before = contents c.args.errors.now in
    let middle = contents c.loop-name.errors in
    let after = contents c.report_update.new.errors in
    let written = subst (λ (text : List ℕ). Appends middle after (update_text text update)) c.as_str-in-loop-name.ensures.value c.in_ok-report_update.ensures.ok in
    let updates = c.loop-name.updates.items in
    let pushed = c.push.ensures.items ∙ ap (λ b. if b then updates ++ update ∷ [] else updates) (sym c.in_ok-map_err.ensures.variant) in
    let next = reported-next text_of c.args.names.now c.loop-name.name-index c.name-item.result updates c.push.new.self.items update before middle after
    c.loop-name-test.true c.name-item.is was.count was.reported written pushed in
    let each = each-next (IsUpdate (HasFront g.R.File.Read.remaining (SCRIPT_BYTES + 1)) (WasGiven g.R.File.Write.contents)) updates c.push.new.self.items update was.each c.in_ok-update.ensures.update pushed in
    record { count = next.0; each = each; reported = next.1 }
