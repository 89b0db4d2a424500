use Rattle.std.proofs.Common.{take, ap, ◌∙◌}
use Rattle.std.proofs.lemmas.List.{take_min}
use Rattle.line_core.specs.declared.script.TheConstants.{SCRIPT_BYTES}
use Rattle.line_core.specs.Script.{lines_until}
use Rattle.line_core.proofs.script.Lines.of.Goals as goal

pub returns : goal.returns
returns c =
    let bytes = c.args.bytes.now in
    let end = c.ending_of.result in
    record {
      lines = ap (λ n. lines_until end (take n bytes)) c.min.ensures ∙ ap (lines_until end) (take_min SCRIPT_BYTES bytes) ∙ ap (λ e. lines_until e (take SCRIPT_BYTES bytes)) c.ending_of.ensures.ending;
    }
