use Rattle.std.proofs.Common.{◌+◌, ◌-◌, ◌<◌, true, ap, sym, ◌∙◌, length, take, drop, length-take, arith}
use Rattle.std.proofs.lemmas.List.{take-take}
use Rattle.line_core.specs.ScriptLines.{ended_at}
use Rattle.line_core.proofs.Blocks.{line-ends, line-held, ready-behind, none_from, some_from, held-some}
use Rattle.line_core.proofs.script_lines.ScriptLines.end_at.Goals.{then-is_empty, else-is_empty}
use Rattle.line_core.proofs.script_lines.ScriptLines.end_at.Goals as goal

pub returns : goal.returns
returns c =
    let inside = c.self.inside in
    let place = c.args.place in
    let next = inside.next in
    let held = inside.cutter.bytes in
    let within : place < inside.filled - next = omega (arith, c.requires.within, ap (λ s. length s.ready) c.self.view_is, length-take (inside.filled - next) (drop next inside.block)) in
    let ready = ready-behind inside.block next inside.filled (place + 1) (omega arith) in
    let begun = ap (λ s. s.ended) c.self.view_is ∙ c.requires.begun in
    let after = ap (λ s. ended_at s place) c.self.view_is in
    elim c.if-is_empty.branch [
      | then-is_empty w ↦ (let none = sym w.if-is_empty.ensures.empty in
          let line = line-ends held inside.block inside.start next inside.filled inside.length place none (c.self.invariant.begun begun (none_from (length held) none)) (omega arith) in
          rw w.self-inside-is (record {
            ended = (λ i. record {
              read = inside.read;
              number = inside.cutter.number;
              ended = true;
              line = line i;
              length = inside.length + place;
              ready = ready i;
            }) ∙ after;
          }))
      | else-is_empty w ↦ (let some = some_from (length held) (sym w.if-is_empty.ensures.empty) in
          let piece = take place (drop next inside.block) in
          let added = w.add_part.ensures.added in
          let bytes = ap (λ l. l.bytes) added in
          let new = w.add_part.new.cutter.bytes in
          let line = line-held held new inside.block piece (take place (take (inside.filled - next) (drop next inside.block))) inside.start inside.start inside.length (inside.length + place) (c.self.invariant.begun begun) bytes (take-take place (inside.filled - next) (drop next inside.block) (omega arith)) (λ none. absurd (omega (arith, none, ap length bytes, held-some held piece some))) in
          rw w.self-inside-is (record {
            ended = (λ i. record {
              read = inside.read;
              number = ap (λ l. l.number) added i;
              ended = true;
              line = line i;
              length = inside.length + place;
              ready = ready i;
            }) ∙ after;
          }))
    ]
