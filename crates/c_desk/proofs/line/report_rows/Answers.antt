use Rattle.std.proofs.Common.{◌≡◌, ℕ, List, length, ◌<◌, ◌∙◌, ap, refl, subst, inr, arith}
use Rattle.point_core.specs.declared.refusal.Refusal.{Refusal}
use Rattle.point_core.specs.declared.refusal.Refusal.TheVariants.{Memory}
use Rattle.command_core.specs.declared.answer.Answer.TheVariants as answer
use Rattle.report_core.specs.Answer.{refusal_text}
use Rattle.c_desk.specs.declared.line.TheConstants.{LINE, ANSWER_ROOM}
use Rattle.c_desk.specs.Call.{number_of}
use Rattle.c_desk.specs.Line.{StoresText}
use Rattle.c_desk.proofs.Signed.{answers}
use Rattle.c_desk.proofs.line.report_rows.Goals as goal

pub returns : goal.returns
returns c =
    let out = c.store_text-in-Err.new.out in
    let count = c.store_text-in-Err.new.count in
    let memory : c.in-Err.refusal ≡ Memory = let is = c.in-Err.ensures.err.0 in cc in
    let text = c.as_bytes.ensures.value ∙ c.refusal_line.ensures ∙ ap (λ (r : Refusal). refusal_text LINE r) memory in
    let fits : count < ANSWER_ROOM = let few = c.as_bytes.ensures.few in let whole = c.store_text-in-Err.ensures.whole in let same = ap (λ (l : List ℕ). length l) c.as_bytes.ensures.value in omega (arith, few, whole, same) in
    record {
      reported = answer.Refused Memory;
      is = inr (refl, c.requires.rows);
      number = answers (c.refused.ensures ∙ ap number_of memory);
      text = subst (λ (l : List ℕ). StoresText l c.args.out.now out count) text c.store_text-in-Err.ensures;
      few = λ _. fits;
    }
