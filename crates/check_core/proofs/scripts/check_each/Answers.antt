use Rattle.std.proofs.Common.{ℕ, List, [], ◌∷◌, ◌++◌, ◌∙◌, if◌then◌else◌, length, Some, refl, sym, ap, subst, String, Global, string_bytes}
use Rattle.std.proofs.lemmas.Option.{slice_get_read}
use Rattle.source_core.specs.Input.{file_named}
use Rattle.source_core.specs.Source.{HasUnread}
use Rattle.check_core.specs.Outcome.{CameOf, Opens}
use Rattle.check_core.proofs.Outcomes.{CameOfEach-next}
use Rattle.check_core.proofs.scripts.check_each.Goals as goal

pub loop-index-preserved : goal.loop-index-preserved
loop-index-preserved g c =
    let names = c.args.names.now in
    let was = c.loop-index.invariant in
    let opened : List ℕ → Opens = λ text. HasUnread g.R.File.Read.remaining g.S.Read.remaining (file_named (Some text)) c.args.standard_input in
    let opens : String Global → Opens = λ name. opened (string_bytes name) in
    let name = c.index-names-index.result in
    let o = c.in_ok-outcome.outcome in
    let at = slice_get_read names (length names) c.loop-index.index name refl c.loop-index-test.true c.index-names-index.is in
    let came = subst (λ (text : List ℕ). CameOf (opened text) o) c.as_str.ensures.value c.in_ok-outcome.ensures.outcome in
    let before = c.loop-index.outcomes.items in
    let pushed = c.push.ensures.items ∙ ap (λ b. if b then before ++ o ∷ [] else before) (sym c.in_ok-map_err.ensures.variant) in
    let next = CameOfEach-next opens names before c.push.new.self.items c.loop-index.index name o was.count at was.each came pushed in
    record { count = next.0; each = next.1 }
