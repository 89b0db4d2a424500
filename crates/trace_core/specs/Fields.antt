-- The fields of a dma_fence event.
use Rattle.std.specs.Prelude.{ℕ, List, Option, option_map, codes}
use Rattle.std.specs.Option.{option_and_then}
use Rattle.trace_core.specs.declared.fields.Fields.{Fields}
use Rattle.trace_core.specs.Number.{number_at_end}
use Rattle.trace_core.specs.Steps.{after, part_at}

-- the fields, with the bytes of the names
pub record Body : Type 0 where
  pub driver : List ℕ
  pub timeline : List ℕ
  pub context : ℕ
  pub seqno : ℕ

abbrev pub fields_from : Fields → Body
fields_from f = record { driver = f.driver.now; timeline = f.timeline.now; context = f.context; seqno = f.seqno }

unfoldable pub names_of : List ℕ → Option (List ℕ × List ℕ)
names_of text = option_and_then (part_at (codes " timeline=")) (after text (codes "driver="))

abbrev pub with_names : ℕ → ℕ → List ℕ → Option Body
with_names context seqno text =
    option_map (λ names. record { driver = names.0; timeline = names.1; context = context; seqno = seqno }) (names_of text)

unfoldable pub fields_of : List ℕ → Option Body
fields_of text =
    option_and_then
    (λ seqno. option_and_then (λ context. with_names context.1 seqno.1 context.0) (number_at_end (codes " context=") seqno.0))
    (number_at_end (codes " seqno=") text)
