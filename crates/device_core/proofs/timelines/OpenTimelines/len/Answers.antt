use Rattle.std.proofs.Common.{nat_eq, sym, subst}
use Rattle.std.specs.List.{IsDistinct}
use Rattle.std.specs.Map.{keys_of}
use Rattle.std.proofs.lemmas.Map.Made.{keys_of-map_values}
use Rattle.device_core.specs.declared.timelines.OpenTimeline.{OpenTimeline}
use Rattle.device_core.specs.Floors.{TimelinesState}
use Rattle.device_core.proofs.timelines.OpenTimelines.len.Goals as goal

pub returns-clause-distinct : goal.returns-clause-distinct
returns-clause-distinct c =
    subst (λ (s : TimelinesState). IsDistinct nat_eq (keys_of s.entries)) c.self.view_is
    (subst (IsDistinct nat_eq) (sym (keys_of-map_values (λ (o : OpenTimeline). o.timeline) c.self.inside.by_number.entries)) c.len.ensures.unique)
