use Rattle.std.proofs.Common.{◌≡◌, map, sym, ap, ◌∙◌, subst}
use Rattle.std.specs.List.{IsDistinct}
use Rattle.point_core.specs.Named.{same_name}
use Rattle.syncfile_core.specs.declared.file_slots.NumberedName.{NumberedName}
use Rattle.syncfile_core.specs.Files.{names_of, files_made, entries_of}
use Rattle.syncfile_core.proofs.Kept.{HasDistinctNames-made}
use Rattle.syncfile_core.proofs.Placed.{names_of-in_order}
use Rattle.syncfile_core.proofs.file_slots.put_names_in_order.Goals as goal

pub set_of-requires : goal.set_of-requires
set_of-requires c =
    let are : c.as_slice-2.result.now ≡ names_of (files_made (entries_of c.args.made.now)) =
    c.as_slice-2.ensures.value ∙ c.in_ok-ordered.ensures
    ∙ ap (map (λ (p : NumberedName). p.name)) c.as_slice.ensures.value
    ∙ names_of-in_order c.args.made.now c.requires.kept.0 c.requires.kept.1 c.in_ok-places.places.items c.in_ok-places.ensures.same c.in_ok-places.ensures.rising in
    record { distinct = subst (IsDistinct same_name) (sym are) (HasDistinctNames-made (entries_of c.args.made.now) c.requires.kept.0 c.requires.kept.1) }

pub returns-clause-names : goal.returns-clause-names
returns-clause-names c =
    let are : c.as_slice-2.result.now ≡ names_of (files_made (entries_of c.args.made.now)) =
    c.as_slice-2.ensures.value ∙ c.in_ok-ordered.ensures
    ∙ ap (map (λ (p : NumberedName). p.name)) c.as_slice.ensures.value
    ∙ names_of-in_order c.args.made.now c.requires.kept.0 c.requires.kept.1 c.in_ok-places.places.items c.in_ok-places.ensures.same c.in_ok-places.ensures.rising in
    c.in_ok-names.ensures.names ∙ are
