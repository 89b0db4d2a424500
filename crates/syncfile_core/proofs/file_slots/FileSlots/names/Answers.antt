use Rattle.std.proofs.Common.{◌≡◌, ap, sym, map, take, length, ◌∙◌, subst}
use Rattle.syncfile_core.specs.declared.file_slots.NumberedName.{NumberedName}
use Rattle.syncfile_core.specs.Files.{names_of, files_made, entries_of, entries_in, AreKept, HasDistinctNames}
use Rattle.syncfile_core.proofs.Kept.{HasDistinctNames-made}
use Rattle.syncfile_core.proofs.Placed.{names_of-in_order}
use Rattle.syncfile_core.proofs.file_slots.FileSlots.names.Goals as goal

pub returns-in_err-places-clause-distinct : goal.returns-in_err-places-clause-distinct
returns-in_err-places-clause-distinct c = subst HasDistinctNames c.self.view_is (HasDistinctNames-made (entries_in c.self.inside.names.keys c.self.inside.made.items) c.self.inside.next c.self.invariant.kept)

pub returns-in_err-names_of-clause-distinct : goal.returns-in_err-names_of-clause-distinct
returns-in_err-names_of-clause-distinct c = subst HasDistinctNames c.self.view_is (HasDistinctNames-made (entries_in c.self.inside.names.keys c.self.inside.made.items) c.self.inside.next c.self.invariant.kept)

pub returns-clause-names : goal.returns-clause-names
returns-clause-names c =
    let first : take c.len.result c.deref.result.now ≡ take (length c.self.inside.names.keys) c.self.inside.made.items =
    ap (λ n. take n c.deref.result.now) c.len.ensures.len ∙ ap (take (length c.self.inside.names.keys)) c.deref.ensures.value in
    let kept = subst (λ ms. AreKept (entries_of ms) c.self.inside.next) (sym first) c.self.invariant.kept in
    c.in_ok-names_of.ensures
    ∙ ap (map (λ (p : NumberedName). p.name)) c.as_slice.ensures.value
    ∙ names_of-in_order (take c.len.result c.deref.result.now) c.self.inside.next kept c.in_ok-places.places.items c.in_ok-places.ensures.same c.in_ok-places.ensures.rising
    ∙ ap (λ ms. names_of (files_made (entries_of ms))) first
    ∙ ap names_of c.self.view_is

pub returns-clause-distinct : goal.returns-clause-distinct
returns-clause-distinct c = subst HasDistinctNames c.self.view_is (HasDistinctNames-made (entries_in c.self.inside.names.keys c.self.inside.made.items) c.self.inside.next c.self.invariant.kept)
