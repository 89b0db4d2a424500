use Rattle.std.proofs.Common.{◌+◌, sym, ap, ◌∙◌, subst, is_some, rules}
use Rattle.syncfile_core.specs.Files.{has_file, without_file, files_in, AreInPlace}
use Rattle.syncfile_core.proofs.Placed.{swap_remove_by-removed, one_less-removed, has_file-position, files_in-missing, AreInPlace-swap, files_in-swap}
use Rattle.syncfile_core.proofs.file_slots.FileSlots.remove.Goals as goal

pub returns-in_default-clause-known : goal.returns-in_default-clause-known
returns-in_default-clause-known c =
    sym (ap (λ fs. has_file fs c.args.name.now) (sym c.self.view_is)
    ∙ has_file-position c.self.inside.names.keys c.self.inside.made.items c.self.inside.next c.self.invariant c.args.name.now
    ∙ ap is_some (sym c.in_default.ensures.index))

pub returns-in_default-clause-without : goal.returns-in_default-clause-without
returns-in_default-clause-without c =
    sym c.self.view_is
    ∙ files_in-missing c.self.inside.names.keys c.self.inside.made.items c.self.inside.next c.self.invariant c.args.name.now (sym c.in_default.ensures.index)
    ∙ ap (λ fs. without_file fs c.args.name.now) c.self.view_is

pub invariant_of-self : goal.invariant_of-self
invariant_of-self c =
    subst (λ made. AreInPlace c.swap_remove_index.new.self.keys made c.self.inside.next) (sym c.swap.ensures.items)
    (AreInPlace-swap c.self.inside.names.keys c.swap_remove_index.new.self.keys c.self.inside.made.items c.self.inside.next c.self.invariant c.args.name.now c.in-Some.index c.len-last.result
    (sym c.in-Some.ensures.index) (swap_remove_by-removed c.self.inside.names.keys c.swap_remove_index.new.self.keys c.args.name.now c.in-Some.index c.swap_remove_index.result (sym c.in-Some.ensures.index) (search rules) c.swap_remove_index.ensures.keys) (sym c.len-last.ensures.len) (ap (λ n. n + 1) c.len-last.ensures.len ∙ one_less-removed c.self.inside.names.keys c.swap_remove_index.new.self.keys c.args.name.now c.in-Some.index c.swap_remove_index.result (sym c.in-Some.ensures.index) (search rules) c.swap_remove_index.ensures.len))

pub returns-clause-known : goal.returns-clause-known
returns-clause-known c =
    sym (ap (λ fs. has_file fs c.args.name.now) (sym c.self.view_is)
    ∙ has_file-position c.self.inside.names.keys c.self.inside.made.items c.self.inside.next c.self.invariant c.args.name.now
    ∙ ap is_some (sym c.in-Some.ensures.index))

pub returns-clause-without : goal.returns-clause-without
returns-clause-without c =
    ap (files_in c.swap_remove_index.new.self.keys) c.swap.ensures.items
    ∙ files_in-swap c.self.inside.names.keys c.swap_remove_index.new.self.keys c.self.inside.made.items c.self.inside.next c.self.invariant c.args.name.now c.in-Some.index c.len-last.result
    (sym c.in-Some.ensures.index) (swap_remove_by-removed c.self.inside.names.keys c.swap_remove_index.new.self.keys c.args.name.now c.in-Some.index c.swap_remove_index.result (sym c.in-Some.ensures.index) (search rules) c.swap_remove_index.ensures.keys) (sym c.len-last.ensures.len) (ap (λ n. n + 1) c.len-last.ensures.len ∙ one_less-removed c.self.inside.names.keys c.swap_remove_index.new.self.keys c.args.name.now c.in-Some.index c.swap_remove_index.result (sym c.in-Some.ensures.index) (search rules) c.swap_remove_index.ensures.len)
    ∙ ap (λ fs. without_file fs c.args.name.now) c.self.view_is
