use Rattle.std.proofs.Common.{◌≡◌, ◌<◌, ◌+◌, ◌++◌, ◌∷◌, [], length, set, sym, ap, ◌∙◌, subst, arith}
use Rattle.std.proofs.lemmas.List.{with_items_is}
use Rattle.syncfile_core.specs.Drafts.{drafted}
use Rattle.syncfile_core.specs.SyncFile.{File}
use Rattle.syncfile_core.specs.Files.{has_file, files_in, AreInPlace}
use Rattle.syncfile_core.proofs.Placed.{AreInPlace-inserted, files_in-inserted, new-inserted, files_in-same}
use Rattle.syncfile_core.proofs.file_slots.FileSlots.put.Goals as goal

pub invariant_of-self-in-Ok-true : goal.invariant_of-self-in-Ok-true
invariant_of-self-in-Ok-true c =
    let len : c.len-count.result ≡ length c.next_number.new.names.keys = c.len-count.ensures.len ∙ sym c.next_number.ensures.count in
    let room : c.len-count.result < length c.next_number.new.made = omega (arith, c.in-Ok.ensures.place, c.next_number.ensures.places, ap length c.deref_mut.ensures.value) in
    let placed = subst (AreInPlace c.next_number.new.names.keys c.next_number.new.made) (sym c.take_up.ensures.number) c.in-Ok-next_number.ensures.above in
    let whole = with_items_is c.add_place.new.made c.next_number.new.made (c.next_number.ensures.places ∙ c.deref_mut.ensures.len) in
    let added = sym c.in-Ok-true.field-0-test ∙ c.in-Ok-true.ensures.added in
    subst (λ ms. AreInPlace c.insert.new.self.keys (set ms c.len-count.result c.take_up.new.self) (c.in-Ok-next_number.number + 1)) (sym whole)
    (subst (λ n. AreInPlace c.insert.new.self.keys (set c.next_number.new.made c.len-count.result c.take_up.new.self) (n + 1)) c.take_up.ensures.number
    (AreInPlace-inserted c.next_number.new.names.keys c.insert.new.self.keys c.next_number.new.made c.take_up.new.self c.len-count.result placed c.args.name len room added c.in-Ok-true.ensures.keys
    (sym (ap (λ (f : File). f.name) c.take_up.ensures.file))))

pub returns-in-Ok-true-clause-new : goal.returns-in-Ok-true-clause-new
returns-in-Ok-true-clause-new c = λ _.
    let len : c.len-count.result ≡ length c.next_number.new.names.keys = c.len-count.ensures.len ∙ sym c.next_number.ensures.count in
    let room : c.len-count.result < length c.next_number.new.made = omega (arith, c.in-Ok.ensures.place, c.next_number.ensures.places, ap length c.deref_mut.ensures.value) in
    let placed = subst (AreInPlace c.next_number.new.names.keys c.next_number.new.made) (sym c.take_up.ensures.number) c.in-Ok-next_number.ensures.above in
    let whole = with_items_is c.add_place.new.made c.next_number.new.made (c.next_number.ensures.places ∙ c.deref_mut.ensures.len) in
    let added = sym c.in-Ok-true.field-0-test ∙ c.in-Ok-true.ensures.added in
    let seen : files_in c.next_number.new.names.keys c.next_number.new.made ≡ c.args.self.now =
    c.next_number.ensures.same
    ∙ ap (files_in c.self.inside.names.keys) c.deref_mut.ensures.value
    ∙ files_in-same c.self.inside.names.keys c.self.inside.made.items c.add_place.new.made.items c.len-count.result c.len-count.ensures.len c.add_place.ensures.same
    ∙ c.self.view_is in
    ap (λ fs. has_file fs c.args.name) (sym seen)
    ∙ new-inserted c.next_number.new.names.keys c.insert.new.self.keys c.next_number.new.made c.take_up.new.self c.len-count.result placed c.args.name len room added c.in-Ok-true.ensures.keys
    (sym (ap (λ (f : File). f.name) c.take_up.ensures.file))

pub returns-in-Ok-true-clause-last : goal.returns-in-Ok-true-clause-last
returns-in-Ok-true-clause-last c = λ _.
    let len : c.len-count.result ≡ length c.next_number.new.names.keys = c.len-count.ensures.len ∙ sym c.next_number.ensures.count in
    let room : c.len-count.result < length c.next_number.new.made = omega (arith, c.in-Ok.ensures.place, c.next_number.ensures.places, ap length c.deref_mut.ensures.value) in
    let placed = subst (AreInPlace c.next_number.new.names.keys c.next_number.new.made) (sym c.take_up.ensures.number) c.in-Ok-next_number.ensures.above in
    let whole = with_items_is c.add_place.new.made c.next_number.new.made (c.next_number.ensures.places ∙ c.deref_mut.ensures.len) in
    let added = sym c.in-Ok-true.field-0-test ∙ c.in-Ok-true.ensures.added in
    let seen : files_in c.next_number.new.names.keys c.next_number.new.made ≡ c.args.self.now =
    c.next_number.ensures.same
    ∙ ap (files_in c.self.inside.names.keys) c.deref_mut.ensures.value
    ∙ files_in-same c.self.inside.names.keys c.self.inside.made.items c.add_place.new.made.items c.len-count.result c.len-count.ensures.len c.add_place.ensures.same
    ∙ c.self.view_is in
    ap (λ ms. files_in c.insert.new.self.keys (set ms c.len-count.result c.take_up.new.self)) whole
    ∙ files_in-inserted c.next_number.new.names.keys c.insert.new.self.keys c.next_number.new.made c.take_up.new.self c.len-count.result placed c.args.name len room added c.in-Ok-true.ensures.keys
    (sym (ap (λ (f : File). f.name) c.take_up.ensures.file))
    ∙ ap (λ f. files_in c.next_number.new.names.keys c.next_number.new.made ++ f ∷ []) c.take_up.ensures.file
    ∙ ap (λ fs. fs ++ drafted c.args.name c.args.draft.now ∷ []) seen
