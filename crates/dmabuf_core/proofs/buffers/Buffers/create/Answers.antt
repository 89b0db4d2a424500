use Rattle.std.proofs.Common.{◌≡◌, ◌<◌, ◌++◌, ◌∷◌, [], false, nat_eq, sym, ap, ◌∙◌, subst, length, arith}
use Rattle.std.specs.List.{IsDistinct}
use lib.Pointwise.{pointwise}
use Rattle.resv_core.specs.Resv.{empty}
use Rattle.point_core.specs.declared.limits.TheConstants.{BUFFERS}
use Rattle.dmabuf_core.specs.Buffers.{AreBuffers, has_buffer, names_of}
use Rattle.dmabuf_core.proofs.Tables.{AreBuffers-append, IsTable-empty, insert_entry-last}
use Rattle.dmabuf_core.proofs.buffers.Buffers.create.Goals as goal

last : (c : goal.Joined-insert-2) → c.insert.new.self.entries ≡ c.args.self.now ++ (c.args.name, empty) ∷ []
last c =
    let new : has_buffer c.args.self.now c.args.name ≡ false = sym c.has.ensures ∙ c.if-has.false in
    let same = c.new-table.ensures.empty in
    c.in-Ok.ensures.entries
    ∙ insert_entry-last c.self.inside.by_name c.args.self.now c.args.name c.new-table.result c.self.view_is new
    ∙ ap (λ t. c.args.self.now ++ (c.args.name, t) ∷ []) same

kept : (c : goal.Joined-insert-2) → AreBuffers c.insert.new.self.entries
kept c =
    let room : length c.args.self.now < BUFFERS = omega (arith, ap length c.self.view_is) in
    subst AreBuffers (sym (last c))
    (AreBuffers-append c.args.self.now c.args.name empty (subst AreBuffers c.self.view_is c.self.invariant) IsTable-empty room
    (subst (λ bs. IsDistinct (pointwise nat_eq) (names_of bs)) (last c) c.in-Ok.ensures.unique))

pub invariant_of-self : goal.invariant_of-self
invariant_of-self c = kept c

pub returns-in-Ok-clause-last : goal.returns-in-Ok-clause-last
returns-in-Ok-clause-last c = last c

pub returns-in-Ok-clause-kept : goal.returns-in-Ok-clause-kept
returns-in-Ok-clause-kept c = kept c
