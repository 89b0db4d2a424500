use Rattle.std.proofs.Common.{◌∙◌, ap, ◌++◌}
use Rattle.trace_core.proofs.Naming.{found-named, new-named, named-kept, pushed}
use Rattle.trace_core.proofs.names.Names.find.Goals as goal

-- src/names.rt:42:13
pub returns-in-Some-clause-named : goal.returns-in-Some-clause-named
returns-in-Some-clause-named c =
    found-named (λ k. k.items) c.args.self.now.names.keys c.args.name.now c.in_ok-number.number c.in-Some.index c.in-Some._found.now c.in_ok-number.ensures.same c.in-Some.ensures.stored c.in-Some.ensures.key

-- src/names.rt:35:5
pub returns-clause-named : goal.returns-clause-named
returns-clause-named c =
    let k = c.extend_from_slice.new.self in
    let is = c.in_ok-extend_from_slice.ensures.items ∙ ap (λ xs. xs ++ c.args.name.now) c.in_ok-owned.ensures.items in
    new-named (λ k. k.items) c.args.self.now.names.keys c.insert.new.self.keys c.args.name.now c.in_ok-number-2.number k (c.in_ok-number-2.ensures.same ∙ c.len.ensures.len) is (pushed (λ k. k.items) c.args.self.now.names.keys c.insert.new.self.keys c.args.name.now k is c.in_default.ensures.found c.in-Ok.ensures.keys)

-- src/names.rt:35:5
pub returns-clause-kept : goal.returns-clause-kept
returns-clause-kept c =
    let k = c.extend_from_slice.new.self in
    let is = c.in_ok-extend_from_slice.ensures.items ∙ ap (λ xs. xs ++ c.args.name.now) c.in_ok-owned.ensures.items in
    λ n other. named-kept (λ k. k.items) c.args.self.now.names.keys c.insert.new.self.keys k n other (pushed (λ k. k.items) c.args.self.now.names.keys c.insert.new.self.keys c.args.name.now k is c.in_default.ensures.found c.in-Ok.ensures.keys)
