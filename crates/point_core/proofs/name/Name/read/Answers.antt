use Rattle.std.proofs.Common.{◌≡◌, ◌≤◌, length, sym, subst, ap, ◌∙◌, true, refl, rules}
use Rattle.std.specs.List.{list_all}
use Rattle.point_core.specs.Name.{IsStored, bytes_of, is_name_byte}
use Rattle.point_core.proofs.Names.{IsStored-stored, bytes-of_stored, stored-after_copy}
use Rattle.point_core.proofs.name.Name.read.Goals as goal

pub invariant_of-result : goal.invariant_of-result
invariant_of-result c =
    let bytes = c.args.bytes.now in
    let all : list_all is_name_byte bytes ≡ true = sym c.are_allowed.ensures ∙ c.if-not-are_allowed.false in
    let low : 1 ≤ length bytes = search rules in
    let high : length bytes ≤ 31 = search rules in
    subst IsStored (sym (stored-after_copy bytes c.copy_from_slice.new.self cc)) (IsStored-stored bytes (low, high, all))

pub returns-clause-valid : goal.returns-clause-valid
returns-clause-valid c =
    let bytes = c.args.bytes.now in
    let all : list_all is_name_byte bytes ≡ true = sym c.are_allowed.ensures ∙ c.if-not-are_allowed.false in
    let low : 1 ≤ length bytes = search rules in
    let high : length bytes ≤ 31 = search rules in
    ((λ _. (low, high, all)), (λ _. refl))

pub returns-clause-value : goal.returns-clause-value
returns-clause-value c =
    let bytes = c.args.bytes.now in
    let high : length bytes ≤ 31 = search rules in
    ap bytes_of (stored-after_copy bytes c.copy_from_slice.new.self cc) ∙ bytes-of_stored bytes high
