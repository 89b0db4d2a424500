use Rattle.std.proofs.Common.{◌++◌, ◌∙◌, ap, map, subst}
use Rattle.std.specs.List.{filter}
use Rattle.std.specs.List.Sorted.{IsPermutation}
use Rattle.std.specs.Map.{keys_of}
use Rattle.std.proofs.lemmas.List.Sorted.{IsPermutation-map}
use Rattle.trace_report.specs.Found.{is_hang, is_unknown, key_of}
use Rattle.trace_report.proofs.Finding.{are-hangs, are-unknown, hangs-among, unknown-among}
use Rattle.trace_report.proofs.found.PendingFences.new.Goals as goal

pub returns-clause-hangs : goal.returns-clause-hangs
returns-clause-hangs c steps ledger =
    let keys = keys_of c.args.ledger.now.lives.by_key.entries in
    let is = c.in_ok-unnumbered.ensures.hangs ∙ ap (λ before. before ++ filter is_hang c.as_slice.result.now) c.new-hangs.ensures.items ∙ ap (filter is_hang) (c.as_slice.ensures.value ∙ c.in_ok-pending.ensures.pending steps ledger) in
    let same = IsPermutation-map key_of c.split.new.hangs.items c.sort.new.self.items c.sort.ensures.permutation in
    are-hangs c.args.ledger.now steps c.sort.new.self.items ledger c.in_ok-pending.ensures.distinct (subst (λ ks. IsPermutation ks (map key_of c.sort.new.self.items)) (ap (map key_of) is ∙ hangs-among steps keys) same)

pub returns-clause-unknown : goal.returns-clause-unknown
returns-clause-unknown c steps ledger =
    let keys = keys_of c.args.ledger.now.lives.by_key.entries in
    let is = c.in_ok-unnumbered.ensures.unknown ∙ ap (λ before. before ++ filter is_unknown c.as_slice.result.now) c.new-unknown.ensures.items ∙ ap (filter is_unknown) (c.as_slice.ensures.value ∙ c.in_ok-pending.ensures.pending steps ledger) in
    let same = IsPermutation-map key_of c.split.new.unknown.items c.sort-2.new.self.items c.sort-2.ensures.permutation in
    are-unknown c.args.ledger.now steps c.sort-2.new.self.items ledger c.in_ok-pending.ensures.distinct (subst (λ ks. IsPermutation ks (map key_of c.sort-2.new.self.items)) (ap (map key_of) is ∙ unknown-among steps keys) same)
