use Rattle.std.proofs.Common.{◌≤◌, ◌-◌, ◌∷◌, ◌++◌, ◌∙◌, [], false, length, drop, ap, subst, sym, length-take, arith}
use Rattle.trace_core.specs.Pieces.{HasPassed, passed}
use Rattle.trace_core.proofs.Passing.{passed-more, bytes-passed}
use Rattle.trace_core.proofs.pieces.Pieces.pass.Goals as goal

pub returns-clause-passed : goal.returns-clause-passed
returns-clause-passed c =
    let inside = c.self.inside in
    let few : c.args.count ≤ inside.end - inside.start = omega (arith, c.requires.within, ap (λ s. length s.bytes) c.self.view_is, length-take (inside.end - inside.start) (drop inside.start inside.held)) in
    let bytes = bytes-passed inside.held inside.start inside.end c.args.count few in
    (λ i. record { bytes = bytes i; whole = inside.whole; long = false }) ∙ ap (λ s. passed s c.args.count) c.self.view_is

pub returns-clause-more : goal.returns-clause-more
returns-clause-more c before now items item p next =
    subst (λ s. HasPassed before now s (items ++ item ∷ [])) (sym (returns-clause-passed c)) (passed-more before now c.args.self.now items p item c.args.count next)
