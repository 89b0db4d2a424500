use Rattle.std.proofs.Common.{sym, ◌∙◌, arith}
use Rattle.std.proofs.lemmas.Bool.{false≢true}
use Rattle.explore_core.proofs.Recording.{IsNone-first, IsNone-more, IsNone-all}
use Rattle.explore_core.proofs.listing.is_listed.Goals as goal

pub loop-index-init : goal.loop-index-init
loop-index-init c = record { none = IsNone-first c.args.list.now }

pub loop-index-preserved : goal.loop-index-preserved
loop-index-preserved c = record {
  none = IsNone-more c.args.list.now c.loop-index.index _ c.index-list-last.result (omega (arith, c.loop-index-test.true)) c.index-list-last.is
      (λ client_is place_is answer_is. false≢true (sym c.if-is_of.false ∙ c.is_of.ensures.all client_is place_is answer_is)) c.loop-index.invariant.none;
}

pub returns-then-is_of-clause-listed : goal.returns-then-is_of-clause-listed
returns-then-is_of-clause-listed c = λ yes.
    let of = c.is_of.ensures.is c.if-is_of.true in
    (c.index-list-last.result, (_, omega (arith, c.loop-index-test.true), sym c.index-list-last.is), of.0, of.1, of.2)

pub returns-clause-listed : goal.returns-clause-listed
returns-clause-listed c = λ bad. absurd (false≢true bad)

pub returns-clause-all : goal.returns-clause-all
returns-clause-all c = λ lists. absurd (IsNone-all c.args.list.now c.loop-index.index (omega (arith, c.loop-index-test.false)) c.loop-index.invariant.none lists)
