use Rattle.std.proofs.Common.{◌≡◌, ◌+◌, ◌<◌, ℕ, true, refl, sym, ap, ◌∙◌, arith}
use Rattle.std.proofs.lemmas.Bool.{false≢true}
use Rattle.point_core.specs.declared.entry.Usage.{Usage}
use Rattle.point_core.specs.Agreement.{point_of}
use Rattle.point_core.specs.Usage.{usage_number}
use Rattle.words_core.specs.declared.words.TheConstants.{USAGES}
use Rattle.words_core.proofs.Laying.{usage_number_le}
use Rattle.clients_core.specs.Looks.{shows_point}
use Rattle.clients_core.specs.OwnPuts.{point_to}
use Rattle.clients_core.proofs.Looking.{points-shown}
use Rattle.clients_core.proofs.OwnLatest.{point_to-latest}
use Rattle.clients_core.proofs.own_puts.OwnPuts.are_shown.Goals as goal

is_usage : (usage : Usage) → usage_number usage < USAGES
is_usage usage = let low = usage_number_le usage in omega (arith, low)

pub returns-then-not-shows_point : goal.returns-then-not-shows_point
returns-then-not-shows_point c = record {
  shown = λ es puts within.
      let usage = usage_number c.args.usage in
      let own : ℕ → ℕ = point_to c.args.self.now usage in
      let both = points-shown c.args.listing.now usage c.args.contexts es own c.requires.contexts puts.valid within (λ ctx low high. point_to-latest c.args.contexts c.args.self.now es usage ctx puts (is_usage c.args.usage) low high) in
      let ctx = c.loop-index.index + 1 in (
        (λ bad. absurd (false≢true bad)),
        (λ all.
            let shown = both.1 all ctx (omega arith) (omega arith) in
            let here : c.shows_point.result ≡ true = c.shows_point.ensures ∙ ap (λ (v : ℕ). shows_point c.args.listing.now (point_of ctx v)) c.at.ensures ∙ shown in
            sym c.if-not-shows_point.true ∙ here),
      );
}

pub returns : goal.returns
returns c = record {
  shown = λ es puts within.
      let usage = usage_number c.args.usage in
      let own : ℕ → ℕ = point_to c.args.self.now usage in
      let both = points-shown c.args.listing.now usage c.args.contexts es own c.requires.contexts puts.valid within (λ ctx low high. point_to-latest c.args.contexts c.args.self.now es usage ctx puts (is_usage c.args.usage) low high) in (
        (λ _. both.0 (λ ctx low high. c.loop-index.invariant ctx low (let end = c.loop-index-test.false in omega arith))),
        (λ _. refl),
      );
}
