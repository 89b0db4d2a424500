use Rattle.std.proofs.Common.{◌≡◌, ℕ, ◌+◌, ◌*◌, ◌<◌, max, length, get_or, set, ap, ◌∙◌, arith}
use Rattle.std.proofs.lemmas.List.{get_or_read_under}
use Rattle.words_core.specs.declared.words.TheConstants.{USAGES}
use Rattle.clients_core.proofs.OwnLatest.{AreOwnPuts-put}
use Rattle.clients_core.proofs.own_puts.OwnPuts.put.Goals as goal

pub returns-then-place-len : goal.returns-then-place-len
returns-then-place-len c =
    let e = c.args.entry.now in
    let latest = c.args.self.now.latest in
    let points = latest.items in
    let at = c.index.ensures.value in
    let few = c.index.ensures.within in
    let place : ℕ = USAGES * c.index.result + c.from.result in
    let full : latest.len ≡ length points = latest.ok.0 in
    let low : place < latest.len = omega (arith, c.if-place-len.true, c.len.ensures) in
    let before = get_or_read_under points place latest.len c.index-then-place-len.result.now 0 c.index-then-place-len.ensures low full in
    let raised : set points place c.max.result ≡ set points place (max (get_or points place 0) e.point.value) =
    ap (set points place) (c.max.ensures ∙ ap (λ (v : ℕ). max v e.point.value) before) in
    record {
      puts = λ contexts es within h.
          AreOwnPuts-put contexts c.args.self.now _ es e place (omega (arith, at)) (omega (arith, at, few)) (omega (arith, at, c.from.ensures, c.number.ensures)) (omega (arith, low, full)) raised h;
    }
