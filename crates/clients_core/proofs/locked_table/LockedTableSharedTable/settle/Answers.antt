use Rattle.std.proofs.Common.{◌≡◌, ◌++◌, ◌∷◌, [], ℕ, List, sym, ap, ◌∙◌, map, arith}
use Rattle.std.specs.List.{range_with_len}
use Rattle.std.proofs.lemmas.List.FromFn.{map-range_with_len_more}
use Rattle.point_core.specs.declared.entry.Entry.{Entry}
use Rattle.point_core.specs.declared.listing.TopRow.{TopRow}
use Rattle.point_core.specs.Reach.{value_at}
use Rattle.words_core.specs.theorem.Seat.{added_to}
use Rattle.words_core.specs.theorem.Words.{WordsModel}
use Rattle.resv_core.specs.Resv.{rows_of}
use Rattle.resv_core.specs.Settled.{all_puts}
use Rattle.clients_core.proofs.Gathering.{map-contexts, tables_of-same_values, value_at-listed}
use Rattle.clients_core.proofs.locked_table.LockedTableSharedTable.settle.Goals as goal

pub loop-index-preserved : goal.loop-index-preserved
loop-index-preserved g c =
    let i = c.loop-index.index in
    let reach = c.in_ok-reach.reach in
    let plans = c.args.plans.now in
    let rows : c.of.result ≡ rows_of (all_puts i plans) reach =
    c.of.ensures
    ∙ c.in_ok-rows.ensures.expected
    ∙ ap (λ (es : List Entry). rows_of es reach) (c.as_slice.ensures.value ∙ c.in_ok-expected.ensures.puts) in
    record {
      tables =
          c.push_reserved.ensures.items
          ∙ ap (λ (ts : List (List TopRow)). ts ++ c.of.result ∷ []) c.loop-index.invariant.tables
          ∙ ap (λ (rs : List TopRow). map (λ b. rows_of (all_puts b plans) reach) (range_with_len 0 i) ++ rs ∷ []) rows
          ∙ sym (map-range_with_len_more (λ b. rows_of (all_puts b plans) reach) 0 i i (omega arith));
      len = omega arith;
      places = c.push_reserved.ensures.capacity ∙ c.loop-index.invariant.places;
    }

pub returns-clause-values : goal.returns-clause-values
returns-clause-values g c =
    let reach = c.in_ok-reach.reach in
    c.of-2.ensures
    ∙ c.in_ok-values.ensures.values
    ∙ ap (λ (n : ℕ). map (value_at reach) (range_with_len 1 n)) c.contexts.ensures.value
    ∙ map-contexts (value_at reach) (added_to c.args.all.now) c.args.words.now.contexts c.in_ok-reach.ensures.values

pub returns-clause-tables : goal.returns-clause-tables
returns-clause-tables g c =
    let reach = c.in_ok-reach.reach in
    let plans = c.args.plans.now in
    let contexts = c.args.words.now.contexts in
    let values : c.of-2.result ≡ map (value_at reach) (range_with_len 1 contexts) =
    c.of-2.ensures
    ∙ c.in_ok-values.ensures.values
    ∙ ap (λ (n : ℕ). map (value_at reach) (range_with_len 1 n)) c.contexts.ensures.value in
    let owned = ap (λ (w : WordsModel). w.buffers) (c.self.view_is ∙ c.requires.own.1) in
    let count : c.loop-index.index ≡ c.args.words.now.buffers = omega (arith, owned, c.self.invariant, c.len-index-end.ensures) in
    c.of-3.ensures
    ∙ c.loop-index.invariant.tables
    ∙ ap (λ (n : ℕ). map (λ b. rows_of (all_puts b plans) reach) (range_with_len 0 n)) count
    ∙ tables_of-same_values c.args.words.now.buffers plans reach c.of-2.result (λ ctx low. ap (λ (vs : List ℕ). value_at vs ctx) values ∙ value_at-listed reach contexts ctx c.in_ok-reach.ensures.past low)
