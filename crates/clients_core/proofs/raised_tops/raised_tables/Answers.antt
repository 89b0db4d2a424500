use Rattle.std.proofs.Common.{◌≡◌, ◌++◌, ◌∷◌, [], ℕ, List, sym, ap, ◌∙◌, map, arith}
use Rattle.std.specs.List.{range_with_len}
use Rattle.std.proofs.lemmas.List.FromFn.{map-range_with_len_more}
use Rattle.point_core.specs.declared.entry.Entry.{Entry}
use Rattle.point_core.specs.declared.entry.Usage.TheVariants.{Bookkeep}
use Rattle.point_core.specs.declared.listing.TopRow.{TopRow}
use Rattle.resv_core.specs.Resv.{rows_of}
use Rattle.clients_core.specs.Board.{places_to, raised_in}
use Rattle.clients_core.proofs.Topping.{HasStepped-append, raised_entries-same}
use Rattle.clients_core.proofs.raised_tops.raised_tables.Goals as goal

pub loop-buffer-preserved : goal.loop-buffer-preserved
loop-buffer-preserved c =
    let words = c.args.words.now in
    let first = c.args.all.now in
    let seat = c.loop-buffer.all in
    let i = c.loop-buffer.buffer in
    let reach = c.args.reach.now in
    let before = c.loop-buffer.invariant in
    let rows_in = λ (b : ℕ). rows_of (raised_in words first b) reach in
    let same : raised_in words seat i ≡ raised_in words first i = raised_entries-same words first seat i (places_to Bookkeep words.contexts) before.same in
    let rows : c.of.result ≡ rows_in i = c.of.ensures ∙ c.in_ok-rows.ensures.rows (raised_in words seat i) c.raised_tops.ensures.tops ∙ ap (λ (es : List Entry). rows_of es reach) same in
    record {
      stepped = HasStepped-append first seat c.raised_tops.new.all before.stepped c.raised_tops.ensures.stepped;
      same = λ w. c.raised_tops.ensures.same w ∙ before.same w;
      tables =
          c.push_reserved.ensures.items
          ∙ ap (λ (ts : List (List TopRow)). ts ++ c.of.result ∷ []) before.tables
          ∙ ap (λ (rs : List TopRow). map rows_in (range_with_len 0 i) ++ rs ∷ []) rows
          ∙ sym (map-range_with_len_more rows_in 0 i i (omega arith));
      len = omega arith;
      places = c.push_reserved.ensures.capacity ∙ before.places;
    }
