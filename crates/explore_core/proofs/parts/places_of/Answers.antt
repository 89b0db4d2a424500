use Rattle.std.proofs.Common.{◌≡◌, [], All, ℕ, ◌<◌, length, map, sym, ap, ◌∙◌, subst}
use Rattle.std.proofs.lemmas.List.{take_all}
use Rattle.std.proofs.lemmas.List.Elements.{All-nil}
use Rattle.explore_core.specs.Search.{file_at, file_look, has_name}
use Rattle.explore_core.proofs.Parting.{Begins-refl, Begins-trans, files-next, fit-put}
use Rattle.explore_core.proofs.parts.places_of.Goals as goal

pub returns-in_err-places-clause-begins : goal.returns-in_err-places-clause-begins
returns-in_err-places-clause-begins c = Begins-refl c.args.table.now

pub returns-in_err-put_place-clause-begins : goal.returns-in_err-put_place-clause-begins
returns-in_err-put_place-clause-begins c = Begins-trans c.loop-name.invariant.begins c.put_place.ensures.begins

pub loop-name-init : goal.loop-name-init
loop-name-init c =
    let none : c.in_ok-places.places.items ≡ [] = c.in_ok-places.ensures.items in
    record {
      begins = Begins-refl c.args.table.now;
      fit = subst (All (λ (i : ℕ). i < length c.args.table.now)) (sym none) (All-nil (λ (i : ℕ). i < length c.args.table.now));
      files = ap (map (file_at c.args.table.now)) none;
    }

pub loop-name-preserved : goal.loop-name-preserved
loop-name-preserved c =
    let was = c.loop-name.invariant in
    let put = c.in_ok-put_place.ensures.put in
    let begins = c.put_place.ensures.begins in
    let look = file_look (has_name c.args.asked.now) c.args.desk.now in
    let old = c.loop-name.places.items in
    let new = c.put_place.new.table in
    let name = c.name-item.result in
    record {
      begins = Begins-trans was.begins begins;
      fit = subst (All (λ (i : ℕ). i < length new)) (sym put.2) (fit-put begins old was.fit put.0 (look name) put.1);
      files = ap (map (file_at new)) put.2
          ∙ files-next begins look c.args.names.now old was.fit c.loop-name.name-index name c.loop-name-test.true c.name-item.is was.files put.0 put.1;
    }

pub returns-clause-files : goal.returns-clause-files
returns-clause-files c =
    c.loop-name.invariant.files ∙ ap (map (file_look (has_name c.args.asked.now) c.args.desk.now)) (take_all c.loop-name.name-index c.args.names.now c.loop-name-test.false)

pub returns-clause-fit : goal.returns-clause-fit
returns-clause-fit c = c.loop-name.invariant.fit

pub returns-clause-begins : goal.returns-clause-begins
returns-clause-begins c = c.loop-name.invariant.begins
