use Rattle.std.proofs.Common.{◌≡◌, ◌++◌, sym, ap, subst, ◌∙◌, inl, inr}
use Rattle.std.proofs.lemmas.Result.{err_from_is_err_and}
use Rattle.point_core.specs.Agreement.{as_entries, merged, HasContexts, HasRisingContexts, AgreesAbove}
use Rattle.point_core.proofs.Agreement.{listing-rising}
use Rattle.words_core.proofs.Loads.{contexts-loaded, kept-loaded, HasLoadedAll-seen}
use Rattle.syncfile_core.specs.SyncFile.{File, file_of}
use Rattle.syncfile_core.proofs.Polling.{IsBorneOut-seen, IsBorneOut-found, StandsFor-merged}
use Rattle.syncfile_core.proofs.sync_file.SyncFile.merge_with.Goals as goal

pub returns-in_err-bear_out-clause-refused : goal.returns-in_err-bear_out-clause-refused
returns-in_err-bear_out-clause-refused c =
    let p = err_from_is_err_and c.from_residual.result c.from_residual.ensures.1 in
    let made = contexts-loaded c.contexts.ensures.value c.requires.own c.load_all_into.ensures.loaded in
    let told = c.in_err-bear_out.ensures.foreign in
    rw (p.1, p.2) (inl (told.0, λ out. told.1 (IsBorneOut-found c.load_all_into.new.seat c.args.a.now c.load_all_into.ensures.loaded.found made out.0)))

pub returns-in_err-bear_out-2-clause-refused : goal.returns-in_err-bear_out-2-clause-refused
returns-in_err-bear_out-2-clause-refused c =
    let p = err_from_is_err_and c.from_residual-in_err-bear_out-2.result c.from_residual-in_err-bear_out-2.ensures.1 in
    let made = contexts-loaded c.contexts-2.ensures.value c.requires.own c.load_all_into.ensures.loaded in
    let told = c.in_err-bear_out-2.ensures.foreign in
    rw (p.1, p.2) (inl (told.0, λ out. told.1 (IsBorneOut-found c.load_all_into.new.seat c.args.b.now c.load_all_into.ensures.loaded.found made out.1)))

pub returns-in_err-points-clause-refused : goal.returns-in_err-points-clause-refused
returns-in_err-points-clause-refused c =
    let p = err_from_is_err_and c.from_residual-in_err-points.result c.from_residual-in_err-points.ensures.1 in
    let seen = c.load_all_into.ensures.loaded.found in
    let made = contexts-loaded c.contexts.ensures.value c.requires.own c.load_all_into.ensures.loaded in
    let made' = contexts-loaded c.contexts-2.ensures.value c.requires.own c.load_all_into.ensures.loaded in
    rw (p.1, p.2) (inr (c.in_err-points.ensures.memory, (IsBorneOut-seen c.load_all_into.new.seat c.args.a.now seen made c.in_ok-bear_out.ensures.borne_out, IsBorneOut-seen c.load_all_into.new.seat c.args.b.now seen made' c.in_ok-bear_out-2.ensures.borne_out)))

pub invariant_of-result : goal.invariant_of-result
invariant_of-result c = subst HasRisingContexts (sym (c.of.ensures ∙ c.in_ok-points.ensures.merged)) (listing-rising (as_entries (c.as_slice.result.now ++ c.as_slice-2.result.now)) 0 c.load_all_into.new.reach)

pub returns-clause-file : goal.returns-clause-file
returns-clause-file c =
    let reach = c.load_all_into.new.reach in
    let listed : c.of.result ≡ merged reach c.as_slice.result.now c.as_slice-2.result.now = c.of.ensures ∙ c.in_ok-points.ensures.merged in
    let points : c.as_slice.result.now ≡ c.args.a.now.points = c.as_slice.ensures ∙ ap (λ (f : File). f.points) c.a.view_is in
    let points' : c.as_slice-2.result.now ≡ c.args.b.now.points = c.as_slice-2.ensures ∙ ap (λ (f : File). f.points) c.b.view_is in
    ap (file_of c.args.name c.of.result) c.in_ok-of.ensures.floor
    ∙ ap (λ ps. file_of c.args.name ps reach) (listed ∙ ap (λ ps. merged reach ps c.as_slice-2.result.now) points ∙ ap (merged reach c.args.a.now.points) points')
    ∙ ap (λ r. file_of c.args.name (merged r c.args.a.now.points c.args.b.now.points) r) c.load_all_into.ensures.loaded.found

pub returns-clause-borne_out : goal.returns-clause-borne_out
returns-clause-borne_out c =
    let seen = c.load_all_into.ensures.loaded.found in
    let made = contexts-loaded c.contexts.ensures.value c.requires.own c.load_all_into.ensures.loaded in
    let made' = contexts-loaded c.contexts-2.ensures.value c.requires.own c.load_all_into.ensures.loaded in
    (IsBorneOut-seen c.load_all_into.new.seat c.args.a.now seen made c.in_ok-bear_out.ensures.borne_out, IsBorneOut-seen c.load_all_into.new.seat c.args.b.now seen made' c.in_ok-bear_out-2.ensures.borne_out)

pub returns-clause-union : goal.returns-clause-union
returns-clause-union c =
    let reach = c.load_all_into.new.reach in
    let listed : c.of.result ≡ merged reach c.as_slice.result.now c.as_slice-2.result.now = c.of.ensures ∙ c.in_ok-points.ensures.merged in
    let points : c.as_slice.result.now ≡ c.args.a.now.points = c.as_slice.ensures ∙ ap (λ (f : File). f.points) c.a.view_is in
    let points' : c.as_slice-2.result.now ≡ c.args.b.now.points = c.as_slice-2.ensures ∙ ap (λ (f : File). f.points) c.b.view_is in
    let lists : c.of.result ≡ merged reach c.args.a.now.points c.args.b.now.points = listed ∙ ap (λ ps. merged reach ps c.as_slice-2.result.now) points ∙ ap (merged reach c.args.a.now.points) points' in
    let within = subst (λ ps. HasContexts (as_entries ps)) points c.in_ok-points.ensures.contexts.0 in
    let within' = subst (λ ps. HasContexts (as_entries ps)) points' c.in_ok-points.ensures.contexts.1 in
    λ one other stands stands'.
    subst (λ floor. AgreesAbove floor (as_entries c.of.result) (one ++ other)) (sym c.in_ok-of.ensures.floor)
    (subst (λ ps. AgreesAbove reach (as_entries ps) (one ++ other)) (sym lists)
    (StandsFor-merged reach c.args.a.now c.args.b.now within within' c.in_ok-bear_out.ensures.borne_out.floor c.in_ok-bear_out-2.ensures.borne_out.floor one other stands stands'))

pub returns-clause-loaded : goal.returns-clause-loaded
returns-clause-loaded c = HasLoadedAll-seen c.load_all_into.ensures.loaded

pub returns-clause-kept : goal.returns-clause-kept
returns-clause-kept c = kept-loaded c.load_all_into.ensures.loaded
