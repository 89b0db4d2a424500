-- `is_open` compares the pointer with null, and leaves the handle as it was.
use mathlib.Core.Path.{sym, refl}
use mathlib.Core.Bool.{Bool, not}
use mathlib.Core.List.{List, [], ◌∷◌}
use mir.Syntax.{Fn, named}
use mir.MapTy.{inst_fn}
use mir.Val.{Val, vbool}
use base.Fml.{ftrue, flft}
use base.Fraction.{full_share}
use contract.BorrowLft.{◌⊑◌}
use contract.Monad.{fact}
use types.Kit.{‵, raw, ◌⊛◌, given, ◌$◌, ◌∵◌, !, qed, move, keep, use1, split, join, fsplit, fsplit3, fjoin, feq_i, rewrite, suffices, frame, group, learn, done}
use types.Part.{whole, sub, look_in}
use types.Run.{stop, fld, load, bin, un, lit, of_opd, returns, enter}
use types.ByLocal.{alloc_all, pass_all, free_all, look_at, get, through, is, sets}
use denote.Laws.{shows}
use denote.Memory.{cell_at}
use denote.Param.Laws.{Laws, param_laws}
use denote.RattleType.{RattleType}
use denote.Ref.{MutRef, mut_vals, mut_Tells}
use denote.RawPtr.{Testable, tests_null}
use denote.Signature.{plain}
use denote.Steps.{nothing, opens, closes, peeks}
use denote.Triple.Clauses.{Ended}
use denote.Triple.Walked.{Stays, walk_of, says, stay_ref, Goes-ref, ends_at}
use Rattle.std.proofs.raw_atomic.Walks.{proved}
use Rattle.std_alloc.proofs.BoxSteps.Form.{R as V}
use Rattle.c_handle.specs.Owning.{handle_owns}
use Rattle.c_handle.proofs.AsBox.{E, H', args, typed, answer, tested}
use Rattle.c_handle.proofs.handle.Handle.TheLaws.{lowers}
use Rattle.c_handle.specs.contracts.handle.Handle.is_open as f
use Rattle.c_handle.proofs.handle.Handle.is_open.Statement.{statement}
use Rattle.c_handle.proofs.handle.Handle.is_open.Code as code

module _ (X : RattleType) (LX : Laws X) where
  abbrev fn' : Fn
  fn' = inst_fn (args X) code.function

  abbrev ended : Ended
  ended = f.ended X

  abbrev S : RattleType
  S = H' X LX

  abbrev stayed : Stays ended.signature.params ended.kept
  stayed = (stay_ref (0 ∷ []) tt (plain (λ _. S)), tt)

pub is_open_spec : {M : Type 1} → statement M
is_open_spec 𝓤 𝓛 𝓜 𝓡 wired X LX =
    let R = S X LX in
    let c = f.clauses X 𝓛 𝓜.mem 𝓡.returns in let W = walk_of 𝓛 (ended X LX) (stayed X LX) c in
    proved 𝓛 (ended X LX) (stayed X LX) c 𝓜 𝓡 (Goes-ref 𝓛 2 0 tt (plain (λ _. R)), tt)
    (f.Key.name (args X)) (fn' X LX) (code.unfolded 𝓤 𝓛.H 𝓜 𝓡 wired (X, tt))
    (λ κs. (mut_vals, tt)) (λ κs. (mut_Tells (named 0) κs.0 R, tt)) (λ κs qs bounds a _ are.
    let b = a.0.ref_ptr.0 in let o = a.0.ref_ptr.1 in let h = a.0.now in let vs = mut_vals a.0 in
    let y : W.Ghost = ((κs, qs, bounds, a, (vs, tt)), tt) in
    let open_is : Bool = not (answer h.at).0 in
    qed 𝓛 (((‵ (flft κs.0 qs.0) ⊛ ‵ (flft κs.1.0 qs.1.0) ⊛ ‵ ftrue) ⊛ ‵ ((MutRef (named 0) κs.0 R).own_val a.0 vs) ⊛ ‵ ftrue) ∷ (raw (fact 𝓤 (κs.1.0 ⊑ X.lives)) ⊛ ‵ ftrue) ∷ []) ∵
    split ! $ split ! $ move ! (2 ∷ []) $ split ! $ keep ! (0 ∷ 2 ∷ 3 ∷ []) $
    enter ! _ _ _ _ _ $ alloc_all ! (λ l. pass_all ! refl ((tt, tt), tt) $
    fsplit3 ! $ move ! (1 ∷ 2 ∷ 3 ∷ []) $ opens ! tt R b o (λ us.
    move ! (1 ∷ []) $ peeks ! R _ (shows 𝓛 R) h us (λ shown. fsplit ! $ move ! (1 ∷ []) $
    use1 𝓛 (given (Testable h.at) (‵ (handle_owns (V (E X LX)) h.alloc h.at h.held))) (tested 𝓛 (V (E X LX)) h.alloc h.held h.at) $ learn ! (λ may.
    let word = (lowers _ (param_laws 0 X LX)).val_is h us shown in
    let Cell = λ (ws : List Val). ‵ (cell_at full_share R.mir ws b o) in
    rewrite ! 2 Cell word refl $
    -- [what the handle owns; what its fields own; its cell; the open borrow, in three entries; the other token]
    sets ! (of_opd ! (load ! (through ! refl (fld ! refl (stop !))) (look_in ! 2 (sub ! 0 refl (whole !))))) refl (typed h.at) $
    sets ! (is ! (bin ! (get ! refl) (lit ! tt) (tests_null h.at may)) (answer h.at).1) refl (tt, tt) $
    sets ! (un ! (get ! refl) tt) refl (tt, tt) $
    rewrite ! 2 Cell (sym word) refl $
    move ! (1 ∷ []) $ fjoin ! $ move ! (1 ∷ []) $ closes ! tt R h us b o $
    -- [two parts of self; the token; self's first part; the other token]
    returns ! (look_at ! 0 refl) $ free_all ! refl $ move ! (3 ∷ []) $
    suffices ! _ (ends_at 𝓛 (ended X LX) (stayed X LX) c y (vbool open_is) open_is (h, tt) (tt, tt)) $ says ! ((answer h.at).2, refl) $
    group ! 3 $ nothing ! $ move ! (1 ∷ 0 ∷ []) $ join ! $ move ! (1 ∷ 2 ∷ []) $ join ! $ frame ! $ frame ! $
    feq_i ! _ (vbool open_is ∷ []) _ refl $ done !)))))
