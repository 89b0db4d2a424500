-- `take` moves the box out by its parts, and the pointer becomes null.
use mathlib.Core.Path.{◌≡◌, refl}
use mathlib.Core.Bool.{true}
use mathlib.Core.List.{List, [], ◌∷◌, ◌++◌}
use lib.Dec.{lit<}
use seplogic.Ra.Ura.{Ura}
use mir.Syntax.{Fn, named}
use mir.MapTy.{inst_fn}
use mir.Raw.{raw as bare}
use mir.Val.{Val, vptr, vnull, vstruct, vcons, vnil}
use base.Fml.{ftrue, fsep, flft}
use base.Fraction.{full_share}
use base.Logic.{SProp, ent, id⊢}
use contract.BorrowLft.{◌⊑◌}
use contract.Monad.{Fun, fact}
use contract.Running.{tables, tables_of}
use prog.Memory.{Memory}
use prog.Routine.{Routine}
use prog.Wp.{WpFn, Tables}
use types.Logic.{Logic}
use sound.WpLaws.{WpFn-mono}
use types.Kit.{‵, raw, prop, ◌⊛◌, ◌$◌, ◌∵◌, !, qed, move, drop, use1, split, join, fsplit, fsplit3, fjoin, fjoin3, feq_i, feq_l, fpack, rewrite, regoal, suffices, done}
use types.Part.{whole, sub, look_in, store_in, agg}
use types.Run.{stop, fld, load, lit, of_opd, no_more, and_then, assigns, returns, enter}
use types.ByLocal.{alloc_all, pass_all, free_all, look_at, get, through, sets}
use denote.Exit.{yes}
use denote.Memory.{cell_at}
use denote.Param.Laws.{Laws}
use denote.RattleType.{RattleType, Valss}
use denote.RawPtr.{Ptr, RawPtr, block_ptr, null_ptr, ptr_val}
use denote.Ref.{MutRef}
use denote.Signature.{plain}
use denote.Steps.{nothing, opens, closes, heard}
use denote.Struct.Owning.{shape}
use denote.Struct.Struct.{within}
use denote.Triple.Clauses.{Clauses, Ended}
use denote.Triple.Spec.{triple_of}
use denote.Triple.Table.{entered}
use denote.Triple.Walked.{Stays, walk_of, says, stay_ref, stay_dropped, Goes-ref, Goes-dropped, ends_at, walk_Meets}
use Rattle.std.proofs.alloc.Calls.{token, handle_tells}
use Rattle.std_alloc.proofs.BoxSteps.Form.{B, D, P, τ, owning, word, box_typed}
use Rattle.std_alloc.proofs.BoxSteps.Steps.{box_out, box_in}
use Rattle.std_heap.specs.contracts.Global as Heap
use Rattle.c_handle.proofs.AsBox.{E, H', P', args, boxed, at_block}
use Rattle.c_handle.specs.Lending.{is_open}
use Rattle.c_handle.specs.contracts.handle.Handle.take as F
use Rattle.c_handle.specs.contracts.handle.Handle.take.Key.{name as #self}
use Rattle.c_handle.proofs.handle.Handle.take.Statement as stated
use Rattle.c_handle.proofs.handle.Handle.take.Code as code

module _ (X : RattleType) (LX : Laws X) where
  abbrev fn' : Fn
  fn' = inst_fn (args X) code.function

  abbrev ended : Ended
  ended = F.ended X

  abbrev S : RattleType
  S = H' X LX

  abbrev stayed : Stays ended.signature.params ended.kept
  stayed = (stay_ref (0 ∷ []) tt (plain (λ _. S)), (stay_dropped (plain (λ _. Heap.the_row)) yes, tt))

  module _ {M : Type 1} {𝓤 : Ura M} (𝓛 : Logic 𝓤) (at_mem : Memory → SProp 𝓤) (run : Routine → Fun 𝓤) (𝓣 : Tables 𝓤 𝓛.H) where
    open 𝓛 use {H}

    abbrev clauses : Clauses 𝓤 ended
    clauses = F.clauses X 𝓛 at_mem run

    walk : (z : (walk_of 𝓛 ended stayed clauses).Ghost)
        → ent 𝓤 ((walk_of 𝓛 ended stayed clauses).pre z) (WpFn 𝓤 H 𝓣.C 𝓣.Λ fn' (z.0.4.0 ++ (z.0.4.1.0 ++ [])) ((walk_of 𝓛 ended stayed clauses).post z))
    walk z =
        let κs = z.0.0 in let qs = z.0.1 in let a = z.0.3.0 in let al = z.0.3.1.0 in let us0 = z.0.4.0 in let us1 = z.0.4.1.0 in
        let Post = (walk_of 𝓛 ended stayed clauses).post z in
        let rb = a.ref_ptr.0 in let ro = a.ref_ptr.1 in let h = a.now in
        qed 𝓛 (((‵ (flft κs.0 qs.0) ⊛ ‵ (flft κs.1.0 qs.1.0) ⊛ ‵ ftrue) ⊛ ‵ (fsep ((MutRef (named 0) κs.0 S).own_val a us0) (fsep (Heap.the_row.own_val al us1) ftrue))) ∷ (raw (fact 𝓤 (κs.1.0 ⊑ X.lives)) ⊛ raw (fact 𝓤 (is_open h ≡ true))) ∷ []) ∵
        move ! (1 ∷ []) $ split ! $ drop ! $ heard ! (is_open h ≡ true) (λ is.
        split ! $ move ! (1 ∷ []) $ fsplit ! $ move ! (1 ∷ []) $ fsplit ! $ handle_tells (E X LX).al ! al us1 (λ hv1 e1 fa1. move ! (2 ∷ []) $
        fsplit3 ! $ feq_l ! (λ e0.
        -- [obs; the borrow; the allocator; true; the tokens]
        move ! (3 ∷ []) $ drop ! $ move ! (3 ∷ []) $ split ! $ move ! (2 ∷ 3 ∷ 0 ∷ []) $
        regoal ! (λ (us : List Val). prop (WpFn 𝓤 H 𝓣.C 𝓣.Λ fn' (us ++ (us1 ++ [])) Post)) e0 refl $
        regoal ! (λ (us : List Val). prop (WpFn 𝓤 H 𝓣.C 𝓣.Λ fn' (vptr rb ro ∷ (us ++ [])) Post)) e1 refl $
        enter ! 𝓣.C 𝓣.Λ fn' (vptr rb ro ∷ hv1 ∷ []) _ $ alloc_all ! (λ l. pass_all ! refl ((tt, tt), (fa1, tt)) $
        opens ! tt S {h = h} rb ro (λ vs. move ! (1 ∷ []) $ rewrite ! 0 (λ (p : Ptr). ‵ (S.own_val (record { at = p; alloc = h.alloc; held = h.held }) vs)) (at_block h.at is) refl $ use1 𝓛 (‵ ((B (E X LX)).own_val (boxed X LX h) vs)) (id⊢ 𝓤 _) $
        box_out (E X LX) ! (boxed X LX h) vs (λ b o hv at_b ws fa.
        -- [the value; its token; the handle's allocator; the cell; the open borrow, in three entries; the other token; the allocator]
        rewrite ! 3 (λ (us : List Val). ‵ (cell_at full_share S.mir us rb ro)) ws refl $
        sets ! (of_opd ! (load ! (through ! refl (fld ! refl (stop !))) (look_in ! 3 (sub ! 0 refl (whole !))))) refl (tt, tt) $
        assigns ! (of_opd ! (lit ! tt)) (through ! refl (fld ! refl (stop !))) (store_in ! 3 (sub ! 0 refl (whole !)) (tt, record { fits = lit< tt })) $
        sets ! (agg ! (and_then ! (get ! refl) (and_then ! (get ! refl) (no_more !)))) refl (box_typed (E X LX) hv1 b o fa1) $
        let w : Val = vstruct (vcons vnull (vcons hv vnil)) in
        let shut : S.Denot = record { at = null_ptr; alloc = h.alloc; held = h.held } in
        let out : D (E X LX) = record { ptr = block_ptr b o; alloc = al; value = h.held } in
        let made : (P' X LX).Denot = record { ptr = block_ptr b o; alloc = al; value = h.held } in
        move ! (2 ∷ []) $ nothing ! $ nothing ! $ move ! (2 ∷ 0 ∷ []) $ fjoin ! $ feq_i ! (List Val) (vnull ∷ []) (ptr_val null_ptr ∷ []) refl $ fjoin ! $ feq_i ! (List Val) (w ∷ []) (w ∷ []) refl $ fjoin ! $
        fpack ! (Valss (RawPtr ∷ P (E X LX) ∷ [])) (within (shape (owning (E X LX))) (null_ptr, (h.alloc, tt)) (w ∷ [])) (vnull ∷ [], (hv ∷ [], tt)) $ fjoin ! $
        use1 𝓛 (‵ (S.own_val shut (w ∷ []))) (id⊢ 𝓤 _) $
        move ! (3 ∷ 0 ∷ 4 ∷ 5 ∷ 6 ∷ []) $ closes ! tt S shut (w ∷ []) rb ro $ returns ! (look_at ! 0 refl) $ free_all ! refl $
        -- [two parts of self; the token; the value; its token; the other token; the allocator]
        move ! (4 ∷ []) $ use1 𝓛 (‵ (token (E X LX).al al (bare (τ (E X LX))) (block_ptr b o))) (id⊢ 𝓤 _) $ move ! (4 ∷ 0 ∷ 6 ∷ []) $
        box_in (E X LX) ! {hv = hv1} out b o h.held refl refl $ use1 𝓛 (‵ ((P' X LX).own_val made (word (E X LX) hv1 b o ∷ []))) (id⊢ 𝓤 _) $
        suffices ! _ (ends_at 𝓛 ended stayed clauses z (word (E X LX) hv1 b o) made (shut, (tt, tt)) (tt, (tt, tt))) $ says ! (refl, refl) $
        move ! (1 ∷ 2 ∷ []) $ feq_i ! (List Val) us0 (vptr rb ro ∷ []) e0 $ fjoin3 ! $ nothing ! $ nothing ! $ fjoin ! $ move ! (1 ∷ 0 ∷ []) $ fjoin ! $ join ! $
        move ! (1 ∷ 2 ∷ []) $ join ! $ join ! $ done !))))))

pub take_spec : {M : Type 1} → stated.statement M
unfolding tables_of
take_spec 𝓤 𝓛 𝓜 𝓡 wired X LX =
    let 𝓣 : Tables 𝓤 𝓛.H = tables_of 𝓤 𝓛.H 𝓜 (tables 𝓤 𝓛.H 𝓜 𝓡 𝓡.env) in
    let fn = fn' X LX in
    entered 𝓤 𝓛.H (triple_of 𝓛 (ended X LX).signature (F.spec X 𝓛 𝓜.mem 𝓡.returns)) 𝓣.C 𝓣.Λ (#self (args X)) fn (code.unfolded 𝓤 𝓛.H 𝓜 𝓡 wired (X, tt))
    (walk_Meets 𝓛 (ended X LX) (stayed X LX) (Goes-ref 𝓛 2 0 tt (plain (λ _. S X LX)), (Goes-dropped 𝓛 2 (plain (λ _. Heap.the_row)) yes (λ κs x f. refl), tt)) (clauses X LX 𝓛 𝓜.mem 𝓡.returns 𝓣) (WpFn 𝓤 𝓛.H 𝓣.C 𝓣.Λ fn) (WpFn-mono 𝓤 𝓛.H 𝓛.laws 𝓣 fn)
    (walk X LX 𝓛 𝓜.mem 𝓡.returns 𝓣))
