-- `get_mut` lends the value, and the handle follows it: the walk of `Box::as_mut`, at the handle's own fields.
use mathlib.Core.Path.{◌≡◌, refl, sym, ◌∙◌}
use Prim.Native.Nat.{ℕ}
use mathlib.Core.Bool.{true}
use mathlib.Core.List.{List, [], ◌∷◌}
use seplogic.Ra.Ura.{Ura}
use base.Fraction.{full_share}
use mir.Syntax.{Fn, named}
use mir.MapTy.{inst_fn}
use mir.Raw.{raw as bare}
use mir.Val.{Val, vptr}
use base.Logic.{SProp, ent, sep, id⊢}
use base.Fml.{Lft, GName, Share, Fml, ftrue, flft, fsep}
use contract.BorrowLft.{◌⊑◌}
use contract.Lifetimes.{AllOutlive}
use contract.Monad.{Fun, fact}
use contract.Running.{tables, tables_of}
use prog.Memory.{Memory}
use prog.Routine.{Routine}
use prog.Wp.{Env, Calls, Loops, WpFn, Tables}
use types.Logic.{Logic, sem}
use sound.WpLaws.{WpFn-mono}
use types.Kit.{‵, ◌⊛◌, some, at_ret, ◌$◌, ◌∵◌, !, qed, by, move, keep, use1, drop, split, split3, join, pick, rewrite, fsplit, fsplit3, fjoin, suffices, frame, done, raw, later, await, group, fpack}
use types.Part.{whole, sub, look_in}
use types.Run.{stop, hop, fld, of_opd, first, blocks, exec, returns, enter, addr}
use types.ByLocal.{alloc_all, pass_all, free_all, look_at, get, through, sets, env, sets_last}
use denote.RattleType.{RattleType, owns}
use denote.Memory.{part_at, mem, cell_at, part_of}
use denote.Param.Laws.{Laws}
use denote.RawPtr.{Ptr, block_ptr}
use denote.Ref.{MutBor, MutRef, mut_vals, mut_Tells}
use denote.Signature.{plain, mut_ref_to}
use denote.Steps.{nothing, opens, heard}
use denote.Triple.Clauses.{Clauses, Ended, closing}
use denote.Triple.Entry.{on_entry}
use denote.Triple.Spec.{Meets, triple_of}
use denote.Triple.Table.{entered}
use denote.Triple.Walked.{says, Stays, stay_dropped, walk_of, ends_at, walked, walk_Meets, Goes-spent_ref}
use denote.Exit.{no}
use denote.Follow.{follows, Part, lends_Part}
use Rattle.std.proofs.alloc.Calls.{token}
use Rattle.std_alloc.proofs.VecSteps.Shapes.{after}
use Rattle.std_alloc.proofs.BoxSteps.Form.{B, R, τ, word, handle}
use Rattle.std_alloc.proofs.BoxSteps.Steps.{box_out, box_in}
use Rattle.c_handle.proofs.AsBox.{E, H', args, boxed, at_block}
use Rattle.c_handle.specs.Lending.{is_open, with_held}
use Rattle.c_handle.specs.declared.handle.Handle.{Handle}
use Rattle.c_handle.specs.contracts.handle.Handle.get_mut as F
use Rattle.c_handle.specs.contracts.handle.Handle.get_mut.Key.{name as #self}
use Rattle.c_handle.proofs.handle.Handle.get_mut.Statement as stated
use Rattle.c_handle.proofs.handle.Handle.get_mut.Code as code

module _ (X : RattleType) (LX : Laws X) where
  abbrev fn' : Fn
  fn' = inst_fn (args X) code.function

  abbrev ended : Ended
  ended = F.ended X

  -- the handle, and its value
  abbrev S : RattleType
  S = H' X LX

  abbrev V : RattleType
  V = R (E X LX)

  abbrev stayed : Stays ended.signature.params ended.kept
  stayed = (stay_dropped (mut_ref_to (0 ∷ []) tt (plain (λ _. S))) no, tt)

module _ (X : RattleType) (LX : Laws X) {M : Type 1} {𝓤 : Ura M} (𝓛 : Logic 𝓤) (at_mem : Memory → SProp 𝓤) (run : Routine → Fun 𝓤) where
  open 𝓛 use {H, A}

  abbrev clauses : Clauses 𝓤 (ended X LX)
  clauses = F.clauses X 𝓛 at_mem run

  module _ (κ κT : Lft) (q qT : Share) (bd : AllOutlive 2 (ended X LX).signature.outlives (κ, (κT, tt))) (rb ro : ℕ) (γ : GName) (h : Handle X.Denot) where
    abbrev self : MutBor (Handle X.Denot)
    self = record { ref_ptr = (rb, ro); ghost_name = γ; now = h }

    abbrev bound : (walk_of 𝓛 (ended X LX) (stayed X LX) clauses).Ghost
    bound = (((κ, (κT, tt)), (q, (qT, tt)), bd, (self, tt), (mut_vals self, tt)), tt)

    abbrev Post : Val → SProp 𝓤
    Post = (walk_of 𝓛 (ended X LX) (stayed X LX) clauses).post bound

    module _ (b o : ℕ) (hv : Val) where
      -- all of the handle but its value
      abbrev Rest : Fml
      Rest = fsep (fsep (token (E X LX).al h.alloc (bare (τ (E X LX))) (block_ptr b o)) (handle (E X LX) h.alloc hv)) (cell_at full_share (S X LX).mir (word (E X LX) hv b o ∷ []) rb ro)

      back : h.at ≡ block_ptr b o → (w : X.Denot) → ent 𝓤 (sep 𝓤 (sem 𝓛 ((mem (V X LX)).own_at w b o)) (sem 𝓛 Rest)) (sem 𝓛 ((mem (S X LX)).own_at (with_held h w) rb ro))
      unfolding part_of
      back at_b w =
          qed 𝓛 (‵ (part_at (V X LX) full_share w b o) ∷ ‵ Rest ∷ []) ∵ move ! (1 ∷ []) $ fsplit ! $ fsplit ! $ move ! (3 ∷ []) $
          box_in (E X LX) ! (record { ptr = block_ptr b o; alloc = h.alloc; value = w }) b o w refl refl $ use1 𝓛 (‵ ((S X LX).own_val (record { at = block_ptr b o; alloc = h.alloc; held = w }) (word (E X LX) hv b o ∷ []))) (id⊢ 𝓤 _) $
          rewrite ! 0 (λ (p : Ptr). ‵ ((S X LX).own_val (record { at = p; alloc = h.alloc; held = w }) (word (E X LX) hv b o ∷ []))) (sym at_b) refl $ move ! (1 ∷ 0 ∷ []) $ fjoin ! $
          fpack ! (List Val) (λ us. fsep (cell_at full_share (S X LX).mir us rb ro) ((S X LX).own_val (with_held h w) us)) (word (E X LX) hv b o ∷ []) $ done !

      exits : (γ' : GName)
          → ent 𝓤 (sep 𝓤 (sep 𝓤 (sem 𝓛 ((MutRef (named 0) κ (V X LX)).own_val (record { ref_ptr = (b, o); ghost_name = γ'; now = h.held }) (vptr b o ∷ []))) (sep 𝓤 (A.lft κ q) (sem 𝓛 (follows (S X LX) (V X LX) γ γ' (with_held h))))) (sep 𝓤 (A.lft κT qT) (sem 𝓛 ftrue))) (Post (vptr b o))
      exits γ' =
          qed 𝓛 ((‵ ((MutRef (named 0) κ (V X LX)).own_val (record { ref_ptr = (b, o); ghost_name = γ'; now = h.held }) (vptr b o ∷ [])) ⊛ ‵ (flft κ q) ⊛ ‵ (follows (S X LX) (V X LX) γ γ' (with_held h))) ∷ (‵ (flft κT qT) ⊛ ‵ ftrue) ∷ []) ∵ split3 ! $
          suffices ! _ (ends_at 𝓛 (ended X LX) (stayed X LX) clauses bound (vptr b o) (record { ref_ptr = (b, o); ghost_name = γ'; now = h.held }) (tt, tt) (tt, tt)) $
          nothing ! $ nothing ! $ fjoin ! $ join ! $ move ! (1 ∷ 3 ∷ []) $ join ! $ join ! $ frame ! $ says ! refl $ done !

    module _ (C : Calls 𝓤 H) (Λ : Loops 𝓤 H) where
      walk : is_open h ≡ true → ent 𝓤 (on_entry 𝓛 (ended X LX).signature (κ, (κT, tt)) (q, (qT, tt)) (self, tt) (mut_vals self, tt)) (WpFn 𝓤 H C Λ (fn' X LX) (vptr rb ro ∷ []) Post)
      walk is =
          qed 𝓛 ((‵ (flft κ q) ⊛ ‵ (flft κT qT) ⊛ ‵ ftrue) ∷ ‵ (owns (MutRef (named 0) κ (S X LX) ∷ []) (self, tt) (mut_vals self, tt)) ∷ []) ∵
          enter ! C Λ (fn' X LX) (vptr rb ro ∷ []) _ $
          alloc_all ! (λ l. pass_all ! refl ((tt, tt), tt) $
          let En : Env 𝓤 H = env (fn' X LX).locals l in
          move ! (1 ∷ []) $ fsplit ! $ fsplit3 ! $ drop ! $ move ! (3 ∷ []) $ split ! $ move ! (2 ∷ 3 ∷ 0 ∷ []) $
          opens ! tt (S X LX) {h = h} rb ro (λ vs. move ! (1 ∷ []) $ rewrite ! 0 (λ (p : Ptr). ‵ ((S X LX).own_val (record { at = p; alloc = h.alloc; held = h.held }) vs)) (at_block h.at is) refl $ use1 𝓛 (‵ ((B (E X LX)).own_val (boxed X LX h) vs)) (id⊢ 𝓤 _) $
          box_out (E X LX) ! (boxed X LX h) vs (λ b o hv at_b ws fa. move ! (1 ∷ 2 ∷ []) $ fjoin ! $ move ! (1 ∷ []) $
          rewrite ! 2 (λ (us : List Val). ‵ (cell_at full_share (S X LX).mir us rb ro)) ws refl $
          first ! $ blocks ! $
          sets_last ! (addr ! (through ! refl (fld ! refl (hop ! (look_in ! 2 (sub ! 0 refl (whole !))) (stop !))))) refl (tt, tt) $
          exec ! C Λ En (after 1 (fn' X LX).body) (at_ret En Post) $
          sets ! (of_opd ! (get ! refl)) refl (tt, tt) $
          move ! (1 ∷ 2 ∷ []) $ fjoin ! $ move ! (2 ∷ 3 ∷ 4 ∷ 1 ∷ 0 ∷ []) $ group ! 5 $
          use1 𝓛 (later (some (λ (γ' : GName). raw (Part 𝓛 (S X LX) (V X LX) (with_held h) (named 0) κ q rb ro b o γ (sem 𝓛 (Rest b o hv)) (back b o hv (at_block h.at is ∙ at_b)) h.held γ'))))
          (lends_Part 𝓛 (S X LX) (V X LX) (with_held h) (named 0) κ q rb ro b o γ (sem 𝓛 (Rest b o hv)) (back b o hv (at_block h.at is ∙ at_b)) ((S X LX).coded.code h) ((S X LX).coded.code h) h.held) $ await ! tt $ pick ! (λ γ'.
          returns ! (look_at ! 0 refl) $ free_all ! refl $
          keep ! (0 ∷ 1 ∷ []) $ by ! (exits b o hv γ')))))

  meets : (𝓣 : Tables 𝓤 H) → Meets 𝓛 (ended X LX).signature (WpFn 𝓤 H 𝓣.C 𝓣.Λ (fn' X LX)) (closing 𝓛 (ended X LX) clauses)
  meets 𝓣 =
      walk_Meets 𝓛 (ended X LX) (stayed X LX) (Goes-spent_ref 𝓛 2 (0 ∷ []) tt (plain (λ _. S X LX)), tt) clauses (WpFn 𝓤 H 𝓣.C 𝓣.Λ (fn' X LX)) (WpFn-mono 𝓤 H 𝓛.laws 𝓣 (fn' X LX))
      (walked 𝓛 (ended X LX) (stayed X LX) clauses (WpFn 𝓤 H 𝓣.C 𝓣.Λ (fn' X LX)) (λ κs. (mut_vals, tt)) (λ κs. (mut_Tells (named 0) κs.0 (S X LX), tt))
      (λ κs qs bounds a g are.
      qed 𝓛 (raw (on_entry 𝓛 (ended X LX).signature κs qs a (mut_vals a.0, tt)) ∷ (raw (fact 𝓤 (κs.1.0 ⊑ X.lives)) ⊛ raw (fact 𝓤 (is_open a.0.now ≡ true))) ∷ []) ∵
      move ! (1 ∷ []) $ split ! $ drop ! $ heard ! (is_open a.0.now ≡ true) (λ is.
      by ! (walk κs.0 κs.1.0 qs.0 qs.1.0 bounds a.0.ref_ptr.0 a.0.ref_ptr.1 a.0.ghost_name a.0.now 𝓣.C 𝓣.Λ is))))

pub get_mut_spec : {M : Type 1} → stated.statement M
unfolding tables_of
get_mut_spec 𝓤 𝓛 𝓜 𝓡 wired X LX =
    let A = 𝓛.A in
    let 𝓣 : Tables 𝓤 𝓛.H = tables_of 𝓤 𝓛.H 𝓜 (tables 𝓤 𝓛.H 𝓜 𝓡 𝓡.env) in
    entered 𝓤 𝓛.H (triple_of 𝓛 (ended X LX).signature (F.spec X 𝓛 𝓜.mem 𝓡.returns)) 𝓣.C 𝓣.Λ (#self (args X)) (fn' X LX) (code.unfolded 𝓤 𝓛.H 𝓜 𝓡 wired (X, tt))
    (meets X LX 𝓛 𝓜.mem 𝓡.returns 𝓣)
