-- A handle that C knows, lent as a `Handle`: `&mut *(self as *mut S).cast::<Handle<T>>()`, at two types with the same
-- fields, which own the same.
use mathlib.Core.Path.{◌≡◌, refl, sym}
use Prim.Native.Nat.{ℕ}
use mathlib.Core.List.{List, [], ◌∷◌}
use seplogic.Ra.Ura.{Ura}
use base.Fraction.{full_share}
use mir.Syntax.{Fn, Ty, named, erased, mut, ty_ptr, ty_ref, local, value_local, place, deref, copy, rv_opd, addr_of, seq, assign, block, return}
use mir.Val.{Val, vptr}
use base.Logic.{SProp, ent, sep, emp, via, fst∗}
use base.Fml.{Lft, GName, Share, Fml, ftrue, flft, fsep}
use contract.Monad.{fact}
use prog.Wp.{Env, Calls, Loops, WpFn, Tables}
use types.Logic.{Logic, sem}
use sound.WpLaws.{WpFn-mono}
use types.Kit.{‵, ◌⊛◌, some, at_ret, ◌$◌, ◌∵◌, !, qed, by, move, keep, use1, drop, split, join, pick, rewrite, fsplit, fsplit3, fjoin, fpick, fpack, suffices, frame, done, raw, later, await, group}
use types.Run.{stop, of_opd, first, blocks, exec, returns, enter, addr}
use types.ByLocal.{alloc_all, pass_all, free_all, look_at, get, through, sets, env, sets_last}
use denote.Builtin.{One, RefMutOf}
use denote.Exit.{no}
use denote.Follow.{follows, Part, lends_Part}
use denote.Memory.{cell_raw, part_at, part_of, mem, raw_all}
use denote.RattleType.{RattleType, owns}
use denote.Ref.{MutBor, MutRef, mut_vals, mut_Tells}
use denote.Signature.{plain, mut_ref_to}
use denote.Steps.{nothing, opens}
use denote.Triple.Clauses.{Clauses, Ended, closing}
use denote.Triple.Entry.{on_entry}
use denote.Triple.Spec.{Meets}
use denote.Triple.Walked.{says, Stays, stay_dropped, walk_of, ends_at, walked, walk_Meets, Goes-spent_ref}
use Rattle.std_alloc.proofs.VecSteps.Shapes.{after}

-- the code, where A is the result's type and B the parameter's
abbrev pub code : Ty → Ty → Fn
code A B = record {
  lifetimes = 1;
  outlives = [];
  ty_params = [];
  givens = 0;
  params = 1;
  locals = local (ty_ref (named 0) mut A) value_local ∷ local (ty_ref (named 0) mut B) value_local ∷ local (ty_ref erased mut A) value_local ∷ local ty_ptr value_local ∷ [];
  body = seq (block (seq (assign (place 3 []) (addr_of (place 1 (deref B ∷ [])))) (assign (place 2 []) (addr_of (place 3 (deref A ∷ []))))))
      (seq (assign (place 0 []) (rv_opd (copy (place 2 [])))) return);
}

-- both types, and the proof that they differ only in their names
pub record Two : Type 2 where
  pub S : RattleType
  pub T : RattleType
  pub there : S.Denot → T.Denot
  pub back : T.Denot → S.Denot
  pub one_S : One S.mir
  pub one_T : One T.mir
  pub layout : raw_all S.mir ≡ raw_all T.mir
  pub owned : (h : S.Denot) (vs : List Val) → S.own_val h vs ≡ T.own_val (there h) vs
  pub given_back : (w : T.Denot) (vs : List Val) → T.own_val w vs ≡ S.own_val (back w) vs

module _ (E : Two) where
  open E use {S, T, there, back, one_S, one_T}

  abbrev pub ended : Ended
  ended = record { signature = record { lifetimes = 1; outlives = []; params = RefMutOf (0 ∷ []) tt (plain (λ _. S)) (λ _. one_S) ∷ []; result = RefMutOf (0 ∷ []) tt (plain (λ _. T)) (λ _. one_T) }; kept = (no, tt) }

  abbrev stayed : Stays ended.signature.params ended.kept
  stayed = (stay_dropped (mut_ref_to (0 ∷ []) tt (plain (λ _. S))) no, tt)

  abbrev pub spec : {M : Type 1} {𝓤 : Ura M} (𝓛 : Logic 𝓤) → Clauses 𝓤 ended
  spec {𝓤 = 𝓤} 𝓛 κs a = record { ghost = Unit {0}; requires = λ _. emp 𝓤; ensures = λ _ r _. sep 𝓤 (sem 𝓛 (follows S T a.0.ghost_name r.ghost_name back)) (fact 𝓤 (r.now ≡ there a.0.now)) }

module _ (E : Two) {M : Type 1} {𝓤 : Ura M} (𝓛 : Logic 𝓤) (b o : ℕ) where
  open E use {S, T, there, back, layout, owned, given_back}

  turned : (h : S.Denot) (vs : List Val) → ent 𝓤 (sem 𝓛 (fsep (cell_raw full_share (raw_all S.mir) vs b o) (S.own_val h vs))) (sem 𝓛 (part_at T full_share (there h) b o))
  unfolding part_of
  turned h vs =
      qed 𝓛 (‵ (fsep (cell_raw full_share (raw_all S.mir) vs b o) (S.own_val h vs)) ∷ []) ∵
      rewrite ! 0 (λ (ρs : List Ty). ‵ (fsep (cell_raw full_share ρs vs b o) (S.own_val h vs))) layout refl $
      rewrite ! 0 (λ (F : Fml). ‵ (fsep (cell_raw full_share (raw_all T.mir) vs b o) F)) (owned h vs) refl $
      fpack ! (List Val) (λ us. fsep (cell_raw full_share (raw_all T.mir) us b o) (T.own_val (there h) us)) vs $ done !

  turned_back : (w : T.Denot) → ent 𝓤 (sep 𝓤 (sem 𝓛 ((mem T).own_at w b o)) (sem 𝓛 ftrue)) (sem 𝓛 ((mem S).own_at (back w) b o))
  unfolding part_of
  turned_back w =
      qed 𝓛 (‵ (part_at T full_share w b o) ∷ ‵ ftrue ∷ []) ∵ move ! (1 ∷ []) $ drop ! $ fpick ! (λ (vs : List Val).
      rewrite ! 0 (λ (ρs : List Ty). ‵ (fsep (cell_raw full_share ρs vs b o) (T.own_val w vs))) (sym layout) refl $
      rewrite ! 0 (λ (F : Fml). ‵ (fsep (cell_raw full_share (raw_all S.mir) vs b o) F)) (given_back w vs) refl $
      fpack ! (List Val) (λ us. fsep (cell_raw full_share (raw_all S.mir) us b o) (S.own_val (back w) us)) vs $ done !)

module _ (E : Two) (A B : Ty) {M : Type 1} {𝓤 : Ura M} (𝓛 : Logic 𝓤) (κ : Lft) (q : Share) (rb ro : ℕ) (γ : GName) (h : E.S.Denot) where
  open 𝓛 use {H, A as 𝓐}
  open E use {S, T, there, back}

  abbrev self : MutBor S.Denot
  self = record { ref_ptr = (rb, ro); ghost_name = γ; now = h }

  abbrev lent : GName → MutBor T.Denot
  lent γ' = record { ref_ptr = (rb, ro); ghost_name = γ'; now = there h }

  abbrev bound : (walk_of 𝓛 (ended E) (stayed E) (spec E 𝓛)).Ghost
  bound = (((κ, tt), (q, tt), tt, (self, tt), (mut_vals self, tt)), tt)

  abbrev Post : Val → SProp 𝓤
  Post = (walk_of 𝓛 (ended E) (stayed E) (spec E 𝓛)).post bound

  exits : (γ' : GName) → ent 𝓤 (sep 𝓤 (sem 𝓛 ((MutRef (named 0) κ T).own_val (lent γ') (vptr rb ro ∷ []))) (sep 𝓤 (𝓐.lft κ q) (sem 𝓛 (follows S T γ γ' back)))) (Post (vptr rb ro))
  exits γ' =
      qed 𝓛 (‵ ((MutRef (named 0) κ T).own_val (lent γ') (vptr rb ro ∷ [])) ∷ ‵ (flft κ q) ∷ ‵ (follows S T γ γ' back) ∷ []) ∵
      suffices ! _ (ends_at 𝓛 (ended E) (stayed E) (spec E 𝓛) bound (vptr rb ro) (lent γ') (tt, tt) (tt, tt)) $
      nothing ! $ nothing ! $ fjoin ! $ join ! $ nothing ! $ move ! (2 ∷ 0 ∷ []) $ join ! $ join ! $ frame ! $ says ! refl $ done !

  walk : (C : Calls 𝓤 H) (Λ : Loops 𝓤 H) → ent 𝓤 (on_entry 𝓛 (ended E).signature (κ, tt) (q, tt) (self, tt) (mut_vals self, tt)) (WpFn 𝓤 H C Λ (code A B) (vptr rb ro ∷ []) Post)
  walk C Λ =
      qed 𝓛 ((‵ (flft κ q) ⊛ ‵ ftrue) ∷ ‵ (owns (MutRef (named 0) κ S ∷ []) (self, tt) (mut_vals self, tt)) ∷ []) ∵
      enter ! C Λ (code A B) (vptr rb ro ∷ []) _ $
      alloc_all ! (λ l. pass_all ! refl ((tt, tt), tt) $
      let En : Env 𝓤 H = env (code A B).locals l in
      move ! (1 ∷ []) $ fsplit ! $ fsplit3 ! $ drop ! $ move ! (3 ∷ []) $ split ! $ move ! (2 ∷ 3 ∷ 0 ∷ []) $
      opens ! tt S {h = h} rb ro (λ vs.
      first ! $ blocks ! $
      sets ! (addr ! (through ! refl (stop !))) refl (tt, tt) $
      sets_last ! (addr ! (through ! refl (stop !))) refl (tt, tt) $
      exec ! C Λ En (after 1 (code A B).body) (at_ret En Post) $
      sets ! (of_opd ! (get ! refl)) refl (tt, tt) $
      fjoin ! $ use1 𝓛 (‵ (part_at T full_share (there h) rb ro)) (turned E 𝓛 rb ro h vs) $ nothing ! $ move ! (2 ∷ 3 ∷ 4 ∷ 1 ∷ 0 ∷ []) $ group ! 5 $
      use1 𝓛 (later (some (λ (γ' : GName). raw (Part 𝓛 S T back (named 0) κ q rb ro rb ro γ (sem 𝓛 ftrue) (turned_back E 𝓛 rb ro) (there h) γ'))))
      (lends_Part 𝓛 S T back (named 0) κ q rb ro rb ro γ (sem 𝓛 ftrue) (turned_back E 𝓛 rb ro) (S.coded.code h) (S.coded.code h) (there h)) $ await ! tt $ pick ! (λ γ'.
      returns ! (look_at ! 0 refl) $ free_all ! refl $
      keep ! (0 ∷ []) $ by ! (exits γ'))))

pub meets : (E : Two) (A B : Ty) {M : Type 1} {𝓤 : Ura M} (𝓛 : Logic 𝓤) (𝓣 : Tables 𝓤 𝓛.H) → Meets 𝓛 (ended E).signature (WpFn 𝓤 𝓛.H 𝓣.C 𝓣.Λ (code A B)) (closing 𝓛 (ended E) (spec E 𝓛))
meets E A B {𝓤 = 𝓤} 𝓛 𝓣 =
    walk_Meets 𝓛 (ended E) (stayed E) (Goes-spent_ref 𝓛 1 (0 ∷ []) tt (plain (λ _. E.S)), tt) (spec E 𝓛) (WpFn 𝓤 𝓛.H 𝓣.C 𝓣.Λ (code A B)) (WpFn-mono 𝓤 𝓛.H 𝓛.laws 𝓣 (code A B))
    (walked 𝓛 (ended E) (stayed E) (spec E 𝓛) (WpFn 𝓤 𝓛.H 𝓣.C 𝓣.Λ (code A B)) (λ κs. (mut_vals, tt)) (λ κs. (mut_Tells (named 0) κs.0 E.S, tt))
    (λ κs qs bounds a g are. via 𝓤 _ (fst∗ 𝓤 _ (emp 𝓤)) (walk E A B 𝓛 κs.0 qs.0 a.0.ref_ptr.0 a.0.ref_ptr.1 a.0.ghost_name a.0.now 𝓣.C 𝓣.Λ)))
