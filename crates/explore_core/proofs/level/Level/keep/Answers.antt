use Rattle.std.proofs.Common.{◌≤◌, List, ◌++◌, ◌∷◌, [], All, length, length-append, refl, sym, ap, ◌∙◌, subst, arith}
use Rattle.explore_core.specs.declared.state.State.{State}
use Rattle.explore_core.specs.Search.{HasSame, Keeps, Fits, LevelState, Seen, look_of, seen_in}
use Rattle.explore_core.proofs.Parting.{Keeps-found, Keeps-pushed, even-pushed, fit-pushed, fit-grown, seen-grown}
use Rattle.explore_core.proofs.level.Level.keep.Goals as goal

pub returns-in_default-clause-unchanged : goal.returns-in_default-clause-unchanged
returns-in_default-clause-unchanged c =
    ap (λ (ss : List Seen). record { seen = ss; room = c.self.inside.room })
    (seen-grown c.look_at.ensures.grown c.self.inside.states.items c.self.inside.places.items c.self.invariant.1) ∙ c.self.view_is

pub invariant_of-self-then-has : goal.invariant_of-self-then-has
invariant_of-self-then-has c = (c.self.invariant.0, fit-grown c.look_at.ensures.grown c.self.inside.places.items c.self.invariant.1, c.self.invariant.2)

pub returns-then-has-clause-keeps : goal.returns-then-has-clause-keeps
returns-then-has-clause-keeps c =
    let states = c.self.inside.states.items in
    let all = c.self.inside.places.items in
    let found = c.has.ensures c.if-has.true in
    let same = subst (λ ss. HasSame ss all c.args.state c.in-Ok.places) c.as_slice-states.ensures.value
    (subst (λ ps. HasSame c.as_slice-states.result.now ps c.args.state c.in-Ok.places) c.as_slice-all.ensures.value found) in
    let look = look_of c.look_at.new.self c.in-Ok.places in
    let seen : Seen = record { state = c.args.state; look = look } in (
      look,
      c.in-Ok.ensures.shows,
      subst (λ old. Keeps old seen (seen_in c.look_at.new.self states all)) (ap (λ (l : LevelState). l.seen) c.self.view_is)
          (Keeps-found c.look_at.ensures.grown states all c.self.invariant.1 c.args.state c.in-Ok.places look refl same),
    )

pub invariant_of-self-then-len-self : goal.invariant_of-self-then-len-self
invariant_of-self-then-len-self c = (c.self.invariant.0, fit-grown c.look_at.ensures.grown c.self.inside.places.items c.self.invariant.1, c.self.invariant.2)

pub returns-then-len-self-clause-unchanged : goal.returns-then-len-self-clause-unchanged
returns-then-len-self-clause-unchanged c =
    ap (λ (ss : List Seen). record { seen = ss; room = c.self.inside.room })
    (seen-grown c.look_at.ensures.grown c.self.inside.states.items c.self.inside.places.items c.self.invariant.1) ∙ c.self.view_is

pub invariant_of-self-in_default-reserve : goal.invariant_of-self-in_default-reserve
invariant_of-self-in_default-reserve c =
    let fits = fit-grown c.look_at.ensures.grown c.self.inside.places.items c.self.invariant.1 in (
      ap length c.reserve.ensures.places ∙ c.self.invariant.0 ∙ sym (ap length c.reserve.ensures.states),
      subst (All (Fits c.look_at.new.self)) (sym c.reserve.ensures.places) fits,
      subst (λ (ss : List State). length ss ≤ c.self.inside.room) (sym c.reserve.ensures.states) c.self.invariant.2,
    )

pub returns-in_default-reserve-clause-unchanged : goal.returns-in_default-reserve-clause-unchanged
returns-in_default-reserve-clause-unchanged c =
    let new = c.look_at.new.self in
    ap (λ (ss : List Seen). record { seen = ss; room = c.self.inside.room })
    (ap (λ ss. seen_in new ss c.reserve.new.places.items) c.reserve.ensures.states
    ∙ ap (seen_in new c.self.inside.states.items) c.reserve.ensures.places
    ∙ seen-grown c.look_at.ensures.grown c.self.inside.states.items c.self.inside.places.items c.self.invariant.1) ∙ c.self.view_is

pub invariant_of-self-2 : goal.invariant_of-self-2
invariant_of-self-2 c =
    let states = c.self.inside.states.items in
    let all = c.self.inside.places.items in
    let state = c.args.state in
    let places = c.in-Ok.places in
    let put_state = c.push_reserved.ensures.items ∙ ap (λ ss. ss ++ state ∷ []) c.reserve.ensures.states in
    let put_places = c.push_reserved-2.ensures.items ∙ ap (λ ps. ps ++ places ∷ []) c.reserve.ensures.places in (
      ap length put_places ∙ even-pushed states all state places c.self.invariant.0 ∙ sym (ap length put_state),
      subst (All (Fits c.look_at.new.self)) (sym put_places)
          (fit-pushed c.look_at.ensures.grown states all c.self.invariant.1 state places _ refl c.in-Ok.ensures.fits),
      omega (arith, ap length put_state, length-append states (state ∷ []), c.if-len-self.false, c.len.ensures, c.self.inside.states.ok.0),
    )

pub returns-clause-keeps : goal.returns-clause-keeps
returns-clause-keeps c =
    let states = c.self.inside.states.items in
    let all = c.self.inside.places.items in
    let state = c.args.state in
    let places = c.in-Ok.places in
    let new = c.look_at.new.self in
    let put_state = c.push_reserved.ensures.items ∙ ap (λ ss. ss ++ state ∷ []) c.reserve.ensures.states in
    let put_places = c.push_reserved-2.ensures.items ∙ ap (λ ps. ps ++ places ∷ []) c.reserve.ensures.places in
    let before = seen_in c.self.inside.parts states all in
    let look = look_of new places in
    let seen : Seen = record { state = state; look = look } in (
      look,
      c.in-Ok.ensures.shows,
      subst (λ old. Keeps old seen (seen_in new c.push_reserved.new.self.items c.push_reserved-2.new.self.items)) (ap (λ (l : LevelState). l.seen) c.self.view_is)
          (subst (λ ss. Keeps before seen (seen_in new ss c.push_reserved-2.new.self.items)) (sym put_state)
          (subst (λ ps. Keeps before seen (seen_in new (states ++ state ∷ []) ps)) (sym put_places)
          (Keeps-pushed c.look_at.ensures.grown states all c.self.invariant.1 state places look refl c.self.invariant.0))),
    )

pub returns-then-has-clause-room : goal.returns-then-has-clause-room
returns-then-has-clause-room c = ap (λ (l : LevelState). l.room) c.self.view_is

pub returns-clause-room : goal.returns-clause-room
returns-clause-room c = ap (λ (l : LevelState). l.room) c.self.view_is
