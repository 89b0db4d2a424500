-- Another request at the end of a history.
use Rattle.std.proofs.Common.{◌≡◌, length, length-append, refl, sym, ap, ◌∙◌, subst, List, [], ◌∷◌, ◌++◌, None, Result, Ok, Err, OnOk, OnErr, arith}
use Rattle.std.proofs.lemmas.List.Elements.{All-push}
use Rattle.device_core.specs.declared.errno.Errno.{Errno}
use Rattle.device_core.specs.declared.request.Request.{Request}
use Rattle.device_core.specs.declared.request.Reply.{Reply}
use Rattle.device_core.specs.theorem.State.{DeviceState, objects_of}
use Rattle.device_core.specs.theorem.Request.{after, cause_of, IsAnswer}
use Rattle.device_core.specs.theorem.Requests.{Has32Bits, Have32Bits}
use Rattle.device_core.specs.theorem.History.{World, world_after, world_from, world_of, empty_world, AreAccepted, HasHistory, history_after, history_of, AreAnswers}

pub world_from-push : (history : List Request) (w : World) (r : Request) → world_from w (history ++ r ∷ []) ≡ world_after (world_from w history) r
world_from-push [] w r = refl
world_from-push (x ∷ rest) w r = world_from-push rest (world_after w x) r

pub AreAccepted-push : (history : List Request) (w : World) (r : Request) → AreAccepted w history → cause_of (world_from w history).objects r ≡ None → AreAccepted w (history ++ r ∷ [])
AreAccepted-push [] w r accepted none = (none, tt)
AreAccepted-push (x ∷ rest) w r accepted none = (accepted.0, AreAccepted-push rest (world_after w x) r accepted.1 none)

pub HasHistory-after : (d e : DeviceState) (r : Request) (result : Result Reply Errno) → IsAnswer (objects_of d) r result → OnOk result (objects_of e ≡ after (objects_of d) r) → OnErr result (e ≡ d) → (history : List Request) → HasHistory d history → HasHistory e (history_after history r result)
HasHistory-after d e r (Ok given) answer done unchanged history had = record {
  accepted = AreAccepted-push history empty_world r had.accepted (subst (λ o. cause_of o r ≡ None) had.is answer.0);
  is = done ∙ ap (λ o. after o r) had.is ∙ sym (ap (λ (w : World). w.objects) (world_from-push history empty_world r));
}
HasHistory-after d e r (Err refusal) answer done unchanged history had = subst (λ x. HasHistory x history) (sym unchanged) had

history_of-push : (history rs : List Request) (given : List (Result Reply Errno)) (r : Request) (a : Result Reply Errno) → length rs ≡ length given → history_of history (rs ++ r ∷ []) (given ++ a ∷ []) ≡ history_after (history_of history rs given) r a
history_of-push history [] [] r a same = refl
history_of-push history [] (b ∷ given) r a same = absurd (omega (arith, same))
history_of-push history (q ∷ rs) [] r a same = absurd (omega (arith, same))
history_of-push history (q ∷ rs) (b ∷ given) r a same = history_of-push (history_after history q b) rs given r a (omega arith)

AreAnswers-push : (history rs : List Request) (given : List (Result Reply Errno)) (r : Request) (a : Result Reply Errno) → AreAnswers history rs given → IsAnswer (world_of (history_of history rs given)).objects r a → AreAnswers history (rs ++ r ∷ []) (given ++ a ∷ [])
AreAnswers-push history [] [] r a are is = (is, tt)
AreAnswers-push history [] (b ∷ given) r a are is = absurd are
AreAnswers-push history (q ∷ rs) [] r a are is = absurd are
AreAnswers-push history (q ∷ rs) (b ∷ given) r a are is = (are.0, AreAnswers-push (history_after history q b) rs given r a are.1 is)

-- the requests so far were answered one after another
pub record HasRun (d : DeviceState) (rs : List Request) (given : List (Result Reply Errno)) : Type 0 where
  pub answers : AreAnswers [] rs given
  pub stands : HasHistory d (history_of [] rs given)
  pub each : length rs ≡ length given
  pub small : Have32Bits rs

pub HasRun-push : {d : DeviceState} {rs : List Request} {given : List (Result Reply Errno)} (e : DeviceState) (r : Request) (a : Result Reply Errno) → HasRun d rs given → Has32Bits r → IsAnswer (objects_of d) r a → ((history : List Request) → HasHistory d history → HasHistory e (history_after history r a)) → HasRun e (rs ++ r ∷ []) (given ++ a ∷ [])
HasRun-push {d} {rs} {given} e r a run small answer stands = record {
  answers = AreAnswers-push [] rs given r a run.answers (subst (λ o. IsAnswer o r a) run.stands.is answer);
  stands =
      let P : List Request → Type 0 = λ history. HasHistory e history in
      subst P (sym (history_of-push [] rs given r a run.each)) (stands (history_of [] rs given) run.stands);
  each = omega (arith, run.each, length-append {A = Request}, length-append {A = Result Reply Errno});
  small = All-push Has32Bits rs r run.small small;
}
