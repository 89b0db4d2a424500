-- A file that is looked up by name, or is not there.
use Rattle.std.proofs.Common.{◌≡◌, ℕ, Bool, true, false, cond, ◌||◌, refl, sym, ap, ◌∙◌, List, [], ◌∷◌, Option, None, Some}
use Rattle.std.specs.Prelude.{is_some, option_copied, Ok, Err}
use Rattle.std.specs.Option.{ok_or}
use Rattle.point_core.specs.declared.refusal.Refusal.{Refusal}
use Rattle.syncfile_core.specs.SyncFile.{File, file_at as sync_file_at}
use Rattle.syncfile_core.specs.Files.{is_named, has_file as has_sync_file}
use denote.Bor.{Bor}

is_some-found : {X : Type 0} (b : Bool) (x : X) (o : Option X) → (b || is_some o) ≡ is_some (cond b (Some x) o)
is_some-found true x o = refl
is_some-found false x o = refl

pub has_sync_file-found : (fs : List File) (name : List ℕ) → has_sync_file fs name ≡ is_some (sync_file_at fs name)
has_sync_file-found [] name = refl
has_sync_file-found (f ∷ fs) name =
    ap (λ b. is_named name f || b) (has_sync_file-found fs name)
    ∙ is_some-found (is_named name f) f (sync_file_at fs name)

-- a look-up that is refused found nothing
pub refused_look_up : (fs : List File) (name : List ℕ) (o : Option (Bor File)) (refusal e : Refusal) → option_copied o ≡ sync_file_at fs name → ok_or o e ≡ Err refusal → (sync_file_at fs name ≡ None) × (refusal ≡ e)
refused_look_up fs name None refusal e is refused = (sym is, cc)
refused_look_up fs name (Some b) refusal e is refused = absurd (cc)

pub accepted_look_up : (fs : List File) (name : List ℕ) (o : Option (Bor File)) (e : Refusal) (b : Bor File) → option_copied o ≡ sync_file_at fs name → ok_or o e ≡ Ok b → sync_file_at fs name ≡ Some b.now
accepted_look_up fs name None e b is accepted = absurd (cc)
accepted_look_up fs name (Some d) e b is accepted = let same : d ≡ b = cc in sym is ∙ ap (λ r. Some r.now) same
