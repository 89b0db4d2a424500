-- The status of a drawing, by its run.
use Rattle.std.proofs.Common.{◌≡◌, ◌∙◌, ℕ, Bool, true, false, true≢false, List, sym, ap}
use Rattle.std.specs.Prelude.{if◌then◌else◌}
use Rattle.line_core.specs.Script.{script_of}
use Rattle.draw_core.specs.declared.window.Window.{Window}
use Rattle.draw_core.specs.Refused.{HasRefused}
use Rattle.fencectl_core.specs.declared.action.Draw.{Draw}
use Rattle.fencectl_core.specs.Drawing.{IsDrawStatus, IsRunStatus, is_too_long}

-- the status that a history gives, and that a call hands on
pub run-status : (window : Window) (script : List ℕ) (refused known : Bool) (by ended : ℕ) → HasRefused window (script_of script) refused
    → known ≡ refused → by ≡ (if known then 1 else 0) → ended ≡ by → IsRunStatus window script ended
run-status window script refused known by ended has same is came = record {
  given = has.given;
  answers = has.answers;
  is = came ∙ is ∙ ap (λ (b : Bool). if b then 1 else 0) (same ∙ has.is);
}

pub long-status : (asked : Draw) (window : Window) (script : List ℕ) (ended : ℕ) → is_too_long asked script ≡ true → ended ≡ 2
    → IsDrawStatus asked window script ended
long-status asked window script ended long two = record {
  long = λ _. two;
  run = λ short. absurd (true≢false (sym long ∙ short));
}

pub short-status : (asked : Draw) (window : Window) (script : List ℕ) (ended : ℕ) → is_too_long asked script ≡ false → IsRunStatus window script ended
    → IsDrawStatus asked window script ended
short-status asked window script ended short run = record {
  long = λ long. absurd (true≢false (sym long ∙ short));
  run = λ _. run;
}
