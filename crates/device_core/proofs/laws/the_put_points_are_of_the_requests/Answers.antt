use Rattle.std.proofs.Common.{ℕ, List, ap}
use Rattle.point_core.specs.declared.entry.Entry.{Entry}
use Rattle.device_core.proofs.Said.{put-said}
use Rattle.device_core.proofs.laws.the_put_points_are_of_the_requests.Goals as goal

pub returns : goal.returns
returns c = λ history number accepted. ap (λ (all : ℕ → List Entry). all number) (put-said history accepted)
