-- A small history for each kind of request is accepted.
use Rattle.std.proofs.Common.{refl, map, Contains, arith}
use Rattle.device_core.specs.declared.request.Request.{Request}
use Rattle.device_core.specs.declared.request.Request.TheVariants as request
use Rattle.device_core.specs.theorem.History.{AreAccepted, empty_world}
use Rattle.device_core.specs.Accepted.{history_with, kind_of}

pub accepted-with : (r : Request) → AreAccepted empty_world (history_with r)
accepted-with (request.Open name) = (refl, tt)
accepted-with (request.Fence timeline point now) = (refl, (refl, tt))
accepted-with (request.Inc timeline n now) = (refl, (refl, (refl, tt)))
accepted-with (request.Merge a b name) = (refl, (refl, (refl, tt)))
accepted-with (request.Status file) = (refl, (refl, (refl, tt)))
accepted-with (request.IsSignalled file) = (refl, (refl, (refl, tt)))
accepted-with (request.Info file) = (refl, (refl, (refl, tt)))
accepted-with (request.Close number now) = (refl, (refl, (refl, tt)))
accepted-with (request.Buffer now) = (refl, tt)
accepted-with (request.Export buffer flags) = (refl, (refl, tt))
accepted-with (request.Import buffer file flags) = (refl, (refl, (refl, (refl, tt))))
accepted-with (request.Test buffer usage) = (refl, (refl, tt))

pub has-kind : (r : Request) → Contains (map kind_of (history_with r)) (kind_of r)
has-kind (request.Open name) = (0, omega arith, refl)
has-kind (request.Fence timeline point now) = (1, omega arith, refl)
has-kind (request.Inc timeline n now) = (2, omega arith, refl)
has-kind (request.Merge a b name) = (2, omega arith, refl)
has-kind (request.Status file) = (2, omega arith, refl)
has-kind (request.IsSignalled file) = (2, omega arith, refl)
has-kind (request.Info file) = (2, omega arith, refl)
has-kind (request.Close number now) = (2, omega arith, refl)
has-kind (request.Buffer now) = (0, omega arith, refl)
has-kind (request.Export buffer flags) = (1, omega arith, refl)
has-kind (request.Import buffer file flags) = (3, omega arith, refl)
has-kind (request.Test buffer usage) = (1, omega arith, refl)
