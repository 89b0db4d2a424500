-- A small history for each kind of request.
use Rattle.std.specs.Prelude.{List, [], ◌∷◌, ◌++◌}
use Rattle.point_core.specs.declared.entry.Usage.TheVariants.{Write}
use Rattle.device_core.specs.declared.request.Request.{Request}
use Rattle.device_core.specs.declared.request.Request.TheVariants as request
use Rattle.device_core.specs.theorem.State.{empty_text}

-- what kind of request it is: the request without its numbers, name, flags, usage and time
abbrev pub kind_of : Request → Request
kind_of (request.Open name) = request.Open empty_text
kind_of (request.Fence timeline point now) = request.Fence 0 0 0
kind_of (request.Inc timeline n now) = request.Inc 0 0 0
kind_of (request.Merge a b name) = request.Merge 0 0 empty_text
kind_of (request.Status file) = request.Status 0
kind_of (request.IsSignalled file) = request.IsSignalled 0
kind_of (request.Info file) = request.Info 0
kind_of (request.Close number now) = request.Close 0 0
kind_of (request.Buffer now) = request.Buffer 0
kind_of (request.Export buffer flags) = request.Export 0 0
kind_of (request.Import buffer file flags) = request.Import 0 0 0
kind_of (request.Test buffer usage) = request.Test 0 Write

-- timeline 1, and file 2, which waits for its first point
abbrev pub one_fence : List Request
one_fence = request.Open empty_text ∷ request.Fence 1 1 0 ∷ []

-- a history that ends with a request of the same kind, after those that make its objects
abbrev pub history_with : Request → List Request
history_with (request.Open name) = request.Open name ∷ []
history_with (request.Fence timeline point now) = one_fence
history_with (request.Inc timeline n now) = one_fence ++ request.Inc 1 1 now ∷ []
history_with (request.Merge a b name) = one_fence ++ request.Merge 2 2 name ∷ []
history_with (request.Status file) = one_fence ++ request.Status 2 ∷ []
history_with (request.IsSignalled file) = one_fence ++ request.IsSignalled 2 ∷ []
history_with (request.Info file) = one_fence ++ request.Info 2 ∷ []
history_with (request.Close number now) = one_fence ++ request.Close 2 now ∷ []
history_with (request.Buffer now) = request.Buffer now ∷ []
history_with (request.Export buffer flags) = request.Buffer 0 ∷ request.Export 1 1 ∷ []
history_with (request.Import buffer file flags) =
    request.Buffer 0 ∷ request.Open empty_text ∷ request.Fence 2 1 0 ∷ request.Import 1 3 1 ∷ []
history_with (request.Test buffer usage) = request.Buffer 0 ∷ request.Test 1 usage ∷ []
