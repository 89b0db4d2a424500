-- The result of a call, stated in two ways.
use Rattle.std.proofs.Common.{◌≡◌, Result, Ok}

pub same-Ok : {A E : Type 0} (result : Result A E) (x y : A) → result ≡ Ok x → result ≡ Ok y → x ≡ y
same-Ok result x y is also = cc
