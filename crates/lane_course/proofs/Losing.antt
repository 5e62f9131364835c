-- What a caller marks of its rows doesn't depend on which of them it keeps.
use Rattle.std.proofs.Common.{◌≡◌, ℕ, List, [], ◌∷◌, refl}
use Rattle.lane_steps.specs.declared.point.Closing.{Closing}
use Rattle.lane_steps.specs.State.{Caller}
use Rattle.lane_steps.specs.Step.{loses}

pub loses_alike : (n c : ℕ) (k : Caller) (x : Closing) (rows other : List ℕ) → loses n c (record k { rows = other }) x rows ≡ loses n c k x rows
loses_alike n c k x [] other = refl
loses_alike n c k x (r ∷ rs) other = refl
