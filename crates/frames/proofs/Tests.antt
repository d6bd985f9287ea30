-- What two tests joined make, from the first of them.
use Rattle.std.proofs.Common.{◌≡◌, Bool, true, false, refl}
use Rattle.rules.specs.Tests.{◌and◌}

pub first_true : (b : Bool) → (true and b) ≡ b
unfolding ◌and◌
first_true b = refl

pub first_false : (b : Bool) → (false and b) ≡ false
unfolding ◌and◌
first_false b = refl

pub ruleset both = (first_true, first_false)
