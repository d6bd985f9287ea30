use Rattle.std.proofs.Common.{◌≡◌, ℕ, ◌<◌, get_or, length}
use Rattle.frames.specs.Weights.{weight}
use Rattle.frames.proofs.digits.fill.Given as goal

abbrev pub invariant-loop-b : goal.invariant-loop-b
invariant-loop-b l = (length l.weights ≡ 256) × ((k : ℕ) → k < l.b → get_or l.weights k 0 ≡ weight k)
