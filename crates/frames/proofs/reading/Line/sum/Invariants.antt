use Rattle.std.proofs.Common.{◌≡◌}
use Rattle.frames.specs.Weights.{sum}
use Rattle.frames.proofs.reading.Line.sum.Given as goal

abbrev pub invariant-loop-k : goal.invariant-loop-k
invariant-loop-k g l = l.sum ≡ sum l.self.text.now l.from l.k
