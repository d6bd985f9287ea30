-- What a write took stands behind what the writes before it took.
use Rattle.std.proofs.Common.{◌≡◌, ℕ, Option, unwrap_or, length, length-drop, ap, arith}
use Rattle.std.proofs.lemmas.Slice.{between_to_end}
use Rattle.recorder.proofs.Streams.{written}
use Rattle.recorder.proofs.write_all.Goals as goal

pub loop-preserved : goal.loop-preserved
loop-preserved g c =
    let t = c.args.text.now in let n = c.loop.done in let w = c.write in
    let more : unwrap_or c.came_to.result 0 ≡ c.in-Some.n = ap (λ (r : Option ℕ). unwrap_or r 0) c.in-Some.is in (
      omega (arith, length-drop {A = ℕ}),
      written w.result t n c.in-Some.n _ _ _ _ c.in-Some.is _ (between_to_end t n (length t) (omega arith)) c.loop.invariant.1 c.came_to.ensures w.ensures.bound w.ensures.bytes,
    )

pub returns-in-Some-clause-bytes : goal.returns-in-Some-clause-bytes
returns-in-Some-clause-bytes g c =
    let t = c.args.text.now in let n = c.loop.done in let w = c.write in
    written w.result t n c.in-Some.n _ _ _ _ c.in-Some.is _ (between_to_end t n (length t) (omega arith)) c.loop.invariant.1 c.came_to.ensures w.ensures.bound w.ensures.bytes
