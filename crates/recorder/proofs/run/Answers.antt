-- A turn follows those before it, on the input and on the output.
use Rattle.std.proofs.Common.{[], ◌∷◌, ◌++◌, is_some, is_none, inr, refl, length-append, arith}
use Rattle.recorder.specs.Course.{turns}
use Rattle.recorder.proofs.Output.{served}
use Rattle.recorder.proofs.Running.{ran, on_read, on_wrote, went_on, why_last, why_on}
use Rattle.recorder.proofs.Streams.{appends_none, consumes_none}
use Rattle.recorder.proofs.run.Goals as goal

pub loop-init : goal.loop-init
unfolding turns
loop-init g c =
    let n = c.start-t.ensures in let p = c.requires in record {
      parts = [];
      stands = record { session = rw (n.0, p.0) refl; line = rw (n.1, p.1) refl };
      ready = record { most = rw p.1 (omega arith); room = λ e. rw p.1 (omega arith); plain = λ e. rw p.1 (λ k h z. omega arith) };
      counted = refl;
      read = rw n.1 (consumes_none (g.R.Read.remaining c.args.reader.now));
      wrote = appends_none (g.W.Write.contents c.args.writer.now);
    }

pub returns-then-is_none-t-clause-ran : goal.returns-then-is_none-t-clause-ran
returns-then-is_none-t-clause-ran g c =
    let i = c.loop.invariant in let b = c.brought-came in let n = c.turn-t in let t = n.result in
    ran i.parts c.loop.t t _ _ _ _ _ _ _ _ _ _ _ _ i.stands i.read i.wrote n.ensures.goes.1 b.ensures.bytes n.ensures.bytes
    (why_last (is_some t.came) c.is_none.result t.handed.all _ c.is_none.ensures c.if-is_none-t.true)

pub returns-then-is_none-t-clause-program : goal.returns-then-is_none-t-clause-program
returns-then-is_none-t-clause-program g c e a = served c.turn-t.result _ _ _ _ _ _ _ (returns-then-is_none-t-clause-ran g c) e a

pub returns-else-is_none-t-clause-ran : goal.returns-else-is_none-t-clause-ran
returns-else-is_none-t-clause-ran g c =
    let i = c.loop.invariant in let b = c.brought-came in let n = c.turn-t in
    ran i.parts c.loop.t n.result _ _ _ _ _ _ _ _ _ _ _ _ i.stands i.read i.wrote n.ensures.goes.1 b.ensures.bytes n.ensures.bytes
    (inr (inr (omega (arith, i.counted))))

pub loop-preserved : goal.loop-preserved
loop-preserved g c =
    let i = c.loop.invariant in let b = c.brought-came in let n = c.turn-t in let t = n.result in let w = n.ensures.goes.1 in
    let o = why_on (is_some t.came) c.is_none.result t.handed.all c.is_none.ensures c.if-is_none-t.false in record {
      parts = i.parts ++ w.part ∷ [];
      stands = went_on i.parts w.part c.loop.t t _ _ _ _ n.new.memory.out i.stands (is_none t.came) o.0 w.turns;
      ready = w.ready;
      counted = simp length-append (omega (arith, i.counted));
      read = on_read i.parts c.loop.t t _ _ _ _ _ _ _ _ _ _ _ _ i.stands i.read i.wrote w b.ensures.bytes n.ensures.bytes;
      wrote = on_wrote i.parts c.loop.t t _ _ _ _ _ _ _ _ _ _ _ _ i.stands i.read i.wrote w b.ensures.bytes n.ensures.bytes o.0 o.1;
    }
