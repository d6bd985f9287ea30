-- The turns so far went over some parts of the input, one for each.
use Rattle.std.proofs.Common.{◌≡◌, ℕ, List, ◌++◌, length}
use Rattle.std.specs.Io.KnownBytes.{Appends, Consumes}
use Rattle.recorder.specs.Course.{course, whole}
use Rattle.recorder.specs.Turns.{left, Ready}
use Rattle.recorder.proofs.Running.{Stands}
use Rattle.recorder.proofs.run.Given as goal

abbrev pub invariant-loop : goal.invariant-loop
invariant-loop g l = record {
  parts : List (List ℕ);
  stands : Stands parts l.t l.memory.queue l.memory.text;
  ready : Ready l.t l.memory.text;
  counted : length parts ≡ l.counter;
  read : Consumes (g.R.Read.remaining l.fn.reader) (g.R.Read.remaining l.reader) (whole parts ++ left l.t l.memory.text);
  wrote : Appends (g.W.Write.contents l.fn.writer) (g.W.Write.contents l.writer) (course parts).text;
}
