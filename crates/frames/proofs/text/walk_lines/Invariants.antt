use Rattle.std.proofs.Common.{◌≡◌, ◌+◌, ◌-◌, ◌/◌, ◌≤◌, [], length, take, drop}
use Rattle.frames.specs.Course.{walk, gone}
use Rattle.frames.specs.Replies.{session_of}
use Rattle.frames.proofs.text.walk_lines.Given as goal

-- the lines before `from` are answered by what stands before `at`; `gone` counts on from there
abbrev pub invariant-loop-from : goal.invariant-loop-from
invariant-loop-from l = record {
  course : walk (session_of l.fn.standing l.fn.q) [] (take l.from l.text) ≡ record { session = session_of l.s l.q; line = []; text = take l.at l.out };
  gone : gone (length l.fn.out / 33) 0 l.text ≡ l.from + gone ((length l.fn.out - l.at) / 33) 0 (drop l.from l.text);
  low : l.from ≤ length l.text;
  room : l.at ≤ length l.out;
  size : length l.out ≡ length l.fn.out;
  rest : drop l.at l.out ≡ drop l.at l.fn.out;
}

abbrev pub decreases-loop-from : goal.decreases-loop-from
decreases-loop-from l = length l.text - l.from
