use Rattle.std.proofs.Common.{◌≡◌, ℕ, suc, ◌+◌, ◌-◌, ◌/◌, ◌<◌, ◌≤◌, length, take, drop, Ok, Err, refl, sym, ap, ◌∙◌, zero-add, arith}
use Rattle.std.proofs.Math.Nat.{sub-zero}
use Rattle.std.proofs.Math.Seq.{drop-drop}
use Rattle.rules.specs.Frames.{reply}
use Rattle.frames.specs.Course.{walk, gone}
use Rattle.frames.specs.Replies.{session_of}
use Rattle.frames.proofs.Walking.{Put, put, goes_on, stops, went, gone_on, gone_none, gone_last, all_gone, unended}
use Rattle.frames.proofs.text.walk_lines.Goals as goal
use Rattle.frames.proofs.text.walk_lines.Goals.{in-Ok, in-Err}

pub loop-from-init : goal.loop-from-init
unfolding walk
loop-from-init c =
    record { course = refl; gone = simp (sub-zero, zero-add); low = omega arith; room = omega arith; size = refl; rest = refl }

-- no line feed is left
pub returns-then-end-text : goal.returns-then-end-text
returns-then-end-text c =
    let l = c.loop-from in let text = c.args.text.now in
    let e = c.line_end-end in let at_end : e.result ≡ length text = omega (arith, e.ensures.high) in
    let none = unended text l.from e.result e.ensures at_end in
    let last = gone_none ((length c.args.out.now - l.at) / 33) 0 (drop l.from text) none in
    record { from = omega (arith, l.invariant.gone, last); course = l.invariant.course; room = l.invariant.room; rest = l.invariant.rest; all = λ h. none }

-- one line more, and its answer
pub loop-from-preserved : goal.loop-from-preserved
loop-from-preserved c =
    let l = c.loop-from in let i = l.invariant in let e = c.line_end-end in let text = c.args.text.now in let first = c.args.out.now in
    let given = goes_on l.from (length text) (length l.out - l.at) c.loop-from-test.true in
    let inside : e.result < length text = omega (arith, e.ensures.high) in
    let fits : l.at + 33 ≤ length l.out = omega (arith, given.1, i.room) in
    let left : (length first - l.at) / 33 ≡ suc ((length first - (l.at + 33)) / 33) = omega (arith, fits, i.size) in
    let more = gone_on text l.from e.result e.ensures inside ((length first - (l.at + 33)) / 33) in
    let line = take (e.result - l.from) (drop l.from text) in
    let p : Put (reply (session_of l.s l.q) line) c.match-line_reply.s c.line_reply.new.q l.out l.at c.match-line_reply.out =
    elim c.match-line_reply.branch [
      | in-Ok w ↦ rw (w.out-is, w.s-is) (put _ l.s (Ok w.in-Ok.replied) _ l.out w.put.new.room l.at w.in-Ok.ensures (w.put.ensures ∙ w.answer_line.ensures) w.put.auto.room fits)
      | in-Err w ↦ rw (w.out-is, w.s-is) (put _ l.s (Err w.in-Err.refusal) _ l.out w.put-in-Err.new.room l.at w.in-Err.ensures (w.put-in-Err.ensures ∙ w.refusal_line.ensures) w.put-in-Err.auto.room fits)
    ] in
    record {
      course = went text l.from e.result e.ensures inside _ (session_of l.s l.q) _ _ l.out l.at _ i.course p;
      gone = i.gone ∙ ap (λ (r : ℕ). l.from + gone r 0 (drop l.from text)) left ∙ omega (arith, more, e.ensures.low);
      low = omega (arith, inside);
      room = omega (arith, c.match-line_reply.auto.out);
      size = c.match-line_reply.auto.out ∙ i.size;
      rest = p.rest ∙ sym (drop-drop 33 l.at l.out) ∙ ap (drop 33) i.rest ∙ drop-drop 33 l.at first;
    }

-- no line is left, or no room for its answer
pub returns : goal.returns
returns c =
    let l = c.loop-from in let text = c.args.text.now in let left = length c.args.out.now - l.at in
    let over = rw l.invariant.size at (stops l.from (length text) (length l.out - l.at) c.loop-from-test.false) in
    let last = gone_last text l.from (left / 33) over in
    record {
      from = omega (arith, l.invariant.gone, last);
      course = l.invariant.course;
      room = l.invariant.room;
      rest = l.invariant.rest;
      all = all_gone text l.from left over;
    }
