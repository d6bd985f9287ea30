-- A turn over what was left and what was brought.
use Rattle.std.proofs.Math.Bool.{not-not}
use Rattle.std.proofs.Common.{◌≡◌, length, length-append, length-take, not, ap, ◌∙◌, refl, arith}
use Rattle.frames.specs.Replies.{session_of}
use Rattle.recorder.specs.declared.TheConstants.{OUT}
use Rattle.recorder.proofs.Turning.{room_for, turns_on}
use Rattle.recorder.proofs.turn.Goals as goal

pub returns-clause-goes : goal.returns-clause-goes
returns-clause-goes g c =
    let a = c.args in let p = c.requires in let m = a.memory.now in let w = c.answered-w in let h = c.write_all-handed in let o = c.is_none-over in
    let r = room_for a.before m.text (length m.chunk) a.came p.0 p.1 (omega arith) in let out : length m.out ≡ OUT = omega arith in (
      refl,
      rw (c.keep.ensures, w.ensures.text, c.put.ensures, c.unwrap_or.ensures)
          (turns_on (session_of a.before.standing m.queue) a.before a.came h.result w.result m.text m.chunk _ m.out _
          p.0 p.1 (simp (length-append, length-take) (omega arith)) h.ensures.hands (omega arith) o.result c.no_room-more.result
          (ap not o.ensures ∙ not-not o.result) (rw (c.put.ensures, c.unwrap_or.ensures) at w.ensures.answers) (rw out c.no_room-more.ensures)),
    )
