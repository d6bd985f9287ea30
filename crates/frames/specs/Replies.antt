-- What a line makes of a session whose queue is lent beside it.
use Rattle.std.specs.Prelude.{ℕ, List, ◌≡◌, Result, Ok, Err}
use Rattle.rules.specs.Frames.{new_session, answer_line}
use Rattle.rules.specs.declared.Session.{Session}
use Rattle.rules.specs.declared.Reply.{Reply}
use Rattle.rules.specs.declared.Refusal.{Refusal}
use Rattle.frames.specs.declared.session.Standing.{Standing}
use Rattle.frames.specs.declared.session.Replied.{Replied}

abbrev pub session_of : Standing → List ℕ → Session
session_of s queue = record { opened = s.opened; number = s.number; station = s.station; queue = queue }

-- a session's standing at the start
abbrev pub new_standing : Standing
new_standing = record { opened = new_session.opened; number = new_session.number; station = new_session.station }

-- what a frame makes of a standing, and its answer; a frame that is refused before that leaves the standing as it stood
abbrev pub replied : Standing → Result Replied Refusal → Replied
replied s (Ok r) = r
replied s (Err e) = record { standing = s; answer = Err e }

-- the standing and the queue afterwards are those of the reply, and the answer is the one that its line prints
pub record Replies (p : Reply) (s : Standing) (r : Result Replied Refusal) (queue : List ℕ) : Type 0 where
  pub session : session_of (replied s r).standing queue ≡ p.session
  pub text : answer_line (replied s r).answer ≡ p.text
