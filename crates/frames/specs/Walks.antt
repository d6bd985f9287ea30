-- What a walk over a text promises.
use Rattle.std.specs.Prelude.{ℕ, ◌-◌, ◌/◌, ◌≤◌, ◌<◌, ◌≡◌, List, [], length, take, drop, get_or}
use Rattle.rules.specs.declared.Session.{Session}
use Rattle.frames.specs.Replies.{session_of}
use Rattle.frames.specs.Course.{walk, gone}
use Rattle.frames.specs.declared.text.Walked.{Walked}

-- it goes over as many lines as have room for their answers: session and answers are those of what it went over, in which every line
-- ends, and behind the answers the output is as it was; where there is room for one answer more, no line feed is left
pub record Walks (s : Session) (text : List ℕ) (r : Walked) (queue before out : List ℕ) : Type 0 where
  pub from : r.from ≡ gone (length before / 33) 0 text
  pub course : walk s [] (take r.from text) ≡ record { session = session_of r.standing queue; line = []; text = take r.at out }
  pub room : r.at ≤ length out
  pub rest : drop r.at out ≡ drop r.at before
  pub all : 33 ≤ length before - r.at → (k : ℕ) → k < length (drop r.from text) → get_or (drop r.from text) k 0 ≡ 10 → ⊥
