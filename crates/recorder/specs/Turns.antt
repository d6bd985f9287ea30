-- What reads and writes, a turn and a run of the program promise.
use Rattle.std.specs.Prelude.{ℕ, ◌≤◌, ◌<◌, ◌+◌, ◌-◌, ◌^◌, min, Bool, true, false, ◌≡◌, ◌≢◌, ◌↔◌, List, [], ◌++◌, ◌⊎◌, ltb, Option, Some, Result, Ok, Err, IsNone, is_none, unwrap_or, length, take, get_or}
use Rattle.std.specs.Io.KnownBytes.{Appends, Consumes}
use Rattle.std.specs.IoError.{error_kind}
use Rattle.std.specs.declared.io.Error.{Error}
use Rattle.std.specs.declared.io.ErrorKind.TheVariants.{Interrupted}
use Rattle.rules.specs.Tests.{pick}
use Rattle.rules.specs.Frames.{last_text, program}
use Rattle.rules.specs.declared.Session.{Session}
use Rattle.frames.specs.Course.{Course}
use Rattle.frames.specs.Replies.{session_of}
use Rattle.frames.specs.Walks.{Walks}
use Rattle.frames.specs.declared.text.Walked.{Walked}
use Rattle.recorder.specs.Course.{held_most, course, turn, whole}
use Rattle.recorder.specs.declared.Handed.{Handed}
use Rattle.recorder.specs.declared.Turned.{Turned}

-- how many bytes a read or a write moved that was lent n of them: as many as it answered, and none where it failed
abbrev pub count : Result ℕ Error → ℕ → ℕ
count (Ok k) n = min k n
count (Err e) n = 0

-- whether a read or a write that answered so is the last: it answered 0, or it failed and no signal interrupted it
abbrev pub IsLast : Result ℕ Error → Type 0
IsLast (Ok k) = k ≡ 0
IsLast (Err e) = error_kind e ≢ Interrupted

-- a read or a write that was lent n bytes moved as many as it answered, and is none where it is the last, as its answer tells: the last
-- moved no bytes
pub record Moves (answer : Result ℕ Error) (n : ℕ) (r : Option ℕ) : Type 0 where
  pub bytes : unwrap_or r 0 ≡ count answer n
  pub room : unwrap_or r 0 ≤ n
  pub last : IsNone r ↔ IsLast answer

-- nothing is read while lines are left; else a read moved what it answered
abbrev pub Brings : Bool → ℕ → Option ℕ → Type 0
Brings true n r = r ≡ Some 0
Brings false n r = (answer : Result ℕ Error) × Moves answer n r

-- no more of a text is counted as handed on than there is, and all of it where all is said
pub record Hands (text : List ℕ) (r : Handed) : Type 0 where
  pub some : r.bytes ≤ length text
  pub whole : r.all ≡ true → r.bytes ≡ length text

-- at the end of the input the line that is left is answered, and nothing else moves
pub record Ends (s : Session) (line : List ℕ) (r : Walked) (queue out : List ℕ) : Type 0 where
  pub session : session_of r.standing queue ≡ s
  pub from : r.from ≡ 0
  pub room : r.at ≤ length out
  pub text : take r.at out ≡ last_text line

abbrev pub Answers : Bool → Session → List ℕ → Walked → List ℕ → List ℕ → List ℕ → Type 0
Answers true s text r queue before out = Ends s text r queue out
Answers false s text r queue before out = Walks s text r queue before out

-- whether an answer had no room, in a turn that is not the last
abbrev pub no_room : Bool → ℕ → ℕ → Bool
no_room true n at = false
no_room false n at = ltb (n - at) 33

-- of what has come and is not answered: the line that has not ended, or, where an answer had no room, what is to be gone over next
abbrev pub held : Turned → List ℕ → List ℕ
held r text = pick r.more [] text

abbrev pub left : Turned → List ℕ → List ℕ
left r text = pick r.more text []

-- the session and the line held after a turn are those of the course, and what was handed on is its text from the first byte on
pub record Turns (w : Course) (r : Turned) (queue text out : List ℕ) : Type 0 where
  pub session : session_of r.standing queue ≡ w.session
  pub line : held r text ≡ take held_most w.line
  pub handed : Hands w.text r.handed
  pub said : take r.handed.bytes out ≡ take r.handed.bytes w.text

-- what a turn asks of the one before: no more is left than the memory has room for, and behind a line that is held, in which there is no
-- line feed, a read of 8,192 bytes has room
pub record Ready (r : Turned) (text : List ℕ) : Type 0 where
  pub most : length text ≤ held_most + 8192
  pub room : r.more ≡ false → length text ≤ held_most
  pub plain : r.more ≡ false → (k : ℕ) → k < length text → get_or text k 0 ≡ 10 → ⊥

-- a turn over what has come: a part of it is gone over, and the rest is left, so that no byte is lost and none comes twice; at the end of
-- the input nothing has come
pub record Goes (s : Session) (line came : List ℕ) (r : Turned) (queue text out : List ℕ) : Type 0 where
  pub part : List ℕ
  pub whole : part ++ left r text ≡ came
  pub turns : Turns (turn (is_none r.came) s line part) r queue text out
  pub ready : Ready r text
  pub end : IsNone r.came → came ≡ []

-- a run ends with the turn at the end of the input, where a write failed, or after as many turns as 64 bits count: there are parts
-- that its reads brought before, and this last turn is the one that follows them. Where the bytes of the reader are known, those that it
-- gave are these parts and what is left; where those of the writer are, it has taken the texts of the turns in a row
pub record Ran (r : Turned) (queue text out : List ℕ) (unread rest log grown : Option (List ℕ)) : Type 0 where
  pub parts : List (List ℕ)
  pub part : List ℕ
  pub read : Consumes unread rest (whole parts ++ (part ++ left r text))
  pub end : IsNone r.came → part ++ left r text ≡ []
  pub wrote : Appends log grown ((course parts).text ++ take r.handed.bytes out)
  pub last : Turns (turn (is_none r.came) (course parts).session (course parts).line part) r queue text out
  pub cause : IsNone r.came ⊎ (r.handed.all ≡ false) ⊎ (length parts ≡ 2 ^ 64 - 1)

-- what was read was answered: what was written is what the definitions say of all of it
pub record Served (unread rest log grown : Option (List ℕ)) : Type 0 where
  pub input : List ℕ
  pub read : Consumes unread rest input
  pub wrote : Appends log grown (program input)
