-- The program's output, read by read.
use Rattle.std.specs.Prelude.{ℕ, Bool, true, false, List, [], ◌∷◌, ◌++◌, take}
use Rattle.rules.specs.Tests.{pick}
use Rattle.rules.specs.Frames.{new_session, last_text}
use Rattle.rules.specs.declared.Session.{Session}
use Rattle.frames.specs.Course.{Course, after, walk}

-- of a line over 80 characters no more is held than tells it from a shorter one
abbrev pub held_most : ℕ
held_most = 81

-- what is kept of what is not answered: all of it where an answer had no room, so that lines may be left in it; else no more of the
-- line that has not ended
abbrev pub kept : Bool → List ℕ → List ℕ
kept more rest = pick more rest (take held_most rest)

-- a turn of the program: the lines that end in what a read brought are answered, and at the end of the input the line that is left
abbrev pub turn : Bool → Session → List ℕ → List ℕ → Course
turn false s line part = walk s line part
turn true s line part = record { session = s; line = line; text = last_text line }

-- the turns before the end of the input in a row, one for each read: no more of a line is held from one to the next than `held_most`
unfoldable pub turns : Session → List ℕ → List (List ℕ) → Course
turns s line [] = record { session = s; line = line; text = [] }
turns s line (part ∷ parts) =
    after (turn false s line part).text
    (turns (turn false s line part).session (take held_most (turn false s line part).line) parts)

-- the course of the program over what its reads brought, from its start on
abbrev pub course : List (List ℕ) → Course
course parts = turns new_session [] parts

-- all that the program writes: the texts of the turns, and that of the end of the input
abbrev pub answers : List (List ℕ) → List ℕ
answers parts = (course parts).text ++ (turn true (course parts).session (course parts).line []).text

-- the input that came in these parts
abbrev pub whole : List (List ℕ) → List ℕ
whole [] = []
whole (part ∷ parts) = part ++ whole parts
