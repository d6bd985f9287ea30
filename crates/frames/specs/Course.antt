-- The answers to a text, character by character.
use Rattle.std.specs.Prelude.{ℕ, zero, suc, ◌+◌, ◌≤◌, ◌<◌, ◌≡◌, List, [], ◌∷◌, ◌++◌, eqb, length, get_or}
use Rattle.rules.specs.Tests.{pick}
use Rattle.rules.specs.Frames.{reply}
use Rattle.rules.specs.declared.Session.{Session}

-- the session after some input, the line that has not ended, and the answers
pub record Course : Type 0 where
  pub session : Session
  pub line : List ℕ
  pub text : List ℕ

-- a course that follows answers given before it
abbrev pub after : List ℕ → Course → Course
after text w = record { session = w.session; line = w.line; text = text ++ w.text }

-- at a character: a line feed ends the line, any other character is one more of it
unfoldable pub walk : Session → List ℕ → List ℕ → Course
walk s line [] = record { session = s; line = line; text = [] }
walk s line (b ∷ input) =
    pick (eqb b 10) (after (reply s line).text (walk (reply s line).session [] input)) (walk s (line ++ b ∷ []) input)

-- how much of a text is gone over where there is room for so many answers: up to the line feed of the last line that is answered; so
-- many characters were counted since the line feed before
unfoldable pub gone : ℕ → ℕ → List ℕ → ℕ
gone zero since text = 0
gone (suc room) since [] = 0
gone (suc room) since (b ∷ text) = pick (eqb b 10) (since + 1 + gone room 0 text) (gone (suc room) (since + 1) text)

-- where a line ends
pub record LineEnd (s : List ℕ) (from r : ℕ) : Type 0 where
  pub low : from ≤ r
  pub high : r ≤ length s
  pub plain : (k : ℕ) → k < r → from ≤ k → get_or s k 0 ≡ 10 → ⊥
  pub feed : r < length s → get_or s r 0 ≡ 10
