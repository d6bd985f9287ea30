-- A line and as much of it as is held are read alike; what a last line that is not empty is answered. Assumes nothing.
use mathlib.Core.Path.{◌≡◌, refl, ap}
use mathlib.Core.List.{List, [], ◌∷◌}
use Prim.Native.Nat.{ℕ, ◌<◌}
use native.Mathlib.Decide.{dec_lt}
use native.Mathlib.Omega.{arith}
use lib.ListN.{length, take}
use lib.Seq.{take_all, length-take-le}
use borrow.Author.Tests.{lt-ltb}
use Rattle.rules.specs.Frames.{read_line, reply, reading_reply, last_text, answer_line}
use Rattle.rules.specs.declared.Refusal.TheVariants.{IllFormed}
use Rattle.rules.specs.declared.Session.{Session}
use Rattle.recorder.specs.Course.{held_most}
use Rattle.rules.specs.declared.Frame.{Frame}
use Rattle.std.specs.Prelude.{Option, Err}

-- a line and as much of it as is held are read alike
read_held : (line : List ℕ) → Dec (held_most < length line) → read_line (take held_most line) ≡ read_line line
unfolding read_line
read_held line (yes l) =
    let e : length (take held_most line) ≡ held_most = length-take-le held_most line (omega arith) in
    rw (e, lt-ltb 80 (length line) (omega arith))
read_held line (no l) = rw (take_all held_most line (omega arith))

pub reply_held : (s : Session) (line : List ℕ) → reply s (take held_most line) ≡ reply s line
reply_held s line = ap (λ (r : Option Frame). reading_reply s r) (read_held line (dec_lt held_most (length line)))

-- the answer to a last line that is not empty
pub last_some : (line : List ℕ) → 0 < length line → last_text line ≡ answer_line (Err IllFormed)
last_some [] e = absurd (omega arith)
last_some (b ∷ line) e = refl
