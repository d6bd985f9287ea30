-- How the known bytes of a reader and of a writer add up, one call after another. Assumes nothing.
use Rattle.std.proofs.Common.{◌≡◌, ℕ, ◌+◌, List, [], ◌∷◌, ◌++◌, length, take, drop, refl, sym, ap, ◌∙◌, append-nil, append_assoc, arith}
use Rattle.std.proofs.Math.Seq.{take-add}
use Rattle.std.specs.Prelude.{Option, Some, None, Result, Ok, Err, unwrap_or}
use Rattle.std.specs.Io.{WritesAtMost}
use Rattle.std.specs.Io.KnownBytes.{Appends, Consumes, WriteAppends}
use Rattle.std.specs.declared.io.Error.{Error}
use Rattle.recorder.specs.Course.{whole}
use Rattle.recorder.specs.Turns.{Moves}

pub appends_none : (x : Option (List ℕ)) → Appends x x []
appends_none None = tt
appends_none (Some xs) = sym (append-nil xs)

pub appends_on : (x y z : Option (List ℕ)) (p q : List ℕ) → Appends x y p → Appends y z q → Appends x z (p ++ q)
appends_on None y z p q h k = tt
appends_on (Some xs) None z p q h k = absurd h
appends_on (Some xs) (Some ys) None p q h k = absurd k
appends_on (Some xs) (Some ys) (Some zs) p q h k = k ∙ ap (λ (l : List ℕ). l ++ q) h ∙ append_assoc xs p q

pub consumes_none : (x : Option (List ℕ)) → Consumes x x []
consumes_none None = tt
consumes_none (Some xs) = refl

pub consumes_on : (x y z : Option (List ℕ)) (p q : List ℕ) → Consumes x y p → Consumes y z q → Consumes x z (p ++ q)
consumes_on None y z p q h k = tt
consumes_on (Some xs) None z p q h k = absurd h
consumes_on (Some xs) (Some ys) None p q h k = absurd k
consumes_on (Some xs) (Some ys) (Some zs) p q h k = h ∙ ap (λ (l : List ℕ). p ++ l) k ∙ sym (append_assoc p q zs)

-- what a write took
taken : (answer : Result ℕ Error) (text : List ℕ) (r : Option ℕ) (x y : Option (List ℕ)) → Moves answer (length text) r → WritesAtMost answer text
    → WriteAppends x y answer text → Appends x y (take (unwrap_or r 0) text)
taken (Ok k) text r x y m b w = let e : unwrap_or r 0 ≡ k = omega (arith, m.bytes, b) in rw e w
taken (Err e) text r None y m b w = tt
taken (Err e) text r (Some xs) None m b w = absurd w
taken (Err e) text r (Some xs) (Some ys) m b w = rw m.bytes (w ∙ sym (append-nil xs))

-- a write behind what has been written of a text
module _ (answer : Result ℕ Error) (text : List ℕ) (done n : ℕ) (r : Option ℕ) (x y z : Option (List ℕ)) where
  pub written : r ≡ Some n → (rest : List ℕ) → rest ≡ drop done text → Appends x y (take done text) → Moves answer (length rest) r → WritesAtMost answer rest
      → WriteAppends y z answer rest → Appends x z (take (done + n) text)
  written i rest e a m b w =
      let u : unwrap_or r 0 ≡ n = ap (λ (r : Option ℕ). unwrap_or r 0) i in
      rw (← u, take-add done (unwrap_or r 0) text, ← e) (appends_on x y z (take done text) (take (unwrap_or r 0) rest) a (taken answer rest r y z m b w))

-- the parts of the input before a turn, what was left of them, and what a read brought
pub reads : (x y z : Option (List ℕ)) (parts : List (List ℕ)) (part before came after : List ℕ) → part ++ after ≡ before ++ came
    → Consumes x y (whole parts ++ before) → Consumes y z came → Consumes x z (whole parts ++ (part ++ after))
reads x y z parts part before came after e h k =
    rw (e, ← append_assoc (whole parts) before came) (consumes_on x y z (whole parts ++ before) came h k)

whole_on : (parts : List (List ℕ)) (part : List ℕ) → whole (parts ++ part ∷ []) ≡ whole parts ++ part
whole_on [] part = append-nil part
whole_on (p ∷ parts) part = ap (λ (l : List ℕ). p ++ l) (whole_on parts part) ∙ sym (append_assoc p (whole parts) part)

pub read_on : (x y : Option (List ℕ)) (parts : List (List ℕ)) (part after : List ℕ) → Consumes x y (whole parts ++ (part ++ after))
    → Consumes x y (whole (parts ++ part ∷ []) ++ after)
read_on x y parts part after h = rw (whole_on parts part, append_assoc) h
