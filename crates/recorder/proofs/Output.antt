-- However the input is cut into parts, what is written is what the definitions say of the whole. Assumes nothing.
use mathlib.Core.Path.{◌≡◌, refl, sym, ap, subst, ◌∙◌}
use mathlib.Core.Bool.{Bool, true, false, not}
use mathlib.Core.List.{List, [], ◌∷◌, ◌++◌, append-nil, append_assoc}
use Prim.Native.Nat.{ℕ, ◌<◌, ◌≤◌}
use native.Mathlib.Decide.{dec_lt}
use native.Mathlib.Omega.{arith}
use lib.Dec.{eqb}
use lib.ListN.{length, take, length-take}
use lib.Seq.{append_snoc, take_all, take-append-le, take-take}
use Rattle.std.specs.Prelude.{Option, IsNone, is_none}
use Rattle.std.specs.Io.KnownBytes.{Appends, Consumes}
use Rattle.rules.specs.Tests.{pick}
use Rattle.rules.specs.Frames.{reply, new_session, last_text, lines_of, cut_at, joined_to, output, program}
use Rattle.rules.specs.declared.Reply.{Reply}
use Rattle.rules.specs.declared.Session.{Session}
use Rattle.frames.specs.Course.{Course, after, walk}
use Rattle.frames.proofs.Walking.{joined}
use Rattle.recorder.specs.Course.{held_most, turn, turns, course, answers, whole}
use Rattle.recorder.specs.Turns.{Turns, Ran, Served}
use Rattle.recorder.specs.declared.Turned.{Turned}
use Rattle.recorder.proofs.Alike.{reply_held}

-- there is always a last line
record Lines (lines : List (List ℕ)) : Type 0 where
  first : List ℕ
  rest : List (List ℕ)
  are : lines ≡ first ∷ rest

lines_of_lem : (d : List ℕ) → Lines (lines_of d)
unfolding lines_of cut_at
lines_of_lem [] = record { first = []; rest = []; are = refl }
lines_of_lem (b ∷ d) = go (eqb b 10) (lines_of_lem d)
  where
    go : (t : Bool) → Lines (lines_of d) → Lines (pick t ([] ∷ lines_of d) (joined_to b (lines_of d)))
    go true l = record { first = []; rest = lines_of d; are = refl }
    go false l = record { first = b ∷ l.first; rest = l.rest; are = ap (joined_to b) l.are }

-- a line that was begun, and the lines after it
begun : List ℕ → List (List ℕ) → List (List ℕ)
begun line [] = []
begun line (first ∷ rest) = (line ++ first) ∷ rest

module _ (s : Session) (line : List ℕ) where
  said_line : (lines : List (List ℕ)) → Lines lines
      → (reply s line).text ++ output (reply s line).session (begun [] lines) ≡ output s ((line ++ []) ∷ lines)
  unfolding begun output
  said_line lines l = rw (l.are, append-nil line)

  longer : (b : ℕ) (lines : List (List ℕ)) → Lines lines → begun (line ++ b ∷ []) lines ≡ begun line (joined_to b lines)
  unfolding begun
  longer b lines l = rw (l.are, append_snoc line b l.first)

-- what is written at the end of the input
final : Course → List ℕ
final w = w.text ++ last_text w.line

said : (s : Session) (line d : List ℕ) → final (walk s line d) ≡ output s (begun line (lines_of d))
unfolding final walk lines_of cut_at begun output
said s line [] = ap last_text (sym (append-nil line))
said s line (b ∷ d) = go (eqb b 10) (lines_of_lem d) (said (reply s line).session [] d) (said s (line ++ b ∷ []) d)
  where
    go : (t : Bool) → Lines (lines_of d)
        → final (walk (reply s line).session [] d) ≡ output (reply s line).session (begun [] (lines_of d))
        → final (walk s (line ++ b ∷ []) d) ≡ output s (begun (line ++ b ∷ []) (lines_of d))
        → final (pick t (after (reply s line).text (walk (reply s line).session [] d)) (walk s (line ++ b ∷ []) d))
        ≡ output s (begun line (pick t ([] ∷ lines_of d) (joined_to b (lines_of d))))
    go true l ended going =
        let r = reply s line in
        append_assoc r.text (walk r.session [] d).text (last_text (walk r.session [] d).line)
        ∙ ap (λ (t : List ℕ). r.text ++ t) ended ∙ said_line s line (lines_of d) l
    go false l ended going = going ∙ ap (output s) (longer s line b (lines_of d) l)

-- lines of which as much is alike as is held
Alike : List ℕ → List ℕ → Type 0
Alike p q = take held_most p ≡ take held_most q

held_front : (p x : List ℕ) → Dec (held_most < length p) → take held_most (take held_most p ++ x) ≡ take held_most (p ++ x)
held_front p x (yes l) =
    let k : held_most ≤ length (take held_most p) = simp length-take (omega arith) in let m : held_most ≤ length p = omega arith in
    take-append-le held_most (take held_most p) x k ∙ take-take held_most held_most p (omega arith) ∙ sym (take-append-le held_most p x m)
held_front p x (no l) = rw (take_all held_most p (omega arith))

alike_more : (p q x : List ℕ) → Alike p q → Alike (p ++ x) (q ++ x)
unfolding Alike
alike_more p q x e =
    sym (held_front p x (dec_lt held_most (length p))) ∙ ap (λ (l : List ℕ). take held_most (l ++ x)) e ∙ held_front q x (dec_lt held_most (length q))

alike_reply : (s : Session) (p q : List ℕ) → Alike p q → reply s p ≡ reply s q
unfolding Alike
alike_reply s p q e = sym (reply_held s p) ∙ ap (reply s) e ∙ reply_held s q

alike_last : (p q : List ℕ) → Alike p q → last_text p ≡ last_text q
unfolding Alike
alike_last [] [] e = refl
alike_last [] (y ∷ q) e = cc
alike_last (x ∷ p) [] e = cc
alike_last (x ∷ p) (y ∷ q) e = refl

alike : (s : Session) (p q d : List ℕ) → Alike p q → final (walk s p d) ≡ final (walk s q d)
unfolding walk final
alike s p q [] e = alike_last p q e
alike s p q (b ∷ d) e = go (eqb b 10) (alike s (p ++ b ∷ []) (q ++ b ∷ []) d (alike_more p q (b ∷ []) e))
  where
    go : (t : Bool) → final (walk s (p ++ b ∷ []) d) ≡ final (walk s (q ++ b ∷ []) d)
        → final (pick t (after (reply s p).text (walk (reply s p).session [] d)) (walk s (p ++ b ∷ []) d))
        ≡ final (pick t (after (reply s q).text (walk (reply s q).session [] d)) (walk s (q ++ b ∷ []) d))
    go true going = ap (λ (r : Reply). final (after r.text (walk r.session [] d))) (alike_reply s p q e)
    go false going = going

-- the turns in a row, and the end of the input after them
in_turns : (s : Session) (line : List ℕ) (parts : List (List ℕ)) → final (turns s line parts) ≡ final (walk s line (whole parts))
unfolding turns walk final Alike
in_turns s line [] = refl
in_turns s line (part ∷ parts) =
    let w = walk s line part in let t = turns w.session (take held_most w.line) parts in
    append_assoc w.text t.text (last_text t.line)
    ∙ ap (λ (t : List ℕ). w.text ++ t) (in_turns w.session (take held_most w.line) parts
    ∙ alike w.session (take held_most w.line) w.line (whole parts) (capped w.line))
    ∙ rw (joined s line part (whole parts), append_assoc)
  where
    capped : (p : List ℕ) → Alike (take held_most p) p
    capped p = take-take held_most held_most p (omega arith)

-- the texts of the turns, one for each read, and the text of the end are together what the definitions say of the whole input
pub answers_program : (parts : List (List ℕ)) → answers parts ≡ program (whole parts)
unfolding begun final
answers_program parts = in_turns new_session [] parts ∙ said new_session [] (whole parts) ∙ ap (output new_session) (none (lines_of (whole parts)) (lines_of_lem (whole parts)))
  where
    none : (lines : List (List ℕ)) → Lines lines → begun [] lines ≡ lines
    none lines l = rw l.are

-- what a last turn handed on at the end of the input
last_text_lem : (over : Bool) (s : Session) (line part : List ℕ) (r : Turned) (queue left out : List ℕ) → over ≡ true → r.handed.all ≡ true
    → Turns (turn over s line part) r queue left out → take r.handed.bytes out ≡ last_text line
last_text_lem true s line part r queue held out e a t =
    t.said ∙ take_all r.handed.bytes (last_text line) (omega (arith, t.handed.whole a))
last_text_lem false s line part r queue held out e a t = cc

-- a run that ended with the input, and whose writes took all, has handed on what the definitions say of the whole input
module _ (r : Turned) (queue text out : List ℕ) (unread rest log grown : Option (List ℕ)) (k : Ran r queue text out unread rest log grown)
    (e : IsNone r.came) (a : r.handed.all ≡ true) where
  pub ran_program : (course k.parts).text ++ take r.handed.bytes out ≡ program (whole k.parts)
  ran_program =
      let c = course k.parts in
      ap (λ (t : List ℕ). c.text ++ t) (last_text_lem (is_none r.came) c.session c.line k.part r queue text out (ap not e) a k.last)
      ∙ answers_program k.parts

  pub served : Served unread rest log grown
  served = record {
    input = whole k.parts;
    read = subst (λ (x : List ℕ). Consumes unread rest x) (ap (λ (x : List ℕ). whole k.parts ++ x) (k.end e) ∙ append-nil (whole k.parts)) k.read;
    wrote = subst (λ (x : List ℕ). Appends log grown x) ran_program k.wrote;
  }
