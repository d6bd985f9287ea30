-- How turns follow one another. Assumes nothing.
use mathlib.Core.Path.{◌≡◌, refl, sym, ap, ◌∙◌}
use mathlib.Core.Bool.{Bool, true, false, not, ◌||◌}
use mathlib.Core.List.{List, [], ◌∷◌, ◌++◌, append-nil, append_assoc}
use mathlib.Core.Logic.{◌⊎◌, inl, inr}
use Prim.Native.Nat.{ℕ, ◌-◌, ◌^◌}
use native.Mathlib.Omega.{arith}
use lib.ListN.{length, take}
use lib.Seq.{take_all}
use Rattle.std.proofs.Math.Bool.{not-not}
use Rattle.std.proofs.lemmas.Bool.{not-false, or_parts}
use Rattle.std.specs.Prelude.{Option, IsNone, is_none}
use Rattle.std.specs.Io.KnownBytes.{Appends, Consumes}
use Rattle.rules.specs.Frames.{new_session}
use Rattle.rules.specs.declared.Session.{Session}
use Rattle.frames.specs.Course.{after}
use Rattle.frames.specs.Replies.{session_of}
use Rattle.recorder.specs.Course.{held_most, turn, turns, course, whole}
use Rattle.recorder.specs.Turns.{held, left, Turns, Goes, Ran}
use Rattle.recorder.specs.declared.Turned.{Turned}
use Rattle.recorder.proofs.Streams.{appends_on, reads, read_on}

-- one turn more
more : (s : Session) (line : List ℕ) (parts : List (List ℕ)) (part : List ℕ)
    → turns s line (parts ++ part ∷ [])
    ≡ record {
      session = (turn false (turns s line parts).session (turns s line parts).line part).session;
      line = take held_most (turn false (turns s line parts).session (turns s line parts).line part).line;
      text = (turns s line parts).text ++ (turn false (turns s line parts).session (turns s line parts).line part).text;
    }
unfolding turns
more s line [] part = rw append-nil
more s line (p ∷ parts) part =
    let w = turn false s line p in
    ap (after w.text) (more w.session (take held_most w.line) parts part) ∙ rw append_assoc

-- where the program stands after its turns went over some parts
pub record Stands (parts : List (List ℕ)) (r : Turned) (queue text : List ℕ) : Type 0 where
  pub session : session_of r.standing queue ≡ (course parts).session
  pub line : held r text ≡ (course parts).line

-- the next turn, and where the program stands after it if it is not the last
module _ (parts : List (List ℕ)) (part : List ℕ) (t r : Turned) (queue text queue' text' out : List ℕ) (k : Stands parts t queue text) where
  pub next_turn : (over : Bool) → Turns (turn over (session_of t.standing queue) (held t text) part) r queue' text' out
      → Turns (turn over (course parts).session (course parts).line part) r queue' text' out
  next_turn over w = rw (← k.session, ← k.line) w

  pub went_on : (over : Bool) → over ≡ false
      → Turns (turn over (session_of t.standing queue) (held t text) part) r queue' text' out
      → Stands (parts ++ part ∷ []) r queue' text'
  went_on false e w =
      let v = next_turn false w in
      record { session = rw (more new_session [] parts part) v.session; line = rw (more new_session [] parts part) v.line }
  went_on true e w = cc

  -- what is written after it, where all of its answers were handed on
  pub wrote_on : (over : Bool) → over ≡ false → r.handed.all ≡ true
      → Turns (turn over (session_of t.standing queue) (held t text) part) r queue' text' out
      → (course (parts ++ part ∷ [])).text ≡ (course parts).text ++ take r.handed.bytes out
  wrote_on false e a w =
      let v = next_turn false w in let x = turn false (course parts).session (course parts).line part in
      rw (more new_session [] parts part)
      (ap (λ (l : List ℕ). (course parts).text ++ l) (sym (v.said ∙ take_all r.handed.bytes x.text (omega (arith, v.handed.whole a)))))
  wrote_on true e a w = cc

-- a turn after those before it, on the input and on the output: where it is the last
module _ (parts : List (List ℕ)) (t r : Turned) (queue text came queue' text' out : List ℕ) (unread now rest log kept grown : Option (List ℕ))
    (k : Stands parts t queue text) (read : Consumes unread now (whole parts ++ left t text)) (wrote : Appends log kept (course parts).text)
    (g : Goes (session_of t.standing queue) (held t text) (left t text ++ came) r queue' text' out)
    (come : Consumes now rest came) (said : Appends kept grown (take r.handed.bytes out)) where
  pub ran : IsNone r.came ⊎ (r.handed.all ≡ false) ⊎ (length parts ≡ 2 ^ 64 - 1) → Ran r queue' text' out unread rest log grown
  ran cause = record {
    parts = parts;
    part = g.part;
    read = reads unread now rest parts g.part (left t text) came (left r text') g.whole read come;
    end = λ e. g.whole ∙ g.end e;
    wrote = appends_on log kept grown (course parts).text (take r.handed.bytes out) wrote said;
    last = next_turn parts g.part t r queue text queue' text' out k (is_none r.came) g.turns;
    cause = cause;
  }

  -- and where it is not
  pub on_read : Consumes unread rest (whole (parts ++ g.part ∷ []) ++ left r text')
  on_read = read_on unread rest parts g.part (left r text')
      (reads unread now rest parts g.part (left t text) came (left r text') g.whole read come)

  pub on_wrote : is_none r.came ≡ false → r.handed.all ≡ true → Appends log grown (course (parts ++ g.part ∷ [])).text
  on_wrote o a =
      rw (wrote_on parts g.part t r queue text queue' text' out k (is_none r.came) o a g.turns)
      (appends_on log kept grown (course parts).text (take r.handed.bytes out) wrote said)

-- why a turn is the last
pub why_last : (some over all : Bool) (P : Type 0) → some ≡ not over → (over || not all) ≡ true → (some ≡ false) ⊎ (all ≡ false) ⊎ P
why_last some true all P n e = inl n
why_last some false false P n e = inr (inl refl)
why_last some false true P n e = cc

-- and why one is not
pub why_on : (some over all : Bool) → some ≡ not over → (over || not all) ≡ false → (not some ≡ false) × (all ≡ true)
why_on some over all n e = let p = or_parts over (not all) e in (ap not n ∙ not-not over ∙ p.0, not-false all p.1)
