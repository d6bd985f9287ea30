-- How a walk goes over the lines of a text. Assumes nothing.
use mathlib.Core.Path.{◌≡◌, refl, sym, ap, ◌∙◌}
use mathlib.Core.Bool.{Bool, true, false, ◌&&◌}
use mathlib.Core.List.{List, [], ◌∷◌, ◌++◌, append-nil, append_assoc}
use mathlib.Core.Logic.{◌⊎◌, inl, inr}
use Prim.Native.Nat.{ℕ, zero, suc, ◌+◌, ◌-◌, ◌/◌, ◌<◌, ◌≤◌}
use native.Mathlib.Nat.{add-zero}
use native.Mathlib.Omega.{arith}
use lib.Dec.{eqb, ltb, leb}
use lib.ListN.{length, take, drop, get_or, length-drop}
use lib.Seq.{append_snoc, take-suc, take-add, split_at, length-take-le, get_or-take, get_or-drop, drop-drop}
use borrow.Author.Tests.{ne_eqb, ltb-true, ltb-false, leb-true, leb-false}
use Rattle.rules.specs.Tests.{pick}
use Rattle.rules.specs.Frames.{answer_line, reply}
use Rattle.rules.specs.declared.Reply.{Reply}
use Rattle.rules.specs.declared.Refusal.{Refusal}
use Rattle.rules.specs.declared.Session.{Session}
use Rattle.frames.specs.Replies.{Replies, replied, session_of}
use Rattle.frames.specs.declared.session.Replied.{Replied}
use Rattle.frames.specs.declared.session.Standing.{Standing}
use Rattle.frames.specs.Course.{Course, after, walk, gone, LineEnd}
use Rattle.std.specs.Prelude.{Result}
use Rattle.std.proofs.lemmas.Slice.{take-put_mid, drop-put_mid}
use borrow.Rule.Slice.PartMut.{mid_of, put_mid}

-- what the tests of the loop tell: there are characters left and room for an answer, or one of them is not
pub goes_on : (from n left : ℕ) → ltb from n && leb 33 left ≡ true → (from < n) × (33 ≤ left)
goes_on from n left e = go (ltb from n) (leb 33 left) (ltb-true from n) (leb-true 33 left) e
  where
    go : (a b : Bool) → (a ≡ true → from < n) → (b ≡ true → 33 ≤ left) → a && b ≡ true → (from < n) × (33 ≤ left)
    go true b f g e = (f refl, g e)
    go false b f g e = (f e, g cc)

pub stops : (from n left : ℕ) → ltb from n && leb 33 left ≡ false → (n ≤ from) ⊎ (left / 33 ≡ 0)
stops from n left e = go (ltb from n) (leb 33 left) (ltb-false from n) (leb-false 33 left) e
  where
    go : (a b : Bool) → (a ≡ false → n ≤ from) → (b ≡ false → left < 33) → a && b ≡ false → (n ≤ from) ⊎ (left / 33 ≡ 0)
    go true b f g e = let h = g e in inr (omega arith)
    go false b f g e = inl (f refl)

-- the standing and the queue are those of a reply, and its line was put at an index
pub record Put (p : Reply) (r : Standing) (queue before : List ℕ) (at : ℕ) (out : List ℕ) : Type 0 where
  pub session : session_of r queue ≡ p.session
  pub text : take (at + 33) out ≡ take at before ++ p.text
  pub rest : drop (at + 33) out ≡ drop (at + 33) before

pub put : (p : Reply) (s : Standing) (r : Result Replied Refusal) (queue before room : List ℕ) (at : ℕ)
    → Replies p s r queue → room ≡ answer_line (replied s r).answer → length room ≡ length (mid_of at (at + 33 - at) before) → at + 33 ≤ length before
    → Put p (replied s r).standing queue before at (put_mid at (at + 33 - at) before room)
put p s r queue before room at g e n h =
    let k : length room ≡ at + 33 - at = omega (arith, n, length-take-le (at + 33 - at) (drop at before) (omega (arith, length-drop at before))) in
    record {
      session = g.session;
      text = take-put_mid at (at + 33 - at) before room (at + 33) (omega arith) (omega arith) ∙ ap (λ (t : List ℕ). take at before ++ t) (e ∙ g.text);
      rest = drop-put_mid at (at + 33 - at) before room (at + 33) (omega arith) (omega arith) k;
    }

-- a text in two parts
pub joined : (s : Session) (line a d : List ℕ)
    → walk s line (a ++ d) ≡ after (walk s line a).text (walk (walk s line a).session (walk s line a).line d)
unfolding walk
joined s line [] d = refl
joined s line (b ∷ a) d = go (eqb b 10) (joined (reply s line).session [] a d) (joined s (line ++ b ∷ []) a d)
  where
    at : (t : Bool) → List ℕ → Course
    at t x = pick t (after (reply s line).text (walk (reply s line).session [] x)) (walk s (line ++ b ∷ []) x)

    Joined : Session → List ℕ → Type 0
    Joined s line = walk s line (a ++ d) ≡ after (walk s line a).text (walk (walk s line a).session (walk s line a).line d)

    go : (t : Bool) → Joined (reply s line).session [] → Joined s (line ++ b ∷ []) → at t (a ++ d) ≡ after (at t a).text (walk (at t a).session (at t a).line d)
    go true ended going = rw (ended, append_assoc)
    go false ended going = going

-- no character is a line feed
abbrev pub NoFeed : List ℕ → Type 0
NoFeed d = (k : ℕ) → k < length d → get_or d k 0 ≡ 10 → ⊥

-- such characters are added to the line
pub over : (s : Session) (line l d : List ℕ) → NoFeed l → walk s line (l ++ d) ≡ walk s (line ++ l) d
unfolding walk
over s line [] d f = ap (λ (x : List ℕ). walk s x d) (sym (append-nil line))
over s line (b ∷ l) d f =
    rw (ne_eqb b 10 (f 0 (omega arith)))
    (over s (line ++ b ∷ []) l d (λ k h. f (suc k) (omega arith)) ∙ ap (λ (x : List ℕ). walk s x d) (append_snoc line b l))

gone_over : (room since : ℕ) (l d : List ℕ) → NoFeed l → gone (suc room) since (l ++ 10 ∷ d) ≡ since + length l + 1 + gone room 0 d
unfolding gone
gone_over room since [] d f = rw add-zero
gone_over room since (b ∷ l) d f =
    rw (ne_eqb b 10 (f 0 (omega arith))) (gone_over room (since + 1) l d (λ k h. f (suc k) (omega arith)) ∙ omega arith)

pub gone_none : (room since : ℕ) (d : List ℕ) → NoFeed d → gone room since d ≡ 0
unfolding gone
gone_none zero since d f = refl
gone_none (suc room) since [] f = refl
gone_none (suc room) since (b ∷ d) f =
    rw (ne_eqb b 10 (f 0 (omega arith))) (gone_none (suc room) (since + 1) d (λ k h. f (suc k) (omega arith)))

-- no more is gone over than there is
pub gone_most : (room since : ℕ) (d : List ℕ) → gone room since d ≤ since + length d
unfolding gone
gone_most zero since d = omega arith
gone_most (suc room) since [] = omega arith
gone_most (suc room) since (b ∷ d) = go (eqb b 10) (gone_most room 0 d) (gone_most (suc room) (since + 1) d)
  where
    go : (t : Bool) → gone room 0 d ≤ 0 + length d → gone (suc room) (since + 1) d ≤ since + 1 + length d
        → pick t (since + 1 + gone room 0 d) (gone (suc room) (since + 1) d) ≤ since + length (b ∷ d)
    go true h k = omega arith
    go false h k = omega arith

module _ (text : List ℕ) (from end : ℕ) (e : LineEnd text from end) where
  plain : NoFeed (take (end - from) (drop from text))
  plain k h q =
      let n : length (take (end - from) (drop from text)) ≡ end - from = length-take-le (end - from) (drop from text) (simp length-drop (omega (arith, e.high))) in
      e.plain (from + k) (omega arith) (omega arith)
      (sym (get_or-drop from text k 0) ∙ sym (get_or-take (end - from) (drop from text) k 0 (omega arith)) ∙ q)

  -- what is left has no line feed
  pub unended : end ≡ length text → NoFeed (drop from text)
  unended h k l q = let i = simp length-drop at l in e.plain (from + k) (omega arith) (omega arith) (sym (get_or-drop from text k 0) ∙ q)

  module _ (h : end < length text) where
    feed : get_or (drop from text) (end - from) 0 ≡ 10
    feed =
        let i : from + (end - from) ≡ end = omega (arith, e.low) in
        get_or-drop from text (end - from) 0 ∙ ap (λ (k : ℕ). get_or text k 0) i ∙ e.feed h

    within : end - from < length (drop from text)
    within = simp length-drop (omega (arith, e.low))

    -- the line, its line feed, and what comes after it
    ends : drop from text ≡ take (end - from) (drop from text) ++ 10 ∷ drop (end + 1) text
    ends =
        let i : from + suc (end - from) ≡ end + 1 = omega (arith, e.low) in
        split_at (drop from text) (end - from) 0 within
        ∙ rw (feed, drop-drop (suc (end - from)) from text, i)

    upto : take (end + 1) text ≡ take from text ++ (take (end - from) (drop from text) ++ 10 ∷ [])
    upto =
        let i : end + 1 ≡ from + suc (end - from) = omega (arith, e.low) in
        ap (λ (n : ℕ). take n text) i ∙ take-add from (suc (end - from)) text
        ∙ ap (λ (l : List ℕ). take from text ++ l) (take-suc (drop from text) (end - from) 0 within ∙ rw feed)

    -- a line more
    one_more_lem : (s₀ s : Session) (before : List ℕ) → walk s₀ [] (take from text) ≡ record { session = s; line = []; text = before }
        → walk s₀ [] (take (end + 1) text)
        ≡ record {
          session = (reply s (take (end - from) (drop from text))).session;
          line = [];
          text = before ++ (reply s (take (end - from) (drop from text))).text;
        }
    unfolding walk
    one_more_lem s₀ s before w =
        let l = take (end - from) (drop from text) in
        ap (walk s₀ []) upto ∙ joined s₀ [] (take from text) (l ++ 10 ∷ []) ∙ rw (w, over s [] l (10 ∷ []) plain, append-nil)

    pub gone_on : (room : ℕ) → gone (suc room) 0 (drop from text) ≡ end + 1 - from + gone room 0 (drop (end + 1) text)
    gone_on room =
        let l = take (end - from) (drop from text) in
        let n : length l ≡ end - from = length-take-le (end - from) (drop from text) (omega (arith, within)) in
        ap (gone (suc room) 0) ends ∙ gone_over room 0 l (drop (end + 1) text) plain ∙ omega (arith, e.low)

    pub went : (s₀ s : Session) (r : Standing) (queue before : List ℕ) (at : ℕ) (out : List ℕ)
        → walk s₀ [] (take from text) ≡ record { session = s; line = []; text = take at before }
        → Put (reply s (take (end - from) (drop from text))) r queue before at out
        → walk s₀ [] (take (end + 1) text) ≡ record { session = session_of r queue; line = []; text = take (at + 33) out }
    went s₀ s r queue before at out w p = one_more_lem s₀ s (take at before) w ∙ rw (p.session, p.text)

-- nothing more is gone over where no character is left, or no room
pub gone_last : (text : List ℕ) (from room : ℕ) → (length text ≤ from) ⊎ (room ≡ 0) → gone room 0 (drop from text) ≡ 0
unfolding gone
gone_last text from room (inl h) = gone_none room 0 (drop from text) (λ k l q. let i = simp length-drop at l in omega arith)
gone_last text from room (inr e) = rw e

pub all_gone : (text : List ℕ) (from left : ℕ) → (length text ≤ from) ⊎ (left / 33 ≡ 0) → 33 ≤ left → NoFeed (drop from text)
all_gone text from left (inl h) r k l q = let i = simp length-drop at l in omega arith
all_gone text from left (inr e) r k l q = omega arith
