-- How a walk over the text is a turn over what has come. Assumes nothing.
use mathlib.Core.Path.{◌≡◌, refl, sym, ap, ◌∙◌}
use mathlib.Core.Bool.{Bool, true, false, not}
use mathlib.Core.List.{List, [], ◌++◌, append-nil}
use Prim.Native.Nat.{ℕ, ◌+◌, ◌-◌, ◌<◌, ◌≤◌}
use native.Mathlib.Decide.{dec_lt}
use native.Mathlib.Omega.{arith}
use lib.Dec.{ltb}
use lib.ListN.{length, take, drop, length-take, length-drop, take-append-drop}
use lib.Seq.{take_all, take-take, take-append-le, take-append-add, drop-append-add, length-take-le, get_or-take}
use Rattle.std.proofs.lemmas.Bool.{both_ways, true≢false, ltb-true, ltb-false}
use Rattle.std.specs.Prelude.{Option, Some, None, is_none, unwrap_or}
use Rattle.rules.specs.Tests.{pick}
use Rattle.rules.specs.Frames.{last_text}
use Rattle.rules.specs.declared.Session.{Session}
use Rattle.frames.specs.Course.{Course, after, walk}
use Rattle.frames.specs.Replies.{session_of}
use Rattle.frames.specs.Walks.{Walks}
use Rattle.frames.specs.declared.text.Walked.{Walked}
use Rattle.frames.proofs.Walking.{NoFeed, joined, over}
use Rattle.recorder.specs.Course.{held_most, kept}
use Rattle.recorder.specs.Turns.{Brings, Hands, Ends, Answers, no_room, held, left, Ready, Goes}
use Rattle.recorder.specs.declared.Handed.{Handed}
use Rattle.recorder.specs.declared.Turned.{Turned}

-- a walk over a line that is held and what has come behind it
module _ (s : Session) (line came : List ℕ) (f : NoFeed line) (w : Walked) (queue before out : List ℕ) (k : Walks s (line ++ came) w queue before out) where
  -- all has room: the rest is the line that has not ended
  pub all_gone : NoFeed (drop w.from (line ++ came))
      → walk s line came ≡ record { session = session_of w.standing queue; line = drop w.from (line ++ came); text = take w.at out }
  unfolding walk
  all_gone g =
      let d = line ++ came in let rest = drop w.from d in
      sym (over s [] line came f)
      ∙ ap (walk s []) (sym (take-append-drop w.from d))
      ∙ joined s [] (take w.from d) rest
      ∙ rw k.course (ap (λ (x : List ℕ). after (take w.at out) (walk (session_of w.standing queue) [] x)) (sym (append-nil rest))
      ∙ ap (after (take w.at out)) (over (session_of w.standing queue) [] rest [] g)
      ∙ rw append-nil)

  -- an answer went out: its line feed is behind the line that was held
  pub line_gone : 0 < w.at → length line ≤ w.from
  unfolding walk
  line_gone h = go (dec_lt w.from (length line))
    where
      go : Dec (w.from < length line) → length line ≤ w.from
      go (no l) = omega arith
      go (yes l) =
          let p = take w.from line in
          let q : NoFeed p = λ i m e. let n = length-take-le w.from line (omega arith) in f i (omega arith) (sym (get_or-take w.from line i 0 (omega arith)) ∙ e) in
          let c = sym k.course ∙ ap (walk s []) (take-append-le w.from line came (omega arith) ∙ sym (append-nil p)) ∙ over s [] p [] q in
          let t = ap (λ (x : Course). length x.text) c in
          let n = length-take-le w.at out k.room in
          absurd (omega arith)

  -- some had no room: all that was gone over is lines
  pub some_gone : length line ≤ w.from
      → walk s line (take (w.from - length line) came) ≡ record { session = session_of w.standing queue; line = []; text = take w.at out }
  some_gone h =
      let i : length line + (w.from - length line) ≡ w.from = omega arith in
      sym (over s [] line (take (w.from - length line) came) f)
      ∙ ap (walk s []) (sym (take-append-add line came (w.from - length line)) ∙ ap (λ (n : ℕ). take n (line ++ came)) i)
      ∙ k.course

-- what is held and what is left are all that has not been answered
in_two : (r : Turned) (text new : List ℕ) → held r text ++ (left r text ++ new) ≡ text ++ new
in_two r text new = go r.more
  where
    go : (more : Bool) → pick more [] text ++ (pick more text [] ++ new) ≡ text ++ new
    go true = refl
    go false = refl

no_feed : (r : Turned) (text : List ℕ) → (r.more ≡ false → NoFeed text) → NoFeed (held r text)
no_feed r text f = go r.more f
  where
    go : (more : Bool) → (more ≡ false → NoFeed text) → NoFeed (pick more [] text)
    go true f = λ k h e. absurd (omega arith)
    go false f = f refl

-- what the writes took of the answers, which stand at the start of the output
handed : (h : Handed) (at : ℕ) (out said : List ℕ) → at ≤ length out → take at out ≡ said → Hands (take at out) h
    → Hands said h × (take h.bytes out ≡ take h.bytes said)
handed h at out said k e t =
    let n : length (take at out) ≡ at = length-take-le at out k in
    (rw (← e) t, sym (take-take h.bytes at out (omega (arith, t.some))) ∙ ap (take h.bytes) e)

-- a turn that is not the last
module _ (s : Session) (line came : List ℕ) (f : NoFeed line) (w : Walked) (queue before out : List ℕ) (k : Walks s (line ++ came) w queue before out)
    (fits : length (line ++ came) ≤ held_most + 8192) (moved : Option ℕ) (h : Handed) (t : Hands (take w.at out) h) (long : 33 ≤ length before)
    (over : is_none moved ≡ false) where
  abbrev pub turned : Bool → Turned
  turned more = record { standing = w.standing; more = more; came = moved; handed = h }

  goes_all : NoFeed (drop w.from (line ++ came)) → Goes s line came (turned false) queue (take held_most (drop w.from (line ++ came))) out
  unfolding walk
  goes_all g =
      let d = drop w.from (line ++ came) in let u = handed h w.at out (take w.at out) k.room refl t in
      record {
        part = came;
        whole = append-nil came;
        turns = rw (over, all_gone s line came f w queue before out k g) record { session = refl; line = refl; handed = u.0; said = u.1 };
        ready = record { most = simp length-take (omega arith); room = λ z. simp length-take (omega arith); plain = λ z. front_plain d g };
        end = λ z. absurd (both_ways (is_none moved) over (ap not z));
      }
    where
      front_plain : (d : List ℕ) → NoFeed d → NoFeed (take held_most d)
      front_plain d g i j z = let v = simp length-take at j in g i (omega arith) (sym (get_or-take held_most d i 0 (omega arith)) ∙ z)

  goes_some : 0 < w.at → Goes s line came (turned true) queue (drop w.from (line ++ came)) out
  goes_some a =
      let l = line_gone s line came f w queue before out k a in let u = handed h w.at out (take w.at out) k.room refl t in
      let i : length line + (w.from - length line) ≡ w.from = omega arith in
      let x : drop w.from (line ++ came) ≡ drop (w.from - length line) came =
      ap (λ (j : ℕ). drop j (line ++ came)) (sym i) ∙ drop-append-add line came (w.from - length line) in
      record {
        part = take (w.from - length line) came;
        whole = rw x (take-append-drop (w.from - length line) came);
        turns = rw (over, some_gone s line came f w queue before out k l) record { session = refl; line = refl; handed = u.0; said = u.1 };
        ready = record { most = simp length-drop (omega arith); room = λ z. absurd (true≢false z); plain = λ z. absurd (true≢false z) };
        end = λ z. absurd (both_ways (is_none moved) over (ap not z));
      }

  pub goes : (more : Bool) → more ≡ ltb (length before - w.at) 33 → Goes s line came (turned more) queue (kept more (drop w.from (line ++ came))) out
  goes true b = let l = ltb-true (length before - w.at) 33 (sym b) in goes_some (omega arith)
  goes false b = let l = ltb-false (length before - w.at) 33 (sym b) in goes_all (k.all l)

-- the turn at the end of the input
goes_last : (s : Session) (line : List ℕ) (w : Walked) (queue out : List ℕ) → Ends s line w queue out → length line ≤ held_most → NoFeed line
    → (moved : Option ℕ) (h : Handed) → Hands (take w.at out) h → is_none moved ≡ true
    → Goes s line [] (record { standing = w.standing; more = false; came = moved; handed = h }) queue (take held_most (drop w.from line)) out
goes_last s line w queue out k l f moved h t over =
    let u = handed h w.at out (last_text line) k.room k.text t in let x : take held_most line ≡ line = take_all held_most line l in
    rw (k.from, x) record {
      part = [];
      whole = refl;
      turns = rw over record { session = k.session; line = sym x; handed = u.0; said = u.1 };
      ready = record { most = omega arith; room = λ z. l; plain = λ z. f };
      end = λ z. refl;
    }

-- the last read moved nothing
none_moved : (moved : Option ℕ) (chunk : List ℕ) → is_none moved ≡ true → take (unwrap_or moved 0) chunk ≡ []
none_moved None chunk e = refl
none_moved (Some n) chunk e = cc

-- a turn over what was left and what was brought
module _ (s : Session) (before : Turned) (moved : Option ℕ) (h : Handed) (w : Walked) (text chunk queue out₀ out : List ℕ)
    (ready : Ready before text) (brings : Brings before.more (length chunk) moved)
    (fits : length (text ++ take (unwrap_or moved 0) chunk) ≤ held_most + 8192) (t : Hands (take w.at out) h) (long : 33 ≤ length out₀) where
  abbrev pub new : List ℕ
  new = take (unwrap_or moved 0) chunk

  two : text ++ new ≡ held before text ++ (left before text ++ new)
  two = sym (in_two before text new)

  last_turn : (m : Bool) → before.more ≡ m → is_none moved ≡ true → Ends s (text ++ new) w queue out
      → Goes s (held before text) (left before text ++ new) (record { standing = w.standing; more = false; came = moved; handed = h }) queue
      (kept false (drop w.from (text ++ new))) out
  last_turn true e o a = absurd (both_ways (is_none moved) (ap is_none (rw e at brings)) o)
  last_turn false e o a =
      let z = none_moved moved chunk o in let b = rw (z, append-nil) at a in
      rw (e, z, append-nil) (goes_last s text w queue out b (ready.room e) (ready.plain e) moved h t o)

  pub turns_on : (over more : Bool) → is_none moved ≡ over → Answers over s (text ++ new) w queue out₀ out → more ≡ no_room over (length out₀) w.at
      → Goes s (held before text) (left before text ++ new) (record { standing = w.standing; more = more; came = moved; handed = h }) queue
      (kept more (drop w.from (text ++ new))) out
  turns_on false more o a b =
      rw two (goes s (held before text) (left before text ++ new) (no_feed before text ready.plain) w queue out₀ out (rw two at a) (rw two at fits) moved h t long o more b)
  turns_on true more o a b = rw b (last_turn before.more refl o a)

-- there is room for what was brought
pub room_for : (before : Turned) (text : List ℕ) (n : ℕ) (moved : Option ℕ) → Ready before text → Brings before.more n moved → n ≤ 8192
    → length text + unwrap_or moved 0 ≤ held_most + 8192
room_for before text n moved r b e = go before.more r.room b
  where
    go : (more : Bool) → (more ≡ false → length text ≤ held_most) → Brings more n moved → length text + unwrap_or moved 0 ≤ held_most + 8192
    go true f b = let z = ap (λ (x : Option ℕ). unwrap_or x 0) b in let m = r.most in omega arith
    go false f b = let m = f refl in let k = b.1.room in omega arith
