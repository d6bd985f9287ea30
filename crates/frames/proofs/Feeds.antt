-- Where a line ends, from what the library's searches say. Assumes nothing.
use Rattle.std.proofs.Common.{◌≡◌, ℕ, zero, suc, ◌+◌, ◌-◌, ◌*◌, ◌/◌, ◌<◌, ◌≤◌, Bool, true, false, ◌==◌, List, [], length, get_or, take, drop, Some, None, sym, ◌∙◌, arith, get_or-drop, get_or-take, length-take, length-drop}
use Rattle.std.specs.List.{list_any, position, position_or_len}
use Rattle.std.specs.Simd.{first_chunks}
use Rattle.std.proofs.lemmas.Grind.{common_steps}
use Rattle.std.proofs.lemmas.List.Folds.{list_any_at}
use Rattle.std.proofs.lemmas.List.Sums.{fails_before_first}
use Rattle.std.proofs.lemmas.List.Quantifiers.{position-Some}
use lib.Seq.{take_all}
use native.Mathlib.Decide.{dec_lt}
use Rattle.frames.specs.Course.{LineEnd}

abbrev feed : ℕ → Bool
feed b = b == 10

-- no line feed from one index up to another
abbrev pub Plain : List ℕ → ℕ → ℕ → Type 0
Plain s from to = (k : ℕ) → k < to → from ≤ k → get_or s k 0 ≡ 10 → ⊥

-- what stands from an index on
pub rest : (s : List ℕ) (from : ℕ) → take (length s - from) (drop from s) ≡ drop from s
rest s from = take_all (length s - from) (drop from s) (simp length-drop (omega arith))

at_index : (k n : ℕ) → (k < n → ⊥) → (n ≤ k → ⊥) → ⊥
at_index k n f g = go (dec_lt k n)
  where
    go : Dec (k < n) → ⊥
    go (yes h) = f h
    go (no h) = g (omega arith)

none_passes : {X : Type 0} (p : X → Bool) (xs : List X) → position p xs ≡ None → (k : ℕ) (d : X) → k < length xs → p (get_or xs k d) ≡ false
none_passes p xs e k d h =
    let all : length xs ≤ position_or_len p xs = grind (arith, common_steps) in fails_before_first p xs k d (omega arith)

not_ten : (b : ℕ) → (b == 10) ≡ false → b ≡ 10 → ⊥
not_ten b h e = let z : true ≡ false = rw e at h in cc z

clear : (xs : List ℕ) → list_any feed xs ≡ false → (k : ℕ) → k < length xs → get_or xs k 0 ≡ 10 → ⊥
clear xs h k lt e = let z : true ≡ false = sym (list_any_at feed xs k 0 lt (rw e)) ∙ h in cc z

behind : (s : List ℕ) (from n : ℕ) → ((k : ℕ) → k < n → get_or (drop from s) k 0 ≡ 10 → ⊥) → Plain s from (from + n)
behind s from n f k lt le e =
    let j : from + (k - from) ≡ k = omega arith in f (k - from) (omega arith) (rw (get_or-drop, j) e)

pub no_feed : (s : List ℕ) (i : ℕ) → i + 8 ≤ length s → list_any feed (take (i + 8 - i) (drop i s)) ≡ false → Plain s i (i + 8)
no_feed s i h f =
    let w : i + 8 - i ≡ 8 = omega arith in let g = rw w at f in
    behind s i 8 (λ k lt e. clear (take 8 (drop i s)) g k (simp (length-take, length-drop) (omega arith)) (get_or-take 8 (drop i s) k 0 lt ∙ e))

clear_eights : (i n : ℕ) (xs : List ℕ) → i ≤ n → n * 8 ≤ length xs
    → ((j : ℕ) → j < i → list_any feed (get_or (first_chunks 8 n xs) j []) ≡ false) → (k : ℕ) → k < 8 * i → get_or xs k 0 ≡ 10 → ⊥
clear_eights zero n xs a l f k lt e = absurd (omega arith)
clear_eights (suc i) zero xs a l f k lt e = absurd (omega arith)
clear_eights (suc i) (suc n) xs a l f k lt e =
    at_index k 8
    (λ h. clear (take 8 xs) (f 0 (omega arith)) k (simp length-take (omega arith)) (get_or-take 8 xs k 0 h ∙ e))
    (λ h. let j : 8 + (k - 8) ≡ k = omega arith in
    clear_eights i n (drop 8 xs) (omega arith) (simp length-drop (omega arith)) (λ m q. f (suc m) (omega arith)) (k - 8) (omega arith) (rw (get_or-drop, j) e))

-- what is passed over by eights: up to the first that has a line feed, or all of them
module _ (s : List ℕ) (from : ℕ) (h : from ≤ length s) (t : List ℕ) (r : t ≡ drop from s) (eights : List (List ℕ))
    (e : eights ≡ first_chunks 8 (length t / 8) t) (l : length eights ≡ length t / 8) where
  over : (i : ℕ) → i ≤ length eights → ((j : ℕ) → j < i → list_any feed (get_or eights j []) ≡ false)
      → (from ≤ from + 8 * i) × (from + 8 * i ≤ length s) × Plain s from (from + 8 * i)
  over i a f =
      let n : length t ≡ length s - from = rw r (length-drop from s) in
      let plain : (k : ℕ) → k < 8 * i → get_or t k 0 ≡ 10 → ⊥ = clear_eights i (length t / 8) t (omega arith) (omega arith) (rw e at f) in
      (omega arith, omega arith, behind s from (8 * i) (rw r at plain))

  pub some_eights : (i : ℕ) → position (list_any feed) eights ≡ Some i
      → (from ≤ from + 8 * i) × (from + 8 * i ≤ length s) × Plain s from (from + 8 * i)
  some_eights i q = let p = position-Some (list_any feed) eights i [] q in over i (omega (arith, p.0)) p.2

  pub all_eights : position (list_any feed) eights ≡ None
      → (from ≤ from + 8 * length eights) × (from + 8 * length eights ≤ length s) × Plain s from (from + 8 * length eights)
  all_eights q = over (length eights) (omega arith) (λ j. none_passes (list_any feed) eights q j [])

module _ (s : List ℕ) (from at : ℕ) (low : from ≤ at) (high : at ≤ length s) (plain : Plain s from at) (t : List ℕ) (r : t ≡ drop at s) where
  joined : (n : ℕ) → ((k : ℕ) → k < n → get_or t k 0 ≡ 10 → ⊥) → Plain s from (at + n)
  joined n f k lt le e = at_index k at (λ h. plain k h le e) (λ h. behind s at n (rw r at f) k lt h e)

  pub found : (i : ℕ) → position feed t ≡ Some i → LineEnd s from (at + i)
  found i e =
      let q = position-Some feed t i 0 e in let n : length t ≡ length s - at = rw r (length-drop at s) in
      let ten : get_or s (at + i) 0 ≡ 10 = sym (get_or-drop at s i 0) ∙ grind (arith, common_steps, q.1, r) in
      record { low = omega arith; high = omega (arith, q.0); plain = joined i (λ k lt. not_ten (get_or t k 0) (q.2 k lt)); feed = λ h. ten }

  pub not_found : position feed t ≡ None → LineEnd s from (length s)
  not_found e =
      let n : length t ≡ length s - at = rw r (length-drop at s) in let a : at + (length s - at) ≡ length s = omega arith in
      let all = joined (length s - at) (λ k lt. not_ten (get_or t k 0) (none_passes feed t e k 0 (omega arith))) in
      record { low = omega arith; high = omega arith; plain = rw a at all; feed = λ h. absurd (omega arith) }
