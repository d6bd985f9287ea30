-- A number is its digits' weights summed, limited to 2^32. Assumes nothing.
use mathlib.Core.Path.{◌≡◌, refl, sym}
use mathlib.Core.List.{List}
use Prim.Native.Nat.{ℕ, zero, suc, ◌+◌, ◌-◌, ◌*◌, ◌<◌, ◌≤◌, ◌^◌}
use native.Mathlib.Decide.{dec_lt}
use native.Mathlib.Nat.{add-zero}
use native.Mathlib.Omega.{arith}
use lib.ListN.{get_or}
use borrow.Author.Tests.{lt-ltb, le-ltb}
use Rattle.std.proofs.lemmas.Bool.Decides.{nat_tests}
use Rattle.rules.specs.Tests.{◌and◌}
use Rattle.rules.specs.Frames.{digit, joined, hex, no_number}
use Rattle.frames.specs.Weights.{weight, sum, limited, Weighs}

-- a weight is at most that of a byte that is no digit
most : (b : ℕ) → weight b ≤ 2 ^ 32
unfolding weight
most b = grind (arith, nat_tests)

-- a byte's weight in a table of all
pub weighs_at : (t : List ℕ) (b : ℕ) → Weighs t → b < 256 → (get_or t b 0 ≡ weight b) × (get_or t b 0 ≤ 2 ^ 32)
weighs_at t b w h = (w.each b h, rw (w.each b h) (most b))

-- what so many digits weigh at most
reach : ℕ → ℕ
reach zero = 0
reach (suc k) = reach k * 16 + 2 ^ 32

sum_most : (line : List ℕ) (from k : ℕ) → sum line from k ≤ reach k
unfolding sum reach
sum_most line from zero = omega arith
sum_most line from (suc k) = omega (arith, sum_most line from k, most (get_or line (from + k) 0))

grows : (k j : ℕ) → reach k ≤ reach (k + j)
unfolding reach
grows k zero = rw add-zero (omega arith)
grows k (suc j) = let e : k + suc j ≡ suc (k + j) = omega arith in rw e (omega (arith, grows k j))

-- one more digit, up to eight, fits 64 bits
pub sum_fits : (line : List ℕ) (from k : ℕ) → k < 8 → sum line from k * 16 + 2 ^ 32 < 2 ^ 64
unfolding reach
sum_fits line from k h =
    let i : k + (7 - k) ≡ 7 = omega arith in let m : reach k ≤ reach 7 = rw i at (grows k (7 - k)) in
    omega (arith, sum_most line from k, m)

below : (v : ℕ) → v < 2 ^ 32 → limited v ≡ v
unfolding limited
below v h = rw (lt-ltb v (2 ^ 32) h)

above : (v : ℕ) → 2 ^ 32 ≤ v → limited v ≡ no_number
unfolding limited
above v h = rw (le-ltb v (2 ^ 32) h)

-- one more digit
module _ (v b : ℕ) where
  fits : v < 2 ^ 28 → digit b < 16 → joined (limited v) (digit b) ≡ limited (v * 16 + weight b)
  unfolding joined weight ◌and◌
  fits h d =
      rw (below v (omega arith), lt-ltb v (2 ^ 28) h, lt-ltb (digit b) 16 d) (sym (below (v * 16 + digit b) (omega arith)))

  no_digit : v < 2 ^ 28 → 16 ≤ digit b → joined (limited v) (digit b) ≡ limited (v * 16 + weight b)
  unfolding joined weight ◌and◌
  no_digit h d =
      rw (below v (omega arith), lt-ltb v (2 ^ 28) h, le-ltb (digit b) 16 d) (sym (above (v * 16 + no_number) (omega arith)))

  over : (w : ℕ) → w ≡ limited v → 2 ^ 28 ≤ w → 2 ^ 28 ≤ v → joined (limited v) (digit b) ≡ limited (v * 16 + weight b)
  unfolding joined ◌and◌
  over w e k h = rw (← e, le-ltb w (2 ^ 28) k) (sym (above (v * 16 + weight b) (omega arith)))

  long : 2 ^ 28 ≤ v → Dec (v < 2 ^ 32) → joined (limited v) (digit b) ≡ limited (v * 16 + weight b)
  long h (yes l) = over v (sym (below v l)) h h
  long h (no l) = over (2 ^ 32) (sym (above v (omega arith))) (omega arith) h

  join : Dec (v < 2 ^ 28) → Dec (digit b < 16) → joined (limited v) (digit b) ≡ limited (v * 16 + weight b)
  join (yes l) (yes d) = fits l d
  join (yes l) (no d) = no_digit l (omega arith)
  join (no l) d = long (omega arith) (dec_lt v (2 ^ 32))

pub hex_sum : (line : List ℕ) (from n : ℕ) → hex line from n ≡ limited (sum line from n)
unfolding hex sum limited
hex_sum line from zero = refl
hex_sum line from (suc k) =
    let v = sum line from k in let b = get_or line (from + k) 0 in
    rw (hex_sum line from k) (join v b (dec_lt v (2 ^ 28)) (dec_lt (digit b) 16))
