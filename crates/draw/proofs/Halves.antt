-- Products by the 16-bit halves of their factors.
use Rattle.std.proofs.Common.{◌≡◌, ℕ, ◌+◌, ◌*◌, ◌/◌, ◌%◌, sym, ap, ◌∙◌, mul_comm, add-mul, div-add-mod', mul_right_comm, arith}

-- by the halves of one factor
pub by_halves : (s t : ℕ) → s * t ≡ s / 65536 * t * 65536 + s % 65536 * t
by_halves s t =
    ap (λ (x : ℕ). x * t) (sym (div-add-mod' s 65536))
    ∙ add-mul (s / 65536 * 65536) (s % 65536) t
    ∙ ap (λ (x : ℕ). x + s % 65536 * t) (mul_right_comm (s / 65536) 65536 t)

-- what lies above 2^32: the low half's product counts by what it carries
pub above : (s t : ℕ) → (s / 65536 * t + s % 65536 * t / 65536) / 65536 ≡ s * t / 4294967296
above s t = omega (arith, by_halves s t)

-- what lies below 2^32: of the four products of halves that of the high ones does not count, and of the mixed ones their low halves do
below : (x high-high high-low low-high low-low : ℕ) → x ≡ (high-high * 65536 + high-low) * 65536 + (low-high * 65536 + low-low)
    → (low-low + (high-low % 65536 + low-high % 65536) % 65536 * 65536) % 4294967296 ≡ x % 4294967296
below x high-high high-low low-high low-low e =
    let mixed : (high-low % 65536 + low-high % 65536) % 65536 ≡ (high-low + low-high) % 65536 = omega arith in
    rw mixed (omega arith)

pub wrapped : (s t : ℕ)
    → (s % 65536 * (t % 65536) + (s / 65536 * (t % 65536) % 65536 + s % 65536 * (t / 65536) % 65536) % 65536 * 65536) % 4294967296
    ≡ s * t % 4294967296
wrapped s t =
    let other : (x : ℕ) → x * t ≡ x * (t / 65536) * 65536 + x * (t % 65536) =
    λ x. mul_comm x t ∙ by_halves t x ∙ rw (mul_comm (t / 65536) x, mul_comm (t % 65536) x) in
    below (s * t) (s / 65536 * (t / 65536)) (s / 65536 * (t % 65536)) (s % 65536 * (t / 65536)) (s % 65536 * (t % 65536))
    (omega (arith, by_halves s t, other (s / 65536), other (s % 65536)))
