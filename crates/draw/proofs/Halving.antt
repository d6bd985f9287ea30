-- The pair of m steps, by halving m. Assumes nothing.
use Rattle.std.proofs.Common.{◌≡◌, ℕ, ◌+◌, ◌/◌, ◌%◌, sym, ap, ◌∙◌, arith}
use Rattle.rules.specs.Draw.{composed, pair_of}
use Rattle.rules.proofs.Pairs.{pairs}
use Rattle.rules.specs.declared.Pair.{Pair}

module _ (m : ℕ) (half even : Pair) (h : half ≡ pair_of (m / 2)) (e : even ≡ composed half half) where
  doubled : even ≡ pair_of (m / 2 + m / 2)
  doubled = e ∙ ap (λ (p : Pair). composed p p) h ∙ pairs.both (m / 2) (m / 2)

  pub of_even : m % 2 ≡ 0 → even ≡ pair_of m
  of_even z = doubled ∙ ap pair_of (omega arith)

  -- one step more
  pub of_odd : (odd : Pair) → (m % 2 ≡ 0 → ⊥) → odd ≡ composed even (record { multiplier = 1664525; addend = 1013904223 }) → odd ≡ pair_of m
  of_odd odd n o =
      let all : m / 2 + m / 2 + 1 ≡ m = omega (arith, n) in
      o ∙ ap (composed even) (sym pairs.one) ∙ ap (λ (p : Pair). composed p (pair_of 1)) doubled ∙ pairs.both (m / 2 + m / 2) 1 ∙ ap pair_of all
