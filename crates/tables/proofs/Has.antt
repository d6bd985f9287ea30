-- What the two tables have, by type, AQL and period. Assumes nothing.
use Rattle.std.proofs.Common.{◌≡◌, ℕ, ◌≤◌, ◌<◌, arith, SomeIff, Option, None, Some}
use Rattle.std.proofs.lemmas.Bool.Decides.{nat_tests}
use Rattle.rules.specs.Tables.{column, in_v, in_iii_a_4, plan_v, plan_iii_a_4, look_up}
use Rattle.rules.specs.Tests.{◌and◌}
use Rattle.rules.specs.declared.Plan.{Plan}

module _ (kind letter aql period : ℕ) where
  pub of_v : (r : Option Plan) → kind ≡ 4 → period ≡ 0 → SomeIff r ((1 ≤ letter) × (letter ≤ 11) × (column aql < 8)) (plan_v letter aql)
      → r ≡ look_up kind letter aql period
  unfolding look_up in_v in_iii_a_4 ◌and◌
  of_v None k p e = grind (arith, nat_tests)
  of_v (Some q) k p e = grind (arith, nat_tests)

  pub of_iii_a_4 : (r : Option Plan) → kind ≡ 3 → aql ≡ 40 → 1 ≤ period → period ≤ 1000000
      → SomeIff r ((1 ≤ letter) × (letter ≤ 8)) (plan_iii_a_4 letter period) → r ≡ look_up kind letter aql period
  unfolding look_up in_v in_iii_a_4 ◌and◌
  of_iii_a_4 None k q low high e = grind (arith, nat_tests)
  of_iii_a_4 (Some p) k q low high e = grind (arith, nat_tests)

  pub of_neither : (kind ≡ 4 → period ≡ 0 → ⊥) → (kind ≡ 3 → aql ≡ 40 → 1 ≤ period → period ≤ 1000000 → ⊥)
      → look_up kind letter aql period ≡ None
  unfolding look_up in_v in_iii_a_4 ◌and◌
  of_neither v iii = grind (arith, nat_tests)
