-- The library's search through the places of a list finds the first entry to pass a test. Assumes nothing.
use Rattle.std.proofs.Common.{◌≡◌, ℕ, suc, ◌+◌, ◌<◌, ◌≤◌, Bool, true, false, cond, List, [], ◌∷◌, length, get_or, refl, SomeIff, rules, arith, Option, None, Some, unwrap_or, sym, ◌∙◌}
use Rattle.std.proofs.Math.Nat.{zero-add}
use Rattle.std.specs.Option.{option_map}
use Rattle.std.specs.List.{find, range_with_len}
use Rattle.std.proofs.lemmas.Iterator.Adapters.{option_map_id}
use Rattle.rules.specs.Tables.{first_at}
use Rattle.rules.specs.Tests.{pick}

module _ (a first len : ℕ) where
  one_more : (passes : Bool) (r : Option ℕ) → SomeIff r (first < len) (a + 1 + first)
      → SomeIff (cond passes (Some a) r) (pick passes 0 (suc first) < suc len) (a + pick passes 0 (suc first))
  one_more true r h = (omega arith, omega arith)
  one_more false None h = omega (arith, h)
  one_more false (Some k) h = (omega (arith, h.0), omega (arith, h.1))

module _ (test : ℕ → Bool) where
  -- where the places are counted from any number on
  found_from : (at : ℕ → Bool) (l : List ℕ) (a : ℕ) → ((k : ℕ) → k < length l → at (a + k) ≡ test (get_or l k 0))
      → SomeIff (find at (range_with_len a (length l))) (first_at test l < length l) (a + first_at test l)
  unfolding first_at
  found_from at [] a e = search rules
  found_from at (x ∷ xs) a e =
      let here : at a ≡ test x = search (rules, e 0) in
      rw here (one_more a (first_at test xs) (length xs) (test x) _ (found_from at xs (a + 1) (λ k h. search (rules, e (k + 1)))))

  within_length : (l : List ℕ) → first_at test l ≤ length l
  unfolding first_at
  within_length [] = search rules
  within_length (x ∷ xs) = one_at_most (test x) (within_length xs)
    where
      one_at_most : (passes : Bool) → first_at test xs ≤ length xs → pick passes 0 (suc (first_at test xs)) ≤ suc (length xs)
      one_at_most true h = omega arith
      one_at_most false h = omega (arith, h)

  module _ (l : List ℕ) where
    pub found : (r : Option ℕ) → option_map (λ (x : ℕ). x) r ≡ find (λ k. test (get_or l k 0)) (range_with_len 0 (length l))
        → SomeIff r (first_at test l < length l) (first_at test l)
    found r e =
        let k = found_from (λ k. test (get_or l k 0)) l 0 (λ k h. rw (zero-add k) refl) in
        rw (sym (option_map_id r) ∙ e) (simp (zero-add (first_at test l)) at k)

    pub or_length : (r : Option ℕ) (k : ℕ) → k ≡ unwrap_or r (length l) → SomeIff r (first_at test l < length l) (first_at test l)
        → (k ≡ first_at test l) × (k ≤ length l)
    or_length None k e h = (omega (arith, e, h, within_length l), omega (arith, e))
    or_length (Some j) k e h = (e ∙ h.1, omega (arith, e, h.0, h.1))
