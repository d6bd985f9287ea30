-- The tests of the code are those of the definitions, and what is left of a test once a part of it is known. Assumes nothing.
use mathlib.Core.Bool.{Bool, true, false, ◌&&◌, ◌||◌}
use mathlib.Core.Path.{◌≡◌, refl}
use borrow.Author.Tests.{ne_eqb}
use Rattle.rules.specs.Tests.{pick, ◌and◌, ◌or◌}
use Rattle.rules.specs.Plan.{csp_t, csp_v}
use Rattle.rules.specs.Sound.{sound_begin}
use Rattle.rules.specs.declared.Plan.{Plan}
use Rattle.rules.specs.declared.Sampling.{Sampling}

pub as_and : (a b : Bool) → (a && b) ≡ (a and b)
unfolding ◌and◌
as_and true b = refl
as_and false b = refl

pub as_or : (a b : Bool) → (a || b) ≡ (a or b)
unfolding ◌or◌
as_or true b = refl
as_or false b = refl

pub ruleset as_tests = (as_and, as_or)

-- what is left of a joined test once one side is known, and of a choice once its test is
pub first_no : (a b : Bool) → a ≡ false → (a and b) ≡ false
unfolding ◌and◌
first_no a b e = simp e

pub first_yes : (a b : Bool) → a ≡ true → (a and b) ≡ b
unfolding ◌and◌
first_yes a b e = simp e

pub second_no : (a b : Bool) → b ≡ false → (a and b) ≡ false
unfolding ◌and◌
second_no true b e = e
second_no false b e = refl

pub second_yes : (a b : Bool) → b ≡ true → (a and b) ≡ a
unfolding ◌and◌
second_yes true b e = e
second_yes false b e = refl

pub pick_yes : {A : Type 0} (t : Bool) (a b : A) → t ≡ true → pick t a b ≡ a
pick_yes t a b e = simp e

pub pick_no : {A : Type 0} (t : Bool) (a b : A) → t ≡ false → pick t a b ≡ b
pick_no t a b e = simp e

pub ruleset known_tests = (first_no, first_yes, second_no, second_yes, pick_yes, pick_no)

-- no level begins but where conforming samples in a row are counted
pub begin_else : (p : Plan) (owed : Bool) (m : Sampling) → (p.kind ≡ csp_t → ⊥) → (p.kind ≡ csp_v → ⊥) → sound_begin p owed m ≡ true
unfolding sound_begin ◌and◌ ◌or◌
begin_else p owed m t v = simp (ne_eqb _ _ t, ne_eqb _ _ v)
