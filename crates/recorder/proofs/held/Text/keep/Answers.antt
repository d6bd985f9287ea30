-- What is kept stands at the front.
use Rattle.std.proofs.Common.{◌≡◌, ℕ, ◌-◌, ◌<◌, min, Bool, true, false, List, take, drop, length-take, refl, sym, ap, ◌∙◌, arith}
use native.Mathlib.Decide.{dec_lt}
use Rattle.std.proofs.Math.Seq.{take_all, take-take}
use Rattle.std.proofs.lemmas.Slice.{between_is}
use Rattle.rules.specs.Tests.{pick}
use Rattle.recorder.specs.Course.{held_most, kept}
use Rattle.recorder.proofs.held.Text.keep.Goals as goal

least : (left : ℕ) (rest : List ℕ) → Dec (held_most < left) → take (min held_most left) rest ≡ take held_most (take left rest)
least left rest (yes l) = let e : min held_most left ≡ held_most = omega arith in rw e (sym (take-take held_most left rest (omega arith)))
least left rest (no l) = let e : min held_most left ≡ left = omega arith in rw e (sym (take_all held_most (take left rest) (simp length-take (omega arith))))

kept_front : (more : Bool) (left : ℕ) (rest : List ℕ) → take (pick more left (min held_most left)) rest ≡ kept more (take left rest)
kept_front true left rest = refl
kept_front false left rest = least left rest (dec_lt held_most left)

pub returns : goal.returns
returns c =
    let t = c.self.inside in let from = c.args.from in
    c.move_front.ensures ∙ rw c.kept-n.ensures.0 (kept_front c.args.more (t.len - from) (drop from t.bytes))
    ∙ ap (kept c.args.more) (between_is t.bytes from t.len ∙ ap (drop from) c.self.view_is)
