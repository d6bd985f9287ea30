-- At most one outcome: a text makes one answer, one queue and one output of a session, its queue and an output. Assumes nothing.
use Prim.Native.Nat.{ℕ, ◌<◌}
use mathlib.Core.Path.{◌≡◌, sym, ap, ◌∙◌}
use mathlib.Core.List.{List, []}
use native.Mathlib.Omega.{arith}
use lib.ListN.{length, take, drop, take-append-drop}
use lib.Seq.{length-take-le, ext_get_or}
use Rattle.rules.specs.declared.Session.{Session}
use Rattle.frames.specs.Course.{Course, walk}
use Rattle.frames.specs.Walks.{Walks}
use Rattle.frames.specs.Weights.{Weighs}
use Rattle.frames.specs.declared.text.Walked.{Walked}

abbrev walked : Session → ℕ → ℕ → Walked
walked s from at = record { standing = record { opened = s.opened; number = s.number; station = s.station }; from = from; at = at }

pub one_walk : (s : Session) (text before : List ℕ) (r r' : Walked) (queue queue' out out' : List ℕ)
    → Walks s text r queue before out → Walks s text r' queue' before out' → (r ≡ r') × (queue ≡ queue') × (out ≡ out')
one_walk s text before r r' queue queue' out out' w w' =
    let from = w.from ∙ sym w'.from in
    let course = sym w.course ∙ ap (λ (n : ℕ). walk s [] (take n text)) from ∙ w'.course in
    let session = ap (λ (c : Course). c.session) course in let answers = ap (λ (c : Course). c.text) course in
    let at = sym (length-take-le r.at out w.room) ∙ ap (λ (l : List ℕ). length l) answers ∙ length-take-le r'.at out' w'.room in
    let rest = w.rest ∙ ap (λ (n : ℕ). drop n before) at ∙ sym w'.rest in (
      rw (from, at) (ap (λ (x : Session). walked x r'.from r'.at) session),
      ap (λ (x : Session). x.queue) session,
      sym (take-append-drop r.at out) ∙ rw (answers, rest) (take-append-drop r'.at out'),
    )

-- and one table of weights
pub one_table : (t t' : List ℕ) → Weighs t → Weighs t' → t ≡ t'
one_table t t' w w' = ext_get_or 0 t t' (w.bytes ∙ sym w'.bytes) (λ b h. let l : b < 256 = omega (arith, w.bytes) in w.each b l ∙ sym (w'.each b l))
