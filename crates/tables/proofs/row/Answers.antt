use Rattle.std.proofs.Common.{rules, tests, leb, refl, get_or}
use Rattle.std.proofs.lemmas.Iterator.{YieldsList-from_range}
use Rattle.std.proofs.lemmas.Iterator.Search.{find_from_yields_List}
use Rattle.rules.specs.Tables.{ends}
use Rattle.tables.proofs.First.{found, or_length}
use Rattle.tables.proofs.row.Goals as goal

pub returns : goal.returns
unfolding ends
returns c =
    or_length (leb c.args.period) ends _ _ c.unwrap_or.ensures
    (found (leb c.args.period) ends _
    (find_from_yields_List (λ k. leb c.args.period (get_or ends k 0)) _ _ _ c.find.ensures.ran (YieldsList-from_range 0 20 20 (cc) refl) (λ x b q k. search (rules, tests))))
