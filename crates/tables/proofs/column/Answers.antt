use Rattle.std.proofs.Common.{rules, tests, eqb, refl, get_or}
use Rattle.std.proofs.lemmas.Iterator.{YieldsList-from_range}
use Rattle.std.proofs.lemmas.Iterator.Search.{find_from_yields_List}
use Rattle.rules.specs.Tables.{aqls}
use Rattle.tables.proofs.First.{found}
use Rattle.tables.proofs.column.Goals as goal

pub returns : goal.returns
unfolding aqls
returns c =
    found (eqb c.args.aql) aqls _
    (find_from_yields_List (λ k. eqb c.args.aql (get_or aqls k 0)) _ _ _ c.find.ensures.ran (YieldsList-from_range 0 8 8 (cc) refl) (λ x b q k. search (rules, tests)))
