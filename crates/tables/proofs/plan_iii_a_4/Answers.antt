-- The constant tables are the definition's lists.
use Rattle.std.proofs.Common.{rules}
use Rattle.rules.specs.Tables.{plan_iii_a_4, frequencies, table_iii_a_4}
use Rattle.tables.proofs.plan_iii_a_4.Goals as goal

pub returns : goal.returns
unfolding plan_iii_a_4 frequencies table_iii_a_4
returns c = (search rules, cc)
