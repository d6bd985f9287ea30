-- The constant tables are the definition's lists.
use Rattle.std.proofs.Common.{rules, ◌≡◌}
use Rattle.rules.specs.Tables.{letter_row, column, plan_v, frequencies, table_v_i, table_v_s}
use Rattle.tables.proofs.plan_v.Goals as goal

pub returns : goal.returns
unfolding plan_v frequencies table_v_i table_v_s
returns c =
    let down : c.in_ok-letter_row.field-0 ≡ letter_row c.args.letter = search rules in
    let across : c.in_ok-column.field-0 ≡ column c.args.aql = search rules in
    (search rules, simp (c.cell-at.ensures, down, across))
