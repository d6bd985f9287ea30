use Rattle.std.proofs.Common.{sym}
use Rattle.frames.proofs.Feeds.{rest, some_eights, all_eights}
use Rattle.frames.proofs.lines.skipped.Goals as goal

pub returns-in-Some : goal.returns-in-Some
returns-in-Some c =
    let e = c.as_chunks.ensures in let s = c.args.s.now in let from = c.args.from in
    some_eights s from c.requires _ (rest s from) c.as_chunks.result.0.now e.front e.front_len c.in-Some.i (sym c.in-Some.ensures)

pub returns-in-None : goal.returns-in-None
returns-in-None c =
    let e = c.as_chunks.ensures in let s = c.args.s.now in let from = c.args.from in
    all_eights s from c.requires _ (rest s from) c.as_chunks.result.0.now e.front e.front_len (sym c.in-None.ensures)
