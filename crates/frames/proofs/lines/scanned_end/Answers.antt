use Rattle.std.proofs.Common.{sym}
use Rattle.frames.proofs.Feeds.{rest, found, not_found}
use Rattle.frames.proofs.lines.scanned_end.Goals as goal

pub returns-in-Some : goal.returns-in-Some
returns-in-Some c =
    let e = c.skipped-at.ensures in let s = c.args.s.now in let at = c.skipped-at.result in
    found s c.args.from at e.0 e.1 e.2 _ (rest s at) c.in-Some.i (sym c.in-Some.ensures)

pub returns-in-None : goal.returns-in-None
returns-in-None c =
    let e = c.skipped-at.ensures in let s = c.args.s.now in let at = c.skipped-at.result in
    not_found s c.args.from at e.0 e.1 e.2 _ (rest s at) (sym c.in-None.ensures)
