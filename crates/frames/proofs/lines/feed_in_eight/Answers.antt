use Rattle.std.proofs.Common.{sym, ◌∙◌}
use Rattle.frames.proofs.Feeds.{no_feed}
use Rattle.frames.proofs.lines.feed_in_eight.Goals as goal

pub returns : goal.returns
returns c h = no_feed c.args.s.now c.args.i c.requires (sym c.contains.ensures.value ∙ h)
