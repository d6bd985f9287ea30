-- Every reply has 33 characters. Assumes nothing.
use mathlib.Core.Path.{◌≡◌, refl}
use mathlib.Core.Bool.{Bool, true, false}
use mathlib.Core.List.{List}
use Prim.Native.Nat.{ℕ}
use lib.ListN.{length}
use Rattle.std.specs.Prelude.{Option, Some, None}
use Rattle.rules.specs.Tests.{within as from-to}
use Rattle.rules.specs.Frames.{printed, reply, reading_reply, frame_reply, number_reply, seed_of, found_reply, table_reply, read_line}
use Rattle.rules.specs.Tables.{look_up}
use Rattle.rules.specs.declared.Plan.{Plan}
use Rattle.rules.specs.declared.Frame.{Frame}
use Rattle.rules.specs.declared.Frame.TheVariants.{Open, OpenTable, StationNumber, Call}
use Rattle.rules.specs.declared.Session.{Session}
use Rattle.rules.specs.declared.Values.{Values}

printed_length : (v : Values) → length (printed v) ≡ 33
unfolding printed
printed_length v = refl

found_length : (s : Session) (seed : ℕ) (f : Option Plan) → length (found_reply s seed f).text ≡ 33
found_length s seed (Some p) = printed_length _
found_length s seed None = printed_length _

table_length : (s : Session) (seed : Option ℕ) (f : Option Plan) → length (table_reply s seed f).text ≡ 33
table_length s (Some seed) f = found_length s seed f
table_length s None f = printed_length _

number_length : (b : Bool) (s : Session) (number : ℕ) → length (number_reply b s number).text ≡ 33
number_length true s number = printed_length _
number_length false s number = printed_length _

frame_length : (b : Bool) (s : Session) (f : Frame) → length (frame_reply b s f).text ≡ 33
frame_length true s (Open p seed) = printed_length _
frame_length false s (Open p seed) = printed_length _
frame_length true s (OpenTable kind letter aql period seed) = printed_length _
frame_length false s (OpenTable kind letter aql period seed) = table_length s (seed_of seed s.number) (look_up kind letter aql period)
frame_length true s (StationNumber number) = printed_length _
frame_length false s (StationNumber number) = number_length (from-to 1 number 65535) s number
frame_length true s (Call c) = printed_length _
frame_length false s (Call c) = printed_length _

reading_length : (s : Session) (r : Option Frame) → length (reading_reply s r).text ≡ 33
reading_length s None = printed_length _
reading_length s (Some f) = frame_length s.opened s f

pub reply_length : (s : Session) (line : List ℕ) → length (reply s line).text ≡ 33
reply_length s line = reading_length s (read_line line)
