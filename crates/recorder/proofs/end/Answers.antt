-- The answer to a last line that is not empty.
use Rattle.std.proofs.Common.{◌≡◌, length, length-append, length-take, sym, ◌∙◌, rules, arith}
use Rattle.std.proofs.Math.Seq.{take_at}
use Rattle.recorder.proofs.Alike.{last_some}
use Rattle.recorder.proofs.end.Goals as goal

pub copy_from_slice-requires : goal.copy_from_slice-requires
copy_from_slice-requires c = simp length-take (omega arith)

pub returns : goal.returns
returns c =
    let a = c.answer_line-answer.result in let n : length a ≡ 33 = omega arith in
    rw c.copy_from_slice.ensures.after (simp length-append (omega arith), take_at a _ 33 n ∙ c.answer_line-answer.ensures ∙ sym (last_some c.args.line.now (search rules)))
