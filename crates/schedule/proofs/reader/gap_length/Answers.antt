-- A blank or a comment stands at the front.
use Rattle.std.proofs.Common.{◌∙◌, ◌-◌, sym, refl, get_or, take, drop}
use Rattle.schedule.specs.Text.{blank, comment}
use Rattle.schedule.proofs.FrontLemmas.{blank_front, comment_front}
use Rattle.schedule.proofs.reader.gap_length.Goals as goal

pub returns-then-is_blank-clause-gap : goal.returns-then-is_blank-clause-gap
returns-then-is_blank-clause-gap c = λ some. (blank (get_or c.args.text.now 0 0), blank_front c.args.text.now c.requires (sym c.is_blank.ensures ∙ c.if-is_blank.true), refl)

pub returns-then-text-eq35-clause-gap : goal.returns-then-text-eq35-clause-gap
returns-then-text-eq35-clause-gap c = λ some. (comment (take (c.comment_length.result - 1) (drop 1 c.args.text.now)), comment_front c.args.text.now c.comment_length.result c.requires c.if-text-eq35.true c.comment_length.ensures.length, refl)
