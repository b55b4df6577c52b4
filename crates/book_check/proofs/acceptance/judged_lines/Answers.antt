-- With no bound, none is met.
use Rattle.std.proofs.Common.{◌<◌, refl}
use Rattle.book_check.specs.BookWork.{book_work, most_book_work}
use Rattle.book_check.specs.Judges.{judge_program, judge_table}
use Rattle.book_check.proofs.WorkLemmas.{no_work}
use Rattle.book_check.proofs.acceptance.judged_lines.Goals as goal

pub returns-then-is_little-clause-work : goal.returns-then-is_little-clause-work
returns-then-is_little-clause-work g c =
    no_work c.lines-then-is_little.result (most_book_work < book_work (judge_program c.args.judge.now) (record { table = judge_table c.args.judge.now; lines = g.L.Lines.lines c.args.from })) (c.lines-then-is_little.ensures.free refl)
