use Rattle.std.proofs.Common.{◌≡◌, ◌++◌, drop}
use Rattle.base.specs.Texts.{KeepsText}
use Rattle.schedule.specs.Comments.{commented, commented_from}
use Rattle.schedule.proofs.comments.add_comments.Given as goal

-- the text so far, and what the rest adds, are all; and the text that was there is kept
abbrev pub invariant-loop-byte : goal.invariant-loop-byte
invariant-loop-byte l = (l.text.items ++ commented_from l.begins (drop l.byte-index l.comment) ≡ l.fn.text.items ++ commented l.comment) × KeepsText l.fn.text.items l.text.items
