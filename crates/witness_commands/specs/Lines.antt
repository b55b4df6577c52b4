-- The lines that tell of a schedule, and of a search.
use Rattle.std.specs.Prelude.{ℕ, List, ◌++◌, Bool, true, false, codes, decimal}
use Rattle.edge.specs.Lines.{line_end}
use Rattle.schedule.specs.Comments.{commented}
use Rattle.schedule.specs.Written.{written}
use Rattle.witness.specs.declared.goal.Compared.{Compared}
use Rattle.witness.specs.declared.goal.Compared.TheVariants.{Objects, Output}

-- the strongest sense in which it was found that promises are broken: whether ends are compared by what they print alone, and whether
-- no schedule at all that interrupts no atomic call ends so
abbrev pub broken_text : Compared → (full : Bool) → List ℕ
broken_text Output true = codes "no schedule that interrupts no atomic call prints this"
broken_text Objects true = codes "no schedule that interrupts no atomic call leaves this"
broken_text Output false = codes "no order of its entries that interrupts no atomic call prints this"
broken_text Objects false = codes "no order of its entries that interrupts no atomic call leaves this"

-- `broken: ..`
abbrev pub broken_by_line : Compared → (full : Bool) → List ℕ
broken_by_line by full = codes "broken: " ++ broken_text by full ++ line_end

-- `not decided: N states were seen`
abbrev pub undecided_line : ℕ → List ℕ
undecided_line seen = codes "not decided: " ++ decimal seen ++ codes " states were seen" ++ line_end

-- a witness that was found: the schedule as a text that `run` reads, and behind it, as a comment, in which sense promises are broken
abbrev pub witness_text : Compared → (full : Bool) → List ℕ → List ℕ
witness_text by full s = written s ++ commented (broken_by_line by full)

-- `no witness found: N schedules were tried`
abbrev pub none_found_line : ℕ → List ℕ
none_found_line tried = codes "no witness found: " ++ decimal tried ++ codes " schedules were tried" ++ line_end
