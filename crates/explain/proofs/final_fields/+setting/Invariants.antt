use Rattle.std.proofs.Common.{◌≡◌, ◌||◌, ℕ, drop}
use Rattle.core_program.specs.Views.{stmts_from}
use Rattle.explain.specs.FinalFields.{some_sets_field}
use Rattle.explain.specs.OneFinal.{has_mark}
use Rattle.explain.proofs.final_fields.+setting.Given as goal

-- the marks so far, with those of the statements that are left, are those of all
abbrev pub invariant-mark_set_by_some-loop-s : goal.invariant-mark_set_by_some-loop-s
invariant-mark_set_by_some-loop-s l =
    (f : ℕ) → (has_mark l.marks.items f || some_sets_field f (stmts_from (drop l.s-index l.body))) ≡ (has_mark l.fn.marks.items f || some_sets_field f (stmts_from l.body))
