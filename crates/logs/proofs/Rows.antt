-- After a row that is a line.
use Rattle.std.proofs.Common.{◌≡◌, ℕ, ◌+◌, [], Some, sym, ap, ◌∙◌}
use Rattle.logs.specs.Judging.{Known, Goes, line_noted}
use Rattle.logs.specs.Logs.{Guard}
use Rattle.logs.specs.LogJudgeEvents.{log_line_of}
use Rattle.logs.specs.Said.{SaidData, said_of}
use Rattle.logs.specs.Walks.{Stand, Stands, after_note, after_row}

pub row_goes : (guard : ℕ → Guard) (s m : Stand) (said : SaidData) (k : Known) → Some said ≡ said_of s.row → line_noted guard s.known (log_line_of said) ≡ Goes k
    → m.known ≡ k → m.row ≡ [] → m.line ≡ s.line + 1 → after_row guard s (said_of s.row) ≡ Stands m
row_goes guard s m said k some goes known row line =
    ap (after_row guard s) (sym some) ∙ ap (after_note s said) goes ∙ ap Stands (λ i. record { known = sym known i; row = sym row i; line = sym line i })
