use Rattle.std.proofs.Common.{◌≡◌, ◌++◌, drop, map}
use Rattle.edge.specs.Lines.{joined_texts}
use Rattle.trace_commands.proofs.notes.add_all.Given as goal

-- what was added so far, and then the rest, is all
abbrev pub invariant-loop-piece : goal.invariant-loop-piece
invariant-loop-piece l =
    l.text.items ++ joined_texts (map (λ piece. piece.now) (drop l.piece-index l.pieces)) ≡ l.fn.text.items ++ joined_texts (map (λ piece. piece.now) l.pieces)
