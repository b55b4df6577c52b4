use Rattle.std.proofs.Common.{◌≡◌, ◌++◌, map, drop, string_bytes}
use Rattle.edge.specs.Lines as lines
use Rattle.edge.proofs.lines.joined.Given as goal

-- what was joined so far, and then the rest, is the whole
abbrev pub invariant-loop-text : goal.invariant-loop-text
invariant-loop-text l = string_bytes l.all ++ lines.joined_texts (map (λ text. text.now) (drop l.text-index l.texts)) ≡ lines.joined_texts (map (λ text. text.now) l.texts)
