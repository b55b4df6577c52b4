-- Passing over a text, as the reader does that takes no memory: where a part ends, or its first fault.
use Rattle.std.specs.Prelude.{ℕ, zero, suc, ◌^◌, List, [], ◌∷◌, codes, None, Ok}
use Rattle.books.specs.Combine.{Res, ◌>>=◌, expect, unread}
use Rattle.books.specs.Reading.{number_at, leaf_at}
use Rattle.books.specs.Texts.{newline}
use Rattle.refutation.specs.Reading.{held_at, count_at, end_at}

-- passes over a line: a method's number, a basic and the held paths, and the end of the line
unfoldable pub pass_line : List ℕ → Res (Unit {0})
pass_line ts =
    number_at (2 ^ 32) ts >>= λ m ts. expect (codes " ") ts >>= λ u ts. leaf_at ts >>= λ b ts. unread (held_at None ts) >>= λ u ts.
    expect (newline ∷ []) ts

-- so many lines
abbrev pub pass_lines : ℕ → List ℕ → Res (Unit {0})
pass_lines zero ts = Ok (tt, ts)
pass_lines (suc n) ts = pass_line ts >>= λ u ts. pass_lines n ts

-- passes over a whole certificate: the count of its lines, the lines, and `end`
unfoldable pub pass_blame : List ℕ → Res (Unit {0})
pass_blame ts = count_at ts >>= λ n ts. pass_lines n ts >>= λ u ts. end_at ts
