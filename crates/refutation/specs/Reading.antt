-- How the text of a list of lines is read, part by part, from its first byte on: a part that goes on with a byte that no such text has
-- there, or that ends too early, stops at that byte; a number out of range and a path that doesn't ascend stop at their first bytes.
use Rattle.std.specs.Prelude.{ℕ, zero, suc, ◌-◌, ◌^◌, List, [], ◌∷◌, ◌++◌, length, codes, Option, Some, None, Ok, Err, if◌then◌else◌}
use Rattle.paths.specs.Paths.{PathData}
use Rattle.books.specs.declared.stop.Kind.TheVariants.{Form}
use Rattle.books.specs.Books.{comes_after}
use Rattle.books.specs.Combine.{Res, ◌>>=◌, begins, expect, exactly}
use Rattle.books.specs.Reading.{number_at, path_at, leaf_at, nothing_behind}
use Rattle.books.specs.Texts.{newline}
use Rattle.refutation.specs.Lines.{LineData}

-- a path that comes after the one before it, if there is one
unfoldable pub later_path : Option PathData → List ℕ → Res PathData
later_path before ts = path_at ts >>= λ p rest. if comes_after before p then Ok (p, rest) else Err (Form, ts)

-- such a path after a blank
abbrev pub held_item : Option PathData → List ℕ → Res PathData
held_item before ts = expect (codes " ") ts >>= λ u ts. later_path before ts

-- held paths while a blank stands first, at most n of them, each after the one before it
abbrev pub held_most : ℕ → Option PathData → List ℕ → Res (List PathData)
held_most zero before ts = Ok ([], ts)
held_most (suc n) before ts =
    if begins 32 ts then (held_item before ts >>= λ p ts. held_most n (Some p) ts >>= λ ps ts. Ok (p ∷ ps, ts)) else Ok ([], ts)

-- held paths while a blank stands first
unfoldable pub held_at : Option PathData → List ℕ → Res (List PathData)
held_at before ts = held_most (length ts) before ts

-- a line
unfoldable pub line_at : List ℕ → Res LineData
line_at ts =
    number_at (2 ^ 32) ts >>= λ m ts. expect (codes " ") ts >>= λ u ts. leaf_at ts >>= λ b ts. held_at None ts >>= λ ps ts.
    expect (newline ∷ []) ts >>= λ u ts. Ok (record { method = m; found = b; held = ps }, ts)

-- the count of the lines, in its line
unfoldable pub count_at : List ℕ → Res ℕ
count_at ts = expect (codes "blame ") ts >>= λ u ts. number_at (2 ^ 32) ts >>= λ n ts. expect (newline ∷ []) ts >>= λ u ts. Ok (n, ts)

-- the end, and nothing behind it
unfoldable pub end_at : List ℕ → Res (Unit {0})
end_at ts = expect (codes "end" ++ (newline ∷ [])) ts >>= λ u ts. nothing_behind ts

-- a whole certificate: the count of its lines, the lines, and `end`
unfoldable pub blame_at : List ℕ → Res (List LineData)
blame_at ts = count_at ts >>= λ n ts. exactly n line_at ts >>= λ ls ts. end_at ts >>= λ u ts. Ok (ls, ts)

-- the byte at which what is read of a text of this length stops, where it does
abbrev pub stop_of : {A : Type 0} → ℕ → Res A → Option ℕ
stop_of size (Ok y) = None
stop_of size (Err e) = Some (size - length e.1)

-- the first fault of a text that no list of lines has; none of one that some has
abbrev pub first_certificate_fault : List ℕ → Option ℕ
first_certificate_fault bytes = stop_of (length bytes) (blame_at bytes)
