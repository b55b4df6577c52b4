-- Passing over trees and nodes, as the reader does that takes no memory: where they end, or their first fault. Each is what
-- reading them gives, seen by less.
use Rattle.std.specs.Prelude.{ℕ, zero, suc, ◌-◌, ◌^◌, ◌&&◌, Bool, true, not, List, [], ◌∷◌, ◌++◌, length, take, codes, Option, Some, None, Ok, Err, if◌then◌else◌}
use Rattle.std.specs.Str.{bytes_eq}
use Rattle.paths.specs.Paths.{PathData}
use Rattle.books.specs.declared.stop.Kind.TheVariants.{Form, TooDeep}
use Rattle.books.specs.Books.{comes_after, most_nesting}
use Rattle.books.specs.Texts.{newline}
use Rattle.books.specs.Combine.{Res, ◌>>=◌, begins, expect}
use Rattle.books.specs.Reading.{path_at, leaf_at, word_at_front, number_at, nothing_behind, count_at}

-- whether the texts of two trees differ, each of which stands at the front of one text and has another behind it
abbrev pub texts_differ : List ℕ → List ℕ → List ℕ → List ℕ → Bool
texts_differ first behind_first second behind_second =
    not (bytes_eq (take (length first - length behind_first) first) (take (length second - length behind_second) second))

-- a test below a path, if there is one: whether it is canonical there
abbrev pub pass_test : (Option PathData → List ℕ → Res Bool) → Option PathData → List ℕ → Res Bool
pass_test inner above ts =
    expect (codes "(") ts >>= λ u ts. path_at ts >>= λ p ts. expect (codes " ") ts >>= λ u first. inner (Some p) first >>= λ x behind_first.
    expect (codes " ") behind_first >>= λ u second. inner (Some p) second >>= λ y behind_second. expect (codes ")") behind_second >>= λ u ts.
    Ok (comes_after above p && (texts_differ first behind_first second behind_second && (x && y)), ts)

-- a tree below a path, if there is one: whether it is canonical there
unfoldable pub pass_tree : ℕ → Option PathData → List ℕ → Res Bool
pass_tree zero above ts = if begins 40 ts then Err (TooDeep, ts) else (leaf_at ts >>= λ b ts. Ok (true, ts))
pass_tree (suc room) above ts = if begins 40 ts then pass_test (pass_tree room) above ts else (leaf_at ts >>= λ b ts. Ok (true, ts))

-- a tree of the table
unfoldable pub pass_canonical : List ℕ → Res (Unit {0})
pass_canonical ts = pass_tree most_nesting None ts >>= λ is rest. if is then Ok (tt, rest) else Err (Form, ts)

-- a premise, whose node is passed over by inner
abbrev pub pass_premise : (List ℕ → Res (Unit {0})) → List ℕ → Res (Unit {0})
pass_premise inner ts = expect (codes " ") ts >>= λ u ts. inner ts

-- items while a byte stands first, at most n of them
abbrev pub pass_at_most : ℕ → ℕ → (List ℕ → Res (Unit {0})) → List ℕ → Res (Unit {0})
pass_at_most zero byte item ts = Ok (tt, ts)
pass_at_most (suc n) byte item ts = if begins byte ts then (item ts >>= λ u ts. pass_at_most n byte item ts) else Ok (tt, ts)

-- items while a byte stands first
unfoldable pub pass_several : ℕ → (List ℕ → Res (Unit {0})) → List ℕ → Res (Unit {0})
pass_several byte item ts = pass_at_most (length ts) byte item ts

-- a node
unfoldable pub pass_node : ℕ → ℕ → List ℕ → Res (Unit {0})
pass_node count zero ts = if begins 40 ts then Err (TooDeep, ts) else Err (Form, ts)
pass_node count (suc room) ts =
    expect (codes "(") ts >>= λ u ts. word_at_front ts >>= λ w ts. number_at count ts >>= λ n ts.
    pass_several 32 (pass_premise (pass_node count room)) ts >>= λ u ts. expect (codes ")") ts >>= λ u ts. Ok (tt, ts)

-- a line of the table
abbrev pub pass_table_line : List ℕ → Res (Unit {0})
pass_table_line ts = pass_canonical ts >>= λ u ts. expect (newline ∷ []) ts

-- so many lines of the table
abbrev pub pass_table : ℕ → List ℕ → Res (Unit {0})
pass_table zero ts = Ok (tt, ts)
pass_table (suc n) ts = pass_table_line ts >>= λ u ts. pass_table n ts

-- a method line
unfoldable pub pass_line : ℕ → List ℕ → Res (Unit {0})
pass_line count ts =
    expect (codes "method ") ts >>= λ u ts. number_at (2 ^ 32) ts >>= λ id ts. expect (codes " ") ts >>= λ u ts.
    number_at count ts >>= λ n ts. expect (newline ∷ []) ts >>= λ u ts. pass_node count most_nesting ts >>= λ u ts.
    expect (newline ∷ []) ts

-- method lines while an `m` stands first, then the end
unfoldable pub pass_lines : ℕ → List ℕ → Res (Unit {0})
pass_lines count ts = pass_several 109 (pass_line count) ts >>= λ u ts. expect (codes "end" ++ (newline ∷ [])) ts >>= λ u ts. nothing_behind ts

-- a book: the count of its trees, and where the trees and the method lines begin
unfoldable pub pass_book : List ℕ → Res (ℕ × List ℕ × List ℕ)
pass_book ts =
    count_at ts >>= λ n table. pass_table n table >>= λ u lines. pass_lines n lines >>= λ u rest. Ok ((n, table, lines), rest)
