-- How the text of a book is read, production by production, from its first byte on. A part that goes on with a byte that no book of
-- the grammar has there, or that ends too early, stops with Form at that byte; the other rules have a line of their own.
use Rattle.std.specs.Prelude.{ℕ, zero, suc, ◌^◌, ◌==◌, ◌||◌, Bool, true, false, not, List, [], ◌∷◌, ◌++◌, length, drop, nat_lt, codes, Ok, Err, if◌then◌else◌}
use Rattle.std.specs.Char.{is_ascii_digit}
use Rattle.std.specs.List.{take_while}
use Rattle.std.specs.Str.Parse.{digits_value}
use Rattle.paths.specs.Paths.{PathData, most_fields}
use Rattle.algebra.specs.declared.basic.Basic.{Basic}
use Rattle.algebra.specs.declared.basic.Basic.TheVariants.{Const, Mover, Atomic, Cmpd, Error}
use Rattle.algebra.specs.Basics.{name_of}
use Rattle.conditions.specs.Conditions.{Cond, LeafC, TestC}
use Rattle.books.specs.declared.stop.Kind.TheVariants.{Form, TooDeep}
use Rattle.books.specs.declared.word.Word.{Word}
use Rattle.books.specs.Derivations.{Node, node, nodes_from, word_text, words}
use Rattle.books.specs.Books.{Line, Book, is_canonical, most_nesting}
use Rattle.books.specs.Texts.{newline}
use Rattle.books.specs.Combine.{Res, ◌>>=◌, begins, expect, one_of, several, exactly}

-- the digits of the number that a text begins with: a 0 alone, or all digits
abbrev pub number_digits : List ℕ → List ℕ
number_digits [] = []
number_digits (b ∷ ts) = if b == 48 then b ∷ [] else take_while is_ascii_digit (b ∷ ts)

-- whether a text is at its end
abbrev pub is_at_end : List ℕ → Bool
is_at_end [] = true
is_at_end (b ∷ ts) = false

-- a number below the end of its range; Form at its first byte where it isn't, or where no digit stands
unfoldable pub number_at : ℕ → List ℕ → Res ℕ
number_at end ts =
    if is_at_end (number_digits ts) || not (nat_lt (digits_value 10 (number_digits ts)) end) then Err (Form, ts)
    else Ok (digits_value 10 (number_digits ts), drop (length (number_digits ts)) ts)

-- at most so many fields, each after a point
abbrev pub fields_at : ℕ → List ℕ → Res (List ℕ)
fields_at zero ts = Ok ([], ts)
fields_at (suc most) ts =
    if begins 46 ts then (number_at (2 ^ 32) (drop 1 ts) >>= λ f ts. fields_at most ts >>= λ fs ts. Ok (f ∷ fs, ts)) else Ok ([], ts)

-- a lock path: the number of its slot, and at most two fields
unfoldable pub path_at : List ℕ → Res PathData
path_at ts = number_at (2 ^ 16) ts >>= λ root ts. fields_at most_fields ts >>= λ fields ts. Ok (record { root = root; fields = fields }, ts)

-- the five basics, in their order
abbrev pub basics : List Basic
basics = Const ∷ Mover ∷ Atomic ∷ Cmpd ∷ Error ∷ []

-- the name of a basic
unfoldable pub leaf_at : List ℕ → Res Basic
leaf_at ts = one_of name_of basics ts

-- a test, whose branches are read by inner
abbrev pub test_with : (List ℕ → Res Cond) → List ℕ → Res Cond
test_with inner ts =
    expect (codes "(") ts >>= λ u ts. path_at ts >>= λ p ts. expect (codes " ") ts >>= λ u ts. inner ts >>= λ a ts.
    expect (codes " ") ts >>= λ u ts. inner ts >>= λ b ts. expect (codes ")") ts >>= λ u ts. Ok (TestC p a b, ts)

-- a tree with at most so many tests within each other; TooDeep at the bracket of one more
unfoldable pub tree_at : ℕ → List ℕ → Res Cond
tree_at zero ts = if begins 40 ts then Err (TooDeep, ts) else (leaf_at ts >>= λ b ts. Ok (LeafC b, ts))
tree_at (suc room) ts = if begins 40 ts then test_with (tree_at room) ts else (leaf_at ts >>= λ b ts. Ok (LeafC b, ts))

-- a tree of the table; Form at its first byte where the tree, which is read whole, isn't canonical
unfoldable pub canonical_at : List ℕ → Res Cond
canonical_at ts = tree_at most_nesting ts >>= λ t rest. if is_canonical t then Ok (t, rest) else Err (Form, ts)

-- a line of the table: a canonical tree
abbrev pub table_line : List ℕ → Res Cond
table_line ts = canonical_at ts >>= λ t ts. expect (newline ∷ []) ts >>= λ u ts. Ok (t, ts)

-- a word with the blank behind it
unfoldable pub word_at_front : List ℕ → Res Word
word_at_front ts = one_of (λ w. word_text w ++ codes " ") words ts

-- a node after a blank
abbrev pub premise_with : (List ℕ → Res Node) → List ℕ → Res Node
premise_with inner ts = expect (codes " ") ts >>= λ u ts. inner ts

-- a node with a number below count and with at most so many nodes within each other; TooDeep at the bracket of one more
unfoldable pub node_at : ℕ → ℕ → List ℕ → Res Node
node_at count zero ts = if begins 40 ts then Err (TooDeep, ts) else Err (Form, ts)
node_at count (suc room) ts =
    expect (codes "(") ts >>= λ u ts. word_at_front ts >>= λ w ts. number_at count ts >>= λ n ts.
    several 32 (premise_with (node_at count room)) ts >>= λ ds ts. expect (codes ")") ts >>= λ u ts. Ok (node w n (nodes_from ds), ts)

-- a method's line, in a book with so many trees: its number, the number of its conclusion, and its derivation
unfoldable pub line_at : ℕ → List ℕ → Res Line
line_at count ts =
    expect (codes "method ") ts >>= λ u ts. number_at (2 ^ 32) ts >>= λ id ts. expect (codes " ") ts >>= λ u ts.
    number_at count ts >>= λ n ts. expect (newline ∷ []) ts >>= λ u ts. node_at count most_nesting ts >>= λ d ts.
    expect (newline ∷ []) ts >>= λ u ts. Ok (record { id = id; number = n; body = d }, ts)

-- nothing stands behind the book
abbrev pub nothing_behind : List ℕ → Res (Unit {0})
nothing_behind [] = Ok (tt, [])
nothing_behind (b ∷ ts) = Err (Form, b ∷ ts)

-- the count of the trees, in its line
unfoldable pub count_at : List ℕ → Res ℕ
count_at ts = expect (codes "book ") ts >>= λ u ts. number_at (2 ^ 32) ts >>= λ n ts. expect (newline ∷ []) ts >>= λ u ts. Ok (n, ts)

-- method lines while an `m` stands first, then the end
unfoldable pub lines_at : ℕ → List ℕ → Res (List Line)
lines_at count ts =
    several 109 (line_at count) ts >>= λ lines ts. expect (codes "end" ++ (newline ∷ [])) ts >>= λ u ts. nothing_behind ts >>= λ u ts. Ok (lines, ts)

-- a whole book: the count of its trees, the trees, and the lines of the methods
unfoldable pub book_at : List ℕ → Res Book
book_at ts =
    count_at ts >>= λ n ts. exactly n table_line ts >>= λ trees ts. lines_at n ts >>= λ lines ts.
    Ok (record { table = trees; lines = lines }, ts)
