-- Where a rule of books beside their grammar is broken: what stands before the place, and what begins there. Each fact names the kind of
-- the fault.
use Rattle.std.specs.Prelude.{◌≡◌, ◌<◌, ◌≤◌, ◌^◌, ◌++◌, ℕ, zero, suc, true, false, List, [], ◌∷◌, length, take, drop, codes, decimal, None}
use Rattle.paths.specs.Paths.{PathData}
use Rattle.conditions.specs.Conditions.{Cond}
use Rattle.conditions.specs.Texts.{path_text, text_of}
use Rattle.books.specs.declared.stop.Kind.{Kind}
use Rattle.books.specs.declared.stop.Kind.TheVariants.{Form, TooDeep}
use Rattle.books.specs.declared.word.Word.{Word}
use Rattle.books.specs.Derivations.{Nodes, word_text}
use Rattle.books.specs.Books.{Line, IsPath, HasPaths, tests_high, AreTrees, is_canonical, AreNumbered, nodes_high, AreMethodLines, most_nesting}
use Rattle.books.specs.Texts.{newline, nodes_text, table_text, method_lines_text}
use Rattle.books.specs.Combine.{begins}
use Rattle.books.specs.Broken.{IsPast}
use Rattle.books.specs.BrokenPaths.{BreaksPath}

-- in a test a number of its path is out of range, or a rule is broken in the tree where the path is held, or in the one where it isn't
pub data BreaksTest (kind : Kind) (room : ℕ) (Inner : List ℕ → List ℕ → Type 0) (front rest : List ℕ) : Type 0 where
  in_path : (ahead : List ℕ) → kind ≡ Form → front ≡ codes "(" ++ ahead → BreaksPath None ahead rest → BreaksTest kind room Inner front rest
  in_held : (p : PathData) (ahead : List ℕ) → IsPath p → front ≡ codes "(" ++ (path_text p ++ (codes " " ++ ahead)) → Inner ahead rest → BreaksTest kind room Inner front rest
  in_free : (p : PathData) (a : Cond) (ahead : List ℕ) → IsPath p → HasPaths a → tests_high a ≤ room →
      front ≡ codes "(" ++ (path_text p ++ (codes " " ++ (text_of a ++ (codes " " ++ ahead)))) → Inner ahead rest → BreaksTest kind room Inner front rest

-- in a tree with at most so many tests within each other: one more begins, or a rule is broken in its test
abbrev pub BreaksTree : Kind → ℕ → List ℕ → List ℕ → Type 0
BreaksTree kind zero front rest = (kind ≡ TooDeep) × (front ≡ []) × (begins 40 rest ≡ true)
BreaksTree kind (suc room) front rest = BreaksTest kind room (BreaksTree kind room) front rest

-- in a tree of the table, or the tree that begins there isn't canonical
pub data BreaksTableTree (kind : Kind) (front rest : List ℕ) : Type 0 where
  inside : BreaksTree kind most_nesting front rest → BreaksTableTree kind front rest
  uncanonical : (t : Cond) (behind : List ℕ) → kind ≡ Form → front ≡ [] → rest ≡ text_of t ++ behind → HasPaths t → tests_high t ≤ most_nesting → is_canonical t ≡ false →
      BreaksTableTree kind front rest

-- in a node: the table lacks its conclusion, or a rule is broken in one of its premises
pub data BreaksInner (kind : Kind) (count room : ℕ) (Inner : List ℕ → List ℕ → Type 0) (front rest : List ℕ) : Type 0 where
  at_number : (w : Word) → kind ≡ Form → front ≡ codes "(" ++ (word_text w ++ codes " ") → IsPast count rest → BreaksInner kind count room Inner front rest
  in_premise : (w : Word) (n : ℕ) (ds : Nodes) (ahead : List ℕ) → n < count → AreNumbered count ds → nodes_high ds ≤ room →
      front ≡ codes "(" ++ ((word_text w ++ codes " ") ++ (decimal n ++ (nodes_text ds ++ (codes " " ++ ahead)))) → Inner ahead rest → BreaksInner kind count room Inner front rest

-- in a node with at most so many nodes within each other, in a book with so many trees
abbrev pub BreaksNode : Kind → ℕ → ℕ → List ℕ → List ℕ → Type 0
BreaksNode kind count zero front rest = (kind ≡ TooDeep) × (front ≡ []) × (begins 40 rest ≡ true)
BreaksNode kind count (suc room) front rest = BreaksInner kind count room (BreaksNode kind count room) front rest

-- in a method line: its method is out of range, the table lacks its tree, or a rule is broken in its derivation
pub data BreaksLine (kind : Kind) (count : ℕ) (front rest : List ℕ) : Type 0 where
  at_method : kind ≡ Form → front ≡ codes "method " → IsPast (2 ^ 32) rest → BreaksLine kind count front rest
  at_tree : (m : ℕ) → m < 2 ^ 32 → kind ≡ Form → front ≡ codes "method " ++ (decimal m ++ codes " ") → IsPast count rest → BreaksLine kind count front rest
  in_body : (m n : ℕ) (ahead : List ℕ) → m < 2 ^ 32 → n < count →
      front ≡ codes "method " ++ (decimal m ++ (codes " " ++ (decimal n ++ ((newline ∷ []) ++ ahead)))) → BreaksNode kind count most_nesting ahead rest → BreaksLine kind count front rest

-- the line with the count of the trees
abbrev pub table_heading : ℕ → List ℕ
table_heading n = codes "book " ++ (decimal n ++ (newline ∷ []))

-- behind this front of a text a rule of books is broken
pub data BreaksBook (kind : Kind) (front rest : List ℕ) : Type 0 where
  at_count : kind ≡ Form → front ≡ codes "book " → IsPast (2 ^ 32) rest → BreaksBook kind front rest
  in_tree : (n : ℕ) (before : List Cond) (ahead : List ℕ) → n < 2 ^ 32 → length before < n → AreTrees before →
      front ≡ table_heading n ++ (table_text before ++ ahead) → BreaksTableTree kind ahead rest → BreaksBook kind front rest
  in_line : (table : List Cond) (before : List Line) (ahead : List ℕ) → length table < 2 ^ 32 → AreTrees table → AreMethodLines (length table) before →
      front ≡ table_heading (length table) ++ (table_text table ++ (method_lines_text before ++ ahead)) → BreaksLine kind (length table) ahead rest → BreaksBook kind front rest

-- at this place of a text a rule of books is broken
abbrev pub BreaksAt : List ℕ → Kind → ℕ → Type 0
BreaksAt bytes kind place = BreaksBook kind (take place bytes) (drop place bytes)
