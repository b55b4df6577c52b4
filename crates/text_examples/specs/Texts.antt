-- A schedule, the book of a small source, a certificate, and levels: as texts, and as what they write.
use Rattle.std.specs.Prelude.{ℕ, List, [], ◌∷◌, codes}
use Rattle.core_examples.specs.Fields.{path}
use Rattle.algebra.specs.declared.basic.Basic.TheVariants.{Const, Mover, Atomic, Cmpd, Error}
use Rattle.conditions.specs.Conditions.{Cond, LeafC, TestC}
use Rattle.books.specs.declared.word.Word.TheVariants as w
use Rattle.books.specs.Derivations.{Node, node, Nodes, no_nodes, and_node}
use Rattle.books.specs.Books.{Book}
use Rattle.refutation.specs.Lines.{LineData}

-- two steps of the first thread, a comment, and one of the second
abbrev pub small_text : List ℕ
small_text = codes "0*2 # 7\n1\n"

-- the trees of the book of `class Main { int v guarded_by this; atomic void main() { synchronized (this) { this.v = 7; } } }`
abbrev pub mover_or_atomic : Cond
mover_or_atomic = TestC (path 0 []) (LeafC Mover) (LeafC Atomic)

-- a mover where the lock of `this` is held, else an error
abbrev pub mover_or_error : Cond
mover_or_error = TestC (path 0 []) (LeafC Mover) (LeafC Error)

-- two tests within each other
abbrev pub two_tests : Cond
two_tests = TestC (path 0 []) (LeafC Const) (TestC (path 1 (7 ∷ 12 ∷ [])) (LeafC Atomic) (LeafC Cmpd))

-- a list of one premise
abbrev pub one_node : Node → Nodes
one_node d = and_node d no_nodes

-- `this.v = 7`, and the body around it
abbrev pub put_node : Node
put_node = node w.Put 1 (and_node (node w.This 2 no_nodes) (one_node (node w.Lit 2 no_nodes)))

-- the derivation of the whole body
abbrev pub body_node : Node
body_node = node w.Block 0 (one_node (node w.Sync 0 (one_node (node w.Block 1 (one_node put_node)))))

-- the book of that source: three trees, and the line of its one method
abbrev pub locked_book : Book
locked_book = record {
  table = mover_or_atomic ∷ mover_or_error ∷ LeafC Const ∷ [];
  lines = record { id = 0; number = 0; body = body_node } ∷ [];
}

-- the text of this book
abbrev pub locked_text : List ℕ
locked_text = codes "book 3\n(0 mover atomic)\n(0 mover error)\nconst\nmethod 0 0\n(block 0 (sync 0 (block 1 (put 1 (this 2) (lit 2)))))\nend\n"

-- three lines of a certificate
abbrev pub three_lines : List LineData
three_lines =
    record { method = 0; found = Atomic; held = [] }
    ∷ record { method = 0; found = Mover; held = path 0 [] ∷ path 1 (7 ∷ []) ∷ [] }
    ∷ record { method = 12; found = Cmpd; held = [] } ∷ []

-- the text of these three lines
abbrev pub three_text : List ℕ
three_text = codes "blame 3\n0 atomic\n0 mover 0 1.7\n12 cmpd\nend\n"
