-- Small programs, and books for them.
use Rattle.std.specs.Prelude.{ℕ, Bool, false, List, [], ◌∷◌, None, Some}
use Rattle.paths.specs.Paths.{PathData}
use Rattle.algebra.specs.declared.basic.Basic.TheVariants.{Const, Atomic, Cmpd}
use Rattle.core_program.specs.Core.{Program, Stmt, EmptyS, BlockS, PrintS, no_stmts, and_stmt}
use Rattle.core_program.specs.Examples.{this_path, plain_method, guarded_main}
use Rattle.conditions.specs.Conditions.{Cond, LeafC, TestC}
use Rattle.books.specs.declared.word.Word.TheVariants as w
use Rattle.books.specs.Derivations.{Node, node, no_nodes, and_node}
use Rattle.books.specs.Books.{Line, Book}
use Rattle.core_examples.specs.Family.{class_with, family}
use Rattle.core_examples.specs.Small.{one}

-- `class Main { .. void main() .. }` with this body, annotated or not
abbrev pub main_with : (annotated : Bool) → Stmt → Program
main_with annotated body = guarded_main false 41 annotated body

-- `System.out.println(1);`, and twice
abbrev pub print_one : Stmt
print_one = PrintS one

-- `{ System.out.println(1); System.out.println(1); }`
abbrev pub print_twice : Stmt
print_twice = BlockS (and_stmt print_one (and_stmt print_one no_stmts))

-- `class A { void m() { } }`, and `class B extends A { void m() { System.out.println(1); } }`
abbrev pub prints_below : Program
prints_below = record family {
  classes = class_with [] None ((0, 0) ∷ []) ∷ class_with [] (Some 0) ((0, 1) ∷ (1, 1) ∷ []) ∷ [];
  fields = [];
  methods = plain_method 0 20 false EmptyS ∷ plain_method 1 60 false print_one ∷ [];
}

-- no path is relevant, or that of `this`
abbrev pub no_paths : ℕ → List PathData
no_paths m = []

-- the lock of `this` is relevant to each method, and no other
abbrev pub this_path_only : ℕ → List PathData
this_path_only m = this_path ∷ []

-- the trees const, atomic and cmpd; one that tests `this`; and one that rises where `this` is held
abbrev pub trees : List Cond
trees = LeafC Const ∷ LeafC Atomic ∷ LeafC Cmpd ∷ TestC this_path (LeafC Const) (LeafC Atomic) ∷ TestC this_path (LeafC Atomic) (LeafC Const) ∷ []

-- a method line, and a book of these trees with these method lines
abbrev pub method_line : (id number : ℕ) → Node → Line
method_line id number body = record { id = id; number = number; body = body }

-- a book of these trees with these method lines
abbrev pub book : List Line → Book
book lines = record { table = trees; lines = lines }

-- nodes with these conclusions
abbrev pub skip : ℕ → Node
skip n = node w.Skip n no_nodes

-- a node of a literal, whose conclusion is the first tree
abbrev pub literal : Node
literal = node w.Lit 0 no_nodes

-- a node of `System.out.println(1);` with this conclusion
abbrev pub print : ℕ → Node
print n = node w.Print n (and_node literal no_nodes)

-- a node of a block of two statements with this conclusion
abbrev pub block : ℕ → (first second : Node) → Node
block n first second = node w.Block n (and_node first (and_node second no_nodes))
