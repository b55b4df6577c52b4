-- What derivations and books in memory are as plain data.
use Rattle.std.specs.Prelude.{ℕ, List, [], ◌∷◌, map}
use Rattle.conditions.specs.declared.tree.Tree.{Tree}
use Rattle.conditions.specs.Conditions.{cond_of}
use Rattle.books.specs.declared.word.Word.TheVariants as w
use Rattle.books.specs.declared.derivation.Derivation.{Derivation, Row_of-Derivation, end_of-Derivation, more_of-Derivation}
use Rattle.books.specs.declared.derivation.Derivation.TheVariants as d
use Rattle.books.specs.Derivations.{Node, node, Nodes, no_nodes, and_node}
use Rattle.books.specs.Books.{Line, Book}

-- Derivations in memory as plain data: a node, and a row of nodes.
abbrev mutual
  -- a node in memory as plain data
  pub node_of : Derivation → Node
  node_of (d.Lit' n shape ds) = node w.Lit n (nodes_of ds)
  node_of (d.This' n shape ds) = node w.This n (nodes_of ds)
  node_of (d.Var' n shape ds) = node w.Var n (nodes_of ds)
  node_of (d.Un' n shape ds) = node w.Un n (nodes_of ds)
  node_of (d.Bin' n shape ds) = node w.Bin n (nodes_of ds)
  node_of (d.And' n shape ds) = node w.And n (nodes_of ds)
  node_of (d.Or' n shape ds) = node w.Or n (nodes_of ds)
  node_of (d.Get' n shape ds) = node w.Get n (nodes_of ds)
  node_of (d.New' n shape ds) = node w.New n (nodes_of ds)
  node_of (d.Call' n shape ds) = node w.Call n (nodes_of ds)
  node_of (d.Local' n shape ds) = node w.Local n (nodes_of ds)
  node_of (d.Set' n shape ds) = node w.Set n (nodes_of ds)
  node_of (d.Put' n shape ds) = node w.Put n (nodes_of ds)
  node_of (d.Block' n shape ds) = node w.Block n (nodes_of ds)
  node_of (d.If' n shape ds) = node w.If n (nodes_of ds)
  node_of (d.While' n shape ds) = node w.While n (nodes_of ds)
  node_of (d.Sync' n shape ds) = node w.Sync n (nodes_of ds)
  node_of (d.Return' n shape ds) = node w.Return n (nodes_of ds)
  node_of (d.Print' n shape ds) = node w.Print n (nodes_of ds)
  node_of (d.Start' n shape ds) = node w.Start n (nodes_of ds)
  node_of (d.Do' n shape ds) = node w.Do n (nodes_of ds)
  node_of (d.Skip' n shape ds) = node w.Skip n (nodes_of ds)

  -- its premises as plain data
  pub nodes_of : {n : _} → Row_of-Derivation n → Nodes
  nodes_of end_of-Derivation = no_nodes
  nodes_of (more_of-Derivation d rest) = and_node (node_of d) (nodes_of rest)

-- nodes side by side in memory as plain data
abbrev pub nodes_at : List Derivation → Nodes
nodes_at [] = no_nodes
nodes_at (d ∷ rest) = and_node (node_of d) (nodes_at rest)

-- a method line in memory as plain data
abbrev pub method_line_of : ℕ × ℕ × Derivation → Line
method_line_of line = record { id = line.0; number = line.1; body = node_of line.2 }

-- a book in memory, by its table and its method lines, as plain data
abbrev pub book_of : List Tree × List (ℕ × ℕ × Derivation) → Book
book_of book = record { table = map cond_of book.0; lines = map method_line_of book.1 }
