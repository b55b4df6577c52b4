-- Derivations as plain data: a word, the number of the conclusion in the table, and the premises.
use Rattle.std.specs.Prelude.{ℕ, suc, List, [], ◌∷◌, codes}
use Rattle.books.specs.declared.word.Word.{Word}
use Rattle.books.specs.declared.word.Word.TheVariants as w

-- Nodes and lists of premises, which hold each other.
mutual
  -- a node: its word, the number of its conclusion, its premises
  pub data Node : Type 0 where
    node : Word → ℕ → Nodes → Node

  -- nodes side by side
  pub data Nodes : Type 0 where
    no_nodes : Nodes
    and_node : Node → Nodes → Nodes

-- the word of a node
abbrev pub word_at : Node → Word
word_at (node w n ds) = w

-- the number of its conclusion
abbrev pub conclusion_number : Node → ℕ
conclusion_number (node w n ds) = n

-- its premises
abbrev pub premises_of : Node → Nodes
premises_of (node w n ds) = ds

-- how many nodes stand side by side
abbrev pub count_nodes : Nodes → ℕ
count_nodes no_nodes = 0
count_nodes (and_node d ds) = suc (count_nodes ds)

-- the nodes of a list, side by side
abbrev pub nodes_from : List Node → Nodes
nodes_from [] = no_nodes
nodes_from (d ∷ ds) = and_node d (nodes_from ds)

-- how a word is written
abbrev pub word_text : Word → List ℕ
word_text w.Lit = codes "lit"
word_text w.This = codes "this"
word_text w.Var = codes "var"
word_text w.Un = codes "un"
word_text w.Bin = codes "bin"
word_text w.And = codes "and"
word_text w.Or = codes "or"
word_text w.Get = codes "get"
word_text w.New = codes "new"
word_text w.Call = codes "call"
word_text w.Local = codes "local"
word_text w.Set = codes "set"
word_text w.Put = codes "put"
word_text w.Block = codes "block"
word_text w.If = codes "if"
word_text w.While = codes "while"
word_text w.Sync = codes "sync"
word_text w.Return = codes "return"
word_text w.Print = codes "print"
word_text w.Start = codes "start"
word_text w.Do = codes "do"
word_text w.Skip = codes "skip"

-- all words
abbrev pub words : List Word
words =
    w.Lit ∷ w.This ∷ w.Var ∷ w.Un ∷ w.Bin ∷ w.And ∷ w.Or ∷ w.Get ∷ w.New ∷ w.Call ∷ w.Local ∷ w.Set ∷ w.Put ∷ w.Block ∷ w.If ∷
    w.While ∷ w.Sync ∷ w.Return ∷ w.Print ∷ w.Start ∷ w.Do ∷ w.Skip ∷ []
