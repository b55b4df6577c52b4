-- A node in memory and its plain data: an equation for each word.
use Rattle.std.proofs.Common.{◌≡◌, ℕ, refl, ap, ◌∙◌}
use Rattle.std.specs.Prelude.{Vec}
use Rattle.std.specs.declared.alloc.Global.{Global}
use Rattle.books.specs.declared.word.Word.{Word}
use Rattle.books.specs.declared.word.Word.TheVariants as w
use Rattle.books.specs.declared.derivation.Derivation as d
use Rattle.books.specs.declared.derivation.Derivation.{Derivation, Row_of-Derivation, end_of-Derivation, more_of-Derivation, items-the_row-Derivation, items_hidden-the_row-Derivation-0}
use Rattle.books.specs.declared.derivation.Derivation.TheBlock.{hidden-the_row-Derivation-0}
use Rattle.books.specs.Derivations.{node, and_node}
use Rattle.books.specs.Memory.{node_of, nodes_of, nodes_at}

-- a row of premises is the list of them
nodes_of-row : {n : _} → (row : Row_of-Derivation n) → nodes_of row ≡ nodes_at (items-the_row-Derivation n row)
nodes_of-row end_of-Derivation = refl
nodes_of-row (more_of-Derivation d rest) = ap (and_node (node_of d)) (nodes_of-row rest)

as_node : (x : Word) (n : ℕ) (ds : Vec Derivation Global) → node x n (nodes_of (hidden-the_row-Derivation-0 ds)) ≡ node x n (nodes_at ds.items)
as_node x n ds = ap (node x n) (nodes_of-row (hidden-the_row-Derivation-0 ds) ∙ ap nodes_at (items_hidden-the_row-Derivation-0 ds))

pub node_of-Lit : (n : ℕ) (ds : Vec Derivation Global) → node_of (d.Lit n ds) ≡ node w.Lit n (nodes_at ds.items)
node_of-Lit n ds = as_node w.Lit n ds

pub node_of-This : (n : ℕ) (ds : Vec Derivation Global) → node_of (d.This n ds) ≡ node w.This n (nodes_at ds.items)
node_of-This n ds = as_node w.This n ds

pub node_of-Var : (n : ℕ) (ds : Vec Derivation Global) → node_of (d.Var n ds) ≡ node w.Var n (nodes_at ds.items)
node_of-Var n ds = as_node w.Var n ds

pub node_of-Un : (n : ℕ) (ds : Vec Derivation Global) → node_of (d.Un n ds) ≡ node w.Un n (nodes_at ds.items)
node_of-Un n ds = as_node w.Un n ds

pub node_of-Bin : (n : ℕ) (ds : Vec Derivation Global) → node_of (d.Bin n ds) ≡ node w.Bin n (nodes_at ds.items)
node_of-Bin n ds = as_node w.Bin n ds

pub node_of-And : (n : ℕ) (ds : Vec Derivation Global) → node_of (d.And n ds) ≡ node w.And n (nodes_at ds.items)
node_of-And n ds = as_node w.And n ds

pub node_of-Or : (n : ℕ) (ds : Vec Derivation Global) → node_of (d.Or n ds) ≡ node w.Or n (nodes_at ds.items)
node_of-Or n ds = as_node w.Or n ds

pub node_of-Get : (n : ℕ) (ds : Vec Derivation Global) → node_of (d.Get n ds) ≡ node w.Get n (nodes_at ds.items)
node_of-Get n ds = as_node w.Get n ds

pub node_of-New : (n : ℕ) (ds : Vec Derivation Global) → node_of (d.New n ds) ≡ node w.New n (nodes_at ds.items)
node_of-New n ds = as_node w.New n ds

pub node_of-Call : (n : ℕ) (ds : Vec Derivation Global) → node_of (d.Call n ds) ≡ node w.Call n (nodes_at ds.items)
node_of-Call n ds = as_node w.Call n ds

pub node_of-Local : (n : ℕ) (ds : Vec Derivation Global) → node_of (d.Local n ds) ≡ node w.Local n (nodes_at ds.items)
node_of-Local n ds = as_node w.Local n ds

pub node_of-Set : (n : ℕ) (ds : Vec Derivation Global) → node_of (d.Set n ds) ≡ node w.Set n (nodes_at ds.items)
node_of-Set n ds = as_node w.Set n ds

pub node_of-Put : (n : ℕ) (ds : Vec Derivation Global) → node_of (d.Put n ds) ≡ node w.Put n (nodes_at ds.items)
node_of-Put n ds = as_node w.Put n ds

pub node_of-Block : (n : ℕ) (ds : Vec Derivation Global) → node_of (d.Block n ds) ≡ node w.Block n (nodes_at ds.items)
node_of-Block n ds = as_node w.Block n ds

pub node_of-If : (n : ℕ) (ds : Vec Derivation Global) → node_of (d.If n ds) ≡ node w.If n (nodes_at ds.items)
node_of-If n ds = as_node w.If n ds

pub node_of-While : (n : ℕ) (ds : Vec Derivation Global) → node_of (d.While n ds) ≡ node w.While n (nodes_at ds.items)
node_of-While n ds = as_node w.While n ds

pub node_of-Sync : (n : ℕ) (ds : Vec Derivation Global) → node_of (d.Sync n ds) ≡ node w.Sync n (nodes_at ds.items)
node_of-Sync n ds = as_node w.Sync n ds

pub node_of-Return : (n : ℕ) (ds : Vec Derivation Global) → node_of (d.Return n ds) ≡ node w.Return n (nodes_at ds.items)
node_of-Return n ds = as_node w.Return n ds

pub node_of-Print : (n : ℕ) (ds : Vec Derivation Global) → node_of (d.Print n ds) ≡ node w.Print n (nodes_at ds.items)
node_of-Print n ds = as_node w.Print n ds

pub node_of-Start : (n : ℕ) (ds : Vec Derivation Global) → node_of (d.Start n ds) ≡ node w.Start n (nodes_at ds.items)
node_of-Start n ds = as_node w.Start n ds

pub node_of-Do : (n : ℕ) (ds : Vec Derivation Global) → node_of (d.Do n ds) ≡ node w.Do n (nodes_at ds.items)
node_of-Do n ds = as_node w.Do n ds

pub node_of-Skip : (n : ℕ) (ds : Vec Derivation Global) → node_of (d.Skip n ds) ≡ node w.Skip n (nodes_at ds.items)
node_of-Skip n ds = as_node w.Skip n ds
