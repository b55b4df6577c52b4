-- The parts that the nodes of a derivation stand for are the parts of a body, in order.
use Rattle.std.proofs.Common.{◌≡◌, ◌+◌, List, [], ◌∷◌, ◌++◌, length, map, Some, None, suc, refl, sym, ap, ◌∙◌, arith, append-nil}
use Rattle.base.proofs.Lists.{at_left, get_right}
use Rattle.core_program.specs.Core.{Exprs, IntE, TruthE, NullE, ThisE, VarE, NotE, NegE, BinaryE, AndE, OrE, GetE, CallE, NewE, no_exprs, and_expr}
use Rattle.core_program.specs.Core.{Stmts, EmptyS, BlockS, LocalS, SetVarS, SetFieldS, DoS, IfS, WhileS, SyncS, ReturnS, PrintS, StartS, no_stmts, and_stmt}
use Rattle.books.specs.Derivations.{Node, node, Nodes, no_nodes, and_node, count_nodes}
use Rattle.effects.specs.Parts.{Part, ExprP, StmtP, args_parts, block_parts as stmts_of, parts_of}
use Rattle.book_check.specs.Parts.{PlacedNode, places, places_of, FitsPart, Each}
use Rattle.explain.specs.PartEffects.{expr_parts, exprs_parts, stmt_parts, block_parts, parts_in}

-- all parts of each, one after the other
parts_each : List Part → List Part
parts_each [] = []
parts_each (x ∷ xs) = parts_in x ++ parts_each xs

each_arg : (es : Exprs) → exprs_parts es ≡ parts_each (args_parts es)
unfolding parts_each
each_arg no_exprs = refl
each_arg (and_expr e es) = ap (λ l. expr_parts e ++ l) (each_arg es)

each_stmt : (ss : Stmts) → block_parts ss ≡ parts_each (stmts_of ss)
unfolding parts_each
each_stmt no_stmts = refl
each_stmt (and_stmt s ss) = ap (λ l. stmt_parts s ++ l) (each_stmt ss)

-- one part, two, three
alone : (x y : Part) → (x ∷ parts_in y) ≡ (x ∷ parts_each (y ∷ []))
unfolding parts_each
alone x y = ap (λ l. x ∷ l) (sym (append-nil (parts_in y)))

two : (x y z : Part) → (x ∷ (parts_in y ++ parts_in z)) ≡ (x ∷ parts_each (y ∷ z ∷ []))
unfolding parts_each
two x y z = ap (λ l. x ∷ (parts_in y ++ l)) (sym (append-nil (parts_in z)))

three : (x y z w : Part) → (x ∷ (parts_in y ++ (parts_in z ++ parts_in w))) ≡ (x ∷ parts_each (y ∷ z ∷ w ∷ []))
unfolding parts_each
three x y z w = ap (λ l. x ∷ (parts_in y ++ (parts_in z ++ l))) (sym (append-nil (parts_in w)))

-- a part, and then all of its own
unfolds : (x : Part) → parts_in x ≡ (x ∷ parts_each (parts_of x))
unfolding parts_each
unfolds (ExprP (IntE v)) = refl
unfolds (ExprP (TruthE b)) = refl
unfolds (ExprP NullE) = refl
unfolds (ExprP ThisE) = refl
unfolds (ExprP (VarE x is_final ty)) = refl
unfolds (ExprP (NotE e)) = alone _ (ExprP e)
unfolds (ExprP (NegE e)) = alone _ (ExprP e)
unfolds (ExprP (BinaryE op a b)) = two _ (ExprP a) (ExprP b)
unfolds (ExprP (AndE a b)) = two _ (ExprP a) (ExprP b)
unfolds (ExprP (OrE a b)) = two _ (ExprP a) (ExprP b)
unfolds (ExprP (GetE e f)) = alone _ (ExprP e)
unfolds (ExprP (CallE e m args)) = ap (λ l. ExprP (CallE e m args) ∷ (expr_parts e ++ l)) (each_arg args)
unfolds (ExprP (NewE c args)) = ap (λ l. ExprP (NewE c args) ∷ l) (each_arg args)
unfolds (StmtP EmptyS) = refl
unfolds (StmtP (BlockS ss)) = ap (λ l. StmtP (BlockS ss) ∷ l) (each_stmt ss)
unfolds (StmtP (LocalS x is_final ty e)) = alone _ (ExprP e)
unfolds (StmtP (SetVarS x e)) = alone _ (ExprP e)
unfolds (StmtP (SetFieldS e f g)) = two _ (ExprP e) (ExprP g)
unfolds (StmtP (DoS e drops)) = alone _ (ExprP e)
unfolds (StmtP (IfS c s t)) = three _ (ExprP c) (StmtP s) (StmtP t)
unfolds (StmtP (WhileS c s)) = two _ (ExprP c) (StmtP s)
unfolds (StmtP (SyncS p s)) = alone _ (StmtP s)
unfolds (StmtP (ReturnS None)) = refl
unfolds (StmtP (ReturnS (Some e))) = alone _ (ExprP e)
unfolds (StmtP (PrintS e)) = alone _ (ExprP e)
unfolds (StmtP (StartS e)) = alone _ (ExprP e)

abbrev parts_at : List PlacedNode → List Part
parts_at xs = map (λ place. place.part) xs

-- facts on all places of two lists, and of a list behind one place
at_first : (Good : PlacedNode → Type 0) (xs ys : List PlacedNode) → Each Good (xs ++ ys) → Each Good xs
at_first Good xs ys each k x is = each k x (at_left xs ys k x is)

at_second : (Good : PlacedNode → Type 0) (xs ys : List PlacedNode) → Each Good (xs ++ ys) → Each Good ys
at_second Good xs ys each k x is = each (length xs + k) x (get_right xs ys k ∙ is)

map_both : (xs ys : List PlacedNode) → parts_at (xs ++ ys) ≡ (parts_at xs ++ parts_at ys)
map_both [] ys = refl
map_both (x ∷ xs) ys = ap (λ l. x.part ∷ l) (map_both xs ys)

mutual
  unfolding parts_each

  pub same_parts : (x : Part) (d : Node) → Each FitsPart (places x d) → parts_at (places x d) ≡ parts_in x
  same_parts x (node w n ds) each =
      ap (λ l. x ∷ l) (nodes_same (parts_of x) ds (each 0 (record { part = x; at = node w n ds }) refl).count (λ k y is. each (suc k) y is)) ∙ sym (unfolds x)

  nodes_same : (xs : List Part) (ds : Nodes) → count_nodes ds ≡ length xs → Each FitsPart (places_of xs ds) → parts_at (places_of xs ds) ≡ parts_each xs
  nodes_same [] no_nodes count each = refl
  nodes_same [] (and_node d ds) count each = absurd (omega (arith, count))
  nodes_same (x ∷ xs) no_nodes count each = absurd (omega (arith, count))
  nodes_same (x ∷ xs) (and_node d ds) count each =
      map_both (places x d) (places_of xs ds)
      ∙ (λ i. same_parts x d (at_first FitsPart (places x d) (places_of xs ds) each) i ++ nodes_same xs ds (omega (arith, count)) (at_second FitsPart (places x d) (places_of xs ds) each) i)
