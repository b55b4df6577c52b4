-- The trees of a derived book test only paths near their methods.
use Rattle.std.proofs.Common.{◌≡◌, ◌&&◌, ◌||◌, ◌<◌, ◌≤◌, ◌⊎◌, inl, inr, ℕ, zero, suc, true, false, List, [], ◌∷◌, ◌++◌, length, Some, None, slice_get, sym, ◌∙◌, ap, subst, arith}
use Rattle.std.specs.Prelude.{Contains}
use Rattle.std.proofs.lemmas.Bool.{or_left, or_right}
use Rattle.std.proofs.lemmas.List.Elements.{Contains-append_left, Contains-append_right}
use Rattle.std.proofs.lemmas.List.Folds.{list_any-append}
use Rattle.std.proofs.lemmas.Option.{slice_get_within}
use Rattle.paths.specs.Paths.{PathData, path_eq}
use Rattle.algebra.specs.HeldPaths.{Held, has_path}
use Rattle.core_program.specs.Core.{Program, Method, Exprs, IntE, TruthE, NullE, ThisE, VarE, NotE, NegE, BinaryE, AndE, OrE, GetE, CallE, NewE, no_exprs, and_expr}
use Rattle.core_program.specs.Core.{Stmts, EmptyS, BlockS, LocalS, SetVarS, SetFieldS, DoS, IfS, WhileS, SyncS, ReturnS, PrintS, StartS, no_stmts, and_stmt}
use Rattle.conditions.specs.Conditions.{Cond, value_of}
use Rattle.rules.specs.Effect.{Assignment}
use Rattle.rules.specs.Mentions.{Mention, Accesses, Calls, Locks, Names, expr_mentions, exprs_mentions, mentions, block_mentions}
use Rattle.rules.specs.Near.{MethodPaths, AreRelevant, Near, rel_of, rel_paths, loc_of, loc_paths}
use Rattle.rules.proofs.NearOnly.{contains_later, near_only_expr, near_only_stmt}
use Rattle.books.specs.Derivations.{Node, node, Nodes, no_nodes, and_node, conclusion_number}
use Rattle.books.specs.Books.{Line}
use Rattle.effects.specs.Parts.{Part, ExprP, StmtP, args_parts, block_parts, parts_of}
use Rattle.effects.specs.Effects.{part_effect}
use Rattle.book_check.specs.Conclusions.{tree_numbered, tests_only, tree_value}
use Rattle.book_check.specs.Judges.{AreCanonical}
use Rattle.book_check.specs.Nearness.{is_near, AreNear, AreAllNear}
use Rattle.book_check.specs.Good.{IsGoodBook}
use Rattle.book_check.specs.NearBooks.{IsNearBook}
use Rattle.derive.specs.Bases.{trees_assign}
use Rattle.derive.specs.Concluded.{Concludes, ConcludeAll}
use Rattle.derive.specs.Lines.{AreLinesOf}
use Rattle.derive.proofs.ConcludeLemmas.{effect_is, some_at}
use Rattle.derive.proofs.Whole.{cut, only_tests}

-- what a part mentions
abbrev part_mentions : Part → List Mention
part_mentions (ExprP e) = expr_mentions e
part_mentions (StmtP s) = mentions s

-- from a part to those that it is made of
module _ (Q : Mention → Type 0) where
  abbrev AllOf : List Mention → Type 0
  AllOf xs = (y : Mention) → Contains xs y → Q y

  abbrev EachOf : List Part → Type 0
  EachOf [] = Unit {0}
  EachOf (x ∷ xs) = AllOf (part_mentions x) × EachOf xs

  left : (xs ys : List Mention) → AllOf (xs ++ ys) → AllOf xs
  left xs ys all y has = all y (Contains-append_left xs ys y has)

  right : (xs ys : List Mention) → AllOf (xs ++ ys) → AllOf ys
  right xs ys all y has = all y (Contains-append_right xs ys y has)

  rest : (x : Mention) (xs : List Mention) → AllOf (x ∷ xs) → AllOf xs
  rest x xs all y has = all y (contains_later x y xs has)

  args_each : (es : Exprs) → AllOf (exprs_mentions es) → EachOf (args_parts es)
  args_each no_exprs all = tt
  args_each (and_expr e es) all = (left (expr_mentions e) (exprs_mentions es) all, args_each es (right (expr_mentions e) (exprs_mentions es) all))

  block_each : (ss : Stmts) → AllOf (block_mentions ss) → EachOf (block_parts ss)
  block_each no_stmts all = tt
  block_each (and_stmt s ss) all = (left (mentions s) (block_mentions ss) all, block_each ss (right (mentions s) (block_mentions ss) all))

  parts_each : (x : Part) → AllOf (part_mentions x) → EachOf (parts_of x)
  parts_each (ExprP (IntE n)) all = tt
  parts_each (ExprP (TruthE b)) all = tt
  parts_each (ExprP NullE) all = tt
  parts_each (ExprP ThisE) all = tt
  parts_each (ExprP (VarE x is_final ty)) all = tt
  parts_each (ExprP (NotE e)) all = (all, tt)
  parts_each (ExprP (NegE e)) all = (all, tt)
  parts_each (ExprP (BinaryE op a b)) all = (left (expr_mentions a) (expr_mentions b) all, (right (expr_mentions a) (expr_mentions b) all, tt))
  parts_each (ExprP (AndE a b)) all = (left (expr_mentions a) (expr_mentions b) all, (right (expr_mentions a) (expr_mentions b) all, tt))
  parts_each (ExprP (OrE a b)) all = (left (expr_mentions a) (expr_mentions b) all, (right (expr_mentions a) (expr_mentions b) all, tt))
  parts_each (ExprP (GetE e f)) all = (rest (Accesses e f) (expr_mentions e) all, tt)
  parts_each (ExprP (CallE e m args)) all =
      let inner = rest (Calls e m args) (expr_mentions e ++ exprs_mentions args) all in
      (left (expr_mentions e) (exprs_mentions args) inner, args_each args (right (expr_mentions e) (exprs_mentions args) inner))
  parts_each (ExprP (NewE c args)) all = args_each args all
  parts_each (StmtP EmptyS) all = tt
  parts_each (StmtP (BlockS ss)) all = block_each ss all
  parts_each (StmtP (LocalS x true ty e)) all = (rest (Names x e) (expr_mentions e) all, tt)
  parts_each (StmtP (LocalS x false ty e)) all = (all, tt)
  parts_each (StmtP (SetVarS x e)) all = (all, tt)
  parts_each (StmtP (SetFieldS e f g)) all =
      let inner = rest (Accesses e f) (expr_mentions e ++ expr_mentions g) all in
      (left (expr_mentions e) (expr_mentions g) inner, (right (expr_mentions e) (expr_mentions g) inner, tt))
  parts_each (StmtP (DoS e drops)) all = (all, tt)
  parts_each (StmtP (IfS c s t)) all =
      let branches = right (expr_mentions c) (mentions s ++ mentions t) all in
      (left (expr_mentions c) (mentions s ++ mentions t) all, (left (mentions s) (mentions t) branches, (right (mentions s) (mentions t) branches, tt)))
  parts_each (StmtP (WhileS c s)) all = (left (expr_mentions c) (mentions s) all, (right (expr_mentions c) (mentions s) all, tt))
  parts_each (StmtP (SyncS p s)) all = (rest (Locks p) (mentions s) all, tt)
  parts_each (StmtP (ReturnS None)) all = tt
  parts_each (StmtP (ReturnS (Some e))) all = (all, tt)
  parts_each (StmtP (PrintS e)) all = (all, tt)
  parts_each (StmtP (StartS e)) all = (all, tt)

at_most_or : (a b : ℕ) → (a ≤ b) ⊎ (b < a)
at_most_or zero b = inl (omega arith)
at_most_or (suc a) zero = inr (omega arith)
at_most_or (suc a) (suc b) = next (at_most_or a b)
  where
    next : (a ≤ b) ⊎ (b < a) → (suc a ≤ suc b) ⊎ (suc b < suc a)
    next (inl low) = inl (omega (arith, low))
    next (inr high) = inr (omega (arith, high))

has_either : (ps qs : List PathData) (q : PathData) → (has_path ps q || has_path qs q) ≡ true → has_path (ps ++ qs) q ≡ true
has_either ps qs q has = list_any-append (λ p. path_eq p q) ps qs ∙ has

module _ (P : Program) (sets : List MethodPaths) (relevant : AreRelevant P sets) (A : Assignment) (m : ℕ) (method : Method) (is : slice_get P.methods m ≡ Some method) where
  abbrev near : List PathData
  near = rel_of sets m ++ loc_of sets m

  -- a path near the method is relevant, or of a local
  near_has : (q : PathData) → Near P m q → has_path near q ≡ true
  near_has q is_near_it = has_either (rel_of sets m) (loc_of sets m) q (chosen (at_most_or q.root (length method.params)))
    where
      paths : (paths : MethodPaths) × (slice_get sets m ≡ Some paths)
      paths = some_at sets m (let few = relevant.count in omega (arith, few, slice_get_within P.methods m method is))

      chosen : (q.root ≤ length method.params) ⊎ (length method.params < q.root) → (has_path (rel_of sets m) q || has_path (loc_of sets m) q) ≡ true
      chosen (inl outer) = or_left (has_path (rel_of sets m) q) (has_path (loc_of sets m) q)
          (subst (λ o. has_path (rel_paths o) q ≡ true) (sym paths.1) (((relevant.each m paths.0 paths.1).rel q).1 (is_near_it, (method, is, outer))))
      chosen (inr inner) = or_right (has_path (rel_of sets m) q) (has_path (loc_of sets m) q)
          (subst (λ o. has_path (loc_paths o) q ≡ true) (sym paths.1) (((relevant.each m paths.0 paths.1).loc q).1 (is_near_it, (method, is, inner))))

  agrees : (H : Held) (q : PathData) → Near P m q → H q ≡ cut near H q
  agrees H q is_near_it = ap (λ b. b && H q) (sym (near_has q is_near_it))

  abbrev IsOfBody : Mention → Type 0
  IsOfBody y = Contains (mentions method.body) y

  -- the effect of a part of the body looks at near paths alone
  part_same : (x : Part) → AllOf IsOfBody (part_mentions x) → (H : Held) → part_effect P (rel_of sets) A x H ≡ part_effect P (rel_of sets) A x (cut near H)
  part_same (ExprP e) of H = near_only_expr P sets A relevant m method is e of H (cut near H) (agrees H)
  part_same (StmtP s) of H = near_only_stmt P sets A relevant m method is s of H (cut near H) (agrees H)

  module _ (table : List Cond) (canonical : AreCanonical table) where
    tree_near : (x : Part) (d : Node) → AllOf IsOfBody (part_mentions x) → Concludes P (rel_of sets) A table x d → conclusion_number d < length table → is_near near table (conclusion_number d) ≡ true
    tree_near x d of concludes below =
        let t = some_at table (conclusion_number d) below in
        let value : (H : Held) → value_of t.0 H ≡ part_effect P (rel_of sets) A x H = λ H. sym (ap (λ o. tree_value o H) t.1) ∙ effect_is P (rel_of sets) A table x d concludes H in
        ap (λ o. tests_only near (tree_numbered o)) t.1 ∙ only_tests near t.0 (canonical (conclusion_number d) t.0 t.1) (λ H. value H ∙ part_same x of H ∙ sym (value (cut near H)))

    mutual
      near_nodes : (x : Part) (d : Node) → AllOf IsOfBody (part_mentions x) → Concludes P (rel_of sets) A table x d → AreNear near table d
      near_nodes x (node w n ds) of concludes = (tree_near x (node w n ds) of concludes concludes.0, near_all (parts_of x) ds (parts_each IsOfBody x of) concludes.3)

      near_all : (xs : List Part) (ds : Nodes) → EachOf IsOfBody xs → ConcludeAll P (rel_of sets) A table xs ds → AreAllNear near table ds
      near_all [] no_nodes each all = tt
      near_all [] (and_node d ds) each all = absurd all
      near_all (x ∷ xs) no_nodes each all = absurd all
      near_all (x ∷ xs) (and_node d ds) each all = (near_nodes x d each.0 all.0, near_all xs ds each.1 all.1)

-- the whole book
pub near_book : (P : Program) (sets : List MethodPaths) → AreRelevant P sets → (trees table : List Cond) (lines : List Line) → AreLinesOf P (rel_of sets) trees (length P.methods) table lines →
    IsGoodBook P (rel_of sets) (record { table = table; lines = lines }) → AreCanonical table → IsNearBook (rel_of sets) (loc_of sets) (record { table = table; lines = lines })
near_book P sets relevant trees table lines made good canonical = λ m line at.
    let method = some_at P.methods m (let c = made.count_is in omega (arith, slice_get_within lines m line at, c)) in
    record {
      own = (good.good m method.0 line method.1 at).tabled.relevant;
      nodes = near_nodes P sets relevant (trees_assign trees) m method.0 method.1 table canonical (StmtP method.0.body) line.body (λ y has. has) (made.each m method.0 line method.1 at).concludes;
    }
