-- How many leaves there are, and what is left behind work.
use Rattle.std.proofs.Common.{◌≡◌, ℕ, zero, suc, ◌+◌, ◌*◌, ◌-◌, ◌≤◌, ◌<◌, MatchOption, Bool, true, false, ◌&&◌, List, [], ◌∷◌, slice_get, Option, Some, None, Result, Ok, Err, IfErr, if◌then◌else◌, refl, ◌∙◌, ap, arith}
use Rattle.std.specs.Prelude.{◌≢◌}
use Rattle.std.proofs.lemmas.Nat.{mul-le}
use Rattle.std.specs.List.{list_all}
use Rattle.conditions.specs.Conditions.{Cond, LeafC, TestC}
use Rattle.core_program.specs.Core.{IntE, TruthE, NullE, ThisE, VarE, NotE, NegE, BinaryE, AndE, OrE, GetE, CallE, NewE}
use Rattle.core_program.specs.Core.{Method, EmptyS, BlockS, LocalS, SetVarS, SetFieldS, DoS, IfS, WhileS, SyncS, ReturnS, PrintS, StartS}
use Rattle.core_program.specs.declared.tree.CoreStmt.{CoreStmt}
use Rattle.core_program.specs.Views.{stmt_of, stmts_from}
use Rattle.books.specs.Books.{Line}
use Rattle.books.specs.declared.word.Word.{Word}
use Rattle.books.specs.Derivations.{node, Nodes, no_nodes, and_node}
use Rattle.effects.specs.Parts.{Part, ExprP, StmtP, parts_of}
use Rattle.book_check.specs.declared.wrong.Wrong.{Wrong}
use Rattle.book_check.specs.declared.wrong.Wrong.TheVariants as wrong
use Rattle.book_check.specs.Blocks.{keeps_paths}
use Rattle.book_check.specs.Conclusions.{tree_numbered}
use Rattle.book_check.specs.BookWork.{leaves, leaves_numbered, leaves_among, all_keep, makes_tree, own_leaves, doubled, value_work, step_work, premises_work, line_work, lines_work}

-- whether all statements keep the paths that are held
pub all_keep_is : (body : List CoreStmt) → list_all (λ s. keeps_paths (stmt_of s)) body ≡ all_keep (stmts_from body)
all_keep_is [] = refl
all_keep_is (s ∷ body) = ap (λ b. keeps_paths (stmt_of s) && b) (all_keep_is body)

-- a tree has a leaf
some_leaves : (t : Cond) → 1 ≤ leaves t
some_leaves (LeafC b) = omega arith
some_leaves (TestC p a b) =
    let one = some_leaves a in
    let sum : leaves (TestC p a b) ≡ leaves a + leaves b = refl in
    omega (arith, one, sum)

pub some_numbered : (table : List Cond) (n : ℕ) → 1 ≤ leaves_numbered table n
some_numbered table n = some_leaves (tree_numbered (slice_get table n))

some_doubled : (n : ℕ) → suc n ≤ doubled n
some_doubled zero = omega arith
some_doubled (suc n) =
    let less = some_doubled n in
    let sum : doubled (suc n) ≡ doubled n + doubled n = refl in
    omega (arith, less, sum)

pub none_doubled : (n most : ℕ) → most ≡ 0 → most < doubled n
none_doubled n most none = let less = some_doubled n in omega (arith, less, none)

some_own : (part : Part) → 1 ≤ own_leaves part
some_own (ExprP (IntE n)) = omega arith
some_own (ExprP (TruthE b)) = omega arith
some_own (ExprP NullE) = omega arith
some_own (ExprP ThisE) = omega arith
some_own (ExprP (VarE x is_final ty)) = omega arith
some_own (ExprP (NotE e)) = omega arith
some_own (ExprP (NegE e)) = omega arith
some_own (ExprP (BinaryE op a b)) = omega arith
some_own (ExprP (AndE a b)) = omega arith
some_own (ExprP (OrE a b)) = omega arith
some_own (ExprP (GetE e f)) = omega arith
some_own (ExprP (CallE e m args)) = omega arith
some_own (ExprP (NewE c args)) = omega arith
some_own (StmtP EmptyS) = omega arith
some_own (StmtP (BlockS ss)) = omega arith
some_own (StmtP (LocalS x is_final ty e)) = omega arith
some_own (StmtP (SetVarS x e)) = omega arith
some_own (StmtP (SetFieldS e f g)) = omega arith
some_own (StmtP (DoS e drops)) = omega arith
some_own (StmtP (IfS c s t)) = omega arith
some_own (StmtP (WhileS c s)) = omega arith
some_own (StmtP (SyncS p s)) = omega arith
some_own (StmtP (ReturnS e)) = omega arith
some_own (StmtP (PrintS e)) = omega arith
some_own (StmtP (StartS e)) = omega arith

-- a product is at least each of its factors, where the other one isn't 0
once : (a b : ℕ) → 1 ≤ a → b ≤ a * b
once a b some = let less = mul-le 1 b a b some (omega arith) in omega (arith, less)

once_right : (a b : ℕ) → 1 ≤ b → a ≤ a * b
once_right a b some = let less = mul-le a 1 a b (omega arith) some in omega (arith, less)

chosen : (makes : Bool) (n own : ℕ) → 1 ≤ own → n + 1 ≤ (if makes then doubled n else ((n + own) * (n + own)))
chosen true n own some = let less = some_doubled n in omega (arith, less)
chosen false n own some =
    let one : 1 ≤ n + own = omega (arith, some) in
    let less = once (n + own) (n + own) one in
    omega (arith, less, some)

-- the value of a rule has more leaves than its premises' trees
more_value : (part : Part) (n : ℕ) → n + 1 ≤ value_work part n
more_value part n = chosen (makes_tree part) n (own_leaves part) (some_own part)

module _ (table : List Cond) (part : Part) (n : ℕ) (ds : Nodes) (most : ℕ) where
  pub step_large : most < leaves_numbered table n → most < step_work table part n ds
  step_large large =
      let value = more_value part (leaves_among table ds) in
      let less = once_right (leaves_numbered table n) (value_work part (leaves_among table ds)) (omega (arith, value)) in
      omega (arith, large, less)

  pub step_value_large : most < value_work part (leaves_among table ds) → most < step_work table part n ds
  step_value_large large =
      let less = once (leaves_numbered table n) (value_work part (leaves_among table ds)) (some_numbered table n) in
      omega (arith, large, less)

  pub step_before_large : most < leaves_among table ds → most < step_work table part n ds
  step_before_large large =
      let value = more_value part (leaves_among table ds) in
      step_value_large (omega (arith, value, large))

-- a node itself, and then all below it
pub node_left : (o : Option ℕ) (left work step below : ℕ) → work ≡ step → work ≤ left → MatchOption o (left - work < below) (λ n. n + below ≡ left - work) →
    MatchOption o (left < step + below) (λ n. n + (step + below) ≡ left)
node_left None left work step below same within h = omega (arith, same, within, h)
node_left (Some n) left work step below same within h = omega (arith, same, within, h)

-- one premise more
pub first_work : (table : List Cond) (xs ys : List Part) (ds es ps : Nodes) (x : Part) (w : Word) (n : ℕ) → xs ≡ x ∷ ys → ds ≡ and_node (node w n ps) es →
    premises_work table xs ds ≡ (step_work table x n ps + premises_work table (parts_of x) ps) + premises_work table ys es
first_work table xs ys ds es ps x w n parts nodes = ap (λ z. premises_work table z ds) parts ∙ ap (premises_work table (x ∷ ys)) nodes

no_premises : (table : List Cond) (xs : List Part) → premises_work table xs no_nodes ≡ 0
no_premises table [] = refl
no_premises table (x ∷ xs) = refl

no_parts : (table : List Cond) (ds : Nodes) → premises_work table [] ds ≡ 0
no_parts table no_nodes = refl
no_parts table (and_node d ds) = refl

pub nodes_done : (table : List Cond) (xs : List Part) (ds : Nodes) → ds ≡ no_nodes → premises_work table xs ds ≡ 0
nodes_done table xs ds e = ap (premises_work table xs) e ∙ no_premises table xs

pub parts_done : (table : List Cond) (xs : List Part) (ds : Nodes) → xs ≡ [] → premises_work table xs ds ≡ 0
parts_done table xs ds e = ap (λ z. premises_work table z ds) e ∙ no_parts table ds

-- one method line more
pub first_line_work : (table : List Cond) (methods others : List Method) (lines rest : List Line) (method : Method) (line : Line) → methods ≡ method ∷ others → lines ≡ line ∷ rest →
    lines_work table methods lines ≡ line_work table method line + lines_work table others rest
first_line_work table methods others lines rest method line here is = ap (λ ms. lines_work table ms lines) here ∙ ap (lines_work table (method ∷ others)) is

no_lines : (table : List Cond) (methods : List Method) → lines_work table methods [] ≡ 0
no_lines table [] = refl
no_lines table (method ∷ methods) = refl

pub lines_done : (table : List Cond) (methods : List Method) (lines : List Line) → lines ≡ [] → lines_work table methods lines ≡ 0
lines_done table methods lines e = ap (lines_work table methods) e ∙ no_lines table methods

-- no bound was met
pub no_work : {A : Type 0} (r : Result A Wrong) (X : Type 0) → IfErr r (λ w. w ≢ wrong.Work) → IfErr r (λ w. w ≡ wrong.Work → X)
no_work (Ok a) X h = tt
no_work (Err w) X h = λ e. absurd (h e)
