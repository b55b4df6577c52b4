-- Lists of names: of a renaming, and of paths that are put into a set.
use Rattle.std.proofs.Common.{◌≡◌, ℕ, zero, suc, ◌+◌, ◌-◌, ◌<◌, ◌≤◌, Bool, true, false, ◌||◌, List, [], ◌∷◌, length, get_or, drop, refl, sym, ap, ◌∙◌, arith}
use Rattle.std.specs.Prelude.{Option, Some, None, slice_get, if◌then◌else◌, option_map, Result, Ok, Err, OnOk, map}
use Rattle.std.specs.Ordering.{match_ordering}
use Rattle.std.specs.BTreeSet.{insert_key}
use Rattle.std.specs.declared.cmp.Ordering.{Ordering}
use Rattle.std.specs.declared.cmp.Ordering.TheVariants.{Less, Equal, Greater}
use Rattle.paths.specs.Paths.{PathData, path_order, path_eq}
use Rattle.paths.specs.Renamings.{argument_at, passed, under_call}
use Rattle.paths.proofs.PathOrder.{equal_is}
use Rattle.algebra.specs.HeldPaths.{has_path}
use Rattle.core_program.specs.declared.tree.CoreStmt.{CoreStmt}
use Rattle.core_program.specs.declared.tree.CoreExpr.{CoreExpr}
use Rattle.core_program.specs.Core.{Program, Expr, Exprs, Stmt, BlockS, no_exprs, and_expr}
use Rattle.core_program.specs.Locks.{path_of}
use Rattle.core_program.specs.Views.{expr_of, exprs_from, stmts_from}
use Rattle.rules.specs.Mentions.{paths_of}
use Rattle.base.proofs.Lists.{next_drop}
use Rattle.std.proofs.lemmas.List.{drop_all}
use Rattle.std.proofs.Math.Bool.{or-false, or-true}
use Rattle.explain.specs.Helping.{first_path, names_here, path_before}
use Rattle.explain.specs.declared.names.Alias.{Alias}
use Rattle.explain.specs.Names.{aliases_after, aliases_after_each, argument, passed_expr}

-- the names of a renaming, those that are there
abbrev pub names_in : List (PathData × Option PathData) → List PathData
names_in [] = []
names_in (pair ∷ pairs) = path_before pair.1 (names_in pairs)

pub names_are : (receiver : Option PathData) (args : List (Option PathData)) (rel : List PathData) → names_in (map (λ q. (q, under_call receiver args q)) rel) ≡ names_here receiver args rel
names_are receiver args [] = refl
names_are receiver args (q ∷ qs) = ap (path_before (under_call receiver args q)) (names_are receiver args qs)

-- ---- a path put into a set

abbrev by_cmp : Ordering → PathData → PathData → List PathData → List PathData → List PathData
by_cmp o p x xs more = match_ordering o (p ∷ x ∷ xs) (x ∷ xs) (x ∷ more)

twice : (a b : Bool) → (a || b) ≡ (a || (a || b))
twice true b = refl
twice false b = refl

crossed : (a b c d : Bool) → d ≡ (b || c) → (a || d) ≡ (b || (a || c))
crossed a true c d is = ap (λ z. a || z) is ∙ or-true a
crossed a false c d is = ap (λ z. a || z) is

one_put : (o : Ordering) (p x q : PathData) (xs more : List PathData) → (o ≡ Equal → p ≡ x) → has_path more q ≡ (path_eq p q || has_path xs q)
    → has_path (by_cmp o p x xs more) q ≡ (path_eq p q || has_path (x ∷ xs) q)
one_put Less p x q xs more same rest = refl
one_put Equal p x q xs more same rest = twice (path_eq x q) (has_path xs q) ∙ ap (λ z. path_eq z q || has_path (x ∷ xs) q) (sym (same refl))
one_put Greater p x q xs more same rest = crossed (path_eq x q) (path_eq p q) (has_path xs q) (has_path more q) rest

-- a set with one path more has that and its own
pub has_put : (cmp : PathData → PathData → Ordering) → ((p q : PathData) → cmp p q ≡ path_order p q) → (ks : List PathData) (p q : PathData) → has_path (insert_key cmp ks p) q ≡ (path_eq p q || has_path ks q)
has_put cmp same [] p q = refl
has_put cmp same (x ∷ xs) p q = one_put (cmp p x) p x q xs (insert_key cmp xs p) (λ e. equal_is p x (sym (same p x) ∙ e)) (has_put cmp same xs p q)

moved : (a b c d : Bool) → (b || (a || c)) ≡ d → ((a || b) || c) ≡ d
moved true true c d is = is
moved true false c d is = is
moved false b c d is = is

-- the paths of a set and those that are left, after one more was put in
pub put_one : (cmp : PathData → PathData → Ordering) → ((p q : PathData) → cmp p q ≡ path_order p q) → (held ks new : List PathData) (i : ℕ) (p : PathData) → i < length held → p ≡ get_or held i p
    → new ≡ insert_key cmp ks p → ((q : PathData) → (has_path ks q || has_path (drop i held) q) ≡ has_path held q) → (q : PathData) → (has_path new q || has_path (drop (i + 1) held) q) ≡ has_path held q
put_one cmp same held ks new i p below is put before q =
    ap (λ z. z || has_path (drop (i + 1) held) q) (ap (λ z. has_path z q) put ∙ has_put cmp same ks p q)
    ∙ moved (path_eq p q) (has_path ks q) (has_path (drop (i + 1) held) q) (has_path held q)
    (ap (λ z. has_path ks q || has_path z q) (sym (next_drop held i p below is)) ∙ before q)

-- where none are left, the set has all
pub all_put : (held ks : List PathData) (i : ℕ) → length held ≤ i → ((q : PathData) → (has_path ks q || has_path (drop i held) q) ≡ has_path held q) → has_path ks ≡ has_path held
all_put held ks i past before = λ j q. (sym (or-false (has_path ks q)) ∙ ap (λ z. has_path ks q || has_path z q) (sym (drop_all i held past)) ∙ before q) j

-- ---- the locals of a block in memory

pub block_declares : {A E : Type 0} (P : Program) (known : List Alias) (x : Stmt) (ss all : List CoreStmt) (new : List Alias) (r : Result A E) → x ≡ BlockS (stmts_from all) → ss ≡ all
    → OnOk r (new ≡ aliases_after_each P known (stmts_from ss)) → OnOk r (new ≡ aliases_after P known x)
block_declares P known x ss all new (Ok u) is one e = e ∙ ap (λ z. aliases_after_each P known (stmts_from z)) one ∙ ap (aliases_after P known) (sym is)
block_declares P known x ss all new (Err d) is one e = e

-- ---- what stands for a slot of a callee

-- the path of an expression that may be missing
abbrev path_or_none : Program → Option Expr → Option PathData
path_or_none P None = None
path_or_none P (Some e) = path_of P e

argument_path : (P : Program) (es : Exprs) (k : ℕ) → argument_at (slice_get (paths_of P es) k) ≡ path_or_none P (argument es k)
argument_path P no_exprs k = refl
argument_path P (and_expr e es) zero = refl
argument_path P (and_expr e es) (suc k) = argument_path P es k

pub passed_path : (P : Program) (e : Expr) (es : Exprs) (slot : ℕ) (o : Option Expr) → o ≡ passed_expr e es slot → passed (path_of P e) (paths_of P es) slot ≡ path_or_none P o
passed_path P e es zero o is = ap (path_or_none P) (sym is)
passed_path P e es (suc k) o is = argument_path P es k ∙ ap (path_or_none P) (sym is)

argument_from : (es : List CoreExpr) (k : ℕ) → option_map expr_of (slice_get es k) ≡ argument (exprs_from es) k
argument_from [] k = refl
argument_from (e ∷ es) zero = refl
argument_from (e ∷ es) (suc k) = argument_from es k

pub passed_from : (e : CoreExpr) (es : List CoreExpr) (slot : ℕ) (o : Option CoreExpr) → 0 < slot → o ≡ slice_get es (slot - 1) → option_map expr_of o ≡ passed_expr (expr_of e) (exprs_from es) slot
passed_from e es zero o some is = absurd (omega (arith, some))
passed_from e es (suc k) o some is = let one : suc k - 1 ≡ k = omega arith in ap (option_map expr_of) (is ∙ ap (slice_get es) one) ∙ argument_from es k

-- ---- the first name that helps

module _ (test : PathData → Bool) (items : List (PathData × Option PathData)) (i : ℕ) (receiver : Option PathData) (args : List (Option PathData)) (rel : List PathData)
    (before : first_path test (names_in (drop i items)) ≡ first_path test (names_in items)) (is : items ≡ map (λ q. (q, under_call receiver args q)) rel) where
  from_here : first_path test (names_in (drop i items)) ≡ first_path test (names_here receiver args rel)
  from_here = before ∙ ap (first_path test) (ap names_in is ∙ names_are receiver args rel)

  pub one_helps : (pair : PathData × Option PathData) (name : PathData) → i < length items → pair ≡ get_or items i pair → pair.1 ≡ Some name → test name ≡ true → Some name ≡ first_path test (names_here receiver args rel)
  one_helps pair name below at named passes =
      let rest = names_in (drop (i + 1) items) in
      sym (ap (λ b. if b then Some name else first_path test rest) passes)
      ∙ sym (ap (λ l. first_path test (names_in l)) (next_drop items i pair below at) ∙ ap (λ o. first_path test (path_before o rest)) named)
      ∙ from_here

  pub none_helps : length items ≤ i → None ≡ first_path test (names_here receiver args rel)
  none_helps past = sym (ap (λ l. first_path test (names_in l)) (drop_all i items past)) ∙ from_here
