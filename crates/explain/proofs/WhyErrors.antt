-- A part is an error exactly where one of its parts is one by itself.
use Rattle.std.proofs.Common.{◌≡◌, ◌↔◌, ℕ, ◌+◌, Bool, true, false, ◌&&◌, ◌||◌, List, [], ◌∷◌, ◌++◌, Option, Some, None, IsSome, is_some, if◌then◌else◌, refl, sym, ap, ◌∙◌}
use Rattle.std.specs.List.{list_any}
use Rattle.std.proofs.lemmas.Bool.{or_from}
use Rattle.std.proofs.lemmas.List.Folds.{list_any-append}
use Rattle.std.proofs.Math.Bool.{or-false}
use Rattle.paths.specs.Paths.{PathData}
use Rattle.algebra.specs.declared.basic.Basic.{Basic}
use Rattle.algebra.specs.declared.basic.Basic.TheVariants.{Const, Mover, Atomic, Cmpd, Error}
use Rattle.algebra.specs.Basics.{seq_of, join_of, star_of, lift_of}
use Rattle.algebra.specs.HeldPaths.{Held, with_path}
use Rattle.core_program.specs.Core.{Program, Expr, Exprs, IntE, TruthE, NullE, ThisE, VarE, NotE, NegE, BinaryE, AndE, OrE, GetE, CallE, NewE, no_exprs, and_expr}
use Rattle.core_program.specs.Core.{Stmt, Stmts, EmptyS, BlockS, LocalS, SetVarS, SetFieldS, DoS, IfS, WhileS, SyncS, ReturnS, PrintS, StartS, no_stmts, and_stmt}
use Rattle.core_program.specs.Sizes.{nodes_of, stmt_nodes}
use Rattle.rules.specs.Effect.{Assignment, after_stmt, variable_effect, sync_effect, expr_effect, exprs_effect, effect, block_effect}
use Rattle.rules.proofs.BasicLemmas.{every, each, implies}
use Rattle.effects.specs.Parts.{Part, ExprP, StmtP}
use Rattle.explain.specs.PartEffects.{own_of, effect_of_part, lock_effect}
use Rattle.explain.specs.Visits.{Visit, visit, by_lock, expr_visits, exprs_visits, stmt_visits, block_visits, part_visits}
use Rattle.explain.specs.StepReadings.{is_error, first_where, IsFirstVisit, own_at, first_error, IsFirstError}

-- two tests that follow from each other
same_tests : (a b : Bool) → (implies a b && implies b a) ≡ true → a ≡ b
same_tests true true e = refl
same_tests true false e = absurd cc
same_tests false true e = absurd cc
same_tests false false e = refl

pub error_is : (b : Basic) → is_error b ≡ true → b ≡ Error
error_is Const e = absurd cc
error_is Mover e = absurd cc
error_is Atomic e = absurd cc
error_is Cmpd e = absurd cc
error_is Error e = refl

abbrev same_two : (f g : Basic → Basic → Bool) → Basic → Basic → Bool
same_two f g a b = implies (f a b) (g a b) && implies (g a b) (f a b)

by_two : (f g : Basic → Basic → Bool) → every (λ a. every (same_two f g a)) ≡ true → (a b : Basic) → f a b ≡ g a b
by_two f g all a b = same_tests (f a b) (g a b) (each (same_two f g a) (each (λ a. every (same_two f g a)) all a) b)

error_seq : (a b : Basic) → (is_error a || is_error b) ≡ is_error (seq_of a b)
error_seq = by_two (λ a b. is_error a || is_error b) (λ a b. is_error (seq_of a b)) refl

error_join : (a b : Basic) → (is_error a || is_error b) ≡ is_error (join_of a b)
error_join = by_two (λ a b. is_error a || is_error b) (λ a b. is_error (join_of a b)) refl

error_loop : (c s : Basic) → (is_error c || is_error s) ≡ is_error (seq_of c (star_of (seq_of s c)))
error_loop = by_two (λ c s. is_error c || is_error s) (λ c s. is_error (seq_of c (star_of (seq_of s c)))) refl

error_moved : (a : Basic) → is_error a ≡ is_error (seq_of a Mover)
error_moved a = by_two (λ a b. is_error a) (λ a b. is_error (seq_of a Mover)) refl a Const

error_lift : (a : Basic) → is_error a ≡ is_error (lift_of a)
error_lift a = by_two (λ a b. is_error a) (λ a b. is_error (lift_of a)) refl a Const

variable_fine : (is_final : Bool) → is_error (variable_effect is_final) ≡ false
variable_fine true = refl
variable_fine false = refl

pub lock_fine : (t : Bool) → is_error (lock_effect t) ≡ false
lock_fine true = refl
lock_fine false = refl

-- the first that passes a test is there exactly where one passes it
some_first : (test : Visit → Bool) (vs : List Visit) → is_some (first_where test vs) ≡ list_any test vs
some_first test [] = refl
some_first test (v ∷ vs) = by (test v) (some_first test vs)
  where
    by : (t : Bool) → is_some (first_where test vs) ≡ list_any test vs → is_some (if t then Some v else first_where test vs) ≡ (t || list_any test vs)
    by true later = refl
    by false later = later

pub first_is : (test : Visit → Bool) (vs : List Visit) (v : Visit) → first_where test vs ≡ Some v → IsFirstVisit test vs v
first_is test [] v e = absurd (let f : None ≡ Some v = e in cc)
first_is test (w ∷ vs) v e = by (test w) refl e (first_is test vs v)
  where
    by : (t : Bool) → test w ≡ t → (if t then Some w else first_where test vs) ≡ Some v → (first_where test vs ≡ Some v → IsFirstVisit test vs v) → IsFirstVisit test (w ∷ vs) v
    by true t e later = let same : w ≡ v = cc in record { before = []; after = vs; whole = ap (λ x. x ∷ vs) same; passes = ap test (sym same) ∙ t; none_before = refl }
    by false t e later =
        let rest = later e in
        record { before = w ∷ rest.before; after = rest.after; whole = ap (λ l. w ∷ l) rest.whole; passes = rest.passes; none_before = or_from _ _ t rest.none_before }

module _ (P : Program) (rel : ℕ → List PathData) (A : Assignment) where
  -- whether the part by itself is an error
  abbrev pub errs : Visit → Bool
  errs v = is_error (own_at P rel A v)

  -- one of the list is an error by itself exactly where this basic is one
  pub record Shows (xs : List Visit) (b : Basic) : Type 0 where
    pub is : list_any errs xs ≡ is_error b

  nothing : Shows [] Const
  nothing = record { is = refl }

  both : {xs ys : List Visit} {a b : Basic} → Shows xs a → Shows ys b → Shows (xs ++ ys) (seq_of a b)
  both {xs = xs} {ys = ys} {a = a} {b = b} first second = record { is = list_any-append errs xs ys ∙ (λ i. first.is i || second.is i) ∙ error_seq a b }

  alone : (n : ℕ) (x : Part) (H : Held) (loop : Option ℕ) → Shows (visit n x H loop) (own_of P rel A x H)
  alone n x H loop = record { is = or-false (is_error (own_of P rel A x H)) }

  -- a part that is no error by itself, behind its own parts
  behind : {xs : List Visit} {a : Basic} (n : ℕ) (x : Part) (H : Held) (loop : Option ℕ) → is_error (own_of P rel A x H) ≡ false → Shows xs a → Shows (xs ++ visit n x H loop) a
  behind {xs = xs} {a = a} n x H loop fine first = record {
    is = list_any-append errs xs (visit n x H loop) ∙ (λ i. first.is i || or-false (is_error (own_of P rel A x H)) i) ∙ ap (λ t. is_error a || t) fine ∙ or-false (is_error a);
  }

  moved : {xs : List Visit} {a : Basic} → Shows xs a → Shows xs (seq_of a Mover)
  moved {a = a} first = record { is = first.is ∙ error_moved a }

  branches : {xs ys : List Visit} {a b : Basic} → Shows xs a → Shows ys b → Shows (xs ++ ys) (join_of a b)
  branches {xs = xs} {ys = ys} {a = a} {b = b} first second = record { is = list_any-append errs xs ys ∙ (λ i. first.is i || second.is i) ∙ error_join a b }

  repeats : {xs ys : List Visit} {c s : Basic} → Shows xs c → Shows ys s → Shows (xs ++ ys) (seq_of c (star_of (seq_of s c)))
  repeats {xs = xs} {ys = ys} {c = c} {s = s} first second = record { is = list_any-append errs xs ys ∙ (λ i. first.is i || second.is i) ∙ error_loop c s }

  locking : {xs ys : List Visit} {a b : Basic} (t : Bool) → Shows xs a → Shows ys b → Shows (by_lock t xs ys) (sync_effect t a b)
  locking true first second = first
  locking {b = b} false first second = record { is = second.is ∙ error_lift b }

  mutual
    expr_shows : (e : Expr) (n : ℕ) (H : Held) (loop : Option ℕ) → Shows (expr_visits e n H loop) (expr_effect P rel A e H)
    expr_shows (IntE v) n H loop = alone n (ExprP (IntE v)) H loop
    expr_shows (TruthE b) n H loop = alone n (ExprP (TruthE b)) H loop
    expr_shows NullE n H loop = alone n (ExprP NullE) H loop
    expr_shows ThisE n H loop = alone n (ExprP ThisE) H loop
    expr_shows (VarE x is_final ty) n H loop = alone n (ExprP (VarE x is_final ty)) H loop
    expr_shows (NotE e) n H loop = behind n (ExprP (NotE e)) H loop refl (expr_shows e (n + 1) H loop)
    expr_shows (NegE e) n H loop = behind n (ExprP (NegE e)) H loop refl (expr_shows e (n + 1) H loop)
    expr_shows (BinaryE op a b) n H loop = both (expr_shows a (n + 1) H loop) (behind n (ExprP (BinaryE op a b)) H loop refl (expr_shows b (n + 1 + nodes_of a) H loop))
    expr_shows (AndE a b) n H loop = both (expr_shows a (n + 1) H loop) (behind n (ExprP (AndE a b)) H loop refl (expr_shows b (n + 1 + nodes_of a) H loop))
    expr_shows (OrE a b) n H loop = both (expr_shows a (n + 1) H loop) (behind n (ExprP (OrE a b)) H loop refl (expr_shows b (n + 1 + nodes_of a) H loop))
    expr_shows (GetE e f) n H loop = both (expr_shows e (n + 1) H loop) (alone n (ExprP (GetE e f)) H loop)
    expr_shows (CallE e m args) n H loop = both (expr_shows e (n + 1) H loop) (both (exprs_show args (n + 1 + nodes_of e) H loop) (alone n (ExprP (CallE e m args)) H loop))
    expr_shows (NewE c args) n H loop = moved (behind n (ExprP (NewE c args)) H loop refl (exprs_show args (n + 1) H loop))

    exprs_show : (es : Exprs) (n : ℕ) (H : Held) (loop : Option ℕ) → Shows (exprs_visits es n H loop) (exprs_effect P rel A es H)
    exprs_show no_exprs n H loop = nothing
    exprs_show (and_expr e es) n H loop = both (expr_shows e n H loop) (exprs_show es (n + nodes_of e) H loop)

  mutual
    stmt_shows : (s : Stmt) (n : ℕ) (H : Held) (loop : Option ℕ) → Shows (stmt_visits P s n H loop) (effect P rel A s H)
    stmt_shows EmptyS n H loop = alone n (StmtP EmptyS) H loop
    stmt_shows (BlockS ss) n H loop = behind n (StmtP (BlockS ss)) H loop refl (block_shows ss (n + 1) H loop)
    stmt_shows (LocalS x is_final ty e) n H loop = moved (behind n (StmtP (LocalS x is_final ty e)) H loop refl (expr_shows e (n + 1) H loop))
    stmt_shows (SetVarS x e) n H loop = moved (behind n (StmtP (SetVarS x e)) H loop refl (expr_shows e (n + 1) H loop))
    stmt_shows (SetFieldS e f g) n H loop = both (expr_shows e (n + 1) H loop) (both (expr_shows g (n + 1 + nodes_of e) H loop) (alone n (StmtP (SetFieldS e f g)) H loop))
    stmt_shows (DoS e drops) n H loop = behind n (StmtP (DoS e drops)) H loop refl (expr_shows e (n + 1) H loop)
    stmt_shows (IfS c s t) n H loop = both (expr_shows c (n + 1) H loop) (branches (stmt_shows s (n + 1 + nodes_of c) H loop)
        (behind n (StmtP (IfS c s t)) H loop refl (stmt_shows t (n + 1 + nodes_of c + stmt_nodes s) H loop)))
    stmt_shows (WhileS c s) n H loop = repeats (expr_shows c (n + 1) H (Some n)) (behind n (StmtP (WhileS c s)) H loop refl (stmt_shows s (n + 1 + nodes_of c) H (Some n)))
    stmt_shows (SyncS p s) n H loop = behind n (StmtP (SyncS p s)) H loop (lock_fine (H p)) (locking (H p) (stmt_shows s (n + 1) H loop) (stmt_shows s (n + 1) (with_path p H) loop))
    stmt_shows (ReturnS None) n H loop = alone n (StmtP (ReturnS None)) H loop
    stmt_shows (ReturnS (Some e)) n H loop = behind n (StmtP (ReturnS (Some e))) H loop refl (expr_shows e (n + 1) H loop)
    stmt_shows (PrintS e) n H loop = both (expr_shows e (n + 1) H loop) (alone n (StmtP (PrintS e)) H loop)
    stmt_shows (StartS e) n H loop = both (expr_shows e (n + 1) H loop) (alone n (StmtP (StartS e)) H loop)

    block_shows : (ss : Stmts) (n : ℕ) (H : Held) (loop : Option ℕ) → Shows (block_visits P ss n H loop) (block_effect P rel A ss H)
    block_shows no_stmts n H loop = nothing
    block_shows (and_stmt s ss) n H loop = both (stmt_shows s n H loop) (block_shows ss (n + stmt_nodes s) (after_stmt P s H) loop)

  part_shows : (x : Part) (n : ℕ) (H : Held) → list_any errs (part_visits P x n H) ≡ is_error (effect_of_part P rel A x H)
  part_shows (ExprP e) n H = (expr_shows e n H None).is
  part_shows (StmtP s) n H = (stmt_shows s n H None).is

  pub error_reads : (x : Part) (n : ℕ) (H : Held) → (effect_of_part P rel A x H ≡ Error) ↔ IsSome (first_error P rel A (part_visits P x n H))
  error_reads x n H =
      let same : is_some (first_error P rel A (part_visits P x n H)) ≡ is_error (effect_of_part P rel A x H) = some_first errs (part_visits P x n H) ∙ part_shows x n H in
      (λ e. same ∙ ap is_error e, λ some. error_is _ (sym same ∙ some))

  pub first_reads : (vs : List Visit) (v : Visit) → first_error P rel A vs ≡ Some v → IsFirstError P rel A vs v
  first_reads vs v e = let first = first_is errs vs v e in record { error = error_is _ first.passes; first = first }
