-- The paths that arguments leave on the operands, and the releases that lists of parts hold.
use Rattle.std.proofs.Common.{◌≡◌, ℕ, suc, ◌+◌, Bool, true, false, ◌||◌, List, [], ◌∷◌, ◌++◌, None, refl, sym, ap, subst, ◌∙◌, arith, append-nil}
use Rattle.std.specs.Prelude.{if◌then◌else◌}
use Rattle.core_program.specs.Core.{Program, Expr, Exprs, no_exprs, and_expr}
use Rattle.core_program.specs.Core.{Stmts, no_stmts, and_stmt}
use Rattle.core_program.specs.Locks.{path_of}
use Rattle.rules.specs.Mentions.{paths_of}
use Rattle.state.specs.declared.value.Address.{Address}
use Rattle.state.specs.Work.{Item, exprs_items, stmts_items}
use Rattle.reduction.specs.Leads.{Paths, taken_paths, dropped_paths}
use Rattle.reduction.specs.Fits.{valued, argument_count, has_release, pushed}

pub exprs_release : (a : Address) (es : Exprs) (more : List Item) → has_release a (exprs_items es more) ≡ has_release a more
exprs_release a no_exprs more = refl
exprs_release a (and_expr e es) more = exprs_release a es more

pub stmts_release : (a : Address) (ss : Stmts) (more : List Item) → has_release a (stmts_items ss more) ≡ has_release a more
stmts_release a no_stmts more = refl
stmts_release a (and_stmt s ss) more = stmts_release a ss more

pub or_first : (x y b : Bool) → x ≡ y → (x || b) ≡ true → (y || b) ≡ true
or_first x y b same e = subst (λ z. (z || b) ≡ true) same e

module _ (P : Program) where
  abbrev pub pushed_each : Exprs → Paths → Paths
  pushed_each no_exprs os = os
  pushed_each (and_expr e es) os = pushed_each es (path_of P e ∷ os)

  taken_each : (es : Exprs) (j : ℕ) (n : ℕ) (found os : Paths) → n ≡ argument_count es + j → taken_paths n found (pushed_each es os) ≡ taken_paths j (paths_of P es ++ found) os
  taken_each no_exprs j n found os is = ap (λ k. taken_paths k found os) (is ∙ none_more j)
    where
      none_more : (j : ℕ) → 0 + j ≡ j
      none_more j = omega arith
  taken_each (and_expr e es) j n found os is = taken_each es (suc j) n found (path_of P e ∷ os) (is ∙ one_later (argument_count es) j)
    where
      one_later : (k j : ℕ) → 1 + k + j ≡ k + suc j
      one_later k j = omega arith

  dropped_each : (es : Exprs) (j : ℕ) (n : ℕ) (os : Paths) → n ≡ argument_count es + j → dropped_paths n (pushed_each es os) ≡ dropped_paths j os
  dropped_each no_exprs j n os is = ap (λ k. dropped_paths k os) (is ∙ none_more j)
    where
      none_more : (j : ℕ) → 0 + j ≡ j
      none_more j = omega arith
  dropped_each (and_expr e es) j n os is = dropped_each es (suc j) n (path_of P e ∷ os) (is ∙ one_later (argument_count es) j)
    where
      one_later : (k j : ℕ) → 1 + k + j ≡ k + suc j
      one_later k j = omega arith

  no_more : (n k : ℕ) → n ≡ k → n ≡ k + 0
  no_more n k e = omega (arith, e)

  pub taken_all : (es : Exprs) (n : ℕ) (os : Paths) → n ≡ argument_count es → taken_paths n [] (pushed_each es os) ≡ paths_of P es
  taken_all es n os is = taken_each es 0 n [] os (no_more n (argument_count es) is) ∙ append-nil (paths_of P es)

  pub dropped_all : (es : Exprs) (n : ℕ) (os : Paths) → n ≡ argument_count es → dropped_paths n (pushed_each es os) ≡ os
  dropped_all es n os is = dropped_each es 0 n os (no_more n (argument_count es) is)

  -- what an expression that leaves an operand leaves
  pushed_is : (e : Expr) (os : Paths) → valued P e ≡ true → pushed P e os ≡ path_of P e ∷ os
  pushed_is e os is = ap (λ b. if b then path_of P e ∷ os else os) is

  pub on_pushed : (Q : Paths → Type 0) (e : Expr) (os : Paths) → valued P e ≡ true → Q (path_of P e ∷ os) → Q (pushed P e os)
  on_pushed Q e os is q = subst Q (sym (pushed_is e os is)) q

  pub call_pushed : (b : Bool) (os : Paths) → (if b then None ∷ os else os) ≡ (if b then None ∷ [] else []) ++ os
  call_pushed true os = refl
  call_pushed false os = refl
