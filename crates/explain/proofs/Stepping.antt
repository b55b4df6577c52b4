-- What calls do, and which locks help them, in memory.
use Rattle.std.proofs.Common.{◌≡◌, ℕ, List, Some, None, sym, ap, ◌∙◌}
use Rattle.std.specs.Prelude.{Option, Result, Ok, Err, IfOk, find, not}
use Rattle.paths.specs.Paths.{PathData}
use Rattle.algebra.specs.HeldPaths.{Held}
use Rattle.core_program.specs.declared.tree.CoreExpr.{CoreExpr}
use Rattle.core_program.specs.Core.{Program, CallE}
use Rattle.core_program.specs.Locks.{path_of}
use Rattle.core_program.specs.Views.{expr_of, exprs_from}
use Rattle.effects.specs.Parts.{Part, ExprP}
use Rattle.rules.specs.Effect.{Assignment}
use Rattle.explain.specs.Helping.{help}
use Rattle.explain.specs.declared.causes.Cause.{Cause}
use Rattle.explain.specs.declared.deeds.Deed.{Deed}
use Rattle.explain.specs.declared.deeds.Help.{Help}
use Rattle.explain.specs.declared.deeds.Help.TheVariants as helps
use Rattle.explain.specs.declared.names.Alias.{Alias}
use Rattle.explain.specs.Causes.{call_cause, cause_of, first_lacking}
use Rattle.explain.specs.Deeds.{deed_of_part, help_of, hold_or, no_call_help, no_help}
use Rattle.explain.specs.Names.{second_name}

module _ (P : Program) (rel : ℕ → List PathData) (A : Assignment) (H : Held) (x : Part) (whole : CoreExpr) (m : ℕ) (all : List CoreExpr) (is : x ≡ ExprP (CallE (expr_of whole) m (exprs_from all))) where
  -- a call
  pub call_done : {E : Type 0} (overs : ℕ → List ℕ) (r : CoreExpr) (es : List CoreExpr) (done : Result Deed E) → r ≡ whole → es ≡ all
      → IfOk done (λ d. d ≡ deed_of_part P rel A overs (ExprP (CallE (expr_of r) m (exprs_from es))) H) → IfOk done (λ d. d ≡ deed_of_part P rel A overs x H)
  call_done overs r es (Ok d) one two e = e ∙ (λ i. deed_of_part P rel A overs (ExprP (CallE (expr_of (one i)) m (exprs_from (two i)))) H) ∙ ap (λ y. deed_of_part P rel A overs y H) (sym is)
  call_done overs r es (Err e) one two h = h

  module _ (aliases : List Alias) (r : CoreExpr) (es : List CoreExpr) (o : Option PathData) (h : Help) (one : r ≡ whole) (two : es ≡ all) (found : o ≡ help P rel A (ExprP (CallE (expr_of r) m (exprs_from es))) H) where
    found_whole : help P rel A x H ≡ o
    found_whole = ap (λ y. help P rel A y H) is ∙ sym (found ∙ (λ i. help P rel A (ExprP (CallE (expr_of (one i)) m (exprs_from (two i)))) H))

    -- a call that a lock helps, and one that none does
    pub call_helped : (p : PathData) → o ≡ Some p → h ≡ helps.Hold p (second_name aliases H p) → h ≡ help_of P rel A aliases x H
    call_helped p o_is h_is = h_is ∙ sym (ap (λ o. hold_or aliases H o (no_help P x)) (found_whole ∙ o_is))

    pub call_unhelped : (r2 : CoreExpr) → r2 ≡ whole → o ≡ None → h ≡ no_call_help P (expr_of r2) (path_of P (expr_of r2)) → h ≡ help_of P rel A aliases x H
    call_unhelped r2 three o_is h_is =
        h_is ∙ ap (λ y. no_call_help P (expr_of y) (path_of P (expr_of y))) three ∙ ap (no_help P) (sym is) ∙ sym (ap (λ o. hold_or aliases H o (no_help P x)) (found_whole ∙ o_is))

-- what is wrong with a call
pub call_caused : {E : Type 0} (P : Program) (rel : ℕ → List PathData) (aliases : List Alias) (H : Held) (x : Part) (whole : CoreExpr) (m : ℕ) (all : List CoreExpr) → x ≡ ExprP (CallE (expr_of whole) m (exprs_from all))
    → (r : CoreExpr) (es : List CoreExpr) (done : Result Cause E) → r ≡ whole → es ≡ all
    → IfOk done (λ k. let e = expr_of r in let es = exprs_from es in k ≡ call_cause P aliases H e m es (first_lacking P rel H e m es)) → IfOk done (λ k. k ≡ cause_of P rel aliases H x)
call_caused P rel aliases H x whole m all is r es (Ok k) one two h =
    h ∙ (λ i. call_cause P aliases H (expr_of (one i)) m (exprs_from (two i)) (first_lacking P rel H (expr_of (one i)) m (exprs_from (two i)))) ∙ ap (cause_of P rel aliases H) (sym is)
call_caused P rel aliases H x whole m all is r es (Err e) one two h = h

-- the first of some paths that isn't held
pub first_of : (K H : Held) (ps qs : List PathData) → K ≡ H → ps ≡ qs → find (λ q. not (K q)) ps ≡ find (λ q. not (H q)) qs
first_of K H ps qs same are = λ i. find (λ q. not (same i q)) (are i)
