-- One step of the loops.
use Rattle.std.proofs.Common.{◌≡◌, ℕ, zero, suc, ◌+◌, ◌≤◌, ◌<◌, true, false, ◌++◌, List, [], ◌∷◌, refl, sym, ap, subst, ◌∙◌, arith, length, get_or, drop, append_assoc, append-nil}
use Rattle.std.specs.Prelude.{Option, nat_lt, if◌then◌else◌}
use Rattle.core_program.specs.declared.tree.CoreExpr.{CoreExpr}
use Rattle.core_program.specs.declared.tree.CoreStmt.{CoreStmt}
use Rattle.core_program.specs.Core.{Program, Method, Expr, Stmt, WhileS}
use Rattle.core_program.specs.Views.{expr_of, exprs_from, stmt_of, stmts_from}
use Rattle.state.specs.declared.value.Address.{Address}
use Rattle.state.specs.declared.value.Value.{Value}
use Rattle.state.specs.declared.value.Value.TheVariants as value
use Rattle.state.specs.States.{new_slots}
use Rattle.state.specs.Values.{as_truth}
use Rattle.replay.specs.Plain.{Plain}
use Rattle.replay.specs.Answers.{Answer, Gives, Fails, Blocked, Short, Deep, then_do, Returns, Ended, ended_value, completed_normally, next_after, in_turn}
use Rattle.replay.specs.Evaluation.{Lower, lower_of, exprs, stmt, loop_turn, body_of, body_unless_deep}
use Rattle.replay.specs.declared.ends.EvalEnd.{EvalEnd}
use Rattle.replay.specs.Ends.{IsEvaluationEnd}
use Rattle.replay.specs.Evaluating.{expr_answer, exprs_answer, stmt_answer, block_answer, body_answer}
use Rattle.replay.proofs.EndLemmas.{end_then}

one_on : (i : ℕ) → suc (i + 1) ≡ suc i + 1
one_on i = omega arith

-- the list from a place on begins with what stands there
exprs_next : (es : List CoreExpr) (i : ℕ) (e : CoreExpr) → i < length es → e ≡ get_or es i e → drop i es ≡ e ∷ drop (i + 1) es
exprs_next [] i e below is = absurd (omega (arith, below))
exprs_next (x ∷ es) zero e below is = ap (λ y. y ∷ es) (sym is)
exprs_next (x ∷ es) (suc i) e below is = exprs_next es i e (omega (arith, below)) is ∙ ap (λ k. e ∷ drop k (x ∷ es)) (one_on i)

stmts_next : (ss : List CoreStmt) (i : ℕ) (s : CoreStmt) → i < length ss → s ≡ get_or ss i s → drop i ss ≡ s ∷ drop (i + 1) ss
stmts_next [] i s below is = absurd (omega (arith, below))
stmts_next (x ∷ ss) zero s below is = ap (λ y. y ∷ ss) (sym is)
stmts_next (x ∷ ss) (suc i) s below is = stmts_next ss i s (omega (arith, below)) is ∙ ap (λ k. s ∷ drop k (x ∷ ss)) (one_on i)

module _ (P : Program) (t n d : ℕ) (slots : List Value) where
  -- the first argument, and then the others behind it
  each_further : (before : List Value) (v : Value) (a : Answer (List Value))
      → then_do (then_do a (λ vs s. Gives (v ∷ vs) s)) (λ vs r. Gives (before ++ vs) r) ≡ then_do a (λ vs r. Gives ((before ++ v ∷ []) ++ vs) r)
  each_further before v (Gives vs q) = ap (λ l. Gives l q) (sym (append_assoc before (v ∷ []) vs))
  each_further before v (Fails kind) = refl
  each_further before v (Blocked a holder) = refl
  each_further before v Short = refl
  each_further before v Deep = refl

  first_is : (es : List CoreExpr) (i : ℕ) (e : CoreExpr) (before : List Value) (p : Plain) → i < length es → e ≡ get_or es i e
      → exprs_answer P t n d slots before (exprs_from (drop i es)) p
      ≡ then_do (then_do (expr_answer P t n d slots (expr_of e) p) (λ v r. then_do (exprs P t (lower_of P t n) d slots (exprs_from (drop (i + 1) es)) r) (λ vs s. Gives (v ∷ vs) s))) (λ vs r. Gives (before ++ vs) r)
  first_is es i e before p below is = ap (λ l. exprs_answer P t n d slots before (exprs_from l) p) (exprs_next es i e below is)

  -- a value more
  pub more_args : (es : List CoreExpr) (i : ℕ) (e : CoreExpr) (before now : List Value) (v : Value) (p q : Plain) (whole : Answer (List Value)) → i < length es → e ≡ get_or es i e
      → expr_answer P t n d slots (expr_of e) p ≡ Gives v q → now ≡ before ++ v ∷ []
      → exprs_answer P t n d slots before (exprs_from (drop i es)) p ≡ whole → exprs_answer P t n d slots now (exprs_from (drop (i + 1) es)) q ≡ whole
  more_args es i e before now v p q whole below is gives pushed so_far =
      ap (λ l. exprs_answer P t n d slots l (exprs_from (drop (i + 1) es)) q) pushed
      ∙ sym (each_further before v (exprs P t (lower_of P t n) d slots (exprs_from (drop (i + 1) es)) q))
      ∙ sym (ap (λ a. then_do (then_do a (λ v r. then_do (exprs P t (lower_of P t n) d slots (exprs_from (drop (i + 1) es)) r) (λ vs s. Gives (v ∷ vs) s))) (λ vs r. Gives (before ++ vs) r)) gives)
      ∙ sym (first_is es i e before p below is) ∙ so_far

  -- an argument without a value
  pub end_args : (es : List CoreExpr) (i : ℕ) (e : CoreExpr) (before : List Value) (p : Plain) (x : EvalEnd) (whole : Answer (List Value)) → i < length es → e ≡ get_or es i e
      → IsEvaluationEnd x (expr_answer P t n d slots (expr_of e) p) → exprs_answer P t n d slots before (exprs_from (drop i es)) p ≡ whole → IsEvaluationEnd x whole
  end_args es i e before p x whole below is ends so_far =
      subst (IsEvaluationEnd x) (sym (first_is es i e before p below is) ∙ so_far)
      (end_then x _ (λ vs r. Gives (before ++ vs) r)
      (end_then x (expr_answer P t n d slots (expr_of e) p) (λ v r. then_do (exprs P t (lower_of P t n) d slots (exprs_from (drop (i + 1) es)) r) (λ vs s. Gives (v ∷ vs) s)) ends))

  -- no argument left
  pub all_args : (es : List CoreExpr) (i : ℕ) (before : List Value) (p : Plain) (whole : Answer (List Value)) → length es ≤ i
      → exprs_answer P t n d slots before (exprs_from (drop i es)) p ≡ whole → whole ≡ Gives before p
  all_args es i before p whole past so_far = sym so_far ∙ ap (λ l. exprs_answer P t n d slots before (exprs_from l) p) (none_left es i past) ∙ ap (λ l. Gives l p) (append-nil before)
    where
      none_left : (es : List CoreExpr) (i : ℕ) → length es ≤ i → drop i es ≡ []
      none_left [] zero past = refl
      none_left [] (suc i) past = refl
      none_left (x ∷ es) zero past = absurd (omega (arith, past))
      none_left (x ∷ es) (suc i) past = none_left es i (omega (arith, past))

module _ (P : Program) (t n d : ℕ) where
  block_first : (ss : List CoreStmt) (i : ℕ) (s : CoreStmt) (slots : List Value) (p : Plain) → i < length ss → s ≡ get_or ss i s
      → block_answer P t n d slots (stmts_from (drop i ss)) p ≡ in_turn (stmt_answer P t n d slots (stmt_of s) p) (λ after r. block_answer P t n d after (stmts_from (drop (i + 1) ss)) r)
  block_first ss i s slots p below is = ap (λ l. block_answer P t n d slots (stmts_from l) p) (stmts_next ss i s below is)

  pub more_stmts : (ss : List CoreStmt) (i : ℕ) (s : CoreStmt) (slots after : List Value) (p q : Plain) (whole : Answer Ended) → i < length ss → s ≡ get_or ss i s
      → stmt_answer P t n d slots (stmt_of s) p ≡ completed_normally after q
      → block_answer P t n d slots (stmts_from (drop i ss)) p ≡ whole → block_answer P t n d after (stmts_from (drop (i + 1) ss)) q ≡ whole
  more_stmts ss i s slots after p q whole below is gives so_far =
      sym (ap (λ a. in_turn a (λ after r. block_answer P t n d after (stmts_from (drop (i + 1) ss)) r)) gives) ∙ sym (block_first ss i s slots p below is) ∙ so_far

  pub last_stmt : (ss : List CoreStmt) (i : ℕ) (s : CoreStmt) (slots after : List Value) (p q : Plain) (v : Option Value) (whole : Answer Ended) → i < length ss → s ≡ get_or ss i s
      → stmt_answer P t n d slots (stmt_of s) p ≡ Gives (record { end = Returns v; slots = after }) q
      → block_answer P t n d slots (stmts_from (drop i ss)) p ≡ whole → whole ≡ Gives (record { end = Returns v; slots = after }) q
  last_stmt ss i s slots after p q v whole below is gives so_far =
      sym so_far ∙ block_first ss i s slots p below is ∙ ap (λ a. in_turn a (λ after r. block_answer P t n d after (stmts_from (drop (i + 1) ss)) r)) gives

  pub end_stmts : (ss : List CoreStmt) (i : ℕ) (s : CoreStmt) (slots : List Value) (p : Plain) (x : EvalEnd) (whole : Answer Ended) → i < length ss → s ≡ get_or ss i s
      → IsEvaluationEnd x (stmt_answer P t n d slots (stmt_of s) p) → block_answer P t n d slots (stmts_from (drop i ss)) p ≡ whole → IsEvaluationEnd x whole
  end_stmts ss i s slots p x whole below is ends so_far =
      subst (IsEvaluationEnd x) (sym (block_first ss i s slots p below is) ∙ so_far)
      (end_then x (stmt_answer P t n d slots (stmt_of s) p) (λ y q. next_after y.end y.slots q (λ after r. block_answer P t n d after (stmts_from (drop (i + 1) ss)) r)) ends)

  pub all_stmts : (ss : List CoreStmt) (i : ℕ) (slots : List Value) (p : Plain) (whole : Answer Ended) → length ss ≤ i
      → block_answer P t n d slots (stmts_from (drop i ss)) p ≡ whole → whole ≡ completed_normally slots p
  all_stmts ss i slots p whole past so_far = sym so_far ∙ ap (λ l. block_answer P t n d slots (stmts_from l) p) (none_left ss i past)
    where
      none_left : (ss : List CoreStmt) (i : ℕ) → length ss ≤ i → drop i ss ≡ []
      none_left [] zero past = refl
      none_left [] (suc i) past = refl
      none_left (x ∷ ss) zero past = absurd (omega (arith, past))
      none_left (x ∷ ss) (suc i) past = none_left ss i (omega (arith, past))

-- what is known with a turn left
abbrev pub lower_at : Program → (t n : ℕ) → Lower
lower_at P t n = λ d s slots q. stmt P t (lower_of P t n) d s slots q

-- Loops: the condition, and a turn.
module _ (P : Program) (t d : ℕ) (c : Expr) (s : Stmt) where
  abbrev loop_answer : ℕ → List Value → Plain → Answer Ended
  loop_answer n slots q = stmt_answer P t n d slots (WhileS c s) q

  condition_is : (n : ℕ) (slots : List Value) (v : Value) (p q : Plain) → expr_answer P t n d slots c p ≡ Gives v q
      → loop_answer n slots p ≡ (if as_truth v then loop_turn P t (lower_of P t n) d (lower_of P t n) c s slots q else completed_normally slots q)
  condition_is n slots v p q gives = ap (λ a. then_do a (λ v r. if as_truth v then loop_turn P t (lower_of P t n) d (lower_of P t n) c s slots r else completed_normally slots r)) gives

  -- the condition is false
  pub loop_ends : (n : ℕ) (slots : List Value) (v : Value) (p q : Plain) (whole : Answer Ended) → expr_answer P t n d slots c p ≡ Gives v q → as_truth v ≡ false
      → whole ≡ loop_answer n slots p → whole ≡ completed_normally slots q
  loop_ends n slots v p q whole gives is so_far = so_far ∙ condition_is n slots v p q gives
      ∙ ap (λ b. if b then loop_turn P t (lower_of P t n) d (lower_of P t n) c s slots q else completed_normally slots q) is

  -- it is true, and there is no turn left
  pub loop_short : (n : ℕ) (slots : List Value) (v : Value) (p q : Plain) (whole : Answer Ended) → expr_answer P t n d slots c p ≡ Gives v q → as_truth v ≡ true → n ≡ 0
      → whole ≡ loop_answer n slots p → whole ≡ Short
  loop_short n slots v p q whole gives is none so_far = so_far ∙ condition_is n slots v p q gives
      ∙ ap (λ b. if b then loop_turn P t (lower_of P t n) d (lower_of P t n) c s slots q else completed_normally slots q) is
      ∙ ap (λ k. loop_turn P t (lower_of P t k) d (lower_of P t k) c s slots q) none

  pub loop_condition : (n : ℕ) (slots : List Value) (p : Plain) (x : EvalEnd) (whole : Answer Ended) → IsEvaluationEnd x (expr_answer P t n d slots c p) → whole ≡ loop_answer n slots p → IsEvaluationEnd x whole
  loop_condition n slots p x whole ends so_far =
      subst (IsEvaluationEnd x) (sym so_far) (end_then x (expr_answer P t n d slots c p) (λ v r. if as_truth v then loop_turn P t (lower_of P t n) d (lower_of P t n) c s slots r else completed_normally slots r) ends)

  -- with a turn left the loop is its body, and then the loop with one turn less
  turn_is : (n less : ℕ) (slots : List Value) (v : Value) (p q : Plain) (whole : Answer Ended) → n ≡ suc less → expr_answer P t n d slots c p ≡ Gives v q → as_truth v ≡ true
      → whole ≡ loop_answer n slots p → whole ≡ in_turn (stmt_answer P t less d slots s q) (λ after r. loop_answer less after r)
  turn_is n less slots v p q whole is gives holds so_far = so_far ∙ condition_is n slots v p q gives
      ∙ ap (λ b. if b then loop_turn P t (lower_of P t n) d (lower_of P t n) c s slots q else completed_normally slots q) holds
      ∙ ap (λ k. loop_turn P t (lower_of P t k) d (lower_of P t k) c s slots q) is

  pub loop_goes : (n less : ℕ) (slots after : List Value) (v : Value) (p q r : Plain) (whole : Answer Ended) → n ≡ suc less → expr_answer P t n d slots c p ≡ Gives v q → as_truth v ≡ true
      → stmt_answer P t less d slots s q ≡ completed_normally after r → whole ≡ loop_answer n slots p → whole ≡ loop_answer less after r
  loop_goes n less slots after v p q r whole is gives holds body so_far = turn_is n less slots v p q whole is gives holds so_far ∙ ap (λ a. in_turn a (λ after r. loop_answer less after r)) body

  pub loop_returns : (n less : ℕ) (slots after : List Value) (v : Value) (w : Option Value) (p q r : Plain) (whole : Answer Ended) → n ≡ suc less → expr_answer P t n d slots c p ≡ Gives v q → as_truth v ≡ true
      → stmt_answer P t less d slots s q ≡ Gives (record { end = Returns w; slots = after }) r → whole ≡ loop_answer n slots p → whole ≡ Gives (record { end = Returns w; slots = after }) r
  loop_returns n less slots after v w p q r whole is gives holds body so_far = turn_is n less slots v p q whole is gives holds so_far ∙ ap (λ a. in_turn a (λ after r. loop_answer less after r)) body

  pub loop_fails : (n less : ℕ) (slots : List Value) (v : Value) (p q : Plain) (x : EvalEnd) (whole : Answer Ended) → n ≡ suc less → expr_answer P t n d slots c p ≡ Gives v q → as_truth v ≡ true
      → IsEvaluationEnd x (stmt_answer P t less d slots s q) → whole ≡ loop_answer n slots p → IsEvaluationEnd x whole
  loop_fails n less slots v p q x whole is gives holds ends so_far =
      subst (IsEvaluationEnd x) (sym (turn_is n less slots v p q whole is gives holds so_far)) (end_then x (stmt_answer P t less d slots s q) (λ y z. next_after y.end y.slots z (λ after r. loop_answer less after r)) ends)

-- The body of a call, with a turn left and few calls open.
module _ (P : Program) (t n d less : ℕ) (method : Method) (a : Address) (arguments : List Value) (q : Plain) where
  body_is : n ≡ suc less → nat_lt d 100 ≡ true → body_answer P t n d method a arguments q
      ≡ then_do (stmt_answer P t less (suc d) (new_slots method (value.Ref a) arguments) method.body q) (λ x r. Gives (ended_value x.end) r)
  body_is is few = ap (λ k. body_of P t (lower_of P t k) d (lower_of P t k) method.body (new_slots method (value.Ref a) arguments) q) is
      ∙ ap (λ b. body_unless_deep P t (lower_of P t (suc less)) d (lower_at P t less) b method.body (new_slots method (value.Ref a) arguments) q) few

  pub body_fails : (deeper : ℕ) (slots : List Value) (x : EvalEnd) → n ≡ suc less → nat_lt d 100 ≡ true → deeper ≡ suc d → slots ≡ new_slots method (value.Ref a) arguments
      → IsEvaluationEnd x (stmt_answer P t less deeper slots method.body q) → IsEvaluationEnd x (body_answer P t n d method a arguments q)
  body_fails deeper slots x is few one_more begins ends =
      subst (IsEvaluationEnd x) (sym (body_is is few))
      (end_then x (stmt_answer P t less (suc d) (new_slots method (value.Ref a) arguments) method.body q) (λ y r. Gives (ended_value y.end) r)
      (subst (λ l. IsEvaluationEnd x (stmt_answer P t less (suc d) l method.body q)) begins (subst (λ k. IsEvaluationEnd x (stmt_answer P t less k slots method.body q)) one_more ends)))
