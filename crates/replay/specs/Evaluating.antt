-- What parts give with n turns, where d calls are open.
use Rattle.std.specs.Prelude.{ℕ, List, ◌++◌, Option, slice_get}
use Rattle.core_program.specs.Core.{Program, Method, Expr, Exprs, Stmt, Stmts}
use Rattle.state.specs.declared.value.Address.{Address}
use Rattle.state.specs.declared.value.Value.{Value}
use Rattle.state.specs.declared.value.Value.TheVariants as value
use Rattle.state.specs.States.{new_slots}
use Rattle.replay.specs.Plain.{Plain}
use Rattle.replay.specs.Answers.{Answer, Gives, then_do, Ended}
use Rattle.replay.specs.Evaluation.{lower_of, expr, exprs, stmt, stmts, call_method, body_of}

module _ (P : Program) (t n d : ℕ) where
  -- the value of an expression in a frame with these slots
  abbrev pub expr_answer : List Value → Expr → Plain → Answer Value
  expr_answer slots e q = expr P t (lower_of P t n) d slots e q

  -- the values of arguments, behind others
  abbrev pub exprs_answer : List Value → (before : List Value) → Exprs → Plain → Answer (List Value)
  exprs_answer slots before es q = then_do (exprs P t (lower_of P t n) d slots es q) (λ vs r. Gives (before ++ vs) r)

  -- what a statement gives, and with which slots it ends
  abbrev pub stmt_answer : List Value → Stmt → Plain → Answer Ended
  stmt_answer slots s q = stmt P t (lower_of P t n) d s slots q

  -- what the statements of a block give, one after the other
  abbrev pub block_answer : List Value → Stmts → Plain → Answer Ended
  block_answer slots ss q = stmts P t (lower_of P t n) d ss slots q

  -- the value of a call of method m on this receiver, with these arguments
  abbrev pub call_answer : ℕ → Option Address → List Value → Plain → Answer Value
  call_answer m on arguments q = call_method P t (lower_of P t n) d m (slice_get P.methods m) on arguments q

  -- the value that a method's body gives, which begins with `this`, the arguments and 0 in each other slot
  abbrev pub body_answer : Method → Address → List Value → Plain → Answer Value
  body_answer method a arguments q = body_of P t (lower_of P t n) d (lower_of P t n) method.body (new_slots method (value.Ref a) arguments) q
