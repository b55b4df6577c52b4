-- Plain evaluation: what a part of a program gives in a plain state, by recursion on the part. There is no work list, no
-- operand list, no frame and no code.
use Rattle.std.specs.Prelude.{ℕ, zero, suc, ◌+◌, Bool, true, false, ◌==◌, nat_lt, List, [], ◌∷◌, length, Option, Some, None, slice_get, slice_set, if◌then◌else◌}
use Rattle.std.specs.FinMap as M
use Rattle.core_program.specs.declared.types.CoreType.{CoreType}
use Rattle.core_program.specs.declared.types.UnaryOp.TheVariants.{Not, Neg}
use Rattle.core_program.specs.Core.{Program, Class, Method, Expr, Exprs, IntE, TruthE, NullE, ThisE, VarE, NotE, NegE, BinaryE, AndE, OrE, GetE, CallE, NewE, no_exprs, and_expr}
use Rattle.core_program.specs.Core.{Stmt, Stmts, EmptyS, BlockS, LocalS, SetVarS, SetFieldS, DoS, IfS, WhileS, SyncS, ReturnS, PrintS, StartS, no_stmts, and_stmt}
use Rattle.state.specs.declared.value.Address.{Address}
use Rattle.state.specs.declared.value.Value.{Value}
use Rattle.state.specs.declared.value.Value.TheVariants as value
use Rattle.state.specs.declared.value.Fault.TheVariants as fault
use Rattle.state.specs.Values.{as_int, as_truth, address_of, unary_value, binary_value}
use Rattle.state.specs.Memory.{Hold, made_by, next_address, value_in}
use Rattle.state.specs.States.{new_slots, new_object}
use Rattle.semantics.specs.Step.{FieldIs, ObjectIs, LockIs, Prints, Starts, changed, index_of, object_class, run_of, target_at, unless_final}
use Rattle.semantics.specs.Locking.{taken_again, given_back}
use Rattle.replay.specs.Plain.{Plain}
use Rattle.replay.specs.Answers.{Answer, Gives, Fails, Blocked, Short, Deep, then_do, End, Returns, Ended, ended_value, completed_normally, in_turn}

-- the greatest count of an address, number of a thread and count of a lock
abbrev pub most_number : ℕ
most_number = 4294967295

-- the most calls that are open within each other, the asked one among them
abbrev pub most_depth : ℕ
most_depth = 100

-- Single effects. What a typed program never meets faults, as in a step of the machine.

-- short where a number would be too large
abbrev pub unless_full : {A : Type 0} → Bool → Answer A → Answer A
unless_full true answer = Short
unless_full false answer = answer

-- a value that may be missing
abbrev pub value_found : Option Value → Plain → Answer Value
value_found None q = Fails fault.Null
value_found (Some v) q = Gives v q

-- the result of an operator; none is a zero divisor
abbrev pub computed : Option Value → Plain → Answer Value
computed None q = Fails fault.Zero
computed (Some v) q = Gives v q

-- stores a value in a slot, where the slot is there
abbrev pub stored : ℕ → Value → Option Value → List Value → Plain → Answer Ended
stored x v None slots q = Fails fault.Null
stored x v (Some old) slots q = completed_normally (slice_set slots x v) q

-- reads a field of what an operand refers to
abbrev pub read_field : Program → ℕ → Option Address → Plain → Answer Value
read_field P f None q = Fails fault.Null
read_field P f (Some a) q = value_found (value_in P q.heap a f) q

-- reads fields one after the other, from a value on
abbrev pub followed_by : Program → List ℕ → Value → Plain → Answer Value
followed_by P [] v q = Gives v q
followed_by P (f ∷ fs) v q = then_do (read_field P f (address_of v) q) (λ next r. followed_by P fs next r)

-- writes a field, where it has an old value
abbrev pub field_written : Address → (index : ℕ) → Value → Option Value → Plain → Answer (Unit {0})
field_written a index v None q = Fails fault.Null
field_written a index v (Some old) q = Gives tt (changed (FieldIs a index v) q)

-- writes a field of what an operand refers to, unless it is final
abbrev pub write_field : Program → ℕ → Option Address → Value → Plain → Answer (Unit {0})
write_field P f None v q = Fails fault.Null
write_field P f (Some a) v q = field_written a (index_of (slice_get P.fields f)) v (unless_final (slice_get P.fields f) (value_in P q.heap a f)) q

-- makes an object of a class from the arguments for its final fields; it has the thread's next address
abbrev pub make : Program → (t c : ℕ) → Option Class → List Value → Plain → Answer Value
make P t c None arguments q = Fails fault.Null
make P t c (Some class) arguments q = unless_full (nat_lt most_number (made_by t q.heap))
    (Gives (value.Ref (next_address t q.heap)) (changed (ObjectIs (next_address t q.heap) (new_object P c arguments)) q))

-- starts a thread that runs a method on an object
abbrev pub start_thread : Address → Option ℕ → Plain → Answer (Unit {0})
start_thread a None q = Fails fault.Null
start_thread a (Some m) q = unless_full (nat_lt most_number (length q.threads)) (Gives tt (changed (Starts a m) q))

-- starts a thread on what an operand refers to
abbrev pub start_on : Program → Option Address → Plain → Answer (Unit {0})
start_on P None q = Fails fault.Null
start_on P (Some a) q = start_thread a (run_of P (object_class (M.get q.heap a))) q

-- takes a lock that is held: once more where this thread holds it
abbrev pub take_held_lock : Address → Hold → (mine : Bool) → Plain → Answer (Unit {0})
take_held_lock a hold false q = Blocked a hold.holder
take_held_lock a hold true q = unless_full (nat_lt most_number (hold.count + 1)) (Gives tt (changed (LockIs a (Some (taken_again hold))) q))

-- takes a lock that is free or held
abbrev pub take_lock : ℕ → Address → Option Hold → Plain → Answer (Unit {0})
take_lock t a None q = Gives tt (changed (LockIs a (Some (record { holder = t; count = 1 }))) q)
take_lock t a (Some hold) q = take_held_lock a hold (hold.holder == t) q

-- gives a lock back once, where this thread holds it
abbrev pub give_held : Address → Hold → (mine : Bool) → Plain → Answer (Unit {0})
give_held a hold false q = Fails fault.Null
give_held a hold true q = Gives tt (changed (LockIs a (given_back hold)) q)

-- gives back the lock that may be held so; a fault where nobody holds it
abbrev pub give_lock : ℕ → Address → Option Hold → Plain → Answer (Unit {0})
give_lock t a None q = Fails fault.Null
give_lock t a (Some hold) q = give_held a hold (hold.holder == t) q

-- evaluates a block while the lock is held, and gives the lock back, also where the block returns
abbrev pub locked : ℕ → Address → Answer Ended → Answer Ended
locked t a body = then_do body (λ x q. then_do (give_lock t a (M.get q.locks a) q) (λ _ r. Gives x r))

-- takes the lock of what an operand refers to, and evaluates a block while it is held
abbrev pub synchronized : ℕ → Option Address → Plain → (Plain → Answer Ended) → Answer Ended
synchronized t None q body = Fails fault.Null
synchronized t (Some a) q body = then_do (take_lock t a (M.get q.locks a) q) (λ _ r. locked t a (body r))

-- Parts. Evaluation takes what is known with one turn less: how a statement of a body with so many calls open within each
-- other, its own among them, is evaluated with these slots. Where there are no turns left, it is nothing.
abbrev pub Lower : Type 0
Lower = (depth : ℕ) → Stmt → List Value → Plain → Answer Ended

-- in a program, for a thread and a body with so many open calls
module _ (P : Program) (t : ℕ) (lower : Option Lower) (d : ℕ) where
  -- evaluates the body of a call, unless it is deep
  abbrev pub body_unless_deep : Lower → Bool → Stmt → List Value → Plain → Answer Value
  body_unless_deep low false body slots q = Deep
  body_unless_deep low true body slots q = then_do (low (suc d) body slots q) (λ x r. Gives (ended_value x.end) r)

  -- evaluates the body of a call; it takes a turn
  abbrev pub body_of : Option Lower → Stmt → List Value → Plain → Answer Value
  body_of None body slots q = Short
  body_of (Some low) body slots q = body_unless_deep low (nat_lt d most_depth) body slots q

  -- enters the method that runs, where it is there
  abbrev pub enter_method : Option Method → Address → List Value → Plain → Answer Value
  enter_method None a arguments q = Fails fault.Null
  enter_method (Some method) a arguments q = body_of lower method.body (new_slots method (value.Ref a) arguments) q

  -- enters the method that runs for the object's class, where there is one
  abbrev pub dispatch_call : Option ℕ → Address → List Value → Plain → Answer Value
  dispatch_call None a arguments q = Fails fault.Null
  dispatch_call (Some m) a arguments q = enter_method (slice_get P.methods m) a arguments q

  -- calls a method on what the receiver refers to
  abbrev pub call_method_on : ℕ → Option Address → List Value → Plain → Answer Value
  call_method_on m None arguments q = Fails fault.Null
  call_method_on m (Some a) arguments q = dispatch_call (target_at P m (object_class (M.get q.heap a))) a arguments q

  -- calls a method, where it is there
  abbrev pub call_method : ℕ → Option Method → Option Address → List Value → Plain → Answer Value
  call_method m None on arguments q = Fails fault.Null
  call_method m (Some method) on arguments q = call_method_on m on arguments q

  -- a turn of a loop, and then the loop again; it takes a turn
  abbrev pub loop_turn : Option Lower → Expr → Stmt → List Value → Plain → Answer Ended
  loop_turn None c s slots q = Short
  loop_turn (Some low) c s slots q = in_turn (low d s slots q) (λ after r. low d (WhileS c s) after r)

  -- expressions leave the slots as they are
  module _ (slots : List Value) where
    abbrev mutual
      -- the value of an expression, whose parts are evaluated from left to right
      pub expr : Expr → Plain → Answer Value
      expr (IntE n) q = Gives (value.Int n) q
      expr (TruthE b) q = Gives (value.Truth b) q
      expr NullE q = Gives value.Null q
      expr ThisE q = value_found (slice_get slots 0) q
      expr (VarE x is_final ty) q = value_found (slice_get slots x) q
      expr (NotE e) q = then_do (expr e q) (λ v r. Gives (unary_value Not v) r)
      expr (NegE e) q = then_do (expr e q) (λ v r. Gives (unary_value Neg v) r)
      expr (BinaryE op a b) q = then_do (expr a q) (λ v r. then_do (expr b r) (λ w s. computed (binary_value op v w) s))
      expr (AndE a b) q = then_do (expr a q) (λ v r. if as_truth v then expr b r else Gives (value.Truth false) r)
      expr (OrE a b) q = then_do (expr a q) (λ v r. if as_truth v then Gives (value.Truth true) r else expr b r)
      expr (GetE e f) q = then_do (expr e q) (λ v r. read_field P f (address_of v) r)
      expr (CallE e m args) q = then_do (expr e q) (λ on r. then_do (exprs args r) (λ vs s. call_method m (slice_get P.methods m) (address_of on) vs s))
      expr (NewE c args) q = then_do (exprs args q) (λ vs r. make P t c (slice_get P.classes c) vs r)

      -- the values of arguments, in order
      pub exprs : Exprs → Plain → Answer (List Value)
      exprs no_exprs q = Gives [] q
      exprs (and_expr e es) q = then_do (expr e q) (λ v r. then_do (exprs es r) (λ vs s. Gives (v ∷ vs) s))

  abbrev mutual
    -- how a statement ends, with which slots, and the state after it
    pub stmt : Stmt → List Value → Plain → Answer Ended
    stmt EmptyS slots q = completed_normally slots q
    stmt (BlockS ss) slots q = stmts ss slots q
    stmt (LocalS x is_final ty e) slots q = then_do (expr slots e q) (λ v r. stored x v (slice_get slots x) slots r)
    stmt (SetVarS x e) slots q = then_do (expr slots e q) (λ v r. stored x v (slice_get slots x) slots r)
    stmt (SetFieldS e f g) slots q = then_do (expr slots e q) (λ on r. then_do (expr slots g r) (λ v s. then_do (write_field P f (address_of on) v s) (λ _ z. completed_normally slots z)))
    stmt (DoS e drops) slots q = then_do (expr slots e q) (λ _ r. completed_normally slots r)
    stmt (IfS c s u) slots q = then_do (expr slots c q) (λ v r. if as_truth v then stmt s slots r else stmt u slots r)
    stmt (WhileS c s) slots q = then_do (expr slots c q) (λ v r. if as_truth v then loop_turn lower c s slots r else completed_normally slots r)
    stmt (SyncS p s) slots q = then_do (value_found (slice_get slots p.root) q) (λ v r. then_do (followed_by P p.fields v r) (λ w z. synchronized t (address_of w) z (λ y. stmt s slots y)))
    stmt (ReturnS None) slots q = Gives (record { end = Returns None; slots = slots }) q
    stmt (ReturnS (Some e)) slots q = then_do (expr slots e q) (λ v r. Gives (record { end = Returns (Some v); slots = slots }) r)
    stmt (PrintS e) slots q = then_do (expr slots e q) (λ v r. completed_normally slots (changed (Prints (as_int v)) r))
    stmt (StartS e) slots q = then_do (expr slots e q) (λ v r. then_do (start_on P (address_of v) r) (λ _ s. completed_normally slots s))

    -- the statements of a block, one after the other
    pub stmts : Stmts → List Value → Plain → Answer Ended
    stmts no_stmts slots q = completed_normally slots q
    stmts (and_stmt s ss) slots q = in_turn (stmt s slots q) (λ after r. stmts ss after r)

-- what is known with n turns: nothing with none, else evaluation with what is known with one turn less
abbrev pub lower_of : Program → (t n : ℕ) → Option Lower
lower_of P t zero = None
lower_of P t (suc n) = Some (λ d s slots q. stmt P t (lower_of P t n) d s slots q)

-- the result of a call, where its method has one
abbrev pub call_result : Option CoreType → End → Option Value
call_result None end = None
call_result (Some ty) end = Some (ended_value end)

-- evaluates the body of a method that is asked for; it takes a turn too
abbrev pub asked_body : Program → ℕ → Option Method → Address → List Value → Plain → (turns : ℕ) → Answer (Option Value)
asked_body P t None on arguments q turns = Fails fault.Null
asked_body P t (Some method) on arguments q zero = Short
asked_body P t (Some method) on arguments q (suc n) =
    then_do (stmt P t (lower_of P t n) 1 method.body (new_slots method (value.Ref on) arguments) q) (λ x r. Gives (call_result method.result x.end) r)

-- what a call of a method gives by itself, in a plain state, for a thread, with so many turns
abbrev pub evaluate : Program → Plain → (t : ℕ) → (on : Address) → (method : ℕ) → (arguments : List Value) → (turns : ℕ) → Answer (Option Value)
evaluate P q t on method arguments turns = asked_body P t (slice_get P.methods method) on arguments q turns
