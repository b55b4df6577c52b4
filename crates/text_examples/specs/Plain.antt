-- A plain state, and parts that are evaluated in it.
use Rattle.std.specs.Prelude.{ℕ, pos, true, false, List, [], ◌∷◌, Option, Some, slice_get}
use Rattle.std.specs.FinMap as M
use Rattle.core_program.specs.declared.types.CoreOp.TheVariants.{Div}
use Rattle.core_program.specs.declared.types.CoreType.TheVariants as type
use Rattle.core_program.specs.declared.types.UnaryOp.TheVariants.{Neg}
use Rattle.core_program.specs.Core.{Expr, IntE, TruthE, VarE, BinaryE, CallE, and_expr, no_exprs, Stmt, WhileS, ReturnS}
use Rattle.state.specs.declared.value.Address.{Address}
use Rattle.state.specs.declared.value.Value.{Value}
use Rattle.state.specs.declared.value.Value.TheVariants.{Int, Truth, Ref}
use Rattle.state.specs.Values.{unary_value}
use Rattle.state.specs.Memory.{Object, Hold}
use Rattle.state.specs.States.{Running, Frame}
use Rattle.state.specs.Work.{Act, Call}
use Rattle.replay.specs.Plain.{Plain}
use Rattle.replay.specs.Calls.{Asked}
use Rattle.replay.specs.Answers.{Answer, Gives, then_do, Returns, GoesOn, Ended}
use Rattle.replay.specs.Evaluation.{Lower, expr, stmt}
use Rattle.core_examples.specs.Seen.{here, there, object_of, four_fields, frame_with}
use Rattle.core_examples.specs.Small.{one, two}

-- one object of the class with four fields
abbrev pub one_object : List (Address × Object)
one_object = (here, object_of 0) ∷ []

-- the thread 1 holds the lock of another address
abbrev pub one_lock : List (Address × Hold)
one_lock = (there, record { holder = 1; count = 1 }) ∷ []

-- the state: that object, that lock, and one thread, which runs
abbrev pub quiet : Plain
quiet = record { heap = M.from_sorted one_object; locks = M.from_sorted one_lock; threads = Running [] ∷ []; output = [] }

-- `this`, 1, true, and a reference to the other address
abbrev pub own_slots : List Value
own_slots = Ref here ∷ Int (pos 1) ∷ Truth true ∷ Ref there ∷ []

-- what is given, negated
abbrev pub negated : Answer Value → Answer Value
negated x = then_do x (λ v q. Gives (unary_value Neg v) q)

-- a body that gives how many calls are open, and one that gives what stands in a slot of its own
abbrev pub gives_depth : Lower
gives_depth d s slots q = Gives (record { end = Returns (Some (Int (pos d))); slots = slots }) q

-- a body that gives what stands in this slot of its own
abbrev pub gives_slot : ℕ → Lower
gives_slot x d s slots q = Gives (record { end = Returns (slice_get slots x); slots = slots }) q

-- a turn that goes on with one slot less
abbrev pub goes_with : List Value → Lower
goes_with after d s slots q = Gives (record { end = GoesOn; slots = after }) q

-- a turn goes on, and the loop behind it gives how many calls are open
abbrev pub goes_or_depth : Lower
goes_or_depth d (WhileS c s) slots q = Gives (record { end = Returns (Some (Int (pos d))); slots = slots }) q
goes_or_depth d _ slots q = Gives (record { end = GoesOn; slots = slots }) q

-- what an expression and a statement give to the thread 5, where seven calls are open, and with this for what is called
abbrev pub evaluated : Option Lower → Expr → Answer Value
evaluated lower e = expr four_fields 5 lower 7 own_slots e quiet

-- what a statement gives there
abbrev pub statement_answer : Option Lower → Stmt → Answer Ended
statement_answer lower s = stmt four_fields 5 lower 7 s own_slots quiet

-- a statement ends so, with these slots
abbrev pub ends_so : Ended → Answer Ended
ends_so x = Gives x quiet

-- an end at which the statement goes on, with these slots
abbrev pub on : List Value → Ended
on slots = record { end = GoesOn; slots = slots }

-- an end at which the statement returns this value, with the slots as they were
abbrev pub returned_end : Option Value → Ended
returned_end v = record { end = Returns v; slots = own_slots }

-- the thread 5 holds a lock this often
abbrev pub hold_of : ℕ → Hold
hold_of count = record { holder = 5; count = count }

-- a slot that isn't there, and `1 / 0`
abbrev pub missing : Expr
missing = VarE 9 false type.Int

-- `1 / 0`, which faults
abbrev pub zero_divisor : Expr
zero_divisor = BinaryE Div one (IntE (pos 0))

-- the literal `true`
abbrev pub yes : Expr
yes = TruthE true

-- the literal `false`
abbrev pub no : Expr
no = TruthE false

-- `.f(1, 2)` on a receiver
abbrev pub call_with_two : Expr → ℕ → Expr
call_with_two e m = CallE e m (and_expr one (and_expr two no_exprs))

-- `return e;`
abbrev pub return_of : Expr → Stmt
return_of e = ReturnS (Some e)

-- a call on the object
abbrev pub asked_of_object : ℕ → List Value → Option Asked
asked_of_object m arguments = Some (record { on = here; method = m; arguments = arguments })

-- the object and two arguments, the last of them on top; and a frame that calls a method with these
abbrev pub two_operands : List Value
two_operands = Int (pos 2) ∷ Int (pos 1) ∷ Ref here ∷ []

-- a frame that calls the method 0 with these operands next
abbrev pub calling_next : Frame
calling_next = record (frame_with two_operands) { work = Act (Call 0) ∷ [] }
