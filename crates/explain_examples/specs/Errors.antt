-- Six methods that are refused: two for reasons of their own, three since they call the first of these, and one since it calls another.
use Rattle.std.specs.Prelude.{ℕ, true, List, [], ◌∷◌, None}
use Rattle.algebra.specs.declared.basic.Basic.TheVariants.{Cmpd, Error}
use Rattle.core_program.specs.Core.{CallE, ThisE, no_exprs}
use Rattle.effects.specs.Parts.{ExprP}
use Rattle.core_examples.specs.Bodies.{nothing_held}
use Rattle.explain.specs.Visits.{Visit}
use Rattle.explain.specs.Whys.{ExplainedData, WhyData, Wrong, Compound}
use Rattle.explain_text.specs.Arrangements.{ArrangedData, BlamingData}
use Rattle.explain_examples.specs.Page.{one_step}

-- a call `this.m()`, of the method with this number
abbrev pub call_of_own : ℕ → Visit
call_of_own m = record { node = 1; part = ExprP (CallE ThisE m no_exprs); held = nothing_held; loop = None }

abbrev pub refused_for : ℕ → WhyData → ExplainedData
refused_for k why = record { method = k; is_refused = true; limit = Cmpd; found = Error; why = why }

-- a method that is an error since it calls another
abbrev pub an_error : (k callee : ℕ) → ExplainedData
an_error k callee = refused_for k (Wrong (call_of_own callee))

abbrev pub six_errors : List ExplainedData
six_errors = an_error 2 0 ∷ refused_for 0 (Wrong (one_step 1)) ∷ an_error 3 1 ∷ refused_for 6 (Compound (one_step 2)) ∷ an_error 4 0 ∷ an_error 5 0 ∷ []

abbrev pub blaming_call : (k callee : ℕ) → BlamingData
blaming_call k callee = record { told = an_error k callee; callee = callee }

abbrev pub calls_that_fail : List BlamingData
calls_that_fail = blaming_call 2 0 ∷ blaming_call 3 1 ∷ blaming_call 4 0 ∷ blaming_call 5 0 ∷ []

-- which method is told, and how many more are counted
abbrev pub told_with : ArrangedData → ℕ × ℕ
told_with a = (a.told.method, a.more)
