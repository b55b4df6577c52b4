-- A program whose methods call each other, and the ranks by which they are told.
--     class A {
--         int a;
--         atomic void f() { if (true) { this.a = 1; } else { this.g(); this.g(); } }
--         void g() { this.f(); }
--     }
use Rattle.std.specs.Prelude.{true, false, List, [], ◌∷◌, Some, None}
use Rattle.algebra.specs.declared.basic.Basic.TheVariants.{Atomic}
use Rattle.core_program.specs.Core.{Program, Method, IfS, TruthE}
use Rattle.core_program.specs.Examples.{block_of, plain_method}
use Rattle.explain.specs.declared.grounds.Ground.{Ground}
use Rattle.explain_examples.specs.Shelf.{both_of, put_in, run_method, shelf}

abbrev pub turning : Method
turning = plain_method 0 100 true (block_of (IfS (TruthE true) (block_of (put_in 0)) (both_of (run_method 1) (run_method 1))))

abbrev pub back : Method
back = plain_method 0 101 false (block_of (run_method 0))

abbrev pub circle : Program
circle = record shelf { methods = turning ∷ back ∷ [] }

-- `f` is told by what is known before it, `g` as it is
abbrev pub circle_ranks : List Ground
circle_ranks = record { rank = 1; level = Some Atomic; lead = None } ∷ record { rank = 2; level = None; lead = Some 0 } ∷ []
