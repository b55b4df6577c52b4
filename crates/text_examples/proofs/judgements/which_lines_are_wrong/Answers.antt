use Rattle.std.proofs.Common.{◌≡◌, zero, suc, true, false, refl, arith, inl, inr, [], ◌∷◌}
use Rattle.algebra.specs.HeldPaths.{Held}
use Rattle.core_program.specs.Core.{EmptyS}
use Rattle.core_program.specs.Dispatch.{Overrides}
use Rattle.rules.specs.Rules.{IsSubset}
use Rattle.core_program.specs.Examples.{plain_method}
use Rattle.book_check.specs.Conclusions.{table_value}
use Rattle.effects.specs.Parts.{StmtP}
use Rattle.book_check.specs.Parts.{places}
use Rattle.book_check.specs.Good.{book_assignment, IsStep}
use Rattle.book_check.specs.Faults.{AreShaped}
use Rattle.core_examples.specs.Bodies.{nothing_held, this_held}
use Rattle.text_examples.specs.Small.{print_one, print_twice, prints_below, no_paths, this_path_only, book, trees, method_line, skip, print, block}
use Rattle.text_examples.proofs.Places.{each_of, before_of, its_main, its_fits, ItsStep, its_steps, shaped_alone, none_over}
use Rattle.text_examples.proofs.judgements.which_lines_are_wrong.Goals as goal

nothing_in : (K : Held) → IsSubset nothing_held K
nothing_in K q held = let e : false ≡ true = held in absurd cc

pub returns-clause-not_relevant : goal.returns-clause-not_relevant
returns-clause-not_relevant c = record {
  shaped = shaped_alone false EmptyS no_paths (method_line 0 3 (skip 0)) (record { id = refl; fits = its_fits false EmptyS (method_line 0 3 (skip 0)) (record { word = refl; count = refl }, tt) });
  before = λ k method method_line less is its. absurd (omega arith);
  method = its_main false EmptyS;
  line = method_line 0 3 (skip 0);
  method_is = refl;
  line_is = refl;
  verdict = (refl, λ t. let e : false ≡ true = t.relevant in absurd cc);
}

pub returns-clause-rising : goal.returns-clause-rising
returns-clause-rising c = record {
  shaped = shaped_alone false EmptyS this_path_only (method_line 0 4 (skip 0)) (record { id = refl; fits = its_fits false EmptyS (method_line 0 4 (skip 0)) (record { word = refl; count = refl }, tt) });
  before = λ k method method_line less is its. absurd (omega arith);
  method = its_main false EmptyS;
  line = method_line 0 4 (skip 0);
  method_is = refl;
  line_is = refl;
  verdict = (refl, λ t. let e : false ≡ true = t.falls nothing_held this_held (nothing_in this_held) in absurd cc);
}

pub returns-clause-step : goal.returns-clause-step
returns-clause-step c = record {
  shaped = shaped_alone false print_one no_paths (method_line 0 0 (print 0)) (record { id = refl; fits = its_fits false print_one (method_line 0 0 (print 0)) (record { word = refl; count = refl }, (record { word = refl; count = refl }, tt)) });
  before = λ k method method_line less is its. absurd (omega arith);
  method = its_main false print_one;
  line = method_line 0 0 (print 0);
  method_is = refl;
  line_is = refl;
  verdict = (
    refl,
    record { relevant = refl; falls = λ H K part. refl },
    inr (
      (λ H part. refl),
      record { place = _; is = refl; bad = λ below. let e : false ≡ true = below nothing_held in absurd cc; first = λ j x less at. absurd (omega arith) },
    ),
  );
}

pub returns-clause-above_its_tree : goal.returns-clause-above_its_tree
returns-clause-above_its_tree c = record {
  shaped = shaped_alone false print_one no_paths (method_line 0 0 (print 1)) (record { id = refl; fits = its_fits false print_one (method_line 0 0 (print 1)) (record { word = refl; count = refl }, (record { word = refl; count = refl }, tt)) });
  before = λ k method method_line less is its. absurd (omega arith);
  method = its_main false print_one;
  line = method_line 0 0 (print 1);
  method_is = refl;
  line_is = refl;
  verdict = (refl, record { relevant = refl; falls = λ H K part. refl }, inl ((λ under. let e : false ≡ true = under nothing_held (nothing_in nothing_held) in absurd cc), refl));
}

pub returns-clause-inner_step : goal.returns-clause-inner_step
returns-clause-inner_step c = record {
  shaped = shaped_alone false print_twice no_paths (method_line 0 2 (block 2 (print 1) (print 0))) (record {
    id = refl;
    fits = its_fits false print_twice (method_line 0 2 (block 2 (print 1) (print 0)))
        (record { word = refl; count = refl }, (record { word = refl; count = refl }, (record { word = refl; count = refl }, (record { word = refl; count = refl }, (record { word = refl; count = refl }, tt)))));
  });
  before = λ k method method_line less is its. absurd (omega arith);
  method = its_main false print_twice;
  line = method_line 0 2 (block 2 (print 1) (print 0));
  method_is = refl;
  line_is = refl;
  verdict = (
    refl,
    record { relevant = refl; falls = λ H K part. refl },
    inr (
      (λ H part. refl),
      record { place = _; is = refl; bad = λ below. let e : false ≡ true = below nothing_held in absurd cc; first = before_of (ItsStep false print_twice no_paths (method_line 0 2 (block 2 (print 1) (print 0)))) 3 (places (StmtP print_twice) (method_line 0 2 (block 2 (print 1) (print 0))).body) ((λ H. refl), ((λ H. refl), ((λ H. refl), tt))) },
    ),
  );
}

both_shaped : AreShaped prints_below no_paths (book (method_line 0 0 (skip 0) ∷ method_line 1 1 (print 1) ∷ []))
both_shaped zero = record { id = refl; fits = its_fits false EmptyS (method_line 0 0 (skip 0)) (record { word = refl; count = refl }, tt) }
both_shaped (suc zero) = record { id = refl; fits = its_fits false print_one (method_line 1 1 (print 1)) (record { word = refl; count = refl }, (record { word = refl; count = refl }, tt)) }
both_shaped (suc (suc k)) = tt

over_it : Overrides prints_below 1 0
over_it = record { differs = λ e. absurd (omega arith); method = _; is = refl; runs = refl }

pub returns-clause-overridden : goal.returns-clause-overridden
returns-clause-overridden c = record {
  shaped = both_shaped;
  before = λ k method method_line less is its. absurd (omega arith);
  method = plain_method 0 20 false EmptyS;
  line = method_line 0 0 (skip 0);
  method_is = refl;
  line_is = refl;
  verdict = (
    refl,
    record { relevant = refl; falls = λ H K part. refl },
    record { under = λ H part. refl; steps = each_of (IsStep prints_below no_paths (table_value trees) (book_assignment (book (method_line 0 0 (skip 0) ∷ method_line 1 1 (print 1) ∷ [])))) (places (StmtP EmptyS) (skip 0)) ((λ H. refl), tt) },
    λ below. let e : false ≡ true = below 1 over_it nothing_held (nothing_in _) (nothing_in nothing_held) in absurd cc,
  );
}

pub returns-clause-bound : goal.returns-clause-bound
returns-clause-bound c = record {
  shaped = shaped_alone true print_twice no_paths (method_line 0 2 (block 2 (print 1) (print 1))) (record {
    id = refl;
    fits = its_fits true print_twice (method_line 0 2 (block 2 (print 1) (print 1)))
        (record { word = refl; count = refl }, (record { word = refl; count = refl }, (record { word = refl; count = refl }, (record { word = refl; count = refl }, (record { word = refl; count = refl }, tt)))));
  });
  before = λ k method method_line less is its. absurd (omega arith);
  method = its_main true print_twice;
  line = method_line 0 2 (block 2 (print 1) (print 1));
  method_is = refl;
  line_is = refl;
  verdict = (
    refl,
    record { relevant = refl; falls = λ H K part. refl },
    record { under = λ H part. refl; steps = its_steps true print_twice no_paths (method_line 0 2 (block 2 (print 1) (print 1))) ((λ H. refl), ((λ H. refl), ((λ H. refl), ((λ H. refl), ((λ H. refl), tt))))) },
    (λ over o. absurd (none_over true print_twice over o)),
    λ below. let e : false ≡ true = below in absurd cc,
  );
}
