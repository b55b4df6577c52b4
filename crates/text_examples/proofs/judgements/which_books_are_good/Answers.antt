use Rattle.std.proofs.Common.{◌≡◌, Bool, true, false, refl}
use Rattle.std.specs.Prelude.{if◌then◌else◌}
use Rattle.algebra.specs.declared.basic.Basic.TheVariants.{Const, Atomic}
use Rattle.core_program.specs.Core.{EmptyS}
use Rattle.core_program.specs.Examples.{this_path}
use Rattle.rules.specs.Rules.{AtMost}
use Rattle.text_examples.specs.Small.{print_one, no_paths, this_path_only, method_line, skip, print}
use Rattle.text_examples.proofs.Places.{its_fits, its_steps, good_alone, none_over}
use Rattle.text_examples.proofs.judgements.which_books_are_good.Goals as goal

pub returns-clause-nothing_done : goal.returns-clause-nothing_done
returns-clause-nothing_done c = good_alone false EmptyS no_paths (method_line 0 0 (skip 0)) (record { id = refl; fits = its_fits false EmptyS (method_line 0 0 (skip 0)) (record { word = refl; count = refl }, tt) })
    (record {
      tabled = record { relevant = refl; falls = λ H K part. refl };
      stepped = record { under = λ H part. refl; steps = its_steps false EmptyS no_paths (method_line 0 0 (skip 0)) ((λ H. refl), tt) };
      overrides = λ over o. absurd (none_over false EmptyS over o);
      bounded = refl;
    })

pub returns-clause-exact : goal.returns-clause-exact
returns-clause-exact c = good_alone true print_one no_paths (method_line 0 1 (print 1)) (record { id = refl; fits = its_fits true print_one (method_line 0 1 (print 1)) (record { word = refl; count = refl }, (record { word = refl; count = refl }, tt)) })
    (record {
      tabled = record { relevant = refl; falls = λ H K part. refl };
      stepped = record { under = λ H part. refl; steps = its_steps true print_one no_paths (method_line 0 1 (print 1)) ((λ H. refl), ((λ H. refl), tt)) };
      overrides = λ over o. absurd (none_over true print_one over o);
      bounded = refl;
    })

pub returns-clause-greater : goal.returns-clause-greater
returns-clause-greater c = good_alone false EmptyS no_paths (method_line 0 2 (skip 1)) (record { id = refl; fits = its_fits false EmptyS (method_line 0 2 (skip 1)) (record { word = refl; count = refl }, tt) })
    (record {
      tabled = record { relevant = refl; falls = λ H K part. refl };
      stepped = record { under = λ H part. refl; steps = its_steps false EmptyS no_paths (method_line 0 2 (skip 1)) ((λ H. refl), tt) };
      overrides = λ over o. absurd (none_over false EmptyS over o);
      bounded = refl;
    })

-- const where the lock is held, and atomic where it isn't, falls, and is at least const
falls : (held more : Bool) → (held ≡ true → more ≡ true) → AtMost (if more then Const else Atomic) (if held then Const else Atomic)
falls true true part = refl
falls true false part = let e : false ≡ true = part refl in absurd cc
falls false true part = refl
falls false false part = refl

at_least : (held : Bool) → AtMost Const (if held then Const else Atomic)
at_least true = refl
at_least false = refl

pub returns-clause-relevant : goal.returns-clause-relevant
returns-clause-relevant c = good_alone false EmptyS this_path_only (method_line 0 3 (skip 0)) (record { id = refl; fits = its_fits false EmptyS (method_line 0 3 (skip 0)) (record { word = refl; count = refl }, tt) })
    (record {
      tabled = record { relevant = refl; falls = λ H K part. falls (H this_path) (K this_path) (part this_path) };
      stepped = record { under = λ H part. at_least (H this_path); steps = its_steps false EmptyS this_path_only (method_line 0 3 (skip 0)) ((λ H. refl), tt) };
      overrides = λ over o. absurd (none_over false EmptyS over o);
      bounded = refl;
    })
