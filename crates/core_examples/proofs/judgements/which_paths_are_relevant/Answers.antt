use Rattle.std.proofs.Common.{refl, [], ◌∷◌, arith}
use Rattle.core_program.specs.Core.{ThisE, no_exprs, and_expr}
use Rattle.rules.specs.Near.{Near, required, locked, guarded, called, overriding, named}
use Rattle.core_examples.specs.Fields.{path, of_this}
use Rattle.core_examples.specs.Judged.{meetings, final_slot}
use Rattle.core_examples.proofs.Sweep.{relevant_rows}
use Rattle.core_examples.proofs.judgements.which_paths_are_relevant.Goals as goal

pub returns : goal.returns
returns c = relevant_rows meetings (
    (path 1 [] ∷ [])
    ∷ (path 0 (0 ∷ []) ∷ [])
    ∷ (path 0 [] ∷ [])
    ∷ (path 0 (0 ∷ []) ∷ [])
    ∷ (path 0 (3 ∷ 0 ∷ []) ∷ path 1 [] ∷ [])
    ∷ (path 0 (0 ∷ []) ∷ path 1 [] ∷ [])
    ∷ (path 0 (0 ∷ []) ∷ [])
    ∷ (path 0 (0 ∷ []) ∷ [])
    ∷ (path 0 [] ∷ path 0 (0 ∷ []) ∷ path 0 (0 ∷ 0 ∷ []) ∷ [])
    ∷ (path 0 (0 ∷ []) ∷ path 0 (8 ∷ []) ∷ []) ∷ []) refl refl (
      (need, tt),
      (
        (take, tt),
        (
          (guarded ThisE 4 (_, refl, (0, omega arith, refl)) refl, tt),
          (
            (guarded ThisE 6 (_, refl, (0, omega arith, refl)) refl, tt),
            (
              (
                called (of_this 3) 1 no_exprs (path 0 (0 ∷ [])) (_, refl, (0, omega arith, refl)) take (_, refl, omega arith) refl,
                (called ThisE 0 (and_expr final_slot no_exprs) (path 1 []) (_, refl, (2, omega arith, refl)) need (_, refl, omega arith) refl, tt),
              ),
              (
                (second, (behind, tt)),
                (
                  (overriding 9 (record { differs = λ e. omega (arith, e); method = _; is = refl; runs = refl }) low (_, refl, omega arith) (_, refl, refl), tt),
                  (
                    (called ThisE 5 no_exprs (path 0 (0 ∷ [])) (_, refl, (3, omega arith, refl)) second (_, refl, omega arith) refl, tt),
                    ((walk, (next, (last, tt))), ((low, (locked (_, refl, (1, omega arith, refl)), tt)), tt)),
                  ),
                ),
              ),
            ),
          ),
        ),
      ),
    )
  where
    need : Near meetings 0 (path 1 [])
    need = required (_, refl, (0, omega arith, refl))

    take : Near meetings 1 (path 0 (0 ∷ []))
    take = locked (_, refl, (0, omega arith, refl))

    -- the guard is that of the local, and by its value that of the field
    behind : Near meetings 5 (path 1 [])
    behind = guarded final_slot 4 (_, refl, (2, omega arith, refl)) refl

    second : Near meetings 5 (path 0 (0 ∷ []))
    second = named (path 1 []) (of_this 0) (path 0 (0 ∷ [])) behind (_, refl, (0, omega arith, refl)) refl refl

    walk : Near meetings 8 (path 0 [])
    walk = locked (_, refl, (0, omega arith, refl))

    next : Near meetings 8 (path 0 (0 ∷ []))
    next = called (of_this 0) 8 no_exprs (path 0 []) (_, refl, (1, omega arith, refl)) walk (_, refl, omega arith) refl

    last : Near meetings 8 (path 0 (0 ∷ 0 ∷ []))
    last = called (of_this 0) 8 no_exprs (path 0 (0 ∷ [])) (_, refl, (1, omega arith, refl)) next (_, refl, omega arith) refl

    low : Near meetings 9 (path 0 (0 ∷ []))
    low = locked (_, refl, (0, omega arith, refl))
