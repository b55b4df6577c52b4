-- Two turns as a sequence.
use Rattle.std.proofs.Common.{map, refl, [], ◌∷◌}
use Rattle.algebra.specs.declared.basic.Basic.TheVariants.{Const}
use Rattle.algebra.specs.Basics.{seq_of, star_of}
use Rattle.conditions.specs.Conditions.{cond_of, value_of}
use Rattle.book_check.specs.Judges.{judge_value}
use Rattle.book_check.proofs.PairLemmas.{sequence_step, turns_are}
use Rattle.book_check.proofs.sequences.turns_below.Goals as goal

pub returns : goal.returns
returns c =
    let V = judge_value c.args.judge.now in
    let a = c.args.condition in
    let b = c.args.body in
    sequence_step c.sequence_below.result (map V (a ∷ b ∷ a ∷ b ∷ a ∷ [])) (value_of (cond_of c.leaf-last.result)) (λ H. Const) (value_of (cond_of c.args.d.now))
    (λ H. seq_of (V a H) (star_of (seq_of (V b H) (V a H))))
    (λ H. turns_are V a b (a ∷ b ∷ a ∷ b ∷ a ∷ []) H refl) c.leaf-last.ensures.value c.sequence_below.ensures
