-- A basic is known by its rank.
use Rattle.std.proofs.Common.{◌≡◌, ◌≤◌, ℕ, zero, suc, refl, sym, ap, ◌∙◌, arith}
use Rattle.algebra.specs.declared.basic.Basic.{Basic}
use Rattle.algebra.specs.declared.basic.Basic.TheVariants.{Const, Mover, Atomic, Cmpd, Error}
use Rattle.algebra.specs.Basics.{rank_of}

-- the basic of a rank
abbrev of_rank : ℕ → Basic
of_rank zero = Const
of_rank (suc zero) = Mover
of_rank (suc (suc zero)) = Atomic
of_rank (suc (suc (suc zero))) = Cmpd
of_rank (suc (suc (suc (suc n)))) = Error

of_rank_is : (a : Basic) → of_rank (rank_of a) ≡ a
of_rank_is Const = refl
of_rank_is Mover = refl
of_rank_is Atomic = refl
of_rank_is Cmpd = refl
of_rank_is Error = refl

pub same_rank : (a b : Basic) → rank_of a ≡ rank_of b → a ≡ b
same_rank a b e = sym (of_rank_is a) ∙ ap of_rank e ∙ of_rank_is b

-- no rank is above that of an error
pub most_rank : (a : Basic) → rank_of a ≤ 4
most_rank Const = omega arith
most_rank Mover = omega arith
most_rank Atomic = omega arith
most_rank Cmpd = omega arith
most_rank Error = omega arith
