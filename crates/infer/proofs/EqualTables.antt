-- The test for equal rows of basics is exact.
use Rattle.std.proofs.Common.{◌≡◌, ◌==◌, Bool, true, refl, sym, ap, ◌∙◌}
use Rattle.std.specs.Bool.{Decides}
use Rattle.std.proofs.lemmas.Bool.{eqb-true}
use Rattle.algebra.specs.declared.basic.Basic.{Basic}
use Rattle.algebra.specs.Basics.{rank_of}
use Rattle.algebra.specs.contracts.basic.BasicPartialEq.TheImpl as basics
use Rattle.rules.proofs.BasicLemmas.{every, each, implies, follows}
use Rattle.infer.specs.Cells.{basic_of}
use Rattle.infer.proofs.CellLemmas.{basic_rank}

abbrev pub same : Basic → Basic → Bool
same = basics.eq-value.it

-- the derived test of equality is exact
basic_is : (a b : Basic) → same a b ≡ true → a ≡ b
basic_is a b told =
    let ranks = follows _ _ (each (λ d. implies (same a d) (rank_of a == rank_of d)) (each (λ c. every (λ d. implies (same c d) (rank_of c == rank_of d))) refl a) b) told in
    sym (basic_rank a) ∙ ap basic_of (eqb-true _ _ ranks) ∙ basic_rank b

basic_itself : (a b : Basic) → a ≡ b → same a b ≡ true
basic_itself a b e = ap (same a) (sym e) ∙ each (λ c. same c c) refl a

pub decides : (a b : Basic) → Decides (same a b) (a ≡ b)
decides a b = (basic_is a b, basic_itself a b)
