-- Numbers, one more than others, and tests whether two are equal.
use Rattle.std.proofs.Common.{◌≡◌, ◌==◌, ◌+◌, ◌<◌, ℕ, suc, false, arith}
use Rattle.std.proofs.lemmas.Bool.Decides.{nat_tests}

-- of two that are equal, one more
pub one_and : (a b : ℕ) → a ≡ b → suc a ≡ 1 + b
one_and a b e = omega (arith, e)

-- the test with its numbers exchanged
pub eqb_turned : (a b : ℕ) → (a == b) ≡ (b == a)
eqb_turned a b = grind (arith, nat_tests)

-- a number is none above it, and none below it
pub other_below : (x c : ℕ) → x < c → (x == c) ≡ false
other_below x c h = grind (arith, nat_tests)

pub other_above : (x c : ℕ) → c < x → (x == c) ≡ false
other_above x c h = grind (arith, nat_tests)
