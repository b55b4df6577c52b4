-- Tests of all lines of a list, computed one by one.
use Rattle.std.proofs.Common.{◌≡◌, ℕ, zero, suc, Bool, true, false, List, [], ◌∷◌, take, refl, subst, arith}
use Rattle.std.specs.Prelude.{if◌then◌else◌}
use Rattle.std.proofs.lemmas.Option.{none-some, same_Some}
use Rattle.paths.specs.Paths.{PathData}
use Rattle.core_program.specs.Core.{Program}
use Rattle.refutation.specs.Lines.{LineData}
use Rattle.refutation.specs.Certificates.{is_placed, is_justified, AreCertificateLines}
use Rattle.refutation.specs.Wrongs.{PassBefore, AllPass}

-- whether the lines pass a test, the first of which has this place
abbrev pub pass : (ℕ → LineData → Bool) → List LineData → Bool
pass test [] = true
pass test (l ∷ ls) = if test 0 l then pass (λ k. test (suc k)) ls else false

first_of : (b c : Bool) → (if b then c else false) ≡ true → b ≡ true
first_of true c is = refl
first_of false c is = absurd cc

second_of : (b c : Bool) → (if b then c else false) ≡ true → c ≡ true
second_of true c is = is
second_of false c is = absurd cc

pub all_pass : (test : ℕ → LineData → Bool) (ls : List LineData) → pass test ls ≡ true → AllPass test ls
all_pass test [] is k l at = absurd (none-some l at)
all_pass test (x ∷ ls) is zero l at = subst (λ y. test 0 y ≡ true) (same_Some x l at) (first_of (test 0 x) _ is)
all_pass test (x ∷ ls) is (suc k) l at = all_pass (λ k. test (suc k)) ls (second_of (test 0 x) _ is) k l at

pub pass_before : (test : ℕ → LineData → Bool) (n : ℕ) (ls : List LineData) → pass test (take n ls) ≡ true → PassBefore test ls n
pass_before test zero ls is k l less at = absurd (omega arith)
pass_before test (suc n) [] is k l less at = absurd (none-some l at)
pass_before test (suc n) (x ∷ ls) is zero l less at = subst (λ y. test 0 y ≡ true) (same_Some x l at) (first_of (test 0 x) _ is)
pass_before test (suc n) (x ∷ ls) is (suc k) l less at = pass_before (λ k. test (suc k)) n ls (second_of (test 0 x) _ is) k l (omega arith) at

-- each line has its place, and follows from those before it
pub are_lines : (P : Program) (rel : ℕ → List PathData) (ls : List LineData) → pass (λ k l. is_placed P rel l) ls ≡ true
    → pass (λ k l. is_justified P rel (take k ls) l) ls ≡ true → AreCertificateLines P rel ls
are_lines P rel ls placed steps = record { placed = all_pass (λ k l. is_placed P rel l) ls placed; steps = all_pass (λ k l. is_justified P rel (take k ls) l) ls steps }
