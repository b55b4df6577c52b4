-- The order of addresses.
use Rattle.std.proofs.Common.{◌≡◌, ◌≢◌, ℕ, true, false, refl, ap}
use Rattle.std.specs.Cmp.{IsTotalOrder, nat_cmp_total, tied_itself}
use Rattle.std.specs.Ordering.{nat_cmp, eq_by_cmp, is_eq}
use Rattle.std.specs.declared.cmp.Ordering.{Ordering}
use Rattle.std.specs.declared.cmp.Ordering.TheVariants.{Less, Equal, Greater}
use Rattle.std.proofs.lemmas.Cmp.{on_total, then_total}
use Rattle.std.proofs.lemmas.Map.Lookups.{CmpEqualImpliesEq, exact_pairs, exact_unsigned}
use Rattle.std.proofs.lemmas.Bool.{false_from_ne_true}
use Rattle.state.specs.declared.value.Address.{Address}
use Rattle.state.specs.Memory.{address_cmp}

pub address_total : IsTotalOrder address_cmp
address_total = then_total (on_total (λ a. a.thread) nat_cmp_total) (on_total (λ a. a.count) nat_cmp_total)

pub address_exact : CmpEqualImpliesEq address_cmp
address_exact a b h = ap (λ (p : ℕ × ℕ). record { thread = p.0; count = p.1 }) (exact_pairs nat_cmp nat_cmp exact_unsigned exact_unsigned (a.thread, a.count) (b.thread, b.count) h)

pub address_itself : (a : Address) → address_cmp a a ≡ Equal
address_itself a = tied_itself address_total a

equal_test : (o : Ordering) → is_eq o ≡ true → o ≡ Equal
equal_test Less e = absurd cc
equal_test Equal e = refl
equal_test Greater e = absurd cc

-- the key test of maps, at another address and at the same
pub apart : (a b : Address) → b ≢ a → eq_by_cmp address_cmp b a ≡ false
apart a b other = false_from_ne_true _ (λ e. other (address_exact b a (equal_test _ e)))

pub alike : (a : Address) → eq_by_cmp address_cmp a a ≡ true
alike a = ap is_eq (address_itself a)

pub tied : (a b : Address) → eq_by_cmp address_cmp a b ≡ true → a ≡ b
tied a b e = address_exact a b (equal_test _ e)

pub differ : true ≡ false → ⊥
differ e = absurd cc
