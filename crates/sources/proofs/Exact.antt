-- Statuses that come exactly where a fact holds, and facts on files that are told.
use Rattle.std.proofs.Common.{◌≡◌, ℕ, ◌≤◌, List, Option, Some, None, IfSome, length, refl, subst, inl, inr}
use Rattle.edge.specs.Said.{Exactly, IsTroubleStatus}
use Rattle.edge.proofs.Statuses.{yield_range}

-- a fact that holds comes with its own status
pub exactly : (status : ℕ) (fact : Type 0) → fact → Exactly status status fact
exactly status fact f = record { only = λ e. f; all = λ g. inl refl }

-- a status that isn't the one of a fact that can't hold beside
pub never : (result status : ℕ) (fact : Type 0) → (result ≡ status → ⊥) → (fact → ⊥) → Exactly result status fact
never result status fact other not = record { only = λ e. absurd (other e); all = λ f. absurd (not f) }

-- a status that comes before those of facts, or in their place
pub yields_other : (result status : ℕ) (fact : Type 0) → IsTroubleStatus result → ((6 ≤ status) × (status ≤ 8) → ⊥) → Exactly result status fact
yields_other result status fact y out = record { only = λ e. absurd (out (subst (λ n. (6 ≤ n) × (n ≤ 8)) e (yield_range result y))); all = λ f. inr y }

-- a fact on what is told of a file holds of the bytes that are told
pub told_fact : (F : List ℕ → Type 0) (o : Option (List ℕ)) (file : List ℕ) → o ≡ Some file → IfSome o F → F file
told_fact F o file is its = subst (λ x. IfSome x F) is its

-- the bytes that are told of a file
pub told_is : (o : Option (List ℕ)) (file bytes : List ℕ) → o ≡ Some file → IfSome o (λ its. bytes ≡ its) → bytes ≡ file
told_is o file bytes is its = told_fact (λ i. bytes ≡ i) o file is its

-- what is told of a file that was read is within its limit
pub told_within : (o : Option (List ℕ)) (bytes : List ℕ) (limit : ℕ) → IfSome o (λ file. bytes ≡ file) → length bytes ≤ limit → IfSome o (λ file. length file ≤ limit)
told_within None bytes limit is within = tt
told_within (Some file) bytes limit is within = subst (λ b. length b ≤ limit) is within
