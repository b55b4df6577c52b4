-- Which numbers statuses have.
use Rattle.std.proofs.Common.{◌≤◌, ℕ, inl, inr, arith}
use Rattle.edge.specs.Said.{IsTroubleStatus}

-- a status that stands in the place of all of them
pub yield_range : (status : ℕ) → IsTroubleStatus status → (6 ≤ status) × (status ≤ 8)
yield_range status (inl e) = (omega arith, omega arith)
yield_range status (inr (inl e)) = (omega arith, omega arith)
yield_range status (inr (inr e)) = (omega arith, omega arith)
