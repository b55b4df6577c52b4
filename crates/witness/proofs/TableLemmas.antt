-- Tables of counts.
use Rattle.std.proofs.Common.{◌≡◌, ℕ, ◌+◌, ◌<◌, ◌==◌, Bool, true, false, List, length, take, get_or, refl}
use Rattle.std.specs.Prelude.{if◌then◌else◌}
use Rattle.std.proofs.lemmas.List.Sums.{count_by_more_yes, count_by_more_no}
use Rattle.witness.specs.Walks.{entry_counts}
use Rattle.witness.specs.Tables.{count_at}

-- the counts before this place are 0
abbrev pub ZerosBelow : List ℕ → ℕ → Type 0
ZerosBelow xs n = (t : ℕ) → t < n → count_at xs t ≡ 0

-- the counts of one entry more
pub counts_more : (s : List ℕ) (i t : ℕ) → i < length s → entry_counts (take (i + 1) s) t ≡ (if get_or s i 0 == t then entry_counts (take i s) t + 1 else entry_counts (take i s) t)
counts_more s i t less = by_test (get_or s i 0 == t) refl
  where
    by_test : (b : Bool) → (get_or s i 0 == t) ≡ b → entry_counts (take (i + 1) s) t ≡ (if b then entry_counts (take i s) t + 1 else entry_counts (take i s) t)
    by_test true is = count_by_more_yes (λ u. u == t) s i 0 less is
    by_test false is = count_by_more_no (λ u. u == t) s i 0 less is
