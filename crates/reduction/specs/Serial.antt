-- What the written order is to the given one.
use Rattle.std.specs.Prelude.{◌≡◌, ℕ, ◌+◌, true, false, List, take, Some, IsSome, slice_get}
use Rattle.semantics.specs.Run.{IsRearrangement}
use Rattle.reduction.specs.Systems.{System, system_run_from, owns_from}

-- the schedule runs, and an entry after which its thread is inside a block is followed by the same thread's, or by none
pub record IsBlockwise {S O : Type 0} (M : System S O) (q : S) (s : List ℕ) : Type 0 where
  pub runs : IsSome (system_run_from M q s)
  pub kept : (place t u : ℕ) (r : S) → slice_get s place ≡ Some t → slice_get s (place + 1) ≡ Some u →
      system_run_from M q (take (place + 1) s) ≡ Some r → M.inside (M.own r t) ≡ true → u ≡ t

-- no thread that is there is inside a block
abbrev pub NobodyInside : {S O : Type 0} → System S O → S → Type 0
NobodyInside M q = (t : ℕ) → M.there q t ≡ true → M.inside (M.own q t) ≡ false

-- r is a rearrangement of s that runs to the same state, interrupts nobody, and leads every thread through the same own
pub record IsSerialOrder {S O : Type 0} (M : System S O) (q : S) (s r : List ℕ) (end : S) : Type 0 where
  pub rearranges : IsRearrangement s r
  pub runs : system_run_from M q r ≡ Some end
  pub uninterrupted : IsBlockwise M q r
  pub owns : (t : ℕ) → owns_from M q t s ≡ owns_from M q t r
