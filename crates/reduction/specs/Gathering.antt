-- The open order of a schedule of any system, and what it is to the given one. No block needs to have ended.
use Rattle.std.specs.Prelude.{◌≡◌, ℕ, ◌+◌, ◌<◌, ◌≤◌, true, List, Some, IsSome, take, slice_get}
use Rattle.semantics.specs.Run.{IsRearrangement}
use Rattle.semantics.specs.Units.{Entry, units, schedule_of}
use Rattle.reduction.specs.Systems.{System, system_run_from, system_entries_from, owns_from}
use Rattle.reduction.specs.Committing.{open_units}

-- the open order of a schedule from a state
abbrev pub open_from : {S O : Type 0} → System S O → S → List ℕ → List ℕ
open_from M q s = schedule_of (open_units (units (system_entries_from M q 0 s)))

-- the thread is inside a block after each entry from the first place to before the last: its entries there are of one outermost block
abbrev pub StaysInBlock : {S O : Type 0} → System S O → S → List ℕ → (t first last : ℕ) → Type 0
StaysInBlock {S} M q s t first last = (place : ℕ) (r : S) → first ≤ place → place < last → system_run_from M q (take (place + 1) s) ≡ Some r → M.inside (M.own r t) ≡ true

-- the schedule runs, and no entry of another thread stands between two entries of one outermost block
pub record AreBlocksWhole {S O : Type 0} (M : System S O) (q : S) (s : List ℕ) : Type 0 where
  pub runs : IsSome (system_run_from M q s)
  pub together : (t first last : ℕ) → slice_get s first ≡ Some t → slice_get s last ≡ Some t → StaysInBlock M q s t first last →
      (place u : ℕ) → first < place → place < last → slice_get s place ≡ Some u → u ≡ t

-- r is a rearrangement of s that runs to the same state, keeps each block in one piece, and leads every thread through the same own
pub record IsGatheredOrder {S O : Type 0} (M : System S O) (q : S) (s r : List ℕ) (end : S) : Type 0 where
  pub rearranges : IsRearrangement s r
  pub runs : system_run_from M q r ≡ Some end
  pub whole : AreBlocksWhole M q r
  pub owns : (t : ℕ) → owns_from M q t s ≡ owns_from M q t r

-- the same by units: no entry of another thread stands between two entries of one unit
abbrev pub AreUnitsTogether : {S O : Type 0} → System S O → S → List ℕ → Type 0
AreUnitsTogether M q s = (n : ℕ) (u : List Entry) → slice_get (units (system_entries_from M q 0 s)) n ≡ Some u →
    (i j k : ℕ) (e f g : Entry) → slice_get u i ≡ Some e → slice_get u j ≡ Some f → slice_get (system_entries_from M q 0 s) k ≡ Some g →
    e.place < g.place → g.place < f.place → g.thread ≡ e.thread
