-- What is known after one table has another value.
use Rattle.std.proofs.Common.{◌≡◌, ℕ, Bool, true, false, not, ◌==◌, ◌&&◌, ◌||◌, Option, Some, option_map, if◌then◌else◌, ap, ◌∙◌, refl}
use Rattle.base.proofs.NumberLemmas.{eqb_turned}
use Rattle.logs.specs.Events.{LogLine}
use Rattle.logs.specs.Judging.{put_known}
use Rattle.logs.specs.Memory as memory
use Rattle.logs.specs.Memory.{AtLock, AtPlace, AtThread}
use Rattle.logs.specs.Turns as turns
use Rattle.logs.specs.Turns.{cell_of}
use Rattle.semantics.specs.Units.{is_commit}
use Rattle.logs.specs.declared.table.Table.{Table}
use Rattle.logs.specs.Tables.{value_in_table, values_with}
use Rattle.logs.specs.declared.judge.Judge.{Judge}
use Rattle.logs.specs.declared.judge.Phase.{Phase}
use Rattle.logs.specs.declared.memory.Cells.{Cells}
use Rattle.logs.specs.declared.memory.Content.{Content}
use Rattle.logs.specs.Noting.{after_in}
use Rattle.logs.specs.State.{known_of, depth_of, commit_of}
use Rattle.logs.specs.Views.{content_data, known_cells}

mapped : (x : Content) (o : Option Content) (b : Bool) → option_map content_data (if b then Some x else o) ≡ (if b then Some (content_data x) else option_map content_data o)
mapped x o true = refl
mapped x o false = refl

module _ (old : Cells) (table : Table Content) (n : ℕ) (x : Content) where
  lock_at : ((m : ℕ) → value_in_table table m ≡ values_with n x (value_in_table old.locks) m)
      → (cell : memory.SharedCell) → known_cells (record { locks = table; places = old.places; threads = old.threads }) cell ≡ put_known (AtLock n) (content_data x) (known_cells old) cell
  lock_at h (AtLock m) = ap (option_map content_data) (h m) ∙ mapped x (value_in_table old.locks m) (n == m)
  lock_at h (AtPlace m) = refl
  lock_at h (AtThread m) = refl

  place_at : ((m : ℕ) → value_in_table table m ≡ values_with n x (value_in_table old.places) m)
      → (cell : memory.SharedCell) → known_cells (record { locks = old.locks; places = table; threads = old.threads }) cell ≡ put_known (AtPlace n) (content_data x) (known_cells old) cell
  place_at h (AtLock m) = refl
  place_at h (AtPlace m) = ap (option_map content_data) (h m) ∙ mapped x (value_in_table old.places m) (n == m)
  place_at h (AtThread m) = refl

  thread_at : ((m : ℕ) → value_in_table table m ≡ values_with n x (value_in_table old.threads) m)
      → (cell : memory.SharedCell) → known_cells (record { locks = old.locks; places = old.places; threads = table }) cell ≡ put_known (AtThread n) (content_data x) (known_cells old) cell
  thread_at h (AtLock m) = refl
  thread_at h (AtPlace m) = refl
  thread_at h (AtThread m) = ap (option_map content_data) (h m) ∙ mapped x (value_in_table old.threads m) (n == m)

  pub lock_put : ((m : ℕ) → value_in_table table m ≡ values_with n x (value_in_table old.locks) m)
      → known_cells (record { locks = table; places = old.places; threads = old.threads }) ≡ put_known (AtLock n) (content_data x) (known_cells old)
  lock_put h = λ i. λ cell. lock_at h cell i

  pub place_put : ((m : ℕ) → value_in_table table m ≡ values_with n x (value_in_table old.places) m)
      → known_cells (record { locks = old.locks; places = table; threads = old.threads }) ≡ put_known (AtPlace n) (content_data x) (known_cells old)
  place_put h = λ i. λ cell. place_at h cell i

  pub thread_put : ((m : ℕ) → value_in_table table m ≡ values_with n x (value_in_table old.threads) m)
      → known_cells (record { locks = old.locks; places = old.places; threads = table }) ≡ put_known (AtThread n) (content_data x) (known_cells old)
  thread_put h = λ i. λ cell. thread_at h cell i

-- What is known after a turn.

module _ (phase : Phase) (o : Option Phase) where
  depth_if : (d : ℕ) (b : Bool) → phase.depth ≡ d → depth_of (if b then Some phase else o) ≡ (if b then d else depth_of o)
  depth_if d true e = e
  depth_if d false e = refl

  commit_if : (c b : Bool) → not (phase.commit == 0) ≡ c → not (commit_of (if b then Some phase else o) == 0) ≡ (if b then c else not (commit_of o == 0))
  commit_if c true e = e
  commit_if c false e = refl

pub after_is : (old : Judge) (cells : Cells) (phases : Table Phase) (line : LogLine) (d : ℕ) (x : turns.Turn) (phase : Phase)
    → known_cells cells ≡ put_known (cell_of line.thread line.event) x.content (known_cells old.cells)
    → ((u : ℕ) → value_in_table phases u ≡ values_with line.thread phase (value_in_table old.phases) u)
    → phase.depth ≡ d → not (phase.commit == 0) ≡ (not (d == 0) && ((known_of old).committed line.thread || is_commit x.kind))
    → known_of (record { cells = cells; phases = phases }) ≡ after_in (known_of old) line d x
after_is old cells phases line d x phase in_cells in_phases deep committed = λ i. record {
  cells = in_cells i;
  depth = λ u. (ap depth_of (in_phases u) ∙ depth_if phase (value_in_table old.phases u) d (line.thread == u) deep) i;
  committed = λ u. (ap (λ o. not (commit_of o == 0)) (in_phases u)
      ∙ commit_if phase (value_in_table old.phases u) (not (d == 0) && ((known_of old).committed line.thread || is_commit x.kind)) (line.thread == u) committed
      ∙ ap (λ b. if b then not (d == 0) && ((known_of old).committed line.thread || is_commit x.kind) else (known_of old).committed u) (eqb_turned line.thread u)) i;
}
