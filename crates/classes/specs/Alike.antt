-- What is known of the methods of each name in a line of classes, and which methods override well by it. A walk keeps it: as it goes
-- down to a class it adds the methods of this class, and as it goes up it takes back what it wrote.
use Rattle.std.specs.Prelude.{◌≡◌, ℕ, zero, suc, Bool, true, false, not, ◌&&◌, ◌||◌, List, [], ◌∷◌, length, take, position, slice_get, slice_set, unwrap_or, bytes_eq, if◌then◌else◌}
use Rattle.std.specs.Option.{is_some}
use Rattle.syntax.specs.Trees.{ProgramTree}
use Rattle.forest.specs.declared.steps.Step.{Step}
use Rattle.forest.specs.declared.steps.Step.TheVariants.{Down, Up}
use Rattle.classes.specs.Lines.{ancestor_classes}
use Rattle.classes.specs.Overriding.{Heading, is_same_signature}
use Rattle.classes.specs.Faults.{override_faults}

-- whether a method has the signature of another, and of that the locks are known where its own are
abbrev pub is_alike : Heading → Heading → Bool
is_alike m n = is_same_signature m.signature n.signature && (is_some n.signature.locks || not (is_some m.signature.locks))

-- ---- one name

-- of the methods with one name: there are none, all are alike with this one, or two may be apart
pub data Standing : Type 0 where
  Nowhere : Standing
  Alike : Heading → Standing
  Apart : Standing

-- whether this is true of a method with the name
abbrev pub accepts : Standing → Heading → Bool
accepts Nowhere m = false
accepts (Alike n) m = is_alike m n
accepts Apart m = true

-- whether a method has the signature of each of them, by what is known
abbrev pub is_well : Standing → Heading → Bool
is_well Nowhere m = true
is_well (Alike n) m = is_same_signature m.signature n.signature
is_well Apart m = false

-- what is known of them and one more. Where the locks of some are known, those of the one that all are alike with are
abbrev pub joined_standing : Standing → Heading → Standing
joined_standing Nowhere m = Alike m
joined_standing (Alike n) m = if is_same_signature m.signature n.signature then (if is_some n.signature.locks then Alike n else Alike m) else Apart
joined_standing Apart m = Apart

-- ---- all names

-- what is known at a place
abbrev pub standing_at : List Standing → ℕ → Standing
standing_at known n = unwrap_or (slice_get known n) Apart

-- the number of a name among these; a name that is not there has the number behind them
abbrev pub number_in : List (List ℕ) → List ℕ → ℕ
number_in names text = unwrap_or (position (bytes_eq text) names) (length names)

-- what is known of the name of a method
abbrev pub standing_of : List (List ℕ) → List Standing → Heading → Standing
standing_of names known m = standing_at known (number_in names m.name.text)

-- how many of these methods, from the first on, override well
abbrev pub count_well : List (List ℕ) → List Standing → List Heading → ℕ
count_well names known [] = 0
count_well names known (m ∷ ms) = if is_well (standing_of names known m) m then suc (count_well names known ms) else 0

-- ---- a line of classes

-- what was known of the name with a number
pub record Saved : Type 0 where
  pub number : ℕ
  pub known : Standing

-- what is known of each name, and what was known before, the last first
pub record LineState : Type 0 where
  pub known : List Standing
  pub saved : List Saved

-- with one more method
abbrev pub with_heading : List (List ℕ) → LineState → Heading → LineState
with_heading names d m = record {
  known = slice_set d.known (number_in names m.name.text) (joined_standing (standing_of names d.known m) m);
  saved = record { number = number_in names m.name.text; known = standing_of names d.known m } ∷ d.saved;
}

-- with these methods
abbrev pub with_headings : List (List ℕ) → List Heading → LineState → LineState
with_headings names [] d = d
with_headings names (m ∷ ms) d = with_headings names ms (with_heading names d m)

-- without the last method
abbrev pub left_from : List Standing → List Saved → LineState
left_from known [] = record { known = known; saved = [] }
left_from known (s ∷ ss) = record { known = slice_set known s.number s.known; saved = ss }

abbrev pub left : LineState → LineState
left d = left_from d.known d.saved

-- without so many
abbrev pub all_left : ℕ → LineState → LineState
all_left zero d = d
all_left (suc n) d = all_left n (left d)

-- after a step of a walk
abbrev pub line_after : (ℕ → List Heading) → List (List ℕ) → Step → LineState → LineState
line_after methods names (Down k) d = with_headings names (methods k) d
line_after methods names (Up k) d = all_left (length (methods k)) d

-- ---- methods that override well

-- how many methods of a class, from the first on, override well, where so many of each class do
abbrev pub well_at : List ℕ → ℕ → ℕ
well_at well k = unwrap_or (slice_get well k) 0

-- these numbers after a step of a walk
abbrev pub well_after : (ℕ → List Heading) → List (List ℕ) → Step → LineState → List ℕ → List ℕ
well_after methods names (Down k) d well = slice_set well k (count_well names d.known (methods k))
well_after methods names (Up k) d well = well

-- these numbers after these steps of a walk
abbrev pub well_after_all : (ℕ → List Heading) → List (List ℕ) → List Step → LineState → List ℕ → List ℕ
well_after_all methods names [] d well = well
well_after_all methods names (step ∷ rest) d well = well_after_all methods names rest (line_after methods names step d) (well_after methods names step d well)

-- none of so many methods of each class, from the first on, overrides one that it may not override
abbrev pub AreWell : ProgramTree → (ℕ → List Heading) → List ℕ → Type 0
AreWell tree methods well = (k : ℕ) → override_faults methods (ancestor_classes tree k) (take (well_at well k) (methods k)) ≡ []
