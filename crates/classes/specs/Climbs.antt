-- What so many steps up from a class meet, and which of the classes that a class inherits from declare fields.
use Rattle.std.specs.Prelude.{◌≡◌, ℕ, ◌+◌, Bool, false, not, ◌||◌, List, [], ◌∷◌, Option, Some, None, slice_get, unwrap_or, codes, if◌then◌else◌}
use Rattle.std.specs.List.{list_any}
use Rattle.std.specs.Option.{option_or}
use Rattle.base.specs.Ancestors.{steps_up}
use Rattle.syntax.specs.Trees.{MemberTree, ClassTree, ProgramTree}
use Rattle.classes.specs.declared.climbs.Climb.{Climb}
use Rattle.classes.specs.Members.{has_none, field_names, finals_of, is_entry}
use Rattle.classes.specs.Lines.{ancestors, ancestors_of, above, members_in, members_at, says_in, says_runnable}

-- ---- classes with fields

-- whether there are fields among these members
abbrev pub have_field : List MemberTree → Bool
have_field ms = not (has_none (field_names ms))

-- whether a class itself declares fields
abbrev pub declares_fields : ProgramTree → ℕ → Bool
declares_fields tree k = have_field (members_at tree k)

-- those of these classes that declare fields
abbrev pub with_fields : ProgramTree → List ℕ → List ℕ
with_fields tree [] = []
with_fields tree (k ∷ ks) = if declares_fields tree k then k ∷ with_fields tree ks else with_fields tree ks

-- the first of these classes that declares fields
abbrev pub first_with_fields : ProgramTree → List ℕ → Option ℕ
first_with_fields tree [] = None
first_with_fields tree (k ∷ ks) = if declares_fields tree k then Some k else first_with_fields tree ks

-- the nearest class above a class that declares fields
abbrev pub fields_above : ProgramTree → ℕ → Option ℕ
fields_above tree k = first_with_fields tree (ancestors_of tree k)

-- members that have the same fields
pub record HaveSameFields (one other : List MemberTree) : Type 0 where
  pub names : field_names one ≡ field_names other
  pub finals : finals_of one ≡ finals_of other

-- ---- climbs

-- whether there is a `run` to begin with among these members
abbrev pub have_run : List MemberTree → Bool
have_run ms = list_any (is_entry (codes "run")) ms

-- the same of the members that a class itself declares
abbrev pub declares_run : ProgramTree → ℕ → Bool
declares_run tree k = have_run (members_at tree k)

-- a climb that meets these classes and leads to this one
abbrev pub climb_over : ProgramTree → Option ℕ → List ℕ → Climb
climb_over tree end met = record {
  end = end;
  says_runnable = list_any (says_runnable tree) met;
  has_run = list_any (declares_run tree) met;
  with_fields = first_with_fields tree met;
}

-- so many steps up from a class, where this stands above each
abbrev pub climb_of : ProgramTree → (ℕ → Option ℕ) → ℕ → ℕ → Climb
climb_of tree up n k = climb_over tree (steps_up up n k) (ancestors up n (Some k))

-- a climb that meets nothing
abbrev pub no_climb : Climb
no_climb = record { end = None; says_runnable = false; has_run = false; with_fields = None }

-- the climb from the class with this number
abbrev pub climb_at : List Climb → ℕ → Climb
climb_at climbs k = unwrap_or (slice_get climbs k) no_climb

-- these are the climbs of so many steps
abbrev pub AreClimbs : ProgramTree → (ℕ → Option ℕ) → ℕ → List Climb → Type 0
AreClimbs tree up n climbs = (k : ℕ) → climb_at climbs k ≡ climb_of tree up n k

-- ---- how climbs are made

-- one step up from the class with the number k, which may be missing
abbrev pub first_climb : Option ℕ → ℕ → Option ClassTree → Climb
first_climb above k class = record {
  end = above;
  says_runnable = says_in class;
  has_run = have_run (members_in class);
  with_fields = if have_field (members_in class) then Some k else None;
}

-- one step up from each of these classes, the first of which has the number k
abbrev pub first_climbs : (ℕ → Option ℕ) → ℕ → List ClassTree → List Climb
first_climbs up k [] = []
first_climbs up k (c ∷ cs) = first_climb (up k) k (Some c) ∷ first_climbs up (k + 1) cs

-- a climb, and another one from where it ends
abbrev pub followed_climb : Climb → Climb → Climb
followed_climb first next = record {
  end = next.end;
  says_runnable = first.says_runnable || next.says_runnable;
  has_run = first.has_run || next.has_run;
  with_fields = option_or first.with_fields next.with_fields;
}

-- a climb, and the one of these that begins where it ends, which may be nowhere
abbrev pub joined_climb_at : List Climb → Climb → Option ℕ → Climb
joined_climb_at nexts first None = first
joined_climb_at nexts first (Some k) = followed_climb first (climb_at nexts k)

abbrev pub joined_climb : List Climb → Climb → Climb
joined_climb nexts first = joined_climb_at nexts first first.end
