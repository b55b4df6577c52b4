-- What a walk through the classes knows of the nearest methods above: cells that may be empty.
use Rattle.std.specs.Prelude.{◌≡◌, ◌+◌, ◌≤◌, ℕ, List, Option, Some, None, length, map, min, option_and_then, slice_get}
use Rattle.std.specs.Option.{option_or}
use Rattle.base.specs.Ancestors.{steps_up}
use Rattle.core_program.specs.declared.program.CoreProgram.{CoreProgram}
use Rattle.core_program.specs.Overridden.{class_of_method}
use Rattle.core_program.specs.Pairs.{KeptClass, named_in, nearest_named, part_above}
use Rattle.core_program.specs.Views.{kept_classes}
use Rattle.forest.specs.declared.steps.Step.{Step}
use Rattle.forest.specs.declared.steps.Step.TheVariants.{Down, Up}

-- what is known at a place
abbrev pub known_at : List (Option (Option ℕ)) → ℕ → Option (Option ℕ)
known_at cells i = option_and_then (λ x. x) (slice_get cells i)

-- what is known is right
abbrev pub AreRight : (ℕ → Option ℕ) → List (Option (Option ℕ)) → Type 0
AreRight truth cells = (i : ℕ) (found : Option ℕ) → known_at cells i ≡ Some found → truth i ≡ found

-- the place of the first of a class's own methods
abbrev pub own_first : Option KeptClass → ℕ
own_first None = 0
own_first (Some c) = c.first_method

-- the place behind them, where there are so many methods
abbrev pub own_end : ℕ → Option KeptClass → ℕ
own_end count None = 0
own_end count (Some c) = min (c.first_method + c.method_count) count

module _ (p : CoreProgram) where
  -- what each class extends
  abbrev pub lines : List (Option ℕ)
  lines = map (λ (c : KeptClass). c.above) (kept_classes p)

  -- what a class extends
  abbrev pub above_class : ℕ → Option ℕ
  above_class = part_above (kept_classes p) p.names.items

  -- the own method of a class with a name
  abbrev pub own_with : ℕ → ℕ → Option ℕ
  own_with k name = named_in (kept_classes p) p.names.items name k

  -- the nearest method with a name, from a class up
  abbrev pub nearest_from : Option ℕ → ℕ → Option ℕ
  nearest_from from name = nearest_named (kept_classes p) p.names.items (length (kept_classes p)) from name

  -- the nearest method with a method's name above its class
  abbrev pub nearest_above : ℕ → Option ℕ
  nearest_above m = option_and_then (λ (c : KeptClass). option_and_then (nearest_from c.above) (slice_get p.names.items m)) (class_of_method p m)

  -- what is nearest at a class is its own method, or else what is nearest above it
  abbrev pub PassesOn : ℕ → Type 0
  PassesOn k = (name : ℕ) → nearest_from (Some k) name ≡ option_or (own_with k name) (nearest_from (above_class k) name)

  -- a walk is at this class, or above all: so many classes and no more stand there and above, and what is known is right
  pub record StandsAt (from : Option ℕ) (depth : ℕ) (current noted : List (Option (Option ℕ))) : Type 0 where
    pub ends : option_and_then (steps_up above_class depth) from ≡ None
    pub few : depth ≤ length (kept_classes p)
    pub current_is : AreRight (nearest_from from) current
    pub noted_is : AreRight nearest_above noted

  -- where a step of the walk begins
  abbrev pub step_start : Step → Option ℕ
  step_start (Down k) = above_class k
  step_start (Up k) = Some k

  -- where it leads to
  abbrev pub step_end : Step → Option ℕ
  step_end (Down k) = Some k
  step_end (Up k) = above_class k
