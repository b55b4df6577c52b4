-- What a core program keeps of its classes and of its methods' names, and the pairs of each class that this tells.
use Rattle.std.specs.Prelude.{◌≡◌, ℕ, zero, suc, ◌+◌, ◌==◌, ◌&&◌, ◌||◌, Bool, true, false, List, [], ◌∷◌, ◌++◌, take, drop, length, nat_le, nat_lt, Option, Some, None, option_and_then, unwrap_or, slice_get, if◌then◌else◌}
use Rattle.std.specs.List.{position_from}
use Rattle.std.specs.Option.{option_or}
use Rattle.core_program.specs.Core.{Class}

-- a class: its fields, the final ones among them, what it runs for `run` and what it extends as in the core program; and of its own methods, which
-- follow each other, the first and how many there are
pub record KeptClass : Type 0 where
  pub fields : List ℕ
  pub finals : List ℕ
  pub run : Option ℕ
  pub above : Option ℕ
  pub first_method : ℕ
  pub method_count : ℕ

-- whether a method is one of a class's own
abbrev pub is_own_of : ℕ → KeptClass → Bool
is_own_of m c = nat_le c.first_method m && nat_lt m (c.first_method + c.method_count)

-- the class's own method with the name of this number, where these are the numbers of all methods' names
abbrev pub own_named : List ℕ → ℕ → KeptClass → Option ℕ
own_named names name c = position_from (λ n. n == name) c.first_method (take c.method_count (drop c.first_method names))

-- a list of what there may be
abbrev pub as_list : Option ℕ → List ℕ
as_list None = []
as_list (Some m) = m ∷ []

-- In a program with these classes, where these are the numbers of all methods' names.
module _ (parts : List KeptClass) (names : List ℕ) where
  -- what a class extends
  abbrev pub part_above : ℕ → Option ℕ
  part_above k = option_and_then (λ c. c.above) (slice_get parts k)

  -- whether a method is an own one of a class
  abbrev pub is_own_in : Option KeptClass → ℕ → Bool
  is_own_in None m = false
  is_own_in (Some c) m = is_own_of m c

  -- the own method of a class with this name
  abbrev pub named_in : ℕ → ℕ → Option ℕ
  named_in name k = option_and_then (own_named names name) (slice_get parts k)

  -- whether a method is an own one of a class or of one above, among so many
  abbrev pub is_own_up : ℕ → Option ℕ → ℕ → Bool
  is_own_up zero from m = false
  is_own_up (suc n) None m = false
  is_own_up (suc n) (Some k) m = is_own_in (slice_get parts k) m || is_own_up n (part_above k) m

  -- the method with this name of a class, or else of the nearest above that has one, among so many
  abbrev pub nearest_named : ℕ → Option ℕ → ℕ → Option ℕ
  nearest_named zero from name = None
  nearest_named (suc n) None name = None
  nearest_named (suc n) (Some k) name = option_or (named_in name k) (nearest_named n (part_above k) name)

  -- all methods with this name of a class and of those above, the nearest first, among so many
  abbrev pub all_named : ℕ → Option ℕ → ℕ → List ℕ
  all_named zero from name = []
  all_named (suc n) None name = []
  all_named (suc n) (Some k) name = as_list (named_in name k) ++ all_named n (part_above k) name

  -- whether a class has a method, its own or from above
  abbrev pub has_or_inherits : KeptClass → ℕ → Bool
  has_or_inherits c m = is_own_of m c || is_own_up (length parts) c.above m

  -- the method that a class runs for one with this name: its own of that name, or else the nearest from above
  abbrev pub runs_for : KeptClass → ℕ → ℕ → ℕ
  runs_for c m name = unwrap_or (option_or (own_named names name c) (nearest_named (length parts) c.above name)) m

  -- what a class runs for a method, if it has that
  abbrev pub target_in : KeptClass → ℕ → Option ℕ
  target_in c m = option_and_then (λ name. if has_or_inherits c m then Some (runs_for c m name) else None) (slice_get names m)

  -- the pairs of a class: each method that it has, with the one that it runs for it. Of these names the first is that of method m
  abbrev pub pairs_from : KeptClass → ℕ → List ℕ → List (ℕ × ℕ)
  pairs_from c m [] = []
  pairs_from c m (name ∷ rest) = if has_or_inherits c m then (m, runs_for c m name) ∷ pairs_from c (m + 1) rest else pairs_from c (m + 1) rest

  -- a class with its pairs
  abbrev pub class_with_pairs : KeptClass → Class
  class_with_pairs c = record { fields = c.fields; finals = c.finals; run = c.run; above = c.above; targets = pairs_from c 0 names }

-- ---- what a program knows of its parts

-- each own method of a class is the first with its name there
abbrev pub AreNamedOnce : List KeptClass → List ℕ → Type 0
AreNamedOnce parts names =
    (k : ℕ) (c : KeptClass) → slice_get parts k ≡ Some c → (m name : ℕ) → is_own_of m c ≡ true → slice_get names m ≡ Some name → own_named names name c ≡ Some m

-- each own method of a class is there, and is of this class; these are the classes of the methods
abbrev pub AreOwned : List KeptClass → List ℕ → List ℕ → Type 0
AreOwned parts names owners =
    (k : ℕ) (c : KeptClass) → slice_get parts k ≡ Some c → (m name : ℕ) → is_own_of m c ≡ true → slice_get names m ≡ Some name → slice_get owners m ≡ Some k
