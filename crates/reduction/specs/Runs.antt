-- Runs of entries: each entry is the step that its thread makes where it stands.
use Rattle.std.specs.Prelude.{◌≡◌, List, [], ◌∷◌}
use Rattle.semantics.specs.Units.{Entry}
use Rattle.reduction.specs.Systems.{System, Steps}

-- the entry's thread makes a step of its kind, after which it is inside a block as the entry says
pub record FitsEntry {S O : Type 0} (M : System S O) (q : S) (e : Entry) (r : S) : Type 0 where
  pub steps : Steps M q e.thread e.kind r
  pub inside : M.inside (M.own r e.thread) ≡ e.inside

-- the entries lead from one state to another, each fitting where it stands
abbrev pub Run : {S O : Type 0} → System S O → S → List Entry → S → Type 0
Run M q [] r = q ≡ r
Run {S} M q (e ∷ es) r = (mid : S) × FitsEntry M q e mid × Run M mid es r
