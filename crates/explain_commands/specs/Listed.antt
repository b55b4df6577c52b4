-- The listing of the basics of all parts.
use Rattle.std.specs.Prelude.{ℕ, ◌+◌, List, [], ◌∷◌, ◌++◌}
use Rattle.algebra.specs.HeldPaths.{has_path}
use Rattle.core_program.specs.Core.{Program, Method}
use Rattle.explain.specs.Basics.{stmt_basics}
use Rattle.explain_text.specs.Listings.{listing_from}
use Rattle.explain_text.specs.Pages.{PageData}
use Rattle.paths.specs.Paths.{PathData}
use Rattle.rules.specs.Effect.{Assignment}

module _ (P : Program) (rel : ℕ → List PathData) (A : Assignment) (pages : ℕ → PageData) where
  -- the lines of the parts of a method, each at the set with which a walk from the method's required paths comes to it
  abbrev pub method_lines : ℕ → Method → List ℕ
  method_lines m method = listing_from (pages m) m 0 (stmt_basics P rel A method.body (has_path method.requires_))

  -- those of methods that are numbered from here on
  abbrev pub lines_from : ℕ → List Method → List ℕ
  lines_from m [] = []
  lines_from m (method ∷ methods) = method_lines m method ++ lines_from (m + 1) methods

  -- those of all methods
  abbrev pub all_lines : List ℕ
  all_lines = lines_from 0 P.methods
