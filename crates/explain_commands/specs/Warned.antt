-- The warnings of fields that are written though nothing guards them, behind the explanations.
use Rattle.std.specs.Prelude.{◌<◌, ℕ, List, [], ◌∷◌, ◌++◌}
use Rattle.core_program.specs.Core.{Program}
use Rattle.explain.specs.declared.unguarded.BareWrite.{BareWrite}
use Rattle.explain.specs.Unguarded.{bare_writes}
use Rattle.explain_text.specs.Pages.{PageData}
use Rattle.explain_text.specs.Warnings.{warning_line}
use Rattle.explain_commands.specs.declared.words.Order.{Order}
use Rattle.explain_commands.specs.declared.words.Order.TheVariants.{Why, All, Strict}

-- the lines of these writes, one after the other, each with what the lines of its method are written with
abbrev pub warning_lines : (ℕ → PageData) → List BareWrite → List ℕ
warning_lines pages [] = []
warning_lines pages (w ∷ ws) = warning_line (pages w.method) w ++ warning_lines pages ws

-- the warnings that are written: by `--strict` one for each field that some method writes and that nothing guards; else none
abbrev pub warnings_text : Order → Program → (ℕ → PageData) → List ℕ
warnings_text Why P pages = []
warnings_text All P pages = []
warnings_text Strict P pages = warning_lines pages (bare_writes P)

-- each of these writes is by one of the first so many methods
abbrev pub AreByMethods : ℕ → List BareWrite → Type 0
AreByMethods n [] = Unit {0}
AreByMethods n (w ∷ ws) = (w.method < n) × AreByMethods n ws
