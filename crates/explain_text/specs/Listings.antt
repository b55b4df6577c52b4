-- The basics of a method's parts, as lines.
use Rattle.std.specs.Prelude.{ℕ, ◌+◌, List, [], ◌∷◌, ◌++◌, codes, decimal}
use Rattle.algebra.specs.declared.basic.Basic.{Basic}
use Rattle.algebra.specs.declared.basic.Basic.TheVariants as basic
use Rattle.algebra.specs.Basics.{name_of}
use Rattle.report.specs.Verdicts.{title_text}
use Rattle.explain_text.specs.Pages.{PageData, node_offset, place_front}

-- `FILE:LINE:COLUMN: BASIC: C.m NODE`
abbrev pub basic_line : PageData → ℕ → ℕ → Basic → List ℕ
basic_line page m node b = place_front page (node_offset page node) ++ name_of b ++ codes ": " ++ title_text page.table m ++ codes " " ++ decimal node ++ codes "\n"

-- the line of a part, where it isn't const
abbrev pub part_lines : PageData → ℕ → ℕ → Basic → List ℕ
part_lines page m node basic.Const = []
part_lines page m node b = basic_line page m node b

-- those of parts that are numbered from here on
abbrev pub listing_from : PageData → ℕ → ℕ → List Basic → List ℕ
listing_from page m node [] = []
listing_from page m node (b ∷ bs) = part_lines page m node b ++ listing_from page m (node + 1) bs
