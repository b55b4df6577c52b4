-- How paths and conditional atomicities are written in books.
use Rattle.std.specs.Prelude.{ℕ, List, [], ◌∷◌, ◌++◌, codes, decimal}
use Rattle.paths.specs.Paths.{PathData}
use Rattle.algebra.specs.Basics.{name_of}
use Rattle.conditions.specs.Conditions.{Cond, LeafC, TestC}

-- each number after a point
abbrev pub dotted : List ℕ → List ℕ
dotted [] = []
dotted (n ∷ ns) = codes "." ++ decimal n ++ dotted ns

-- the root, then the fields, with points between
abbrev pub path_text : PathData → List ℕ
path_text p = decimal p.root ++ dotted p.fields

-- a basic's name, or a test in brackets: the path, the tree where it is held, the tree where it isn't
abbrev pub text_of : Cond → List ℕ
text_of (LeafC b) = name_of b
text_of (TestC p a b) =
    codes "(" ++ path_text p ++ codes " " ++ text_of a ++ codes " " ++ text_of b ++ codes ")"
