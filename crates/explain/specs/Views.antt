-- What the walk in code finds, as plain data.
use Rattle.std.specs.Prelude.{ℕ, Bool, not, List, [], ◌∷◌, map, filter}
use Rattle.paths.specs.Paths.{PathData}
use Rattle.algebra.specs.declared.basic.Basic.{Basic}
use Rattle.algebra.specs.declared.basic.Basic.TheVariants.{Mover}
use Rattle.algebra.specs.Basics.{below_of}
use Rattle.algebra.specs.HeldPaths.{has_path}
use Rattle.core_program.specs.Core.{Program}
use Rattle.core_program.specs.Views.{expr_of, stmt_of}
use Rattle.effects.specs.Parts.{Part, ExprP, StmtP}
use Rattle.explain.specs.declared.found.CorePart.{CorePart}
use Rattle.explain.specs.declared.found.CorePart.TheVariants as part
use Rattle.explain.specs.declared.found.Visited.{Visited}
use Rattle.explain.specs.declared.explaining.Why.{Why}
use Rattle.explain.specs.declared.explaining.Why.TheVariants as why
use Rattle.explain.specs.declared.program.Explained.{Explained}
use Rattle.explain.specs.Whys.{WhyData, Wrong, Looped, Compound, Two, Overridden, Nothing, ExplainedData}
use Rattle.rules.specs.Effect.{Assignment}
use Rattle.explain.specs.StepReadings.{is_error, own_at}
use Rattle.explain.specs.Visits.{Visit}

-- a part of a body, lent by the walk, as plain data
abbrev pub part_of_walk : CorePart → Part
part_of_walk (part.Expr e) = ExprP (expr_of e.now)
part_of_walk (part.Stmt s) = StmtP (stmt_of s.now)

-- a part that the walk came to, as plain data: its node, the paths that are held there, and whether it stands in a loop
abbrev pub visit_of : Visited → Visit
visit_of v = record { node = v.node; part = part_of_walk v.part; held = has_path v.held.items; loop = v.looped }

-- all parts that the walk came to, in order
abbrev pub visits_of : List Visited → List Visit
visits_of vs = map visit_of vs

-- those of visits that are an error by themselves
abbrev pub errors_in : Program → (ℕ → List PathData) → Assignment → List Visit → List Visit
errors_in P rel A vs = filter (λ v. is_error (own_at P rel A v)) vs

-- whether what is this by itself can't be moved
abbrev pub is_heavy : Basic → Bool
is_heavy b = not (below_of b Mover)

-- those of visits that can't be moved by themselves
abbrev pub heavy_in : Program → (ℕ → List PathData) → Assignment → List Visit → List Visit
heavy_in P rel A vs = filter (λ v. is_heavy (own_at P rel A v)) vs

-- the basics behind the first, which is that of the whole part
abbrev pub inner : List Basic → List Basic
inner [] = []
inner (b ∷ bs) = bs

-- an explanation
abbrev pub why_data : Why → WhyData
why_data (why.Wrong v) = Wrong (visit_of v)
why_data (why.Looped v n) = Looped (visit_of v) n
why_data (why.Compound v) = Compound (visit_of v)
why_data (why.Two v w) = Two (visit_of v) (visit_of w)
why_data (why.Overridden m b) = Overridden m b
why_data why.Nothing = Nothing

-- the explanation of a method as plain data: its bound, what was found in place of it, and why
abbrev pub explained_data : Explained → ExplainedData
explained_data x = record { method = x.method; is_refused = x.is_refused; limit = x.limit; found = x.found; why = why_data x.why }
