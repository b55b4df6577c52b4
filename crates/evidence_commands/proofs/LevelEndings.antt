-- Which ending comes for the answer to `levels`, and what follows where it is done.
use Rattle.std.proofs.Common.{◌≡◌, ◌≤◌, ℕ, List, length, Some, refl, sym, subst, arith}
use Rattle.lexer.specs.Limits.{longest_source}
use Rattle.classes.specs.Table.{TableData, table_of}
use Rattle.core_program.specs.Core.{Program}
use Rattle.core_program.specs.Typed.{IsTyped}
use Rattle.typing.proofs.TypedPrograms.{core_is_typed}
use Rattle.levels.specs.Circles.{Circle}
use Rattle.levels.specs.Contexts.{IsFirstBad}
use Rattle.levels.specs.Walks.{level_in}
use Rattle.levels.proofs.NoCircles.{no_circles}
use Rattle.level_check.proofs.Single.{levels_or_fault, one_told}
use Rattle.rules.specs.Near.{rel_of}
use Rattle.rules.proofs.UniqueSets.{unique_sets}
use Rattle.sources.specs.declared.refusal.Ending.{Ending}
use Rattle.sources.specs.declared.refusal.Ending.TheVariants as ending
use Rattle.sources.specs.Checking.{IsWellFormedSource}
use Rattle.sources.proofs.Apart.{same_core, same_tree, no_source_is_none, no_source_ends}
use Rattle.sources.proofs.TokenCounts.{few_tokens}
use Rattle.state.specs.States.{State}
use Rattle.semantics.specs.Run.{run}
use Rattle.syntax.specs.Trees.{ProgramTree}
use Rattle.evidence_commands.specs.Levels.{LevelsAnswer, LevelsFact, OrdersBy, NoLevelOrder, no_levels, first_bad, no_source, no_order, in_order}

-- levels with a line that refuses them end so
refused_order : (t : TableData) (P : Program) (bytes : List ℕ) (ended : Ending) (line : List ℕ) → NoLevelOrder t P bytes ended line → ended ≡ ending.LevelsRefused
refused_order t P bytes _ _ (no_levels fault is) = refl
refused_order t P bytes _ _ (first_bad levels sets method class under are relevant is) = refl

-- and don't order the program
refused_or_ordered : (t : TableData) (P : Program) (bytes : List ℕ) (ended : Ending) (line : List ℕ) → NoLevelOrder t P bytes ended line → OrdersBy t P bytes → ⊥
refused_or_ordered t P bytes _ _ (no_levels fault is) orders = levels_or_fault t P bytes orders.levels fault orders.are_levels is
refused_or_ordered t P bytes _ _ (first_bad levels sets method class under are relevant is) orders =
    let same_levels = one_told t bytes levels orders.levels are.told orders.are_levels.told in
    let same_sets = unique_sets P sets orders.sets relevant orders.relevant in
    by (subst (λ x. IsFirstBad P (rel_of orders.sets) (level_in x) method class under) same_levels (subst (λ x. IsFirstBad P (rel_of x) (level_in levels) method class under) same_sets is))
  where
    by : IsFirstBad P (rel_of orders.sets) (level_in orders.levels) method class under → ⊥
    by first = orders.ordered method first.place class under first.bad

-- each ending has its fact, and one alone
pub levels_caused : (file bytes : List ℕ) (ended : Ending) (out : List ℕ) → LevelsAnswer file bytes ended out → LevelsFact file bytes ended
levels_caused file bytes _ _ (no_source {ending = ended} {line = line} is) = subst (LevelsFact file bytes) (sym (no_source_ends file ended line is)) (no_source_is_none file ended line is)
levels_caused file bytes _ _ (no_order {ending = ended} {line = line} tree P source is) =
    subst (LevelsFact file bytes) (sym (refused_order (table_of tree) P bytes ended line is)) (tree, P, source, refused_or_ordered (table_of tree) P bytes ended line is)
levels_caused file bytes _ _ (in_order tree P source orders) = (tree, P, source, orders)

-- levels order the program of a source, or they don't
ordered_or_not : (file bytes : List ℕ) (t u : ProgramTree) (P Q : Program) → IsWellFormedSource file t P → IsWellFormedSource file u Q → OrdersBy (table_of t) P bytes → (OrdersBy (table_of u) Q bytes → ⊥) → ⊥
ordered_or_not file bytes t u P Q one other orders none =
    none (subst (λ R. OrdersBy (table_of u) R bytes) (same_core file t u P Q one.has_core other.has_core)
    (subst (λ x. OrdersBy (table_of x) P bytes) (same_tree file t u one.has_core.program other.has_core.program) orders))

pub levels_apart : (file bytes : List ℕ) (one other : Ending) → LevelsFact file bytes one → LevelsFact file bytes other → one ≡ other
levels_apart file bytes ending.Done ending.Done f g = refl
levels_apart file bytes ending.Done ending.Refused f g = absurd (g f.0 f.1 f.2)
levels_apart file bytes ending.Done ending.LevelsRefused f g = absurd (ordered_or_not file bytes f.0 g.0 f.1 g.1 f.2 g.2 f.3 g.3)
levels_apart file bytes ending.Refused ending.Done f g = absurd (f g.0 g.1 g.2)
levels_apart file bytes ending.Refused ending.Refused f g = refl
levels_apart file bytes ending.Refused ending.LevelsRefused f g = absurd (f g.0 g.1 g.2)
levels_apart file bytes ending.LevelsRefused ending.Done f g = absurd (ordered_or_not file bytes g.0 f.0 g.1 f.1 g.2 f.2 g.3 f.3)
levels_apart file bytes ending.LevelsRefused ending.Refused f g = absurd (g f.0 f.1 f.2)
levels_apart file bytes ending.LevelsRefused ending.LevelsRefused f g = refl
levels_apart file bytes ending.Inadmissible other f g = absurd f
levels_apart file bytes ending.NoSchedule other f g = absurd f
levels_apart file bytes ending.Stopped other f g = absurd f
levels_apart file bytes ending.Open other f g = absurd f
levels_apart file bytes ending.BookRefused other f g = absurd f
levels_apart file bytes ending.NothingToBlame other f g = absurd f
levels_apart file bytes ending.BlameRefused other f g = absurd f
levels_apart file bytes ending.CallTooDeep other f g = absurd f
levels_apart file bytes ending.Done ending.Inadmissible f g = absurd g
levels_apart file bytes ending.Done ending.NoSchedule f g = absurd g
levels_apart file bytes ending.Done ending.Stopped f g = absurd g
levels_apart file bytes ending.Done ending.Open f g = absurd g
levels_apart file bytes ending.Done ending.BookRefused f g = absurd g
levels_apart file bytes ending.Done ending.NothingToBlame f g = absurd g
levels_apart file bytes ending.Done ending.BlameRefused f g = absurd g
levels_apart file bytes ending.Done ending.CallTooDeep f g = absurd g
levels_apart file bytes ending.Refused ending.Inadmissible f g = absurd g
levels_apart file bytes ending.Refused ending.NoSchedule f g = absurd g
levels_apart file bytes ending.Refused ending.Stopped f g = absurd g
levels_apart file bytes ending.Refused ending.Open f g = absurd g
levels_apart file bytes ending.Refused ending.BookRefused f g = absurd g
levels_apart file bytes ending.Refused ending.NothingToBlame f g = absurd g
levels_apart file bytes ending.Refused ending.BlameRefused f g = absurd g
levels_apart file bytes ending.Refused ending.CallTooDeep f g = absurd g
levels_apart file bytes ending.LevelsRefused ending.Inadmissible f g = absurd g
levels_apart file bytes ending.LevelsRefused ending.NoSchedule f g = absurd g
levels_apart file bytes ending.LevelsRefused ending.Stopped f g = absurd g
levels_apart file bytes ending.LevelsRefused ending.Open f g = absurd g
levels_apart file bytes ending.LevelsRefused ending.BookRefused f g = absurd g
levels_apart file bytes ending.LevelsRefused ending.NothingToBlame f g = absurd g
levels_apart file bytes ending.LevelsRefused ending.BlameRefused f g = absurd g
levels_apart file bytes ending.LevelsRefused ending.CallTooDeep f g = absurd g

-- ---- what follows where the levels order the program

-- the core program of a source of at most 262,144 bytes is typed
pub source_typed : (file : List ℕ) (tree : ProgramTree) (P : Program) → length file ≤ longest_source → IsWellFormedSource file tree P → IsTyped P
source_typed file tree P small source =
    let program = source.has_core.program in
    core_is_typed tree P program.tokens source.has_core.classes source.has_core.core program.grammar (let few = few_tokens program.cut in omega (arith, few, small))

-- no state to which a schedule runs has a circle of waiting threads
pub reaches_no_circle : (file bytes : List ℕ) (tree : ProgramTree) (P : Program) → length file ≤ longest_source → IsWellFormedSource file tree P → OrdersBy (table_of tree) P bytes
    → (s : List ℕ) (q : State) → run P s ≡ Some q → Circle q → ⊥
reaches_no_circle file bytes tree P small source orders = no_circles P orders.sets (level_in orders.levels) (source_typed file tree P small source) orders.relevant orders.are_levels.same orders.ordered
