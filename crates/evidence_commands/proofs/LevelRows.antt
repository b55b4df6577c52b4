-- Refusals and answers of `levels`.
use Rattle.std.proofs.Common.{◌≡◌, ◌⊎◌, ℕ, List, length, Result, Ok, Err, MatchResult, Vec, Global, sym, subst, ap, ◌∙◌, inl, inr}
use Rattle.std.proofs.lemmas.List.{length-map}
use Rattle.classes.specs.Members.{class_names}
use Rattle.classes.specs.Table.{table_of}
use Rattle.classes.specs.Views.{table_data}
use Rattle.core_program.specs.Core.{Program}
use Rattle.core_program.specs.Views.{program_of}
use Rattle.typing.specs.Programs.{IsCoreOf}
use Rattle.typing.proofs.Agreement.{classes_many}
use Rattle.typing.proofs.Built.{built}
use Rattle.levels.specs.Contexts.{IsOrdered, IsFirstBad}
use Rattle.levels.specs.Walks.{level_in}
use Rattle.level_check.specs.declared.end.LevelEnd.{LevelEnd}
use Rattle.level_check.specs.declared.end.LevelEnd.TheVariants as ends
use Rattle.level_check.specs.declared.reader.LevelsFault.{LevelsFault}
use Rattle.level_check.specs.declared.reader.LevelsFault.TheVariants as faults
use Rattle.level_check.specs.Faults.{AreLevels, IsFirstLevelsFault}
use Rattle.rules.specs.Near.{rel_of}
use Rattle.sources.specs.declared.checking.Source.{Source}
use Rattle.sources.specs.declared.refusal.Ending.TheVariants as ending
use Rattle.sources.specs.declared.refusal.Refusal.{Refusal}
use Rattle.sources.specs.declared.refusal.Refusal.TheVariants.{NoMemory}
use Rattle.sources.specs.Refusals.{IsRight}
use Rattle.sources.specs.Checking.{NoSource, IsSourceOf}
use Rattle.sources.proofs.Told.{right_of_more}
use Rattle.sources.proofs.Verdicts.{well_formed_source}
use Rattle.syntax.specs.Trees.{ProgramTree}
use Rattle.evidence_commands.specs.LevelLines.{ordered_line}
use Rattle.evidence_commands.specs.Levels.{OrdersBy, NoLevelOrder, no_levels, first_bad, LevelsAnswer, no_source, no_order, in_order}
use Rattle.evidence_commands.specs.RefusedLevels.{RefusesText, RefusesOrder}

pub source_refused : (file bytes : List ℕ) (r : Refusal) → IsRight (NoSource file) r → IsRight (LevelsAnswer file bytes) r
source_refused file bytes r is = right_of_more (NoSource file) (LevelsAnswer file bytes) (λ ended line i. no_source i) r is

-- the table of a program has a name for each class
names_of_classes : (tree : ProgramTree) (P : Program) → IsCoreOf tree P → length (table_of tree).names ≡ length P.classes
names_of_classes tree P core =
    length-map (class_names tree) (λ n. n.text) ∙ length-map tree (λ c. c.name)
    ∙ sym (classes_many tree P (built tree P core.core))

pub class_count : (file : List ℕ) (source : Source) → IsSourceOf file source → length (table_data source.table).names ≡ length (program_of source.program).classes
class_count file source is = ap (λ t. length t.names) is.1.table ∙ names_of_classes is.0 (program_of source.program) is.1.has_core.core

-- the line of a text that gives no levels
pub text_refusal : (file bytes : List ℕ) (source : Source) (fault : LevelsFault) (r : Refusal) → IsSourceOf file source
    → (fault ≡ faults.NoMemory) ⊎ IsFirstLevelsFault (table_data source.table) (program_of source.program) bytes fault → IsRight (RefusesText (table_data source.table) fault) r → IsRight (LevelsAnswer file bytes) r
text_refusal file bytes source fault r is why right =
    let P = program_of source.program in
    right_of_more (RefusesText (table_data source.table) fault) (LevelsAnswer file bytes) (λ ended line told.
    no_order is.0 P (well_formed_source file is.0 source is.1)
    (subst (λ t. NoLevelOrder t P bytes ended line) is.1.table
    (subst (λ e. NoLevelOrder (table_data source.table) P bytes e line) (sym told.ends)
    (subst (NoLevelOrder (table_data source.table) P bytes ending.LevelsRefused) (sym told.line_is) (no_levels fault (first why told.told))))))
    r right
  where
    first : (fault ≡ faults.NoMemory) ⊎ IsFirstLevelsFault (table_data source.table) (program_of source.program) bytes fault → (fault ≡ faults.NoMemory → ⊥) → IsFirstLevelsFault (table_data source.table) (program_of source.program) bytes fault
    first (inl e) other = absurd (other e)
    first (inr f) other = f

-- the line of a program that isn't ordered
pub order_refusal : (file bytes levels : List ℕ) (source : Source) (end : LevelEnd) (r : Refusal) → IsSourceOf file source → AreLevels (table_data source.table) (program_of source.program) bytes levels
    → ((m c u : ℕ) → end ≡ ends.Order m c u → IsFirstBad (program_of source.program) (rel_of source.sets) (level_in levels) m c u) → IsRight (RefusesOrder (table_data source.table) end) r → IsRight (LevelsAnswer file bytes) r
order_refusal file bytes levels source end r is are why right =
    let P = program_of source.program in let t = table_data source.table in
    right_of_more (RefusesOrder t end) (LevelsAnswer file bytes) (λ ended line told.
    no_order is.0 P (well_formed_source file is.0 source is.1)
    (subst (λ t. NoLevelOrder t P bytes ended line) is.1.table
    (subst (λ e. NoLevelOrder t P bytes e line) (sym told.ends)
    (subst (NoLevelOrder t P bytes ending.LevelsRefused) (sym told.line_is)
    (first_bad levels source.sets told.method told.class told.under are is.1.relevant (why told.method told.class told.under told.end_is))))))
    r right

-- what is written of an ordered program
pub ordered_result : (file bytes levels : List ℕ) (source : Source) (r : Result (Vec ℕ Global) Refusal) → IsSourceOf file source → AreLevels (table_data source.table) (program_of source.program) bytes levels
    → IsOrdered (program_of source.program) (rel_of source.sets) (level_in levels) → MatchResult r (λ out. out.items ≡ ordered_line) (λ refusal. refusal ≡ NoMemory)
    → MatchResult r (λ out. LevelsAnswer file bytes ending.Done out.items) (IsRight (LevelsAnswer file bytes))
ordered_result file bytes levels source (Ok out) is are ordered e =
    let P = program_of source.program in
    subst (LevelsAnswer file bytes ending.Done) (sym e)
    (in_order is.0 P (well_formed_source file is.0 source is.1)
    (subst (λ t. OrdersBy t P bytes) is.1.table (record { levels = levels; are_levels = are; sets = source.sets; relevant = is.1.relevant; ordered = ordered })))
ordered_result file bytes levels source (Err refusal) is are ordered e = subst (IsRight (LevelsAnswer file bytes)) (sym e) tt
