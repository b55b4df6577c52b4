-- What is asked of a program of the grammar before the rules of atomicity: a class table, a core program, few enough locks.
use Rattle.std.specs.Prelude.{◌≡◌, ℕ, List, [], Some, slice_get}
use Rattle.syntax.specs.Trees.{ProgramTree}
use Rattle.classes.specs.declared.fault.ClassFault.{ClassFault}
use Rattle.classes.specs.Faults as class
use Rattle.classes.specs.Table.{table_of}
use Rattle.classes.specs.Views.{table_data}
use Rattle.core_program.specs.Core.{Program, Method}
use Rattle.core_program.specs.Typed.{IsTyped}
use Rattle.core_program.specs.Views.{program_of}
use Rattle.typing.specs.declared.fault.TypeFault.{TypeFault}
use Rattle.typing.specs.Programs as types
use Rattle.rules.specs.Limits.{IsFirstCrowded}
use Rattle.rules.specs.Near.{IsWellFormed, AreRelevant, AreFew}
use Rattle.report.specs.SourceFaults.{refused_line, class_offset_of, class_kind, type_offset_of, type_kind, locks_kind}
use Rattle.sources.specs.declared.checking.Source.{Source}
use Rattle.sources.specs.declared.refusal.Ending.{Ending}
use Rattle.sources.specs.declared.refusal.Ending.TheVariants.{Refused}
use Rattle.sources.specs.Programs.{IsProgram, NoProgram}

-- the bytes are a program of the grammar with this tree, without class faults and type faults, and with this core program
pub record HasCore (file : List ℕ) (tree : ProgramTree) (P : Program) : Type 0 where
  pub program : IsProgram file tree
  pub classes : class.all_class_faults tree ≡ []
  pub core : types.IsCoreOf tree P

-- the bytes are a well-formed source with this tree and this core program
pub record IsWellFormedSource (file : List ℕ) (tree : ProgramTree) (P : Program) : Type 0 where
  pub has_core : HasCore file tree P
  pub well_formed : IsWellFormed P

-- the line that refuses bytes that are no well-formed source: why they are no program of the grammar, else the first class
-- fault, else the first type fault, else the first method with too many locks
pub data NoSource (file : List ℕ) : Ending → List ℕ → Type 0 where
  no_program : {ending : Ending} {line : List ℕ} → NoProgram file ending line → NoSource file ending line
  class_fault : (tree : ProgramTree) (fault : ClassFault) → IsProgram file tree → class.IsFirstClassFault tree fault
      → NoSource file Refused (refused_line file (class_offset_of fault) (class_kind fault))
  type_fault : (tree : ProgramTree) (fault : TypeFault) → IsProgram file tree → class.all_class_faults tree ≡ [] → types.IsFirstTypeFault tree fault
      → NoSource file Refused (refused_line file (type_offset_of fault) (type_kind fault))
  crowded : (tree : ProgramTree) (P : Program) (m : ℕ) (method : Method) → HasCore file tree P → IsFirstCrowded P m → slice_get P.methods m ≡ Some method
      → NoSource file Refused (refused_line file method.place_at locks_kind)

-- class table, core program and relevant sets of the well-formed source that the bytes are, which has this tree
pub record IsSource (file : List ℕ) (tree : ProgramTree) (source : Source) : Type 0 where
  pub has_core : HasCore file tree (program_of source.program)
  pub table : table_data source.table ≡ table_of tree
  pub typed : IsTyped (program_of source.program)
  pub relevant : AreRelevant (program_of source.program) source.sets
  pub few : AreFew source.sets

-- the file is the text of some program of the grammar of which this is the well-formed source
abbrev pub IsSourceOf : List ℕ → Source → Type 0
IsSourceOf file source = (tree : ProgramTree) × IsSource file tree source
