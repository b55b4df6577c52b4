-- The ends of a program of the grammar that is no well-formed source.
use Rattle.std.proofs.Common.{◌≡◌, ℕ, ◌<◌, true, List, [], ◌∷◌, Some, subst, arith, length, slice_get, inl, inr, ◌⊎◌}
use Rattle.syntax.specs.Trees.{ProgramTree}
use Rattle.paths.specs.Paths.{PathData}
use Rattle.algebra.specs.HeldPaths.{has_path}
use Rattle.core_program.specs.Core.{Program, Method}
use Rattle.rules.specs.Limits.{IsCrowded, IsFirstCrowded}
use Rattle.rules.proofs.UniqueSets.{first_has}
use Rattle.classes.specs.declared.fault.ClassFault.{ClassFault}
use Rattle.classes.specs.declared.fault.ClassFault.TheVariants as class
use Rattle.classes.specs.Faults as classes
use Rattle.typing.specs.declared.fault.TypeFault.{TypeFault}
use Rattle.typing.specs.declared.fault.TypeFault.TheVariants as types
use Rattle.typing.specs.Programs as elaboration
use Rattle.report.specs.declared.source_fault.SourceFault.TheVariants as source
use Rattle.report.specs.SourceFaults.{IsToldFault, class_offset_of, class_kind, type_offset_of, type_kind, locks_kind}
use Rattle.sources.specs.declared.refusal.SourceEnd.{SourceEnd}
use Rattle.sources.specs.Refusals.{IsRightEnd, TellsAt}
use Rattle.sources.specs.Programs.{IsProgram}
use Rattle.sources.specs.Checking.{HasCore, NoSource, class_fault, type_fault, crowded}
use Rattle.sources.specs.Offsets.{name_offset}
use Rattle.sources.proofs.Told.{right_fault}

-- a method with many paths is there
has_method : (P : Program) (m : ℕ) (paths : List PathData) → 8 < length paths → ((p : PathData) → has_path paths p ≡ true → (method : Method) × (slice_get P.methods m ≡ Some method)) → (method : Method) × (slice_get P.methods m ≡ Some method)
has_method P m [] many each = absurd (omega (arith, many))
has_method P m (p ∷ ps) many each = each p (first_has p ps)

crowded_method : (P : Program) (m : ℕ) → IsCrowded P m → (method : Method) × (slice_get P.methods m ≡ Some method)
crowded_method P m (inl many) = has_method P m many.paths many.many (λ p h. let is = (many.each p h).1 in (is.0, is.1))
crowded_method P m (inr many) = has_method P m many.paths many.many (λ p h. let is = (many.each p h).1 in (is.0, is.1))

-- the end at the name of the first method with too many locks
pub crowded_end : (file : List ℕ) (tree : ProgramTree) (P : Program) (m : ℕ) (e : SourceEnd) → HasCore file tree P → IsFirstCrowded P m
    → TellsAt file (name_offset (slice_get P.methods m)) locks_kind e → IsRightEnd (NoSource file) e
crowded_end file tree P m e core first tells =
    let found = crowded_method P m first.crowded in
    right_fault (NoSource file) file found.0.place_at locks_kind e (crowded tree P m found.0 core first found.1)
    (subst (λ o. TellsAt file (name_offset o) locks_kind e) found.1 tells)

-- the end for the first fault of the classes
pub class_end : (file : List ℕ) (tree : ProgramTree) (fault : ClassFault) (e : SourceEnd) → IsProgram file tree → IsToldFault (source.Class fault)
    → (fault ≡ class.NoMemory) ⊎ classes.IsFirstClassFault tree fault → TellsAt file (class_offset_of fault) (class_kind fault) e → IsRightEnd (NoSource file) e
class_end file tree fault e is told (inl none) tells = absurd (subst (λ f. IsToldFault (source.Class f)) none told)
class_end file tree fault e is told (inr first) tells = right_fault (NoSource file) file (class_offset_of fault) (class_kind fault) e (class_fault tree fault is first) tells

-- the end for the first fault of the types
pub type_end : (file : List ℕ) (tree : ProgramTree) (fault : TypeFault) (e : SourceEnd) → IsProgram file tree → classes.all_class_faults tree ≡ [] → IsToldFault (source.Types fault)
    → (fault ≡ types.NoMemory) ⊎ elaboration.IsFirstTypeFault tree fault → TellsAt file (type_offset_of fault) (type_kind fault) e → IsRightEnd (NoSource file) e
type_end file tree fault e is faultless told (inl none) tells = absurd (subst (λ f. IsToldFault (source.Types f)) none told)
type_end file tree fault e is faultless told (inr first) tells = right_fault (NoSource file) file (type_offset_of fault) (type_kind fault) e (type_fault tree fault is faultless first) tells
