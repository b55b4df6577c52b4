-- Where the first fault of a source is told, and the line that is written for it.
use Rattle.std.specs.Prelude.{ℕ, List, ◌++◌, codes}
use Rattle.lexer.specs.declared.faults.LexFault.{LexFault}
use Rattle.lexer.specs.declared.faults.LexFault.TheVariants as lex
use Rattle.lexer.specs.Places.{line_of, column_of, place_text}
use Rattle.parser.specs.declared.faults.ParseFault.{ParseFault}
use Rattle.parser.specs.declared.faults.ParseFault.TheVariants as parse
use Rattle.classes.specs.declared.fault.ClassFault.{ClassFault}
use Rattle.classes.specs.declared.fault.ClassFault.TheVariants as class
use Rattle.typing.specs.declared.fault.TypeFault.{TypeFault}
use Rattle.typing.specs.declared.fault.TypeFault.TheVariants as types
use Rattle.report.specs.declared.source_fault.SourceFault.{SourceFault}
use Rattle.report.specs.declared.source_fault.SourceFault.TheVariants as source

-- the fault isn't want of memory
abbrev pub IsToldFault : SourceFault → Type 0
IsToldFault (source.Text fault) = Unit {0}
IsToldFault (source.Lex lex.NoMemory) = ⊥
IsToldFault (source.Lex (lex.BadCharacter at)) = Unit {0}
IsToldFault (source.Lex (lex.OpenComment at)) = Unit {0}
IsToldFault (source.Lex (lex.LiteralTooLarge at)) = Unit {0}
IsToldFault (source.Lex (lex.NameTooLong at)) = Unit {0}
IsToldFault (source.Parse (parse.Unexpected k) at) = Unit {0}
IsToldFault (source.Parse (parse.TooDeep k) at) = Unit {0}
IsToldFault (source.Parse parse.NoMemory at) = ⊥
IsToldFault (source.Class (class.Twice at)) = Unit {0}
IsToldFault (source.Class (class.UnknownClass at)) = Unit {0}
IsToldFault (source.Class (class.BadConstructor at)) = Unit {0}
IsToldFault (source.Class class.NoMain) = Unit {0}
IsToldFault (source.Class (class.NoRun at)) = Unit {0}
IsToldFault (source.Class (class.TooMany at)) = Unit {0}
IsToldFault (source.Class (class.Circle at)) = Unit {0}
IsToldFault (source.Class (class.BadOverride at)) = Unit {0}
IsToldFault (source.Class class.NoMemory) = ⊥
IsToldFault (source.Types (types.UnknownName at)) = Unit {0}
IsToldFault (source.Types (types.NoRule at)) = Unit {0}
IsToldFault (source.Types (types.FinalAssigned at)) = Unit {0}
IsToldFault (source.Types (types.NotALock at)) = Unit {0}
IsToldFault (source.Types (types.MissingReturn at)) = Unit {0}
IsToldFault (source.Types (types.Unreachable at)) = Unit {0}
IsToldFault (source.Types (types.TooManyLocals at)) = Unit {0}
IsToldFault (source.Types (types.Redeclared at)) = Unit {0}
IsToldFault (source.Types types.NoMemory) = ⊥
IsToldFault (source.Locks at) = Unit {0}

-- the offset at which a text has no token
abbrev pub lex_offset_of : LexFault → ℕ
lex_offset_of (lex.BadCharacter at) = at
lex_offset_of (lex.OpenComment at) = at
lex_offset_of (lex.LiteralTooLarge at) = at
lex_offset_of (lex.NameTooLong at) = at
lex_offset_of lex.NoMemory = 0

-- the offset at which a fault of the classes is told; that no class is the one to begin with is told at the start
abbrev pub class_offset_of : ClassFault → ℕ
class_offset_of (class.Twice at) = at
class_offset_of (class.UnknownClass at) = at
class_offset_of (class.BadConstructor at) = at
class_offset_of class.NoMain = 0
class_offset_of (class.NoRun at) = at
class_offset_of (class.TooMany at) = at
class_offset_of (class.Circle at) = at
class_offset_of (class.BadOverride at) = at
class_offset_of class.NoMemory = 0

-- the offset at which a fault of the types is told
abbrev pub type_offset_of : TypeFault → ℕ
type_offset_of (types.UnknownName at) = at
type_offset_of (types.NoRule at) = at
type_offset_of (types.FinalAssigned at) = at
type_offset_of (types.NotALock at) = at
type_offset_of (types.MissingReturn at) = at
type_offset_of (types.Unreachable at) = at
type_offset_of (types.TooManyLocals at) = at
type_offset_of (types.Redeclared at) = at
type_offset_of types.NoMemory = 0

-- the offset at which the fault is told
abbrev pub source_fault_offset : SourceFault → ℕ
source_fault_offset (source.Text fault) = fault.at
source_fault_offset (source.Lex fault) = lex_offset_of fault
source_fault_offset (source.Parse fault at) = at
source_fault_offset (source.Class fault) = class_offset_of fault
source_fault_offset (source.Types fault) = type_offset_of fault
source_fault_offset (source.Locks at) = at

-- the words for the fault
abbrev pub lex_kind : LexFault → List ℕ
lex_kind (lex.BadCharacter at) = codes "bad character"
lex_kind (lex.OpenComment at) = codes "open comment"
lex_kind (lex.LiteralTooLarge at) = codes "literal too large"
lex_kind (lex.NameTooLong at) = codes "name too long"
lex_kind lex.NoMemory = codes ""

-- the words for a fault of the grammar
abbrev pub parse_kind : ParseFault → List ℕ
parse_kind (parse.Unexpected k) = codes "unexpected"
parse_kind (parse.TooDeep k) = codes "too deep"
parse_kind parse.NoMemory = codes ""

-- the words for a fault of the classes
abbrev pub class_kind : ClassFault → List ℕ
class_kind (class.Twice at) = codes "declared twice"
class_kind (class.UnknownClass at) = codes "unknown class"
class_kind (class.BadConstructor at) = codes "bad constructor"
class_kind class.NoMain = codes "no main"
class_kind (class.NoRun at) = codes "no run"
class_kind (class.TooMany at) = codes "too many"
class_kind (class.Circle at) = codes "circle"
class_kind (class.BadOverride at) = codes "bad override"
class_kind class.NoMemory = codes ""

-- the words for a fault of the types
abbrev pub type_kind : TypeFault → List ℕ
type_kind (types.UnknownName at) = codes "unknown name"
type_kind (types.NoRule at) = codes "no rule"
type_kind (types.FinalAssigned at) = codes "final assigned"
type_kind (types.NotALock at) = codes "not a lock"
type_kind (types.MissingReturn at) = codes "missing return"
type_kind (types.Unreachable at) = codes "unreachable"
type_kind (types.TooManyLocals at) = codes "too many locals"
type_kind (types.Redeclared at) = codes "redeclared"
type_kind types.NoMemory = codes ""

-- the words for a method with more relevant locks, or more local ones, than are allowed
abbrev pub locks_kind : List ℕ
locks_kind = codes "too many locks"

-- the words for a fault, which stand in its line behind the place
abbrev pub fault_words : SourceFault → List ℕ
fault_words (source.Text fault) = codes "not text"
fault_words (source.Lex fault) = lex_kind fault
fault_words (source.Parse fault at) = parse_kind fault
fault_words (source.Class fault) = class_kind fault
fault_words (source.Types fault) = type_kind fault
fault_words (source.Locks at) = locks_kind

-- `refused at LINE:COLUMN: KIND`
abbrev pub refused_at_place : (line column : ℕ) → List ℕ → List ℕ
refused_at_place line column kind = codes "refused at " ++ place_text line column ++ codes ": " ++ kind ++ codes "\n"

-- that line, with the line and the column of an offset of the text
abbrev pub refused_line : List ℕ → ℕ → List ℕ → List ℕ
refused_line text at kind = refused_at_place (line_of text at) (column_of text at) kind
