-- Books that are good for a program.
use Rattle.std.specs.Prelude.{◌≡◌, ℕ, true, List, length, Option, Some, None, slice_get}
use Rattle.paths.specs.Paths.{PathData}
use Rattle.algebra.specs.declared.basic.Basic.TheVariants.{Const}
use Rattle.algebra.specs.HeldPaths.{Held, has_path}
use Rattle.core_program.specs.Core.{Program, Method}
use Rattle.core_program.specs.Dispatch.{Overrides}
use Rattle.conditions.specs.Conditions.{Cond, value_of}
use Rattle.rules.specs.Effect.{Assignment}
use Rattle.rules.specs.Rules.{IsSubset, AtMost, declared_bound}
use Rattle.books.specs.Derivations.{conclusion_number, premises_of}
use Rattle.books.specs.Books.{Line, Book}
use Rattle.effects.specs.Parts.{StmtP}
use Rattle.book_check.specs.Parts.{PlacedNode, places, FitsPart, Each}
use Rattle.effects.specs.Rules.{Value, rule_of}
use Rattle.book_check.specs.Conclusions.{table_value, conclusions}
use Rattle.book_check.specs.Conclusions.{tree_numbered, tests_only}

-- the number of a method line's tree, where there is one
abbrev pub line_value : List Cond → Option Line → Value
line_value table None H = Const
line_value table (Some line) H = table_value table line.number H

-- what the trees of the method lines assign to the methods
abbrev pub book_assignment : Book → Assignment
book_assignment book m H = line_value book.table (slice_get book.lines m) H

-- more held paths never give a greater basic
abbrev pub IsAntitoneValue : Value → Type 0
IsAntitoneValue v = (H K : Held) → IsSubset H K → AtMost (v K) (v H)

-- the first value is at most the second at every set that has the required paths
abbrev pub IsUnder : List PathData → Value → Value → Type 0
IsUnder required body own = (H : Held) → IsSubset (has_path required) H → AtMost (body H) (own H)

-- the first value is at most the second at every part of these paths that has the required ones
abbrev pub IsUnderIn : (rel required : List PathData) → Value → Value → Type 0
IsUnderIn rel required over own = (H : Held) → IsSubset H (has_path rel) → IsSubset (has_path required) H → AtMost (over H) (own H)

-- the value that the rule gives to a node, from what a table and method lines say
abbrev pub rule_at : Program → (ℕ → List PathData) → (ℕ → Value) → Assignment → PlacedNode → Value
rule_at P rel V A x = rule_of P rel A x.part (conclusions V (premises_of x.at))

-- its conclusion is at or above that
abbrev pub IsStep : Program → (ℕ → List PathData) → (ℕ → Value) → Assignment → PlacedNode → Type 0
IsStep P rel V A x = (H : Held) → AtMost (rule_at P rel V A x H) (V (conclusion_number x.at) H)

-- its conclusion is exactly that
abbrev pub ConcludesExactly : Program → (ℕ → List PathData) → (ℕ → Value) → Assignment → PlacedNode → Type 0
ConcludesExactly P rel V A x = (H : Held) → V (conclusion_number x.at) H ≡ rule_at P rel V A x H

-- the derivation of a method line fits the method's body
pub record IsShaped (m : ℕ) (method : Method) (line : Line) : Type 0 where
  pub id : line.id ≡ m
  pub fits : Each FitsPart (places (StmtP method.body) line.body)

-- the tree of a method line tests relevant paths only, and falls
pub record IsTabled (rel : List PathData) (tree : Cond) : Type 0 where
  pub relevant : tests_only rel tree ≡ true
  pub falls : IsAntitoneValue (value_of tree)

-- what is said of a method line rests on the table, and on what the trees of all method lines assign
module _ (P : Program) (rel : ℕ → List PathData) (table : List Cond) (A : Assignment) where
  -- the body's conclusion is at or below the method's tree wherever the required paths are held
  abbrev pub IsUnderOwn : Method → Line → Type 0
  IsUnderOwn method line = IsUnder method.requires_ (table_value table (conclusion_number line.body)) (table_value table line.number)

  -- that, and each node's conclusion is at or above its rule's value
  pub record IsStepped (method : Method) (line : Line) : Type 0 where
    pub under : IsUnderOwn method line
    pub steps : Each (IsStep P rel (table_value table) A) (places (StmtP method.body) line.body)

  -- what is assigned to each method that overrides this one is at or below the method's tree, wherever a call of it may begin
  abbrev pub IsOverBelow : ℕ → Method → Line → Type 0
  IsOverBelow m method line = (over : ℕ) → Overrides P over m → IsUnderIn (rel m) method.requires_ (A over) (table_value table line.number)

  -- the tree at the required paths keeps the method's bound
  abbrev pub IsBounded : Method → Line → Type 0
  IsBounded method line = AtMost (table_value table line.number (has_path method.requires_)) (declared_bound method.annotated)

  -- a method line is good beside its method
  pub record IsGoodLine (m : ℕ) (method : Method) (line : Line) : Type 0 where
    pub tabled : IsTabled (rel m) (tree_numbered (slice_get table line.number))
    pub stepped : IsStepped method line
    pub overrides : IsOverBelow m method line
    pub bounded : IsBounded method line

-- a book is good for a program: for each method it has a line of the method's shape, which is good
pub record IsGoodBook (P : Program) (rel : ℕ → List PathData) (book : Book) : Type 0 where
  pub count : length book.lines ≡ length P.methods
  pub shaped : (m : ℕ) (method : Method) (line : Line) → slice_get P.methods m ≡ Some method → slice_get book.lines m ≡ Some line → IsShaped m method line
  pub good : (m : ℕ) (method : Method) (line : Line) → slice_get P.methods m ≡ Some method → slice_get book.lines m ≡ Some line →
      IsGoodLine P rel book.table (book_assignment book) m method line
