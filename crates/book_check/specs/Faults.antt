-- What is wrong with a book, in the order of judgement: the shape of every method line first, and then, method by method, its tree,
-- its steps, the trees of the methods that override it, and its bound.
use Rattle.std.specs.Prelude.{◌≡◌, ◌≢◌, ◌⊎◌, ℕ, ◌<◌, List, Option, Some, None, slice_get}
use Rattle.paths.specs.Paths.{PathData}
use Rattle.core_program.specs.Core.{Program, Method}
use Rattle.books.specs.Books.{Line, Book}
use Rattle.book_check.specs.declared.wrong.Wrong.{Wrong}
use Rattle.book_check.specs.declared.wrong.Wrong.TheVariants as wrong
use Rattle.book_check.specs.declared.refusal.Refusal.{Refusal}
use Rattle.book_check.specs.declared.refusal.Refusal.TheVariants as refusal
use Rattle.effects.specs.Parts.{StmtP}
use Rattle.book_check.specs.Parts.{places, FitsPart, IsLeastBad}
use Rattle.book_check.specs.Conclusions.{table_value}
use Rattle.book_check.specs.Good.{book_assignment, IsStep, IsUnderOwn, IsShaped, IsTabled, IsStepped, IsOverBelow, IsBounded, IsGoodLine}
use Rattle.book_check.specs.Conclusions.{tree_numbered}
use Rattle.rules.specs.Effect.{Assignment}
use Rattle.conditions.specs.Conditions.{Cond}

-- the book isn't judged: memory is wanting, or a bound of work is met
abbrev pub IsUnjudged : Wrong → Type 0
IsUnjudged wrong.Memory = Unit {0}
IsUnjudged wrong.Work = Unit {0}
IsUnjudged _ = ⊥

-- why a book isn't judged, where an operation on its trees isn't made
abbrev pub unjudged_by : Refusal → Wrong
unjudged_by refusal.NoMemory = wrong.Memory
unjudged_by refusal.Work = wrong.Work

-- the shape at a position, by its method and its line: both are there and the line is of the method's shape, or neither is
abbrev pub IsShapedAt : ℕ → Option Method → Option Line → Type 0
IsShapedAt m None None = Unit {0}
IsShapedAt m None (Some line) = ⊥
IsShapedAt m (Some method) None = ⊥
IsShapedAt m (Some method) (Some line) = IsShaped m method line

-- the least node at which the shape is wrong: node 0 where the line isn't the method's, or one of the two is missing
abbrev pub HasShapeFault : ℕ → Option Method → Option Line → ℕ → Type 0
HasShapeFault m None None node = ⊥
HasShapeFault m None (Some line) node = node ≡ 0
HasShapeFault m (Some method) None node = node ≡ 0
HasShapeFault m (Some method) (Some line) node =
    ((line.id ≢ m) × (node ≡ 0)) ⊎ ((line.id ≡ m) × IsLeastBad FitsPart (places (StmtP method.body) line.body) node)

-- the least node whose step is wrong; node 0 where the body's conclusion is too great for the method's tree
abbrev pub HasStepFault : Program → (ℕ → List PathData) → List Cond → Assignment → Method → Line → ℕ → Type 0
HasStepFault P rel table A method line node =
    ((IsUnderOwn P rel table A method line → ⊥) × (node ≡ 0))
    ⊎ (IsUnderOwn P rel table A method line × IsLeastBad (IsStep P rel (table_value table) A) (places (StmtP method.body) line.body) node)

-- what is wrong with a method line beside its method first, if anything is
abbrev pub IsLineVerdict : Program → (ℕ → List PathData) → List Cond → Assignment → ℕ → Method → Line → Option Wrong → Type 0
IsLineVerdict P rel table A m method line None = IsGoodLine P rel table A m method line
IsLineVerdict P rel table A m method line (Some (wrong.Table k)) = (k ≡ m) × (IsTabled (rel m) (tree_numbered (slice_get table line.number)) → ⊥)
IsLineVerdict P rel table A m method line (Some (wrong.Step k node)) =
    (k ≡ m) × IsTabled (rel m) (tree_numbered (slice_get table line.number)) × HasStepFault P rel table A method line node
IsLineVerdict P rel table A m method line (Some (wrong.Override k)) =
    (k ≡ m) × IsTabled (rel m) (tree_numbered (slice_get table line.number)) × IsStepped P rel table A method line × (IsOverBelow P rel table A m method line → ⊥)
IsLineVerdict P rel table A m method line (Some (wrong.Bound k)) =
    (k ≡ m) × IsTabled (rel m) (tree_numbered (slice_get table line.number)) × IsStepped P rel table A method line × IsOverBelow P rel table A m method line
    × (IsBounded P rel table A method line → ⊥)
IsLineVerdict P rel table A m method line (Some (wrong.Shape k node)) = ⊥
IsLineVerdict P rel table A m method line (Some wrong.Memory) = ⊥
IsLineVerdict P rel table A m method line (Some wrong.Work) = ⊥

module _ (P : Program) (rel : ℕ → List PathData) (book : Book) where
  -- the shape of every position is right
  abbrev pub AreShaped : Type 0
  AreShaped = (k : ℕ) → IsShapedAt k (slice_get P.methods k) (slice_get book.lines k)

  -- every line before this position is good
  abbrev pub AreGoodBefore : ℕ → Type 0
  AreGoodBefore m = (k : ℕ) (method : Method) (line : Line) → k < m → slice_get P.methods k ≡ Some method → slice_get book.lines k ≡ Some line →
      IsGoodLine P rel book.table (book_assignment book) k method line

  -- where all shapes are right and every line before this one is good, this is what is wrong with it first
  pub record IsFirstWrong (m : ℕ) (fault : Wrong) : Type 0 where
    pub shaped : AreShaped
    pub before : AreGoodBefore m
    pub method : Method
    pub line : Line
    pub method_is : slice_get P.methods m ≡ Some method
    pub line_is : slice_get book.lines m ≡ Some line
    pub verdict : IsLineVerdict P rel book.table (book_assignment book) m method line (Some fault)

  -- the least position with a wrong shape, and its least node
  pub record IsFirstMisshaped (m node : ℕ) : Type 0 where
    pub before : (k : ℕ) → k < m → IsShapedAt k (slice_get P.methods k) (slice_get book.lines k)
    pub fault : HasShapeFault m (slice_get P.methods m) (slice_get book.lines m) node

  -- what is wrong with the book first; want of memory says nothing, and neither does a bound of work
  abbrev pub IsWrongBook : Wrong → Type 0
  IsWrongBook (wrong.Shape m node) = IsFirstMisshaped m node
  IsWrongBook (wrong.Table m) = IsFirstWrong m (wrong.Table m)
  IsWrongBook (wrong.Step m node) = IsFirstWrong m (wrong.Step m node)
  IsWrongBook (wrong.Override m) = IsFirstWrong m (wrong.Override m)
  IsWrongBook (wrong.Bound m) = IsFirstWrong m (wrong.Bound m)
  IsWrongBook wrong.Memory = Unit {0}
  IsWrongBook wrong.Work = Unit {0}
