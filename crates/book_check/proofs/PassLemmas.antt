-- The two passes, line by line.
use Rattle.std.proofs.Common.{◌≡◌, ℕ, zero, suc, ◌+◌, ◌<◌, ◌≤◌, ◌⊎◌, inl, inr, List, [], ◌∷◌, ◌++◌, map, length, drop, get_or, slice_get, Option, Some, None, Ok, Err, refl, sym, ◌∙◌, ap, subst, arith, append-nil}
use Rattle.std.proofs.lemmas.Option.{same_Some, slice_get_cases, slice_get_past}
use Rattle.paths.specs.Paths.{PathData}
use Rattle.conditions.specs.Conditions.{Cond}
use Rattle.core_program.specs.Core.{Program, Method}
use Rattle.core_program.specs.declared.program.CoreMethod.{CoreMethod}
use Rattle.core_program.specs.Views.{method_of}
use Rattle.books.specs.Books.{Line, Book}
use Rattle.book_check.specs.declared.judge.Judge.{Judge}
use Rattle.book_check.specs.declared.wrong.Wrong.{Wrong}
use Rattle.book_check.specs.declared.wrong.Wrong.TheVariants as wrong
use Rattle.book_check.specs.Good.{IsShaped, IsGoodLine}
use Rattle.book_check.specs.Judges.{judge_assignment, judge_near, judge_program, judge_rel, judge_table}
use Rattle.book_check.specs.Nearness.{AreNear}
use Rattle.book_check.specs.Faults.{IsShapedAt, HasShapeFault, AreShaped, IsFirstMisshaped, IsUnjudged, IsWrongBook}
use Rattle.book_check.specs.Passes.{IsShapeFault, IsShapeStep, tree_numbers, IsFirstNear, IsLineStep, AreGoodLines, IsWrongLine}

-- what stands at a place and behind it
pub record Front {A : Type 0} (xs : List A) (m : ℕ) (y : A) (ys : List A) : Type 0 where
  pub here : slice_get xs m ≡ Some y
  pub behind : drop (m + 1) xs ≡ ys
  pub below : m < length xs

drop_nothing : (A : Type 0) (m : ℕ) → drop {A = A} m [] ≡ []
drop_nothing A zero = refl
drop_nothing A (suc m) = refl

pub front_of : {A : Type 0} (xs : List A) (m : ℕ) (y : A) (ys : List A) → drop m xs ≡ y ∷ ys → Front xs m y ys
front_of {A} [] m y ys e = absurd (let none : [] ≡ y ∷ ys = sym (drop_nothing A m) ∙ e in cc)
front_of {A} (x ∷ xs) zero y ys e = record { here = ap Some (head x y xs ys e); behind = tail x y xs ys e; below = omega arith }
  where
    first : List A → A → A
    first [] d = d
    first (z ∷ zs) d = z

    head : (x y : A) (xs ys : List A) → x ∷ xs ≡ y ∷ ys → x ≡ y
    head x y xs ys e = ap (λ z. first z x) e

    tail : (x y : A) (xs ys : List A) → x ∷ xs ≡ y ∷ ys → xs ≡ ys
    tail x y xs ys e = ap (drop 1) e
front_of (x ∷ xs) (suc m) y ys e =
    let f = front_of xs m y ys e in
    let one : suc m + 1 ≡ suc (m + 1) = omega arith in
    record { here = f.here; behind = ap (λ k. drop k (x ∷ xs)) one ∙ f.behind; below = omega (arith, f.below) }

pub past_of : {A : Type 0} (xs : List A) (m : ℕ) → m ≤ length xs → drop m xs ≡ [] → (slice_get xs m ≡ None) × (m ≡ length xs)
past_of [] zero within e = (refl, refl)
past_of [] (suc m) within e = absurd (omega (arith, within))
past_of (x ∷ xs) zero within e = absurd (let no_end : x ∷ xs ≡ [] = e in cc)
past_of (x ∷ xs) (suc m) within e = let p = past_of xs m (omega (arith, within)) e in (p.0, omega (arith, p.1))

-- the first pass so far, with the lines that are then still to come
pub record ShapesSoFar (methods : List Method) (lines : List Line) (m : ℕ) (numbers : List ℕ) (rest : List Line) : Type 0 where
  pub within : m ≤ length lines
  pub at : rest ≡ drop m lines
  pub counted : numbers ++ tree_numbers (drop m lines) ≡ tree_numbers lines
  pub shaped : (k : ℕ) → k < m → IsShapedAt k (slice_get methods k) (slice_get lines k)

pub below_or : (k m : ℕ) → k < m + 1 → (k < m) ⊎ (k ≡ m)
below_or zero zero h = inr refl
below_or zero (suc m) h = inl (omega arith)
below_or (suc k) zero h = absurd (omega (arith, h))
below_or (suc k) (suc m) h = next (below_or k m (omega (arith, h)))
  where
    next : (k < m) ⊎ (k ≡ m) → (suc k < suc m) ⊎ (suc k ≡ suc m)
    next (inl l) = inl (omega (arith, l))
    next (inr e) = inr (ap suc e)

shaped_more : (methods : List Method) (lines : List Line) (m : ℕ) (method : Method) (line : Line) → slice_get methods m ≡ Some method → slice_get lines m ≡ Some line → IsShaped m method line →
    ((k : ℕ) → k < m → IsShapedAt k (slice_get methods k) (slice_get lines k)) → (k : ℕ) → k < m + 1 → IsShapedAt k (slice_get methods k) (slice_get lines k)
shaped_more methods lines m method line is at shaped before k below = chosen (below_or k m below)
  where
    here : IsShapedAt m (slice_get methods m) (slice_get lines m)
    here = subst (λ o. IsShapedAt m o (slice_get lines m)) (sym is) (subst (λ o. IsShapedAt m (Some method) o) (sym at) shaped)

    chosen : (k < m) ⊎ (k ≡ m) → IsShapedAt k (slice_get methods k) (slice_get lines k)
    chosen (inl l) = before k l
    chosen (inr e) = subst (λ j. IsShapedAt j (slice_get methods j) (slice_get lines j)) (sym e) here

numbers_step : (old new : List ℕ) (n m : ℕ) (line : Line) (lines behind : List Line) (all : List ℕ) → new ≡ old ++ (n ∷ []) → n ≡ line.number → drop (m + 1) lines ≡ behind →
    old ++ tree_numbers (line ∷ behind) ≡ all → new ++ tree_numbers (drop (m + 1) lines) ≡ all
numbers_step old new n m line lines behind all pushed is rest counted =
    (λ i. pushed i ++ tree_numbers (rest i)) ∙ moved old n (tree_numbers behind) ∙ ap (λ k. old ++ (k ∷ tree_numbers behind)) is ∙ counted
  where
    moved : (old : List ℕ) (n : ℕ) (ks : List ℕ) → (old ++ (n ∷ [])) ++ ks ≡ old ++ (n ∷ ks)
    moved [] n ks = refl
    moved (k ∷ old) n ks = ap (λ z. k ∷ z) (moved old n ks)

pub shape_more : {S : Type 0} (view : S → List Line) (methods : List Method) (lines : List Line) (m : ℕ) (old new : List ℕ) (rest : List Line) (x : ℕ × S) (method : Method) →
    ShapesSoFar methods lines m old rest → slice_get methods m ≡ Some method → new ≡ old ++ (x.0 ∷ []) → IsShapeStep view m method rest (Ok x) → ShapesSoFar methods lines (m + 1) new (view x.1)
shape_more view methods lines m old new [] x method so_far is pushed step = absurd step
shape_more view methods lines m old new (line ∷ behind) x method so_far is pushed step =
    let f = front_of lines m line behind (sym so_far.at) in
    record {
      within = omega (arith, f.below);
      at = step.2 ∙ sym f.behind;
      counted = numbers_step old new x.0 m line lines behind (tree_numbers lines) pushed step.0 f.behind (ap (λ ls. old ++ tree_numbers ls) so_far.at ∙ so_far.counted);
      shaped = shaped_more methods lines m method line is f.here step.1 so_far.shaped;
    }

fault_here : (P : Program) (rel : ℕ → List PathData) (book : Book) (m : ℕ) (method : Option Method) (line : Option Line) (fault : Wrong) → slice_get P.methods m ≡ method → slice_get book.lines m ≡ line →
    ((k : ℕ) → k < m → IsShapedAt k (slice_get P.methods k) (slice_get book.lines k)) → IsShapeFault m method line fault → IsWrongBook P rel book fault
fault_here P rel book m method line (wrong.Shape k node) is at before f =
    subst (λ j. IsFirstMisshaped P rel book j node) (sym f.0)
    (record { before = before; fault = subst (λ o. HasShapeFault m o (slice_get book.lines m) node) (sym is) (subst (λ o. HasShapeFault m method o node) (sym at) f.1) })
fault_here P rel book m method line wrong.Memory is at before f = tt
fault_here P rel book m method line wrong.Work is at before f = tt
fault_here P rel book m method line (wrong.Table k) is at before f = absurd f
fault_here P rel book m method line (wrong.Step k node) is at before f = absurd f
fault_here P rel book m method line (wrong.Override k) is at before f = absurd f
fault_here P rel book m method line (wrong.Bound k) is at before f = absurd f

pub shape_wrong : {S : Type 0} (view : S → List Line) (P : Program) (rel : ℕ → List PathData) (book : Book) (m : ℕ) (numbers : List ℕ) (method : Method) (rest : List Line) (fault : Wrong) →
    ShapesSoFar P.methods book.lines m numbers rest → slice_get P.methods m ≡ Some method → IsShapeStep view m method rest (Err fault) → IsWrongBook P rel book fault
shape_wrong view P rel book m numbers method [] fault so_far is step =
    fault_here P rel book m (Some method) None fault is (past_of book.lines m so_far.within (sym so_far.at)).0 so_far.shaped step
shape_wrong view P rel book m numbers method (line ∷ behind) fault so_far is step =
    fault_here P rel book m (Some method) (Some line) fault is (front_of book.lines m line behind (sym so_far.at)).here so_far.shaped step

-- behind the last method
shaped_past : (methods : List Method) (lines : List Line) (m : ℕ) → m ≡ length methods → m ≡ length lines → ((k : ℕ) → k < m → IsShapedAt k (slice_get methods k) (slice_get lines k)) →
    (k : ℕ) → IsShapedAt k (slice_get methods k) (slice_get lines k)
shaped_past methods lines m size size_too before k = chosen (slice_get_cases methods k).1
  where
    chosen : ((x : Method) × (k < length methods) × (slice_get methods k ≡ Some x) × (get_or methods k x ≡ x)) ⊎ ((length methods ≤ k) × (slice_get methods k ≡ None)) →
        IsShapedAt k (slice_get methods k) (slice_get lines k)
    chosen (inl f) = before k (omega (arith, f.1, size))
    chosen (inr p) = subst (λ o. IsShapedAt k o (slice_get lines k)) (sym p.1) (subst (λ o. IsShapedAt k None o) (sym (slice_get_past lines k (omega (arith, p.0, size, size_too)))) tt)

pub shapes_done : (P : Program) (rel : ℕ → List PathData) (book : Book) (m : ℕ) (numbers : List ℕ) (rest : List Line) → rest ≡ [] →
    ShapesSoFar P.methods book.lines m numbers rest → m ≡ length P.methods → (numbers ≡ tree_numbers book.lines) × (length book.lines ≡ length P.methods) × AreShaped P rel book
shapes_done P rel book m numbers rest none so_far size =
    let e : [] ≡ drop m book.lines = sym none ∙ so_far.at in
    let past = past_of book.lines m so_far.within (sym e) in
    (sym (append-nil numbers) ∙ ap (λ ls. numbers ++ tree_numbers ls) e ∙ so_far.counted, sym past.1 ∙ size, shaped_past P.methods book.lines m size past.1 so_far.shaped)

pub shapes_more_lines : (P : Program) (rel : ℕ → List PathData) (book : Book) (m : ℕ) (numbers : List ℕ) (rest behind : List Line) (line : Line) → rest ≡ line ∷ behind →
    ShapesSoFar P.methods book.lines m numbers rest → m ≡ length P.methods → IsWrongBook P rel book (wrong.Shape m 0)
shapes_more_lines P rel book m numbers rest behind line some so_far size =
    fault_here P rel book m None (Some line) (wrong.Shape m 0) (slice_get_past P.methods m (omega (arith, size))) (front_of book.lines m line behind (sym so_far.at ∙ some)).here so_far.shaped (refl, refl)

-- the second pass so far, with the lines that are then still to come
pub record LinesSoFar (judge : Judge) (lines : List Line) (m : ℕ) (rest : List Line) : Type 0 where
  pub within : m ≤ length lines
  pub at : rest ≡ drop m lines
  pub good : AreGoodLines judge (record { table = []; lines = lines }) m

pub no_lines : (judge : Judge) (lines : List Line) → LinesSoFar judge lines 0 lines
no_lines judge lines = record { within = omega arith; at = refl; good = λ k method line below is at. absurd (omega (arith, below)) }

good_more : (judge : Judge) (book : Book) (m : ℕ) (method : Method) (line : Line) → slice_get (judge_program judge).methods m ≡ Some method → slice_get book.lines m ≡ Some line →
    IsGoodLine (judge_program judge) (judge_rel judge) (judge_table judge) (judge_assignment judge) m method line → AreGoodLines judge book m → AreGoodLines judge book (m + 1)
good_more judge book m method line is at good before = λ k other own below other_is own_is. chosen k other own other_is own_is (below_or k m below)
  where
    chosen : (k : ℕ) (other : Method) (own : Line) → slice_get (judge_program judge).methods k ≡ Some other → slice_get book.lines k ≡ Some own → (k < m) ⊎ (k ≡ m) →
        IsGoodLine (judge_program judge) (judge_rel judge) (judge_table judge) (judge_assignment judge) k other own
    chosen k other own other_is own_is (inl l) = before k other own l other_is own_is
    chosen k other own other_is own_is (inr e) =
        let same_method : method ≡ other = same_Some method other (sym is ∙ ap (slice_get (judge_program judge).methods) (sym e) ∙ other_is) in
        let same_line : line ≡ own = same_Some line own (sym at ∙ ap (slice_get book.lines) (sym e) ∙ own_is) in
        subst (λ j. IsGoodLine (judge_program judge) (judge_rel judge) (judge_table judge) (judge_assignment judge) j other own) (sym e)
        (subst (λ x. IsGoodLine (judge_program judge) (judge_rel judge) (judge_table judge) (judge_assignment judge) m x own) same_method
        (subst (λ l. IsGoodLine (judge_program judge) (judge_rel judge) (judge_table judge) (judge_assignment judge) m method l) same_line good))

pub line_more : {S : Type 0} (view : S → List Line) (judge : Judge) (lines : List Line) (m : ℕ) (method : Method) (rest : List Line) (x : S) →
    LinesSoFar judge lines m rest → slice_get (judge_program judge).methods m ≡ Some method → IsLineStep view judge m method rest (Ok x) → LinesSoFar judge lines (m + 1) (view x)
line_more view judge lines m method [] x so_far is step = absurd step
line_more view judge lines m method (line ∷ behind) x so_far is step =
    let f = front_of lines m line behind (sym so_far.at) in
    record {
      within = omega (arith, f.below);
      at = step.1 ∙ sym f.behind;
      good = good_more judge (record { table = []; lines = lines }) m method line is f.here step.0 so_far.good;
    }

pub line_wrong : {S : Type 0} (view : S → List Line) (judge : Judge) (table : List Cond) (lines : List Line) (m : ℕ) (method : Method) (rest : List Line) (fault : Wrong) →
    LinesSoFar judge lines m rest → slice_get (judge_program judge).methods m ≡ Some method → IsLineStep view judge m method rest (Err fault) →
    IsUnjudged fault ⊎ IsWrongLine judge (record { table = table; lines = lines }) fault
line_wrong view judge table lines m method [] fault so_far is step = inl step
line_wrong view judge table lines m method (line ∷ behind) fault so_far is (inl unjudged) = inl unjudged
line_wrong view judge table lines m method (line ∷ behind) fault so_far is (inr verdict) =
    let f = front_of lines m line behind (sym so_far.at) in
    inr (record { position = m; before = so_far.good; method = method; line = line; method_is = is; line_is = f.here; verdict = verdict })

-- the method at a place
pub method_front : (methods : List Method) (m : ℕ) (rest others : List CoreMethod) (method : CoreMethod) → map method_of rest ≡ drop m methods → rest ≡ method ∷ others →
    Front methods m (method_of method) (map method_of others)
method_front methods m rest others method e split = front_of methods m (method_of method) (map method_of others) (sym e ∙ ap (map method_of) split)

pub methods_end : (methods : List Method) (m : ℕ) (rest : List CoreMethod) → map method_of rest ≡ drop m methods → length rest ≡ 0 → m ≤ length methods → m ≡ length methods
methods_end methods m [] e none within = (past_of methods m within (sym e)).1
methods_end methods m (x ∷ rest) e none within = absurd (omega (arith, none))

-- the first of the lines that are still to come is near its method
pub first_near : (judge : Judge) (table : List Cond) (lines rest : List Line) (m : ℕ) → LinesSoFar judge lines m rest →
    ((k : ℕ) (line : Line) → slice_get lines k ≡ Some line → AreNear (judge_near judge k) table line.body) → IsFirstNear (judge_near judge m) table rest
first_near judge table lines [] m so_far near = tt
first_near judge table lines (line ∷ behind) m so_far near = near m line (front_of lines m line behind (sym so_far.at)).here
