-- A text has one verdict.
use Rattle.std.proofs.Common.{◌≡◌, ℕ, ◌<◌, ◌≤◌, ◌⊎◌, inl, inr, List, length, get_or, slice_get, Option, Some, None, sym, ◌∙◌, ap, subst, arith}
use Rattle.std.proofs.lemmas.Option.{same_Some, slice_get_cases}
use Rattle.paths.specs.Paths.{PathData}
use Rattle.core_program.specs.Core.{Program, Method}
use Rattle.conditions.specs.Conditions.{Cond}
use Rattle.rules.specs.Effect.{Assignment}
use Rattle.books.specs.Books.{Line, Book}
use Rattle.book_check.specs.declared.wrong.Wrong.{Wrong}
use Rattle.book_check.specs.declared.wrong.Wrong.TheVariants as wrong
use Rattle.effects.specs.Parts.{StmtP}
use Rattle.book_check.specs.Parts.{places, FitsPart}
use Rattle.book_check.specs.Conclusions.{table_value}
use Rattle.book_check.specs.Good.{book_assignment, IsStep, IsStepped, IsGoodLine, IsGoodBook}
use Rattle.book_check.specs.Faults.{IsShapedAt, HasShapeFault, HasStepFault, IsLineVerdict, AreShaped, IsFirstMisshaped, IsFirstWrong, IsUnjudged, IsWrongBook}
use Rattle.book_check.proofs.Lists.{one_least, none_bad}

tied : (j k : ℕ) → (j < k → ⊥) → (k < j → ⊥) → j ≡ k
tied j k below above = omega (arith, below, above)

-- a right shape has no fault
shaped_no_fault : (m node : ℕ) (method : Option Method) (line : Option Line) → IsShapedAt m method line → HasShapeFault m method line node → ⊥
shaped_no_fault m node None None shaped fault = fault
shaped_no_fault m node None (Some line) shaped fault = shaped
shaped_no_fault m node (Some method) None shaped fault = shaped
shaped_no_fault m node (Some method) (Some line) shaped (inl other) = other.0 shaped.id
shaped_no_fault m node (Some method) (Some line) shaped (inr bad) = none_bad FitsPart (places (StmtP method.body) line.body) node shaped.fits bad.1

one_shape_fault : (m j k : ℕ) (method : Option Method) (line : Option Line) → HasShapeFault m method line j → HasShapeFault m method line k → j ≡ k
one_shape_fault m j k None None a b = absurd a
one_shape_fault m j k None (Some line) a b = a ∙ sym b
one_shape_fault m j k (Some method) None a b = a ∙ sym b
one_shape_fault m j k (Some method) (Some line) (inl a) (inl b) = a.1 ∙ sym b.1
one_shape_fault m j k (Some method) (Some line) (inl a) (inr b) = absurd (a.0 b.0)
one_shape_fault m j k (Some method) (Some line) (inr a) (inl b) = absurd (b.0 a.0)
one_shape_fault m j k (Some method) (Some line) (inr a) (inr b) = one_least FitsPart (places (StmtP method.body) line.body) j k a.1 b.1

module _ (P : Program) (rel : ℕ → List PathData) where
  -- right steps have no fault
  stepped_no_fault : (table : List Cond) (A : Assignment) (method : Method) (line : Line) (node : ℕ) → IsStepped P rel table A method line → HasStepFault P rel table A method line node → ⊥
  stepped_no_fault table A method line node steps (inl over) = over.0 steps.under
  stepped_no_fault table A method line node steps (inr bad) = none_bad (IsStep P rel (table_value table) A) (places (StmtP method.body) line.body) node steps.steps bad.1

  one_step_fault : (table : List Cond) (A : Assignment) (method : Method) (line : Line) (j k : ℕ) → HasStepFault P rel table A method line j → HasStepFault P rel table A method line k → j ≡ k
  one_step_fault table A method line j k (inl a) (inl b) = a.1 ∙ sym b.1
  one_step_fault table A method line j k (inl a) (inr b) = absurd (a.0 b.0)
  one_step_fault table A method line j k (inr a) (inl b) = absurd (b.0 a.0)
  one_step_fault table A method line j k (inr a) (inr b) = one_least (IsStep P rel (table_value table) A) (places (StmtP method.body) line.body) j k a.1 b.1

  good_no_verdict : (table : List Cond) (A : Assignment) (m : ℕ) (method : Method) (line : Line) (w : Wrong) → IsGoodLine P rel table A m method line → IsLineVerdict P rel table A m method line (Some w) → ⊥
  good_no_verdict table A m method line (wrong.Shape k n) good v = v
  good_no_verdict table A m method line (wrong.Table k) good v = v.1 good.tabled
  good_no_verdict table A m method line (wrong.Step k n) good v = stepped_no_fault table A method line n good.stepped v.2
  good_no_verdict table A m method line (wrong.Override k) good v = v.3 good.overrides
  good_no_verdict table A m method line (wrong.Bound k) good v = v.4 good.bounded
  good_no_verdict table A m method line wrong.Memory good v = v
  good_no_verdict table A m method line wrong.Work good v = v

  one_verdict : (table : List Cond) (A : Assignment) (m : ℕ) (method : Method) (line : Line) (w v : Wrong) → IsLineVerdict P rel table A m method line (Some w) →
      IsLineVerdict P rel table A m method line (Some v) → w ≡ v
  one_verdict table A m method line (wrong.Shape k n) v a b = absurd a
  one_verdict table A m method line wrong.Memory v a b = absurd a
  one_verdict table A m method line wrong.Work v a b = absurd a
  one_verdict table A m method line (wrong.Table k) (wrong.Shape j i) a b = absurd b
  one_verdict table A m method line (wrong.Table k) wrong.Memory a b = absurd b
  one_verdict table A m method line (wrong.Table k) wrong.Work a b = absurd b
  one_verdict table A m method line (wrong.Table k) (wrong.Table j) a b = ap (λ z. wrong.Table z) (a.0 ∙ sym b.0)
  one_verdict table A m method line (wrong.Table k) (wrong.Step j i) a b = absurd (a.1 b.1)
  one_verdict table A m method line (wrong.Table k) (wrong.Override j) a b = absurd (a.1 b.1)
  one_verdict table A m method line (wrong.Table k) (wrong.Bound j) a b = absurd (a.1 b.1)
  one_verdict table A m method line (wrong.Step k n) (wrong.Shape j i) a b = absurd b
  one_verdict table A m method line (wrong.Step k n) wrong.Memory a b = absurd b
  one_verdict table A m method line (wrong.Step k n) wrong.Work a b = absurd b
  one_verdict table A m method line (wrong.Step k n) (wrong.Table j) a b = absurd (b.1 a.1)
  one_verdict table A m method line (wrong.Step k n) (wrong.Step j i) a b =
      let position = a.0 ∙ sym b.0 in let node = one_step_fault table A method line n i a.2 b.2 in λ x. wrong.Step (position x) (node x)
  one_verdict table A m method line (wrong.Step k n) (wrong.Override j) a b = absurd (stepped_no_fault table A method line n b.2 a.2)
  one_verdict table A m method line (wrong.Step k n) (wrong.Bound j) a b = absurd (stepped_no_fault table A method line n b.2 a.2)
  one_verdict table A m method line (wrong.Override k) (wrong.Shape j i) a b = absurd b
  one_verdict table A m method line (wrong.Override k) wrong.Memory a b = absurd b
  one_verdict table A m method line (wrong.Override k) wrong.Work a b = absurd b
  one_verdict table A m method line (wrong.Override k) (wrong.Table j) a b = absurd (b.1 a.1)
  one_verdict table A m method line (wrong.Override k) (wrong.Step j i) a b = absurd (stepped_no_fault table A method line i a.2 b.2)
  one_verdict table A m method line (wrong.Override k) (wrong.Override j) a b = ap (λ z. wrong.Override z) (a.0 ∙ sym b.0)
  one_verdict table A m method line (wrong.Override k) (wrong.Bound j) a b = absurd (a.3 b.3)
  one_verdict table A m method line (wrong.Bound k) (wrong.Shape j i) a b = absurd b
  one_verdict table A m method line (wrong.Bound k) wrong.Memory a b = absurd b
  one_verdict table A m method line (wrong.Bound k) wrong.Work a b = absurd b
  one_verdict table A m method line (wrong.Bound k) (wrong.Table j) a b = absurd (b.1 a.1)
  one_verdict table A m method line (wrong.Bound k) (wrong.Step j i) a b = absurd (stepped_no_fault table A method line i a.2 b.2)
  one_verdict table A m method line (wrong.Bound k) (wrong.Override j) a b = absurd (b.3 a.3)
  one_verdict table A m method line (wrong.Bound k) (wrong.Bound j) a b = ap (λ z. wrong.Bound z) (a.0 ∙ sym b.0)

  module _ (book : Book) where
    shapes_exclude : (m node : ℕ) → AreShaped P rel book → IsFirstMisshaped P rel book m node → ⊥
    shapes_exclude m node shaped bad = shaped_no_fault m node (slice_get P.methods m) (slice_get book.lines m) (shaped m) bad.fault

    one_misshaped : (m n j i : ℕ) → IsFirstMisshaped P rel book m n → IsFirstMisshaped P rel book j i → wrong.Shape m n ≡ wrong.Shape j i
    one_misshaped m n j i a b =
        let position : m ≡ j = tied m j (λ below. shaped_no_fault m n (slice_get P.methods m) (slice_get book.lines m) (b.before m below) a.fault)
        (λ below. shaped_no_fault j i (slice_get P.methods j) (slice_get book.lines j) (a.before j below) b.fault) in
        let node : n ≡ i = one_shape_fault j n i (slice_get P.methods j) (slice_get book.lines j) (subst (λ k. HasShapeFault k (slice_get P.methods k) (slice_get book.lines k) n) position a.fault) b.fault in
        λ x. wrong.Shape (position x) (node x)

    one_first : (m j : ℕ) (w v : Wrong) → IsFirstWrong P rel book m w → IsFirstWrong P rel book j v → w ≡ v
    one_first m j w v a b =
        let T = book.table in let A = book_assignment book in
        let position : m ≡ j = tied m j (λ below. good_no_verdict T A m a.method a.line w (b.before m a.method a.line below a.method_is a.line_is) a.verdict)
        (λ below. good_no_verdict T A j b.method b.line v (a.before j b.method b.line below b.method_is b.line_is) b.verdict) in
        let method : a.method ≡ b.method = same_Some a.method b.method (sym a.method_is ∙ ap (slice_get P.methods) position ∙ b.method_is) in
        let line : a.line ≡ b.line = same_Some a.line b.line (sym a.line_is ∙ ap (slice_get book.lines) position ∙ b.line_is) in
        one_verdict T A j b.method b.line w v
        (subst (λ k. IsLineVerdict P rel T A k b.method b.line (Some w)) position (subst (λ x. IsLineVerdict P rel T A m x b.line (Some w)) method
        (subst (λ l. IsLineVerdict P rel T A m a.method l (Some w)) line a.verdict))) b.verdict

    -- a book has one fault first
    pub one_wrong : (w v : Wrong) → (IsUnjudged w → ⊥) → (IsUnjudged v → ⊥) → IsWrongBook P rel book w → IsWrongBook P rel book v → w ≡ v
    one_wrong wrong.Memory v some other a b = absurd (some tt)
    one_wrong wrong.Work v some other a b = absurd (some tt)
    one_wrong (wrong.Shape m n) wrong.Memory some other a b = absurd (other tt)
    one_wrong (wrong.Shape m n) wrong.Work some other a b = absurd (other tt)
    one_wrong (wrong.Shape m n) (wrong.Shape j i) some other a b = one_misshaped m n j i a b
    one_wrong (wrong.Shape m n) (wrong.Table j) some other a b = absurd (shapes_exclude m n b.shaped a)
    one_wrong (wrong.Shape m n) (wrong.Step j i) some other a b = absurd (shapes_exclude m n b.shaped a)
    one_wrong (wrong.Shape m n) (wrong.Override j) some other a b = absurd (shapes_exclude m n b.shaped a)
    one_wrong (wrong.Shape m n) (wrong.Bound j) some other a b = absurd (shapes_exclude m n b.shaped a)
    one_wrong (wrong.Table m) wrong.Memory some other a b = absurd (other tt)
    one_wrong (wrong.Table m) wrong.Work some other a b = absurd (other tt)
    one_wrong (wrong.Table m) (wrong.Shape j i) some other a b = absurd (shapes_exclude j i a.shaped b)
    one_wrong (wrong.Table m) (wrong.Table j) some other a b = one_first m j (wrong.Table m) (wrong.Table j) a b
    one_wrong (wrong.Table m) (wrong.Step j i) some other a b = one_first m j (wrong.Table m) (wrong.Step j i) a b
    one_wrong (wrong.Table m) (wrong.Override j) some other a b = one_first m j (wrong.Table m) (wrong.Override j) a b
    one_wrong (wrong.Table m) (wrong.Bound j) some other a b = one_first m j (wrong.Table m) (wrong.Bound j) a b
    one_wrong (wrong.Step m n) wrong.Memory some other a b = absurd (other tt)
    one_wrong (wrong.Step m n) wrong.Work some other a b = absurd (other tt)
    one_wrong (wrong.Step m n) (wrong.Shape j i) some other a b = absurd (shapes_exclude j i a.shaped b)
    one_wrong (wrong.Step m n) (wrong.Table j) some other a b = one_first m j (wrong.Step m n) (wrong.Table j) a b
    one_wrong (wrong.Step m n) (wrong.Step j i) some other a b = one_first m j (wrong.Step m n) (wrong.Step j i) a b
    one_wrong (wrong.Step m n) (wrong.Override j) some other a b = one_first m j (wrong.Step m n) (wrong.Override j) a b
    one_wrong (wrong.Step m n) (wrong.Bound j) some other a b = one_first m j (wrong.Step m n) (wrong.Bound j) a b
    one_wrong (wrong.Override m) wrong.Memory some other a b = absurd (other tt)
    one_wrong (wrong.Override m) wrong.Work some other a b = absurd (other tt)
    one_wrong (wrong.Override m) (wrong.Shape j i) some other a b = absurd (shapes_exclude j i a.shaped b)
    one_wrong (wrong.Override m) (wrong.Table j) some other a b = one_first m j (wrong.Override m) (wrong.Table j) a b
    one_wrong (wrong.Override m) (wrong.Step j i) some other a b = one_first m j (wrong.Override m) (wrong.Step j i) a b
    one_wrong (wrong.Override m) (wrong.Override j) some other a b = one_first m j (wrong.Override m) (wrong.Override j) a b
    one_wrong (wrong.Override m) (wrong.Bound j) some other a b = one_first m j (wrong.Override m) (wrong.Bound j) a b
    one_wrong (wrong.Bound m) wrong.Memory some other a b = absurd (other tt)
    one_wrong (wrong.Bound m) wrong.Work some other a b = absurd (other tt)
    one_wrong (wrong.Bound m) (wrong.Shape j i) some other a b = absurd (shapes_exclude j i a.shaped b)
    one_wrong (wrong.Bound m) (wrong.Table j) some other a b = one_first m j (wrong.Bound m) (wrong.Table j) a b
    one_wrong (wrong.Bound m) (wrong.Step j i) some other a b = one_first m j (wrong.Bound m) (wrong.Step j i) a b
    one_wrong (wrong.Bound m) (wrong.Override j) some other a b = one_first m j (wrong.Bound m) (wrong.Override j) a b
    one_wrong (wrong.Bound m) (wrong.Bound j) some other a b = one_first m j (wrong.Bound m) (wrong.Bound j) a b

    good_shaped : IsGoodBook P rel book → AreShaped P rel book
    good_shaped good k = chosen (slice_get_cases P.methods k).1 (slice_get_cases book.lines k).1
      where
        chosen : ((x : Method) × (k < length P.methods) × (slice_get P.methods k ≡ Some x) × (get_or P.methods k x ≡ x)) ⊎ ((length P.methods ≤ k) × (slice_get P.methods k ≡ None)) →
            ((x : Line) × (k < length book.lines) × (slice_get book.lines k ≡ Some x) × (get_or book.lines k x ≡ x)) ⊎ ((length book.lines ≤ k) × (slice_get book.lines k ≡ None)) →
            IsShapedAt k (slice_get P.methods k) (slice_get book.lines k)
        chosen (inl m) (inl l) =
            subst (λ o. IsShapedAt k o (slice_get book.lines k)) (sym m.2) (subst (λ o. IsShapedAt k (Some m.0) o) (sym l.2) (good.shaped k m.0 l.0 m.2 l.2))
        chosen (inl m) (inr l) = absurd (omega (arith, m.1, l.0, good.count))
        chosen (inr m) (inl l) = absurd (omega (arith, m.0, l.1, good.count))
        chosen (inr m) (inr l) = subst (λ o. IsShapedAt k o (slice_get book.lines k)) (sym m.1) (subst (λ o. IsShapedAt k None o) (sym l.1) tt)

    good_first : (m : ℕ) (w : Wrong) → IsGoodBook P rel book → IsFirstWrong P rel book m w → ⊥
    good_first m w good f = good_no_verdict book.table (book_assignment book) m f.method f.line w (good.good m f.method f.line f.method_is f.line_is) f.verdict

    pub good_no_wrong : (w : Wrong) → (IsUnjudged w → ⊥) → IsGoodBook P rel book → IsWrongBook P rel book w → ⊥
    good_no_wrong (wrong.Shape m n) some good w = shapes_exclude m n (good_shaped good) w
    good_no_wrong (wrong.Table m) some good w = good_first m (wrong.Table m) good w
    good_no_wrong (wrong.Step m n) some good w = good_first m (wrong.Step m n) good w
    good_no_wrong (wrong.Override m) some good w = good_first m (wrong.Override m) good w
    good_no_wrong (wrong.Bound m) some good w = good_first m (wrong.Bound m) good w
    good_no_wrong wrong.Memory some good w = some tt
    good_no_wrong wrong.Work some good w = some tt
