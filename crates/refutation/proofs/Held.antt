-- Held paths: what is read of them, and one more of them.
use Rattle.std.proofs.Common.{◌≡◌, ℕ, zero, suc, ◌<◌, ◌≤◌, true, false, List, [], ◌∷◌, ◌++◌, length, length-append, codes, decimal, ◌^◌, Some, None, Ok, Err, refl, sym, ◌∙◌, ap, subst, arith, append_assoc, append-nil}
use Rattle.std.specs.Prelude.{Option, if◌then◌else◌}
use Rattle.std.specs.List.{AllByRecursion}
use Rattle.std.specs.List.Sorted.{IsStrictlySortedBy}
use Rattle.std.specs.declared.cmp.Ordering.TheVariants.{Less}
use Rattle.base.proofs.Options.{choice_same}
use Rattle.paths.specs.Paths.{PathData, path_order}
use Rattle.paths.proofs.PathOrder.{less_chain}
use Rattle.conditions.specs.Texts.{dotted, path_text}
use Rattle.books.specs.declared.stop.Kind.{Kind}
use Rattle.books.specs.declared.stop.Kind.TheVariants.{Form}
use Rattle.books.specs.Books.{IsPath, is_less, comes_after}
use Rattle.books.specs.Combine.{Res, ◌>>=◌, unread, begins, expect}
use Rattle.books.specs.Reading.{number_at, path_at}
use Rattle.books.specs.Views.{after_those}
use Rattle.books.proofs.BookLaws.{sound_ok}
use Rattle.books.proofs.Complete.{stops, stopping, complete_number, complete_fields}
use Rattle.books.proofs.Several.{next_same}
use Rattle.books.proofs.Sound.{SoundAt, Bytes, sound_seq, sound_done, sound_if, sound_weaker, sound_expect}
use Rattle.books.proofs.SoundTrees.{ReadsPath, sound_path}
use Rattle.books.proofs.TableLaws.{moved, less_is}
use Rattle.refutation.specs.Reading.{later_path, held_item, held_most, held_at}
use Rattle.refutation.specs.Texts.{held_text}

-- paths of which each comes after the one before it
abbrev pub Ascends : Option PathData → List PathData → Type 0
Ascends before [] = Unit {0}
Ascends before (p ∷ ps) = (comes_after before p ≡ true) × Ascends (Some p) ps

-- a path before the first of them is before all
after_all : (q : PathData) (ps : List PathData) → Ascends (Some q) ps → AllByRecursion (λ y. path_order q y ≡ Less) ps
after_all q [] a = tt
after_all q (p ∷ ps) a = (less_is (path_order q p) a.0, each_less p ps (less_is (path_order q p) a.0) (after_all p ps a.1))
  where
    each_less : (p : PathData) (ps : List PathData) → path_order q p ≡ Less → AllByRecursion (λ y. path_order p y ≡ Less) ps → AllByRecursion (λ y. path_order q y ≡ Less) ps
    each_less p [] e all = tt
    each_less p (x ∷ xs) e all = (less_chain q p x e all.0, each_less p xs e all.1)

pub ascends_sorted : (before : Option PathData) (ps : List PathData) → Ascends before ps → IsStrictlySortedBy path_order ps
unfolding IsStrictlySortedBy
ascends_sorted before [] a = tt
ascends_sorted before (p ∷ ps) a = (after_all p ps a.1, ascends_sorted (Some p) ps a.1)

sorted_ascends : (ps : List PathData) (before : Option PathData) → IsStrictlySortedBy path_order ps → ((p : PathData) (rest : List PathData) → ps ≡ p ∷ rest → comes_after before p ≡ true) → Ascends before ps
unfolding IsStrictlySortedBy
sorted_ascends [] before s first = tt
sorted_ascends (p ∷ ps) before s first = (first p ps refl, sorted_ascends ps (Some p) s.1 (next ps s.0))
  where
    next : (ps : List PathData) → AllByRecursion (λ y. path_order p y ≡ Less) ps → (q : PathData) (rest : List PathData) → ps ≡ q ∷ rest → comes_after (Some p) q ≡ true
    next [] all q rest e = absurd cc
    next (x ∷ xs) all q rest e = let same : x ≡ q = cc in ap is_less (subst (λ y. path_order p y ≡ Less) same all.0)

pub sorted_after_none : (ps : List PathData) → IsStrictlySortedBy path_order ps → Ascends None ps
sorted_after_none ps s = sorted_ascends ps None s (λ p rest e. refl)

-- a path that was read, which comes after another
pub record ReadsLater (before : Option PathData) (front : List ℕ) (p : PathData) : Type 0 where
  pub text : front ≡ path_text p
  pub path : IsPath p
  pub later : comes_after before p ≡ true

pub record ReadsItem (before : Option PathData) (front : List ℕ) (p : PathData) : Type 0 where
  pub text : front ≡ codes " " ++ path_text p
  pub path : IsPath p
  pub later : comes_after before p ≡ true

pub record ReadsHeld (before : Option PathData) (front : List ℕ) (ps : List PathData) : Type 0 where
  pub text : front ≡ held_text ps
  pub paths : AllByRecursion IsPath ps
  pub ascend : Ascends before ps

sound_later : (before : Option PathData) (ts : List ℕ) → SoundAt (ReadsLater before) ts (later_path before ts)
unfolding later_path
sound_later before ts = by (path_at ts) (sound_path ts)
  where
    by : (r : Res PathData) → SoundAt ReadsPath ts r → SoundAt (ReadsLater before) ts (r >>= λ p rest. if comes_after before p then Ok (p, rest) else Err (Form, ts))
    by (Ok y) s = elim (comes_after before y.0) as (λ b. comes_after before y.0 ≡ b → SoundAt (ReadsLater before) ts (if b then Ok (y.0, y.1) else Err (Form, ts))) [
      | true ↦ λ e. (s.0, s.1, record { text = s.2.0; path = s.2.1; later = e })
      | false ↦ λ e. ([], refl)
    ] refl
    by (Err e) s = s

pub sound_item : (before : Option PathData) (ts : List ℕ) → SoundAt (ReadsItem before) ts (held_item before ts)
sound_item before ts =
    sound_seq (Bytes (codes " ")) (ReadsItem before) ts (expect (codes " ") ts) (λ u ts. later_path before ts) (sound_expect (codes " ") ts)
    (λ u r. sound_weaker (ReadsLater before) (λ ys b. (xs : List ℕ) → Bytes (codes " ") xs u → ReadsItem before (xs ++ ys) b) r
    (λ ys p l xs e. record { text = λ i. e i ++ l.text i; path = l.path; later = l.later }) (later_path before r) (sound_later before r))

-- a path takes a byte
pub item_shorter : (before : Option PathData) (ts r : List ℕ) (p : PathData) → held_item before ts ≡ Ok (p, r) → length r < length ts
item_shorter before ts r p e =
    let s = sound_ok (ReadsItem before) ts p r (held_item before ts) (sound_item before ts) e in
    let some : 0 < length s.0 = subst (λ z. 0 < length z) (sym s.2.text) (omega arith) in
    omega (arith, ap length s.1, length-append s.0 r, some)

pub sound_most : (n : ℕ) (before : Option PathData) (ts : List ℕ) → SoundAt (ReadsHeld before) ts (held_most n before ts)
sound_most zero before ts = ([], refl, record { text = refl; paths = tt; ascend = tt })
sound_most (suc n) before ts =
    sound_if (ReadsHeld before) ts (begins 32 ts) (held_item before ts >>= λ p ts. held_most n (Some p) ts >>= λ ps ts. Ok (p ∷ ps, ts)) (Ok ([], ts))
    (λ h. sound_seq (ReadsItem before) (ReadsHeld before) ts (held_item before ts) (λ p ts. held_most n (Some p) ts >>= λ ps ts. Ok (p ∷ ps, ts)) (sound_item before ts)
    (λ p r. sound_seq (ReadsHeld (Some p)) (λ ys b. (xs : List ℕ) → ReadsItem before xs p → ReadsHeld before (xs ++ ys) b) r (held_most n (Some p) r) (λ ps ts. Ok (p ∷ ps, ts)) (sound_most n (Some p) r)
    (λ ps r. sound_done (λ zs b. (ys : List ℕ) → ReadsHeld (Some p) ys ps → (xs : List ℕ) → ReadsItem before xs p → ReadsHeld before (xs ++ (ys ++ zs)) b) (p ∷ ps) r
    (λ ys m xs l. record { text = λ i. l.text i ++ (append-nil ys ∙ m.text) i; paths = (l.path, m.paths); ascend = (l.later, m.ascend) }))))
    (λ h. ([], refl, record { text = refl; paths = tt; ascend = tt }))

pub sound_held : (before : Option PathData) (ts : List ℕ) → SoundAt (ReadsHeld before) ts (held_at before ts)
unfolding held_at
sound_held before ts = sound_most (length ts) before ts

fuel : (n m : ℕ) (before : Option PathData) (ts : List ℕ) → length ts ≤ n → length ts ≤ m → held_most n before ts ≡ held_most m before ts
fuel zero zero before ts h k = refl
fuel zero (suc m) before [] h k = refl
fuel zero (suc m) before (b ∷ ts) h k = absurd (omega (arith, h))
fuel (suc n) zero before [] h k = refl
fuel (suc n) zero before (b ∷ ts) h k = absurd (omega (arith, k))
fuel (suc n) (suc m) before ts h k =
    choice_same (begins 32 ts) (held_item before ts >>= λ p ts. held_most n (Some p) ts >>= λ ps ts. Ok (p ∷ ps, ts))
    (held_item before ts >>= λ p ts. held_most m (Some p) ts >>= λ ps ts. Ok (p ∷ ps, ts)) (Ok ([], ts))
    (λ go. next_same (λ p ts. held_most n (Some p) ts >>= λ ps ts. Ok (p ∷ ps, ts)) (λ p ts. held_most m (Some p) ts >>= λ ps ts. Ok (p ∷ ps, ts)) (held_item before ts)
    (λ p r is. let shorter = item_shorter before ts r p is in
    ap (λ q. q >>= λ ps ts. Ok (p ∷ ps, ts)) (fuel n m (Some p) r (omega (arith, h, shorter)) (omega (arith, k, shorter)))))

pub held_done : (before : Option PathData) (ts : List ℕ) → begins 32 ts ≡ false → held_at before ts ≡ Ok ([], ts)
unfolding held_at
held_done before [] e = refl
held_done before (b ∷ ts) e = rw e refl

pub held_fault : (before : Option PathData) (ts : List ℕ) (d : Kind × List ℕ) → begins 32 ts ≡ true → held_item before ts ≡ Err d → held_at before ts ≡ Err d
unfolding held_at
held_fault before [] d e is = absurd (let f : false ≡ true = e in cc)
held_fault before (b ∷ ts) d e is = λ i. if e i then (is i >>= λ p rest. held_most (length ts) (Some p) rest >>= λ ps rest. Ok (p ∷ ps, rest)) else Ok ([], b ∷ ts)

pub held_more : (before : Option PathData) (ts : List ℕ) (p : PathData) (r : List ℕ) → begins 32 ts ≡ true → held_item before ts ≡ Ok (p, r) → held_at before ts ≡ (held_at (Some p) r >>= λ ps ts. Ok (p ∷ ps, ts))
unfolding held_at
held_more before [] p r e is = absurd (let f : false ≡ true = e in cc)
held_more before (b ∷ ts) p r e is =
    let shorter = item_shorter before (b ∷ ts) r p is in
    let step : held_most (suc (length ts)) before (b ∷ ts) ≡ (held_most (length ts) (Some p) r >>= λ ps ts. Ok (p ∷ ps, ts)) =
    (λ i. if e i then (is i >>= λ p rest. held_most (length ts) (Some p) rest >>= λ ps rest. Ok (p ∷ ps, rest)) else Ok ([], b ∷ ts)) in
    step ∙ ap (λ q. q >>= λ ps ts. Ok (p ∷ ps, ts)) (fuel (length ts) (length r) (Some p) r (omega (arith, shorter)) (omega arith))

-- passing over them

unread_more : (p : PathData) (q : Res (List PathData)) → unread (q >>= λ ps ts. Ok (p ∷ ps, ts)) ≡ unread q
unread_more p (Ok y) = refl
unread_more p (Err e) = refl

pub skip_more : (all : Res (Unit {0})) (before : Option PathData) (ts : List ℕ) (p : PathData) (r : List ℕ) → all ≡ unread (held_at before ts) → begins 32 ts ≡ true → held_item before ts ≡ Ok (p, r) → all ≡ unread (held_at (Some p) r)
skip_more all before ts p r is e item = is ∙ ap unread (held_more before ts p r e item) ∙ unread_more p (held_at (Some p) r)

pub skip_done : (all : Res (Unit {0})) (before : Option PathData) (ts : List ℕ) → all ≡ unread (held_at before ts) → begins 32 ts ≡ false → all ≡ Ok (tt, ts)
skip_done all before ts is e = is ∙ ap unread (held_done before ts e)

pub skip_fault : (all : Res (Unit {0})) (before : Option PathData) (ts : List ℕ) (d : Kind × List ℕ) → all ≡ unread (held_at before ts) → begins 32 ts ≡ true → held_item before ts ≡ Err d → all ≡ Err d
skip_fault all before ts d is e item = is ∙ ap unread (held_fault before ts d e item)

-- building them

pub held_pushed : (all : Res (List PathData)) (before : Option PathData) (old new : List PathData) (ts : List ℕ) (p q : PathData) (r : List ℕ) → all ≡ after_those old (held_at before ts) → begins 32 ts ≡ true → held_item before ts ≡ Ok (p, r) → q ≡ p → new ≡ old ++ q ∷ []
    → all ≡ after_those new (held_at (Some p) r)
held_pushed all before old new ts p q r is e item same pushed =
    is ∙ ap (after_those old) (held_more before ts p r e item) ∙ moved old p (held_at (Some p) r)
    ∙ ap (λ z. after_those z (held_at (Some p) r)) (sym (pushed ∙ ap (λ x. old ++ x ∷ []) same))

pub held_built : (all : Res (List PathData)) (before : Option PathData) (so_far : List PathData) (ts : List ℕ) → all ≡ after_those so_far (held_at before ts) → begins 32 ts ≡ false → all ≡ Ok (so_far, ts)
held_built all before so_far ts is e = is ∙ ap (after_those so_far) (held_done before ts e) ∙ ap (λ z. Ok (z, ts)) (append-nil so_far)

pub held_started : (all : Res (List PathData)) → all ≡ after_those [] all
held_started (Ok y) = refl
held_started (Err e) = refl

-- their text is read

pub complete_path : (p : PathData) (more : List ℕ) → IsPath p → stops more ≡ true → begins 46 more ≡ false → path_at (path_text p ++ more) ≡ Ok (p, more)
unfolding path_at
complete_path p more is stop next =
    let group : path_text p ++ more ≡ decimal p.root ++ (dotted p.fields ++ more) = append_assoc (decimal p.root) (dotted p.fields) more in
    let number : number_at (2 ^ 16) (path_text p ++ more) ≡ Ok (p.root, dotted p.fields ++ more) =
    ap (number_at (2 ^ 16)) group ∙ complete_number (2 ^ 16) p.root (dotted p.fields ++ more) is.root (omega arith) (stopping p.fields more stop) in
    rw (number, complete_fields p.fields more is.fields stop next 2 is.few) refl

pub complete_later : (before : Option PathData) (p : PathData) (more : List ℕ) → IsPath p → comes_after before p ≡ true → stops more ≡ true → begins 46 more ≡ false → later_path before (path_text p ++ more) ≡ Ok (p, more)
unfolding later_path
complete_later before p more is later stop next = rw (complete_path p more is stop next, later) refl

-- nothing that goes on with a path follows held paths, where none follows their end
pub held_stops : (ps : List PathData) (more : List ℕ) → stops more ≡ true → stops (held_text ps ++ more) ≡ true
held_stops [] more e = e
held_stops (p ∷ ps) more e = refl

pub held_ends : (ps : List PathData) (more : List ℕ) → begins 46 more ≡ false → begins 46 (held_text ps ++ more) ≡ false
held_ends [] more e = e
held_ends (p ∷ ps) more e = refl

pub complete_held : (ps : List PathData) (before : Option PathData) (more : List ℕ) → AllByRecursion IsPath ps → Ascends before ps → stops more ≡ true → begins 46 more ≡ false → begins 32 more ≡ false → held_at before (held_text ps ++ more) ≡ Ok (ps, more)
complete_held [] before more paths ascend stop next done = held_done before more done
complete_held (p ∷ ps) before more paths ascend stop next done =
    let rest = held_text ps ++ more in
    let group : held_text (p ∷ ps) ++ more ≡ 32 ∷ (path_text p ++ rest) = ap (λ z. 32 ∷ z) (append_assoc (path_text p) (held_text ps) more) in
    let item : held_item before (32 ∷ (path_text p ++ rest)) ≡ Ok (p, rest) = complete_later before p rest paths.0 ascend.0 (held_stops ps more stop) (held_ends ps more next) in
    ap (held_at before) group ∙ held_more before (32 ∷ (path_text p ++ rest)) p rest refl item
    ∙ ap (λ q. q >>= λ xs ts. Ok (p ∷ xs, ts)) (complete_held ps (Some p) more paths.1 ascend.1 stop next done)
