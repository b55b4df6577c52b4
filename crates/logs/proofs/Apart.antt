-- Two neighbouring turns of different threads: what each finds and leaves is the same in the other order.
use Rattle.std.proofs.Common.{◌≡◌, ◌≢◌, ℕ, ◌==◌, Bool, true, false, ◌⊎◌, inl, inr, refl, sym, ap, subst, ◌∙◌, Some, None}
use Rattle.std.specs.Prelude.{if◌then◌else◌}
use Rattle.std.proofs.lemmas.Bool.{eqb-true}
use Rattle.state.specs.declared.value.StepKind.{StepKind}
use Rattle.state.specs.declared.value.StepKind.TheVariants.{Both, Right, Left, Other, Bare}
use Rattle.semantics.specs.Words.{moves_right, moves_left}
use Rattle.logs.specs.Events.{Event, Take, Give, Access, Start, Join, Stop, Begin, End}
use Rattle.logs.specs.Logs.{Guard, ByLock, ByThread, Unguarded, holds_in_log, guarded_access_kind, kind_at, was_there}
use Rattle.logs.specs.Memory.{LogHold, Absent, Present, Ended, SharedCell, AtLock, AtPlace, AtThread, Content, Lock, Value, Thread, eq_cell, Cells, content_put}
use Rattle.logs.specs.Turns.{cell_of, Turn}
use Rattle.logs.proofs.Cells.{same_cell, itself, not_true, put_here, put_there, put_put}
use Rattle.logs.proofs.Sorts.{Gripped, Sort, of_lock, of_place, of_start, of_join, of_own}

-- by their kinds the two may change places: the first moves right, or the second moves left and its thread was there
abbrev pub MayPass : StepKind → StepKind → Content → Type 0
MayPass k l there = ((moves_right k ≡ true) × (l ≢ Bare)) ⊎ ((moves_left l ≡ true) × (k ≢ Bare) × (was_there there ≡ true))

-- a Left step isn't passed by a Right one, and an Other one by no Other
left_right : {k l : StepKind} (c : Content) → k ≡ Left → l ≡ Right → MayPass k l c → ⊥
left_right {k} {l} c is at (inl p) = let e : false ≡ true = ap moves_right (sym is) ∙ p.0 in absurd cc
left_right {k} {l} c is at (inr p) = let e : false ≡ true = ap moves_left (sym at) ∙ p.0 in absurd cc

other_other : {k l : StepKind} (c : Content) → k ≡ Other → l ≡ Other → MayPass k l c → ⊥
other_other {k} {l} c is at (inl p) = let e : false ≡ true = ap moves_right (sym is) ∙ p.0 in absurd cc
other_other {k} {l} c is at (inr p) = let e : false ≡ true = ap moves_left (sym at) ∙ p.0 in absurd cc

-- a lock that a turn of thread u finds or leaves is held by no other
gripped_not_held : (t u : ℕ) → t ≢ u → (free k : StepKind) (c : Content) → Gripped u free k c → holds_in_log t c ≡ false
gripped_not_held t u other free k c (inl p) = ap (holds_in_log t) p.0
gripped_not_held t u other free k c (inr p) = ap (holds_in_log t) p.1 ∙ not_true (p.0.by == t) (λ e. absurd (other (sym (eqb-true p.0.by t e) ∙ p.2)))

module _ (t u : ℕ) (other : t ≢ u) where
  -- a turn of thread u leaves what t holds
  holds_sort : (kind l : StepKind) (c d : Content) (cell : SharedCell) (g : ℕ) → cell ≡ AtLock g → Sort u kind l c d cell → holds_in_log t d ≡ holds_in_log t c
  holds_sort kind l c d (AtLock m) g is (of_lock before after) = gripped_not_held t u other Left l d after ∙ sym (gripped_not_held t u other Right l c before)
  holds_sort kind l c d (AtPlace p) g is (of_place k) = absurd cc
  holds_sort kind l c d (AtThread v) g is (of_start a b k) = absurd cc
  holds_sort kind l c d (AtThread v) g is (of_join a b k) = absurd cc
  holds_sort kind l c d _ g is (of_own a b) = absurd cc

  pub holds_kept : (kind l : StepKind) (d : Content) (cell : SharedCell) (cells : Cells) (g : ℕ) → Sort u kind l (cells cell) d cell → holds_in_log t (content_put cell d cells (AtLock g)) ≡ holds_in_log t (cells (AtLock g))
  holds_kept kind l d cell cells g sort = by (eq_cell cell (AtLock g)) refl
    where
      by : (b : Bool) → eq_cell cell (AtLock g) ≡ b → holds_in_log t (if b then d else cells (AtLock g)) ≡ holds_in_log t (cells (AtLock g))
      by true e = let at = same_cell cell (AtLock g) e in holds_sort kind l (cells cell) d cell g at sort ∙ ap (λ x. holds_in_log t (cells x)) at
      by false e = refl

  -- so an access of t is of the same kind before and after it
  access_kept : (kind l : StepKind) (d : Content) (cell : SharedCell) (cells : Cells) (g : Guard) → Sort u kind l (cells cell) d cell → guarded_access_kind g (content_put cell d cells) t ≡ guarded_access_kind g cells t
  access_kept kind l d cell cells (ByLock g) sort = ap (λ (b : Bool). if b then Both else Bare) (holds_kept kind l d cell cells g sort)
  access_kept kind l d cell cells (ByThread v) sort = refl
  access_kept kind l d cell cells Unguarded sort = refl

  pub kind_kept : (guard : ℕ → Guard) (kind l : StepKind) (d : Content) (cell : SharedCell) (cells : Cells) → Sort u kind l (cells cell) d cell → (e : Event) → kind_at guard (content_put cell d cells) t e ≡ kind_at guard cells t e
  kind_kept guard kind l d cell cells sort (Take m) = refl
  kind_kept guard kind l d cell cells sort (Give m) = refl
  kind_kept guard kind l d cell cells sort (Access p seen left) = access_kept kind l d cell cells (guard p) sort
  kind_kept guard kind l d cell cells sort (Start v) = refl
  kind_kept guard kind l d cell cells sort (Join v) = refl
  kind_kept guard kind l d cell cells sort Stop = refl
  kind_kept guard kind l d cell cells sort (Begin name) = refl
  kind_kept guard kind l d cell cells sort End = refl

  -- no turn of thread u is at the cell of t, where that is there
  present_sort : (kind l : StepKind) (c d : Content) (cell : SharedCell) → cell ≡ AtThread t → c ≡ Thread Present → Sort u kind l c d cell → ⊥
  present_sort kind l c d (AtLock m) is at (of_lock before after) = absurd cc
  present_sort kind l c d (AtPlace p) is at (of_place k) = absurd cc
  present_sort kind l c d (AtThread v) is at (of_start a b k) = let e : Thread Absent ≡ Thread Present = sym a ∙ at in absurd cc
  present_sort kind l c d (AtThread v) is at (of_join a b k) = let e : Thread Ended ≡ Thread Present = sym a ∙ at in absurd cc
  present_sort kind l c d _ is at (of_own a b) = let e : u ≡ t = cc in other (sym e)

  pub present_kept : (kind l : StepKind) (d : Content) (cell : SharedCell) (cells : Cells) → Sort u kind l (cells cell) d cell → cells (AtThread t) ≡ Thread Present → content_put cell d cells (AtThread t) ≡ Thread Present
  present_kept kind l d cell cells sort at = put_there cell (AtThread t) d cells (λ e. absurd (present_sort kind l (cells cell) d cell e (ap cells e ∙ at) sort)) ∙ at

  -- a thread that steps next was there before, unless it was started in between
  before_sort : (kind k l : StepKind) (c d : Content) (cell : SharedCell) → cell ≡ AtThread u → d ≡ Thread Present → MayPass k l c → Sort t kind k c d cell → ⊥
  before_sort kind k l c d (AtLock m) is at p (of_lock before after) = absurd cc
  before_sort kind k l c d (AtPlace m) is at p (of_place z) = absurd cc
  before_sort kind k l c d (AtThread v) is at (inl p) (of_start a b z) = let e : false ≡ true = ap moves_right (sym z) ∙ p.0 in absurd cc
  before_sort kind k l c d (AtThread v) is at (inr p) (of_start a b z) = let e : false ≡ true = ap was_there (sym a) ∙ p.2 in absurd cc
  before_sort kind k l c d (AtThread v) is at p (of_join a b z) = let e : Thread Ended ≡ Thread Present = sym b ∙ at in absurd cc
  before_sort kind k l c d _ is at p (of_own a b) = let e : t ≡ u = cc in other e

  pub present_before : (kind k l : StepKind) (d : Content) (cell : SharedCell) (cells : Cells) → Sort t kind k (cells cell) d cell → MayPass k l (cells (AtThread u)) → content_put cell d cells (AtThread u) ≡ Thread Present → cells (AtThread u) ≡ Thread Present
  present_before kind k l d cell cells sort p at =
      sym (put_there cell (AtThread u) d cells (λ e. absurd (before_sort kind k l (cells cell) d cell e (here e ∙ at) (subst (λ x. MayPass k l (cells x)) (sym e) p) sort))) ∙ at
    where
      here : cell ≡ AtThread u → d ≡ content_put cell d cells (AtThread u)
      here e = sym (put_here cell d cells) ∙ ap (content_put cell d cells) e

  -- Two turns at one cell.

  -- both leave it as it is
  abbrev pub Idle : Content → Content → Content → Type 0
  Idle c x y = (x ≡ c) × (y ≡ c)

  locks_clash : {k l : StepKind} (x there : Content) → Gripped t Left k x → Gripped u Right l x → MayPass k l there → ⊥
  locks_clash x there (inl a) (inl b) p = left_right there a.1 b.1 p
  locks_clash x there (inl a) (inr b) p = let e : Lock None ≡ Lock (Some b.0) = sym a.0 ∙ b.1 in absurd cc
  locks_clash x there (inr a) (inl b) p = let e : Lock (Some a.0) ≡ Lock None = sym a.1 ∙ b.0 in absurd cc
  locks_clash x there (inr a) (inr b) p = let e : Lock (Some a.0) ≡ Lock (Some b.0) = sym a.1 ∙ b.1 in let same : a.0 ≡ b.0 = cc in other (sym a.2 ∙ ap (λ (h : LogHold). h.by) same ∙ b.2)

  -- two accesses of one place
  guards_clash : (g : Guard) (cells : Cells) {k l : StepKind} (there : Content) → k ≡ guarded_access_kind g cells t → l ≡ guarded_access_kind g cells u → MayPass k l there → ⊥
  guards_clash Unguarded cells there a b p = other_other there a b p
  guards_clash (ByThread v) cells {k} {l} there a b p = by (v == t) refl (v == u) refl p
    where
      by : (x : Bool) → (v == t) ≡ x → (y : Bool) → (v == u) ≡ y → MayPass k l there → ⊥
      by true ex true ey q = other (sym (eqb-true v t ex) ∙ eqb-true v u ey)
      by true ex false ey (inl q) = q.1 (b ∙ ap (λ (z : Bool). if z then Both else Bare) ey)
      by true ex false ey (inr q) = let e : false ≡ true = ap moves_left (sym (b ∙ ap (λ (z : Bool). if z then Both else Bare) ey)) ∙ q.0 in absurd cc
      by false ex y ey (inl q) = let e : false ≡ true = ap moves_right (sym (a ∙ ap (λ (z : Bool). if z then Both else Bare) ex)) ∙ q.0 in absurd cc
      by false ex y ey (inr q) = q.1 (a ∙ ap (λ (z : Bool). if z then Both else Bare) ex)
  guards_clash (ByLock m) cells {k} {l} there a b p = by (holds_in_log t (cells (AtLock m))) refl (holds_in_log u (cells (AtLock m))) refl p
    where
      one : (c : Content) → holds_in_log t c ≡ true → holds_in_log u c ≡ true → ⊥
      one (Lock None) h i = absurd cc
      one (Lock (Some x)) h i = other (sym (eqb-true x.by t h) ∙ eqb-true x.by u i)
      one (Value v) h i = absurd cc
      one (Thread v) h i = absurd cc

      by : (x : Bool) → holds_in_log t (cells (AtLock m)) ≡ x → (y : Bool) → holds_in_log u (cells (AtLock m)) ≡ y → MayPass k l there → ⊥
      by true ex true ey q = one (cells (AtLock m)) ex ey
      by true ex false ey (inl q) = q.1 (b ∙ ap (λ (z : Bool). if z then Both else Bare) ey)
      by true ex false ey (inr q) = let e : false ≡ true = ap moves_left (sym (b ∙ ap (λ (z : Bool). if z then Both else Bare) ey)) ∙ q.0 in absurd cc
      by false ex y ey (inl q) = let e : false ≡ true = ap moves_right (sym (a ∙ ap (λ (z : Bool). if z then Both else Bare) ex)) ∙ q.0 in absurd cc
      by false ex y ey (inr q) = q.1 (a ∙ ap (λ (z : Bool). if z then Both else Bare) ex)

-- the kind of an access is that of its place
pub kind_place : (guard : ℕ → Guard) (cells : Cells) (t : ℕ) (e : Event) (p : ℕ) → cell_of t e ≡ AtPlace p → kind_at guard cells t e ≡ guarded_access_kind (guard p) cells t
kind_place guard cells t (Take l) p at = absurd cc
kind_place guard cells t (Give l) p at = absurd cc
kind_place guard cells t (Access q seen left) p at = let same : q ≡ p = cc in ap (λ x. guarded_access_kind (guard x) cells t) same
kind_place guard cells t (Start u) p at = absurd cc
kind_place guard cells t (Join u) p at = absurd cc
kind_place guard cells t Stop p at = absurd cc
kind_place guard cells t (Begin name) p at = absurd cc
kind_place guard cells t End p at = absurd cc

-- two turns at one cell leave it as it is, or can't change places
module _ (t u : ℕ) (other : t ≢ u) (guard : ℕ → Guard) (cells : Cells) where
  -- by what the first makes of the cell
  clash : (k1 k2 k l : StepKind) (c x y there : Content) (a b : SharedCell) → a ≡ b → MayPass k l there → (a ≡ AtThread u → there ≡ c)
      → ((p : ℕ) → a ≡ AtPlace p → k1 ≡ guarded_access_kind (guard p) cells t) → ((p : ℕ) → b ≡ AtPlace p → k2 ≡ guarded_access_kind (guard p) cells u)
      → Sort t k1 k c x a → Sort u k2 l x y b → Idle t u other c x y
  clash k1 k2 k l c x y there (AtLock m) (AtLock n) same p is one two (of_lock a b) (of_lock d e) = absurd (locks_clash t u other x there b d p)
  clash k1 k2 k l c x y there (AtLock m) (AtPlace n) same p is one two (of_lock a b) (of_place d) = absurd cc
  clash k1 k2 k l c x y there (AtLock m) (AtThread n) same p is one two (of_lock a b) (of_start d e f) = absurd cc
  clash k1 k2 k l c x y there (AtLock m) (AtThread n) same p is one two (of_lock a b) (of_join d e f) = absurd cc
  clash k1 k2 k l c x y there (AtLock m) _ same p is one two (of_lock a b) (of_own d e) = absurd cc
  clash k1 k2 k l c x y there (AtPlace m) (AtLock n) same p is one two (of_place a) (of_lock d e) = absurd cc
  clash k1 k2 k l c x y there (AtPlace m) (AtPlace n) same p is one two (of_place a) (of_place d) = absurd (guards_clash t u other (guard m) cells there (a ∙ one m refl) (d ∙ two m (sym same)) p)
  clash k1 k2 k l c x y there (AtPlace m) (AtThread n) same p is one two (of_place a) (of_start d e f) = absurd cc
  clash k1 k2 k l c x y there (AtPlace m) (AtThread n) same p is one two (of_place a) (of_join d e f) = absurd cc
  clash k1 k2 k l c x y there (AtPlace m) _ same p is one two (of_place a) (of_own d e) = absurd cc
  clash k1 k2 k l c x y there (AtThread m) (AtLock n) same p is one two (of_start a b z) (of_lock d e) = absurd cc
  clash k1 k2 k l c x y there (AtThread m) (AtPlace n) same p is one two (of_start a b z) (of_place d) = absurd cc
  clash k1 k2 k l c x y there (AtThread m) (AtThread n) same p is one two (of_start a b z) (of_start d e f) = let h : Thread Present ≡ Thread Absent = sym b ∙ d in absurd cc
  clash k1 k2 k l c x y there (AtThread m) (AtThread n) same p is one two (of_start a b z) (of_join d e f) = let h : Thread Present ≡ Thread Ended = sym b ∙ d in absurd cc
  clash k1 k2 k l c x y there (AtThread m) _ same (inl p) is one two (of_start a b z) (of_own d e) = let h : false ≡ true = ap moves_right (sym z) ∙ p.0 in absurd cc
  clash k1 k2 k l c x y there (AtThread m) _ same (inr p) is one two (of_start a b z) (of_own d e) = let h : false ≡ true = ap was_there (sym (is same ∙ a)) ∙ p.2 in absurd cc
  clash k1 k2 k l c x y there (AtThread m) (AtLock n) same p is one two (of_join a b z) (of_lock d e) = absurd cc
  clash k1 k2 k l c x y there (AtThread m) (AtPlace n) same p is one two (of_join a b z) (of_place d) = absurd cc
  clash k1 k2 k l c x y there (AtThread m) (AtThread n) same p is one two (of_join a b z) (of_start d e f) = let h : Thread Ended ≡ Thread Absent = sym b ∙ d in absurd cc
  clash k1 k2 k l c x y there (AtThread m) (AtThread n) same p is one two (of_join a b z) (of_join d e f) = (b ∙ sym a, e ∙ sym a)
  clash k1 k2 k l c x y there (AtThread m) _ same p is one two (of_join a b z) (of_own d e) = let h : Thread Ended ≡ Thread Present = sym b ∙ d in absurd cc
  clash k1 k2 k l c x y there _ (AtLock n) same p is one two (of_own a b) (of_lock d e) = absurd cc
  clash k1 k2 k l c x y there _ (AtPlace n) same p is one two (of_own a b) (of_place d) = absurd cc
  clash k1 k2 k l c x y there _ (AtThread n) same p is one two (of_own a (inl b)) (of_start d e f) = let h : Thread Present ≡ Thread Absent = sym b ∙ d in absurd cc
  clash k1 k2 k l c x y there _ (AtThread n) same p is one two (of_own a (inr b)) (of_start d e f) = let h : Thread Ended ≡ Thread Absent = sym b.0 ∙ d in absurd cc
  clash k1 k2 k l c x y there _ (AtThread n) same p is one two (of_own a (inl b)) (of_join d e f) = let h : Thread Present ≡ Thread Ended = sym b ∙ d in absurd cc
  clash k1 k2 k l c x y there _ (AtThread n) same p is one two (of_own a (inr b)) (of_join d e f) = absurd (left_right there b.1 f p)
  clash k1 k2 k l c x y there _ _ same p is one two (of_own a b) (of_own d e) = absurd (let h : t ≡ u = cc in other h)

-- what two turns find and leave is the same in the other order
pub record Apart (a b : SharedCell) (x y : Content) (cells : Cells) : Type 0 where
  pub second : content_put a x cells b ≡ cells b
  pub first : content_put b y cells a ≡ cells a
  pub both : (cell : SharedCell) → content_put a x (content_put b y cells) cell ≡ content_put b y (content_put a x cells) cell

apart_cells : (a b : SharedCell) (x y : Content) (cells : Cells) → a ≢ b → Apart a b x y cells
apart_cells a b x y cells other = record {
  second = put_there a b x cells other;
  first = put_there b a y cells (λ e. absurd (other (sym e)));
  both = put_put a b x y cells other;
}

idle_cell : (a b : SharedCell) (x y : Content) (cells : Cells) → a ≡ b → x ≡ cells a → y ≡ cells a → Apart a b x y cells
idle_cell a b x y cells same one two = record {
  second = ap (content_put a x cells) (sym same) ∙ put_here a x cells ∙ one ∙ ap cells same;
  first = ap (content_put b y cells) same ∙ put_here b y cells ∙ two;
  both = λ cell. λ i. content_put (same i) ((one ∙ sym two) i) (content_put (sym same i) ((two ∙ sym one) i) cells) cell;
}

pub apart : (t u : ℕ) → t ≢ u → (guard : ℕ → Guard) (cells : Cells) (e f : Event) (x y : Turn) → MayPass x.kind y.kind (cells (AtThread u))
    → Sort t (kind_at guard cells t e) x.kind (cells (cell_of t e)) x.content (cell_of t e)
    → Sort u (kind_at guard (content_put (cell_of t e) x.content cells) u f) y.kind (content_put (cell_of t e) x.content cells (cell_of u f)) y.content (cell_of u f)
    → Apart (cell_of t e) (cell_of u f) x.content y.content cells
apart t u other guard cells e f x y p sort_e sort_f = by (eq_cell (cell_of t e) (cell_of u f)) refl
  where
    by : (b : Bool) → eq_cell (cell_of t e) (cell_of u f) ≡ b → Apart (cell_of t e) (cell_of u f) x.content y.content cells
    by false is = apart_cells (cell_of t e) (cell_of u f) x.content y.content cells (λ same. absurd (let h : true ≡ false = sym (itself (cell_of t e)) ∙ ap (eq_cell (cell_of t e)) same ∙ is in cc))
    by true is =
        let same = same_cell (cell_of t e) (cell_of u f) is in
        let found : content_put (cell_of t e) x.content cells (cell_of u f) ≡ x.content = ap (content_put (cell_of t e) x.content cells) (sym same) ∙ put_here (cell_of t e) x.content cells in
        let idle = clash t u other guard cells (kind_at guard cells t e) (kind_at guard (content_put (cell_of t e) x.content cells) u f) x.kind y.kind (cells (cell_of t e)) x.content y.content (cells (AtThread u)) (cell_of t e) (cell_of u f) same p
        (λ at. ap cells (sym at))
        (λ n at. kind_place guard cells t e n at)
        (λ n at. kind_kept u t (λ z. absurd (other (sym z))) guard (kind_at guard cells t e) x.kind x.content (cell_of t e) cells sort_e f ∙ kind_place guard cells u f n at)
        sort_e (subst (λ z. Sort u (kind_at guard (content_put (cell_of t e) x.content cells) u f) y.kind z y.content (cell_of u f)) found sort_f) in
        idle_cell (cell_of t e) (cell_of u f) x.content y.content cells same idle.0 idle.1
