-- The kinds of a log's steps mean what they say, for any guess of the guards.
use Rattle.std.proofs.Common.{◌≡◌, ◌≢◌, ℕ, Bool, true, false, inl, inr, List, [], ◌∷◌, refl, sym, ap, subst, ◌∙◌, Some, None}
use Rattle.std.specs.Prelude.{Option, if◌then◌else◌}
use Rattle.std.proofs.lemmas.Option.{same_Some}
use Rattle.state.specs.declared.value.StepKind.{StepKind}
use Rattle.reduction.specs.Systems.{StepTo, Steps}
use Rattle.reduction.specs.Movers.{Swaps, HasMovers}
use Rattle.logs.specs.Events.{Event}
use Rattle.logs.specs.Logs.{Guard, kind_at, moved_to, turned, first_step, step_at, was_there, logs}
use Rattle.logs.specs.Memory.{Absent, Present, Ended, SharedCell, AtLock, AtPlace, AtThread, Content, Lock, Value, Thread, eq_cell, Cells, content_put, Own, LogMemory}
use Rattle.logs.specs.Turns.{cell_of, Turn, turn_by_content, blocks_after}
use Rattle.logs.proofs.Cells.{same_cell, own_other, own_own}
use Rattle.logs.proofs.Sorts.{Sort, of_lock, of_place, of_start, of_join, of_own, sorted}
use Rattle.logs.proofs.Apart.{MayPass, kind_kept, present_kept, present_before, apart}

-- a step of a thread: its event, and what comes of it
pub record Did (guard : ℕ → Guard) (q : LogMemory) (t : ℕ) (k : StepKind) (r : LogMemory) : Type 0 where
  pub event : Event
  pub rest : List Event
  pub depth : ℕ
  pub turn_is : Turn
  pub present : q.cells (AtThread t) ≡ Thread Present
  pub log : (q.own t).rest ≡ event ∷ rest
  pub deep : blocks_after event (q.own t).depth ≡ Some depth
  pub turns : turn_by_content (kind_at guard q.cells t event) event t (q.cells (cell_of t event)) ≡ Some turn_is
  pub kind : turn_is.kind ≡ k
  pub to : moved_to q t event turn_is.content (record { depth = depth; rest = rest }) ≡ r

module _ (guard : ℕ → Guard) where
  pub did : (q : LogMemory) (t : ℕ) (k : StepKind) (r : LogMemory) → Steps (logs guard) q t k r → Did guard q t k r
  did q t k r steps = by (q.cells (AtThread t)) refl steps
    where
      one : (e : Event) (es : List Event) → q.cells (AtThread t) ≡ Thread Present → (q.own t).rest ≡ e ∷ es
          → (d : Option ℕ) → blocks_after e (q.own t).depth ≡ d → (x : Option Turn) → turn_by_content (kind_at guard q.cells t e) e t (q.cells (cell_of t e)) ≡ x
          → turned q t e es d x ≡ Some (record { kind = k; to = r }) → Did guard q t k r
      one e es there at None deep x is h = absurd cc
      one e es there at (Some d) deep None is h = absurd cc
      one e es there at (Some d) deep (Some x) is h =
          let same : record { kind = x.kind; to = moved_to q t e x.content (record { depth = d; rest = es }) } ≡ record { kind = k; to = r } = same_Some _ _ h in
          record { event = e; rest = es; depth = d; turn_is = x; present = there; log = at; deep = deep; turns = is; kind = ap (λ (z : StepTo LogMemory). z.kind) same; to = ap (λ (z : StepTo LogMemory). z.to) same }

      rests : (es : List Event) → q.cells (AtThread t) ≡ Thread Present → (q.own t).rest ≡ es → first_step guard q t es ≡ Some (record { kind = k; to = r }) → Did guard q t k r
      rests [] there at h = absurd cc
      rests (e ∷ es) there at h = one e es there at (blocks_after e (q.own t).depth) refl (turn_by_content (kind_at guard q.cells t e) e t (q.cells (cell_of t e))) refl h

      by : (c : Content) → q.cells (AtThread t) ≡ c → step_at guard q t c (q.own t).rest ≡ Some (record { kind = k; to = r }) → Did guard q t k r
      by (Lock o) at h = absurd cc
      by (Value v) at h = absurd cc
      by (Thread Absent) at h = absurd cc
      by (Thread Present) at h = rests (q.own t).rest at refl h
      by (Thread Ended) at h = absurd cc

  step_of : (q : LogMemory) (t : ℕ) (k : StepKind) (r : LogMemory) → Did guard q t k r → Steps (logs guard) q t k r
  step_of q t k r m =
      ap (λ c. step_at guard q t c (q.own t).rest) m.present ∙ ap (first_step guard q t) m.log
      ∙ (λ i. turned q t m.event m.rest (m.deep i) (m.turns i)) ∙ (λ i. Some (record { kind = m.kind i; to = m.to i }))

  swapped : (q mid r : LogMemory) (t u : ℕ) (k l : StepKind) → t ≢ u → (m : Did guard q t k mid) → Did guard (moved_to q t m.event m.turn_is.content (record { depth = m.depth; rest = m.rest })) u l r
      → MayPass k l (q.cells (AtThread u)) → Swaps (logs guard) q t k u l r
  swapped q mid r t u k l other m n pass =
      let s : Cells = q.cells in
      let back : u ≢ t = λ e. absurd (other (sym e)) in
      let may : MayPass m.turn_is.kind n.turn_is.kind (s (AtThread u)) = subst (λ z. MayPass z n.turn_is.kind (s (AtThread u))) (sym m.kind) (subst (λ z. MayPass k z (s (AtThread u))) (sym n.kind) pass) in
      let here = sorted t (kind_at guard s t m.event) m.event (s (cell_of t m.event)) m.turn_is m.turns in
      let s1 : Cells = content_put (cell_of t m.event) m.turn_is.content s in
      let next = sorted u (kind_at guard s1 u n.event) n.event (s1 (cell_of u n.event)) n.turn_is n.turns in
      let a = apart t u other guard s m.event n.event m.turn_is n.turn_is may here next in
      let kind_u = kind_kept u t back guard (kind_at guard s t m.event) m.turn_is.kind m.turn_is.content (cell_of t m.event) s here n.event in
      let turns_u : turn_by_content (kind_at guard s u n.event) n.event u (s (cell_of u n.event)) ≡ Some n.turn_is = (λ i. turn_by_content (sym kind_u i) n.event u (sym a.second i)) ∙ n.turns in
      let first = sorted u (kind_at guard s u n.event) n.event (s (cell_of u n.event)) n.turn_is turns_u in
      let s2 : Cells = content_put (cell_of u n.event) n.turn_is.content s in
      let kind_t = kind_kept t u other guard (kind_at guard s u n.event) n.turn_is.kind n.turn_is.content (cell_of u n.event) s first m.event in
      let own_u = own_other t u (record { depth = m.depth; rest = m.rest }) q.own other in
      let own_t = own_other u t (record { depth = n.depth; rest = n.rest }) q.own back in
      let between : LogMemory = moved_to q u n.event n.turn_is.content (record { depth = n.depth; rest = n.rest }) in
      record {
        between = between;
        before = step_of q u l between (record {
          event = n.event;
          rest = n.rest;
          depth = n.depth;
          turn_is = n.turn_is;
          present = present_before t u other (kind_at guard s t m.event) m.turn_is.kind n.turn_is.kind m.turn_is.content (cell_of t m.event) s here may n.present;
          log = ap (λ (o : Own). o.rest) (sym own_u) ∙ n.log;
          deep = ap (λ (o : Own). blocks_after n.event o.depth) (sym own_u) ∙ n.deep;
          turns = turns_u;
          kind = n.kind;
          to = refl;
        });
        later = step_of between t k r (record {
          event = m.event;
          rest = m.rest;
          depth = m.depth;
          turn_is = m.turn_is;
          present = present_kept t u other (kind_at guard s u n.event) n.turn_is.kind n.turn_is.content (cell_of u n.event) s first m.present;
          log = ap (λ (o : Own). o.rest) own_t ∙ m.log;
          deep = ap (λ (o : Own). blocks_after m.event o.depth) own_t ∙ m.deep;
          turns = (λ i. turn_by_content (kind_t i) m.event t (a.first i)) ∙ m.turns;
          kind = m.kind;
          to = (λ i. record { cells = λ cell. a.both cell i; own = λ x. own_own t u (record { depth = m.depth; rest = m.rest }) (record { depth = n.depth; rest = n.rest }) q.own other x i }) ∙ n.to;
        });
      }

  -- a thread that was there stays
  there_sort : (t v : ℕ) (kind k : StepKind) (c d : Content) (cell : SharedCell) → cell ≡ AtThread v → Sort t kind k c d cell → was_there d ≡ true
  there_sort t v kind k c d (AtLock m) is (of_lock a b) = absurd cc
  there_sort t v kind k c d (AtPlace m) is (of_place a) = absurd cc
  there_sort t v kind k c d (AtThread m) is (of_start a b z) = ap was_there b
  there_sort t v kind k c d (AtThread m) is (of_join a b z) = ap was_there b
  there_sort t v kind k c d _ is (of_own a (inl b)) = ap was_there b
  there_sort t v kind k c d _ is (of_own a (inr b)) = ap was_there b.0

  there_kept : (t v : ℕ) (kind k : StepKind) (d : Content) (cell : SharedCell) (cells : Cells) → Sort t kind k (cells cell) d cell → was_there (cells (AtThread v)) ≡ true → was_there (content_put cell d cells (AtThread v)) ≡ true
  there_kept t v kind k d cell cells sort there = by (eq_cell cell (AtThread v)) refl
    where
      by : (b : Bool) → eq_cell cell (AtThread v) ≡ b → was_there (if b then d else cells (AtThread v)) ≡ true
      by true e = there_sort t v kind k (cells cell) d cell (same_cell cell (AtThread v) e) sort
      by false e = there

  pub logs_move : HasMovers (logs guard) (λ q. Unit {0})
  logs_move = record {
    sound = λ q r t k s steps. tt;
    stepper = λ q r t k steps. ap was_there (did q t k r steps).present;
    stays = λ q r t u k steps there.
        let m = did q t k r steps in
        subst (λ (z : LogMemory). was_there (z.cells (AtThread u)) ≡ true) m.to
        (there_kept t u (kind_at guard q.cells t m.event) m.turn_is.kind m.turn_is.content (cell_of t m.event) q.cells (sorted t (kind_at guard q.cells t m.event) m.event (q.cells (cell_of t m.event)) m.turn_is m.turns) there);
    own = λ q r t u k other steps there. let m = did q t k r steps in ap (λ (z : LogMemory). z.own u) (sym m.to) ∙ own_other t u (record { depth = m.depth; rest = m.rest }) q.own other;
    right = λ q mid r t u k l s other first next right bare.
        let m = did q t k mid first in
        swapped q mid r t u k l other m (subst (λ z. Did guard z u l r) (sym m.to) (did mid u l r next)) (inl (right, bare));
    left = λ q mid r t u k l s other first next left bare there.
        let m = did q t k mid first in
        swapped q mid r t u k l other m (subst (λ z. Did guard z u l r) (sym m.to) (did mid u l r next)) (inr (left, bare, there));
  }
