-- A run becomes the run of its units in order, by induction on the run from its end.
use Rattle.std.proofs.Common.{◌≡◌, ◌≢◌, ℕ, suc, ◌≤◌, ◌==◌, Bool, true, false, inl, inr, List, [], ◌∷◌, ◌++◌, refl, sym, ap, subst, ◌∙◌, arith}
use Rattle.std.specs.Prelude.{if◌then◌else◌}
use Rattle.std.specs.List.{list_all}
use Rattle.std.proofs.lemmas.Bool.{eqb-true, and_parts, eq-eqb}
use Rattle.state.specs.declared.value.StepKind.{StepKind}
use Rattle.state.specs.declared.value.StepKind.TheVariants.{Both, Right, Left, Other, Bare}
use Rattle.semantics.specs.Units.{Entry, is_of_thread, added, units, is_commit, commit_place, in_order, word_of}
use Rattle.semantics.specs.Words.{moves_right, moves_left, is_reducible}
use Rattle.semantics.proofs.WordLemmas.{left_reducible}
use Rattle.reduction.proofs.Shape.{Each, each_more, flat, has, got, without, IsOf, IsFine, IsLater, InTurn, fine_above, commit_added, each_in_order}
use Rattle.reduction.proofs.Ordering.{added_by, has_by, got_by, without_by, least_first, added_in_order, commit_in_order, alone_in_order, got_each, has_in_order}
use Rattle.reduction.specs.Systems.{System, IsThreadOfSystem}
use Rattle.reduction.specs.Movers.{HasMovers}
use Rattle.reduction.specs.Runs.{Run}
use Rattle.reduction.proofs.Slides.{Passes, Becomes, behind, becomes_behind, becomes_itself, becomes_then, slide, slide_all, sound_fits, fits_there, fits_grow}

-- places rise from n on
abbrev pub Rises : ℕ → List Entry → Type 0
Rises n [] = Unit {0}
Rises n (e ∷ es) = (n ≤ e.place) × Rises (suc e.place) es

abbrev pub NotBare : Entry → Type 0
NotBare e = e.kind ≢ Bare

abbrev pub HasWord : List Entry → Type 0
HasWord u = is_reducible (word_of u) ≡ true

-- Units.

fine_more : (n m : ℕ) (u : List Entry) → n ≤ m → IsFine m u → IsFine n u
fine_more n m u low f = record { first = f.first; rest = f.rest; is = f.is; one = f.one; places = each_more (λ e. m ≤ e.place) (λ e. n ≤ e.place) (λ e h. omega (arith, low, h)) u f.places }

fine_one : (e : Entry) → IsFine e.place (e ∷ [])
fine_one e = record { first = e; rest = []; is = refl; one = (refl, tt); places = (omega arith, tt) }

-- the thread of a unit
of_first : (t : ℕ) (u : List Entry) (n : ℕ) → (f : IsFine n u) → is_of_thread t u ≡ true → f.first.thread ≡ t
of_first t u n f is = eqb-true f.first.thread t (sym (ap (is_of_thread t) f.is) ∙ is)

fine_added : (e : Entry) (u : List Entry) → IsFine (suc e.place) u → is_of_thread e.thread u ≡ true → IsFine e.place (e ∷ u)
fine_added e u f is = record {
  first = e;
  rest = u;
  is = refl;
  one = (refl, each_more (IsOf f.first.thread) (IsOf e.thread) (λ x h. h ∙ of_first e.thread u (suc e.place) f is) u f.one);
  places = (omega arith, each_more (λ x. suc e.place ≤ x.place) (λ x. e.place ≤ x.place) (λ x h. omega (arith, h)) u f.places);
}

each_fine_added : (e : Entry) (us : List (List Entry)) → Each (IsFine (suc e.place)) us → Each (IsFine e.place) (added e us)
each_fine_added e [] h = (fine_one e, tt)
each_fine_added e (u ∷ us) h = by (is_of_thread e.thread u) refl (each_fine_added e us h.1)
  where
    all : Each (IsFine e.place) (u ∷ us)
    all = each_more (IsFine (suc e.place)) (IsFine e.place) (λ v f. fine_more e.place (suc e.place) v (omega arith) f) (u ∷ us) h

    by : (b : Bool) → is_of_thread e.thread u ≡ b → Each (IsFine e.place) (added e us) → Each (IsFine e.place) (if b then (e ∷ u) ∷ us else u ∷ added e us)
    by true is later = (fine_added e u h.0 is, all.1)
    by false is later = (all.0, later)

pub fine_units : (es : List Entry) (n : ℕ) → Rises n es → Each (IsFine n) (units es)
fine_units [] n rises = tt
fine_units (e ∷ es) n rises = by e.inside (fine_units es (suc e.place) rises.1)
  where
    lower : (us : List (List Entry)) → Each (IsFine e.place) us → Each (IsFine n) us
    lower us h = each_more (IsFine e.place) (IsFine n) (λ v f. fine_more n e.place v rises.0 f) us h

    by : (b : Bool) → Each (IsFine (suc e.place)) (units es) → Each (IsFine n) (if b then added e (units es) else (e ∷ []) ∷ units es)
    by true h = lower (added e (units es)) (each_fine_added e (units es) h)
    by false h = lower ((e ∷ []) ∷ units es) (fine_one e, each_more (IsFine (suc e.place)) (IsFine e.place) (λ v f. fine_more e.place (suc e.place) v (omega arith) f) (units es) h)

-- each unit that comes later commits later than an entry before all
all_later : (e : Entry) (c t : ℕ) → c ≤ e.place → (us : List (List Entry)) → Each (IsFine (suc e.place)) us → Each (IsLater t c) us
all_later e c t low us h = each_more (IsFine (suc e.place)) (IsLater t c) (λ u f is. let above = fine_above (suc e.place) u f in omega (arith, above, low)) us h

later_added : (e : Entry) (k c : ℕ) → (k ≡ e.thread → ⊥) → (us : List (List Entry)) → Each (IsFine (suc e.place)) us → Each (IsLater k c) us → Each (IsLater k c) (added e us)
later_added e k c other [] fine h = (λ is. absurd (other (sym (eqb-true e.thread k is))), tt)
later_added e k c other (u ∷ us) fine h = by (is_of_thread e.thread u) refl (later_added e k c other us fine.1 h.1)
  where
    by : (b : Bool) → is_of_thread e.thread u ≡ b → Each (IsLater k c) (added e us) → Each (IsLater k c) (if b then (e ∷ u) ∷ us else u ∷ added e us)
    by true is later = ((λ at. absurd (other (sym (eqb-true e.thread k at)))), h.1)
    by false is later = (h.0, later)

turn_added : (e : Entry) (us : List (List Entry)) → Each (IsFine (suc e.place)) us → InTurn us → InTurn (added e us)
turn_added e [] fine h = ((λ t is. tt), tt)
turn_added e (u ∷ us) fine h = by (is_of_thread e.thread u) refl (turn_added e us fine.1 h.1)
  where
    commit : (b : Bool) → is_commit e.kind ≡ b → is_of_thread e.thread u ≡ true → Each (IsLater e.thread (commit_place (e ∷ u))) us
    commit true is at = all_later e (commit_place (e ∷ u)) e.thread (let c = commit_added e u (suc e.place) fine.0 ∙ ap (λ (x : Bool). if x then e.place else commit_place u) is in omega (arith, c)) us fine.1
    commit false is at = subst (λ c. Each (IsLater e.thread c) us) (sym (commit_added e u (suc e.place) fine.0 ∙ ap (λ (x : Bool). if x then e.place else commit_place u) is)) (h.0 e.thread at)

    by : (b : Bool) → is_of_thread e.thread u ≡ b → InTurn (added e us) → InTurn (if b then (e ∷ u) ∷ us else u ∷ added e us)
    by true is later = ((λ t at. subst (λ k. Each (IsLater k (commit_place (e ∷ u))) us) (eqb-true e.thread t at) (commit (is_commit e.kind) refl is)), h.1)
    by false is later = ((λ t at. later_added e t (commit_place u) (λ s. absurd (let c : true ≡ false = sym at ∙ ap (λ k. is_of_thread k u) s ∙ is in cc)) us fine.1 (h.0 t at)), later)

pub turn_units : (es : List Entry) (n : ℕ) → Rises n es → InTurn (units es)
turn_units [] n rises = tt
turn_units (e ∷ es) n rises = by e.inside (fine_units es (suc e.place) rises.1) (turn_units es (suc e.place) rises.1)
  where
    by : (b : Bool) → Each (IsFine (suc e.place)) (units es) → InTurn (units es) → InTurn (if b then added e (units es) else (e ∷ []) ∷ units es)
    by true fine h = turn_added e (units es) fine h
    by false fine h = ((λ t at. all_later e e.place t (omega arith) (units es) fine), h)

-- what holds of each entry holds in each unit
each_added : (Q : Entry → Type 0) (e : Entry) → Q e → (us : List (List Entry)) → Each (Each Q) us → Each (Each Q) (added e us)
each_added Q e q [] h = ((q, tt), tt)
each_added Q e q (u ∷ us) h = by (is_of_thread e.thread u) (each_added Q e q us h.1)
  where
    by : (b : Bool) → Each (Each Q) (added e us) → Each (Each Q) (if b then (e ∷ u) ∷ us else u ∷ added e us)
    by true later = ((q, h.0), h.1)
    by false later = (h.0, later)

pub each_units : (Q : Entry → Type 0) (es : List Entry) → Each Q es → Each (Each Q) (units es)
each_units Q [] h = tt
each_units Q (e ∷ es) h = by e.inside (each_units Q es h.1)
  where
    by : (b : Bool) → Each (Each Q) (units es) → Each (Each Q) (if b then added e (units es) else (e ∷ []) ∷ units es)
    by true later = each_added Q e h.0 (units es) later
    by false later = ((h.0, tt), later)

-- Words.

word_later : (k : StepKind) (ks : List StepKind) → is_reducible (k ∷ ks) ≡ true → is_reducible ks ≡ true
word_later Both ks h = h
word_later Right ks h = h
word_later Left ks h = left_reducible ks h
word_later Other ks h = left_reducible ks h
word_later Bare ks h = absurd cc

words_added : (e : Entry) (us : List (List Entry)) → Each HasWord (added e us) → Each HasWord us
words_added e [] h = tt
words_added e (u ∷ us) h = by (is_of_thread e.thread u) h (λ g. words_added e us g)
  where
    by : (b : Bool) → Each HasWord (if b then (e ∷ u) ∷ us else u ∷ added e us) → (Each HasWord (added e us) → Each HasWord us) → Each HasWord (u ∷ us)
    by true g later = (word_later e.kind (word_of u) g.0, g.1)
    by false g later = (g.0, later g.1)

pub words_later : (e : Entry) (es : List Entry) → Each HasWord (units (e ∷ es)) → Each HasWord (units es)
words_later e es h = by e.inside h
  where
    by : (b : Bool) → Each HasWord (if b then added e (units es) else (e ∷ []) ∷ units es) → Each HasWord (units es)
    by true g = words_added e (units es) g
    by false g = g.1

-- behind a Left or Other step of a call all move left
left_after : (k : StepKind) (ks : List StepKind) → is_commit k ≡ true → is_reducible (k ∷ ks) ≡ true → list_all moves_left ks ≡ true
left_after Left ks c h = h
left_after Other ks c h = h
left_after Both ks c h = absurd cc
left_after Right ks c h = absurd cc
left_after Bare ks c h = absurd cc

each_left_mover : (u : List Entry) → list_all moves_left (word_of u) ≡ true → Each (λ e. moves_left e.kind ≡ true) u
each_left_mover [] h = tt
each_left_mover (e ∷ u) h = let p = and_parts (moves_left e.kind) (list_all moves_left (word_of u)) h in (p.0, each_left_mover u p.1)

-- Kinds.

pub quiet_right : (k : StepKind) → is_commit k ≡ false → k ≢ Bare → moves_right k ≡ true
quiet_right Both c b = refl
quiet_right Right c b = refl
quiet_right Left c b = absurd cc
quiet_right Other c b = absurd cc
quiet_right Bare c b = absurd (b refl)

-- entries of a unit of another thread
pub others : (t : ℕ) (u : List Entry) (n : ℕ) → IsFine n u → is_of_thread t u ≡ false → Each (λ x. x.thread ≡ t → ⊥) u
others t u n f not = each_more (IsOf f.first.thread) (λ x. x.thread ≡ t → ⊥) (λ x h e. absurd (let c : true ≡ false = sym (eq-eqb t t refl) ∙ ap (λ k. k == t) (sym e ∙ h) ∙ sym (ap (is_of_thread t) f.is) ∙ not in cc)) u f.one

pub owns : (t : ℕ) (u : List Entry) (n : ℕ) → IsFine n u → is_of_thread t u ≡ true → Each (IsOf t) u
owns t u n f is = each_more (IsOf f.first.thread) (IsOf t) (λ x h. h ∙ of_first t u n f is) u f.one

pair : {A : Type 0} (Q R : A → Type 0) (xs : List A) → Each Q xs → Each R xs → Each (λ x. Q x × R x) xs
pair Q R [] g h = tt
pair Q R (x ∷ xs) g h = ((g.0, h.0), pair Q R xs g.1 h.1)

got_is : (t : ℕ) (us : List (List Entry)) → has t us ≡ true → is_of_thread t (got t us) ≡ true
got_is t [] h = absurd cc
got_is t (u ∷ us) h = by (is_of_thread t u) refl (got_is t us)
  where
    by : (b : Bool) → is_of_thread t u ≡ b → (has t us ≡ true → is_of_thread t (got t us) ≡ true) → is_of_thread t (if b then u else got t us) ≡ true
    by true e later = e
    by false e later = later (sym (has_by t u us false e) ∙ h)

module _ {S O : Type 0} {M : System S O} {IsSound : S → Type 0} (laws : HasMovers M IsSound) where
  -- an entry that moves right goes to the first unit of its thread
  move_in : (n : ℕ) (e : Entry) → moves_right e.kind ≡ true → e.kind ≢ Bare → (us : List (List Entry)) → Each (IsFine n) us → Each (Each NotBare) us → has e.thread us ≡ true → (q r : S) → IsSound q → Run M q (e ∷ flat us) r
      → Becomes M q (e ∷ flat us) (flat (added e us)) r
  move_in n e right bare [] fine quiet h q r s run = absurd cc
  move_in n e right bare (y ∷ us) fine quiet h q r s run = by (is_of_thread e.thread y) refl (λ there mid k later. move_in n e right bare us fine.1 quiet.1 there mid r k later)
    where
      by : (b : Bool) → is_of_thread e.thread y ≡ b → (has e.thread us ≡ true → (mid : S) → IsSound mid → Run M mid (e ∷ flat us) r → Becomes M mid (e ∷ flat us) (flat (added e us)) r)
          → Becomes M q (e ∷ flat (y ∷ us)) (flat (added e (y ∷ us))) r
      by true is rest = subst (λ z. Becomes M q (e ∷ flat (y ∷ us)) (flat z) r) (sym (added_by e y us true is)) (becomes_itself laws q r (e ∷ flat (y ∷ us)) run)
      by false is rest = subst (λ z. Becomes M q (e ∷ flat (y ∷ us)) (flat z) r) (sym (added_by e y us false is))
          (becomes_then laws q r (e ∷ (y ++ flat us)) (y ++ e ∷ flat us) (y ++ flat (added e us))
          (slide laws q r e y (flat us) s (each_more (λ x. (x.thread ≡ e.thread → ⊥) × NotBare x) (Passes M q e)
          (λ x h. record { apart = λ z. absurd (h.0 (sym z)); kinds = inl (right, h.1) }) y
          (pair (λ x. x.thread ≡ e.thread → ⊥) NotBare y (others e.thread y n fine.0 is) quiet.0)) run)
          (λ again. becomes_behind laws q r y (e ∷ flat us) (flat (added e us)) s again (λ mid k more later. rest (sym (has_by e.thread y us false is) ∙ h) mid k later)))

  -- entries of other threads pass those of a thread that is there, where these move left
  passing : (q : S) (ys gs : List Entry) {t : ℕ} → IsThreadOfSystem M q t → Each (λ x. x.thread ≡ t → ⊥) ys → Each NotBare ys → Each (IsOf t) gs → Each (λ e. moves_left e.kind ≡ true) gs → Each (λ y. Each (Passes M q y) gs) ys
  passing q [] gs there other quiet ones lefts = tt
  passing q (y ∷ ys) gs {t} there other quiet ones lefts = (each_one gs ones lefts, passing q ys gs there other.1 quiet.1 ones lefts)
    where
      each_one : (xs : List Entry) → Each (IsOf t) xs → Each (λ e. moves_left e.kind ≡ true) xs → Each (Passes M q y) xs
      each_one [] o l = tt
      each_one (x ∷ xs) o l = (
        record {
          apart = λ z. absurd (other.0 (z ∙ o.0));
          kinds = inr (l.0, quiet.0, subst (IsThreadOfSystem M q) (sym o.0) there);
        },
        each_one xs o.1 l.1,
      )

  -- a unit all of whose entries move left goes to the front
  pull : (n t : ℕ) (us : List (List Entry)) → Each (IsFine n) us → Each (Each NotBare) us → has t us ≡ true → Each (λ e. moves_left e.kind ≡ true) (got t us) → (q r : S) → IsSound q → IsThreadOfSystem M q t → Run M q (flat us) r
      → Becomes M q (flat us) (got t us ++ flat (without t us)) r
  pull n t [] fine quiet h left q r s there run = absurd cc
  pull n t (y ∷ us) fine quiet h left q r s there run = by (is_of_thread t y) refl (λ has left mid k lt later. pull n t us fine.1 quiet.1 has left mid r k lt later)
    where
      by : (b : Bool) → is_of_thread t y ≡ b
          → (has t us ≡ true → Each (λ e. moves_left e.kind ≡ true) (got t us) → (mid : S) → IsSound mid → IsThreadOfSystem M mid t → Run M mid (flat us) r → Becomes M mid (flat us) (got t us ++ flat (without t us)) r)
          → Becomes M q (flat (y ∷ us)) (got t (y ∷ us) ++ flat (without t (y ∷ us))) r
      by true is rest = subst (λ z. Becomes M q (flat (y ∷ us)) (z ++ flat (without t (y ∷ us))) r) (sym (got_by t y us true is))
          (subst (λ z. Becomes M q (flat (y ∷ us)) (y ++ flat z) r) (sym (without_by t y us true is)) (becomes_itself laws q r (flat (y ∷ us)) run))
      by false is rest =
          let in_us = sym (has_by t y us false is) ∙ h in
          let lefts = subst (Each (λ (e : Entry). moves_left e.kind ≡ true)) (got_by t y us false is) left in
          let ones = got_each (λ u. is_of_thread t u ≡ true → Each (IsOf t) u) t us (each_own us fine.1) in_us (got_is t us in_us) in
          subst (λ z. Becomes M q (flat (y ∷ us)) (z ++ flat (without t (y ∷ us))) r) (sym (got_by t y us false is))
          (subst (λ z. Becomes M q (flat (y ∷ us)) (got t us ++ flat z) r) (sym (without_by t y us false is))
          (becomes_then laws q r (y ++ flat us) (y ++ (got t us ++ flat (without t us))) (got t us ++ (y ++ flat (without t us)))
          (becomes_behind laws q r y (flat us) (got t us ++ flat (without t us)) s run (λ mid k more later. rest in_us lefts mid k (more t there) later))
          (λ again. slide_all laws q r y (got t us) (flat (without t us)) s (passing q y (got t us) there (others t y n fine.0 is) quiet.0 ones lefts) again)))
        where
          each_own : (xs : List (List Entry)) → Each (IsFine n) xs → Each (λ u. is_of_thread t u ≡ true → Each (IsOf t) u) xs
          each_own [] f = tt
          each_own (x ∷ xs) f = ((λ is. owns t x n f.0 is), each_own xs f.1)

  -- the run becomes that of its units in order
  pub sorted : (es : List Entry) (n : ℕ) → Rises n es → Each NotBare es → Each HasWord (units es) → (q r : S) → IsSound q → Run M q es r → Becomes M q es (flat (in_order (units es))) r
  sorted [] n rises quiet words q r s run = becomes_itself laws q r [] run
  sorted (e ∷ es) n rises quiet words q r s run =
      becomes_then laws q r (e ∷ es) (e ∷ flat (in_order (units es))) (flat (in_order (units (e ∷ es))))
      (behind laws q run.0 r e es (flat (in_order (units es))) run.1 (sorted es (suc e.place) rises.1 quiet.1 (words_later e es words) run.0 r (sound_fits laws q run.0 e s run.1) run.2))
      (λ again. by_inside e.inside refl again)
    where
      us : List (List Entry)
      us = units es

      fine : Each (IsFine (suc e.place)) (units es)
      fine = fine_units es (suc e.place) rises.1

      turn : InTurn (units es)
      turn = turn_units es (suc e.place) rises.1

      quiet_units : Each (Each NotBare) (in_order (units es))
      quiet_units = each_in_order (Each NotBare) (units es) (each_units NotBare es quiet.1)

      by_commit : (c : Bool) → is_commit e.kind ≡ c → Each HasWord (added e (units es)) → has e.thread (units es) ≡ true → Run M q (e ∷ flat (in_order (units es))) r → Becomes M q (e ∷ flat (in_order (units es))) (flat (in_order (added e (units es)))) r
      by_commit false is word there again = subst (λ z. Becomes M q (e ∷ flat (in_order (units es))) (flat z) r) (sym (added_in_order e (suc e.place) is (units es) fine turn there))
          (move_in (suc e.place) e (quiet_right e.kind is quiet.0) quiet.0 (in_order (units es)) (each_in_order (IsFine (suc e.place)) (units es) fine) quiet_units (has_in_order e.thread (units es) there) q r s again)
      by_commit true is word there again =
          let order = commit_in_order e (suc e.place) (omega arith) is (units es) fine turn there in
          let mine : is_reducible (e.kind ∷ word_of (got e.thread (in_order (units es)))) ≡ true = (subst (Each HasWord) order (each_in_order HasWord (added e (units es)) word)).0 in
          subst (λ z. Becomes M q (e ∷ flat (in_order (units es))) (flat z) r) (sym order)
          (behind laws q again.0 r e (flat (in_order (units es))) (got e.thread (in_order (units es)) ++ flat (without e.thread (in_order (units es)))) again.1
          (pull (suc e.place) e.thread (in_order (units es)) (each_in_order (IsFine (suc e.place)) (units es) fine) quiet_units (has_in_order e.thread (units es) there)
          (each_left_mover (got e.thread (in_order (units es))) (left_after e.kind _ is mine)) again.0 r (sound_fits laws q again.0 e s again.1)
          (fits_grow laws q again.0 e again.1 e.thread (fits_there laws q again.0 e again.1)) again.2))

      by_has : (h : Bool) → has e.thread (units es) ≡ h → Each HasWord (added e (units es)) → Run M q (e ∷ flat (in_order (units es))) r → Becomes M q (e ∷ flat (in_order (units es))) (flat (in_order (added e (units es)))) r
      by_has true is word again = by_commit (is_commit e.kind) refl word is again
      by_has false is word again = subst (λ z. Becomes M q (e ∷ flat (in_order (units es))) (flat z) r) (sym (alone_in_order e (suc e.place) (omega arith) (units es) fine is)) (becomes_itself laws q r (e ∷ flat (in_order (units es))) again)

      single : in_order ((e ∷ []) ∷ units es) ≡ (e ∷ []) ∷ in_order (units es)
      single = least_first (e ∷ []) (in_order (units es)) (each_more (IsFine (suc e.place)) (λ v. e.place ≤ commit_place v) (λ v f. let above = fine_above (suc e.place) v f in omega (arith, above)) (in_order (units es)) (each_in_order (IsFine (suc e.place)) (units es) fine))

      by_inside : (b : Bool) → e.inside ≡ b → Run M q (e ∷ flat (in_order (units es))) r → Becomes M q (e ∷ flat (in_order (units es))) (flat (in_order (units (e ∷ es)))) r
      by_inside true is again = subst (λ z. Becomes M q (e ∷ flat (in_order (units es))) (flat (in_order z)) r) (sym (ap (λ (x : Bool). if x then added e (units es) else (e ∷ []) ∷ units es) is))
          (by_has (has e.thread (units es)) refl (subst (Each HasWord) (ap (λ (x : Bool). if x then added e (units es) else (e ∷ []) ∷ units es) is) words) again)
      by_inside false is again = subst (λ z. Becomes M q (e ∷ flat (in_order (units es))) (flat (in_order z)) r) (sym (ap (λ (x : Bool). if x then added e (units es) else (e ∷ []) ∷ units es) is))
          (subst (λ z. Becomes M q (e ∷ flat (in_order (units es))) (flat z) r) (sym single) (becomes_itself laws q r (e ∷ flat (in_order (units es))) again))
