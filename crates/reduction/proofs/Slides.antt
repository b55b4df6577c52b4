-- Entries slide past each other: runs to the same state, in which each thread passes through the same own.
use Rattle.std.proofs.Common.{◌≡◌, ◌≢◌, ℕ, ◌==◌, Bool, true, false, ◌⊎◌, inl, inr, List, [], ◌∷◌, ◌++◌, refl, sym, ap, ◌∙◌}
use Rattle.std.specs.Prelude.{map, if◌then◌else◌}
use Rattle.std.proofs.lemmas.Bool.{eqb-true}
use Rattle.state.specs.declared.value.StepKind.TheVariants.{Bare}
use Rattle.semantics.specs.Units.{Entry}
use Rattle.semantics.specs.Words.{moves_right, moves_left}
use Rattle.reduction.specs.Systems.{System, IsThreadOfSystem, owns_from, system_owns_then}
use Rattle.reduction.specs.Movers.{Swaps, HasMovers}
use Rattle.reduction.specs.Runs.{FitsEntry, Run}
use Rattle.reduction.proofs.Shape.{Each, each_more}

-- an entry that may pass another: of another thread, and by its kind or by the other's
pub record Passes {S O : Type 0} (M : System S O) (q : S) (e f : Entry) : Type 0 where
  pub apart : e.thread ≢ f.thread
  pub kinds : ((moves_right e.kind ≡ true) × (f.kind ≢ Bare)) ⊎ ((moves_left f.kind ≡ true) × (e.kind ≢ Bare) × IsThreadOfSystem M q f.thread)

-- the threads of one state are there in another
abbrev pub Grows : {S O : Type 0} → System S O → S → S → Type 0
Grows M q r = (u : ℕ) → IsThreadOfSystem M q u → IsThreadOfSystem M r u

-- an entry still may pass where more threads are there
passes_later : {S O : Type 0} (M : System S O) (q r : S) (e f : Entry) → Grows M q r → Passes M q e f → Passes M r e f
passes_later M q r e f more p = record { apart = p.apart; kinds = by p.kinds }
  where
    by : ((moves_right e.kind ≡ true) × (f.kind ≢ Bare)) ⊎ ((moves_left f.kind ≡ true) × (e.kind ≢ Bare) × IsThreadOfSystem M q f.thread)
        → ((moves_right e.kind ≡ true) × (f.kind ≢ Bare)) ⊎ ((moves_left f.kind ≡ true) × (e.kind ≢ Bare) × IsThreadOfSystem M r f.thread)
    by (inl right) = inl right
    by (inr left) = inr (left.0, left.1, more f.thread left.2)

-- two runs are alike: every thread passes through the same own
abbrev pub Alike : {S O : Type 0} → System S O → S → List Entry → List Entry → Type 0
Alike M q xs ys = (k : ℕ) → owns_from M q k (map (λ e. e.thread) xs) ≡ owns_from M q k (map (λ e. e.thread) ys)

pub record Becomes {S O : Type 0} (M : System S O) (q : S) (xs ys : List Entry) (r : S) : Type 0 where
  pub run : Run M q ys r
  pub owns : Alike M q xs ys

module _ {S O : Type 0} {M : System S O} {IsSound : S → Type 0} (laws : HasMovers M IsSound) where
  pub sound_fits : (q r : S) (e : Entry) → IsSound q → FitsEntry M q e r → IsSound r
  sound_fits q r e s f = laws.sound q r e.thread e.kind s f.steps

  pub fits_there : (q r : S) (e : Entry) → FitsEntry M q e r → IsThreadOfSystem M q e.thread
  fits_there q r e f = laws.stepper q r e.thread e.kind f.steps

  pub fits_grow : (q r : S) (e : Entry) → FitsEntry M q e r → Grows M q r
  fits_grow q r e f = λ u there. laws.stays q r e.thread u e.kind f.steps there

  pub run_grows : (es : List Entry) (q r : S) → Run M q es r → Grows M q r
  run_grows [] q r ran = λ u there. ap (λ z. M.there z u) (sym ran) ∙ there
  run_grows (e ∷ es) q r ran = λ u there. run_grows es ran.0 r ran.2 u (fits_grow q ran.0 e ran.1 u there)

  -- a thread's own from an entry on
  owns_first : (q mid : S) (e : Entry) (s : List ℕ) (k : ℕ) → FitsEntry M q e mid → owns_from M q k (e.thread ∷ s) ≡ (if e.thread == k then M.own mid e.thread ∷ owns_from M mid k s else owns_from M mid k s)
  owns_first q mid e s k f = ap (λ o. system_owns_then M k e.thread o (λ next. owns_from M next k s)) f.steps

  -- one entry before both
  pub behind : (q mid r : S) (e : Entry) (xs ys : List Entry) → FitsEntry M q e mid → Becomes M mid xs ys r → Becomes M q (e ∷ xs) (e ∷ ys) r
  behind q mid r e xs ys f b = record {
    run = (mid, f, b.run);
    owns = λ k. owns_first q mid e (map (λ x. x.thread) xs) k f
        ∙ ap (λ s. if e.thread == k then M.own mid e.thread ∷ s else s) (b.owns k)
        ∙ sym (owns_first q mid e (map (λ x. x.thread) ys) k f);
  }

  pub becomes_itself : (q r : S) (xs : List Entry) → Run M q xs r → Becomes M q xs xs r
  becomes_itself q r xs run = record { run = run; owns = λ k. refl }

  pub becomes_then : (q r : S) (xs ys zs : List Entry) → Becomes M q xs ys r → (Run M q ys r → Becomes M q ys zs r) → Becomes M q xs zs r
  becomes_then q r xs ys zs b next = let c = next b.run in record { run = c.run; owns = λ k. b.owns k ∙ c.owns k }

  -- a list of entries before both
  pub becomes_behind : (q r : S) (ps xs ys : List Entry) → IsSound q → Run M q (ps ++ xs) r → ((mid : S) → IsSound mid → Grows M q mid → Run M mid xs r → Becomes M mid xs ys r) → Becomes M q (ps ++ xs) (ps ++ ys) r
  becomes_behind q r [] xs ys s run next = next q s (λ u there. there) run
  becomes_behind q r (p ∷ ps) xs ys s run next =
      behind q run.0 r p (ps ++ xs) (ps ++ ys) run.1
      (becomes_behind run.0 r ps xs ys (sound_fits q run.0 p s run.1) run.2 (λ mid k more later. next mid k (λ u there. more u (fits_grow q run.0 p run.1 u there)) later))

  swaps : (q mid r : S) (e f : Entry) → IsSound q → FitsEntry M q e mid → FitsEntry M mid f r → Passes M q e f → Swaps M q e.thread e.kind f.thread f.kind r
  swaps q mid r e f sound fe ff p = by p.kinds
    where
      by : ((moves_right e.kind ≡ true) × (f.kind ≢ Bare)) ⊎ ((moves_left f.kind ≡ true) × (e.kind ≢ Bare) × IsThreadOfSystem M q f.thread) → Swaps M q e.thread e.kind f.thread f.kind r
      by (inl is) = laws.right q mid r e.thread f.thread e.kind f.kind sound p.apart fe.steps ff.steps is.0 is.1
      by (inr is) = laws.left q mid r e.thread f.thread e.kind f.kind sound p.apart fe.steps ff.steps is.0 is.1 is.2

  -- two neighbours
  two_swap : (q mid r : S) (e f : Entry) (more : List ℕ) → IsSound q → FitsEntry M q e mid → FitsEntry M mid f r → Passes M q e f
      → (other : S) × FitsEntry M q f other × FitsEntry M other e r × ((k : ℕ) → owns_from M q k (e.thread ∷ f.thread ∷ more) ≡ owns_from M q k (f.thread ∷ e.thread ∷ more))
  two_swap q mid r e f more sound fe ff p =
      let swap = swaps q mid r e f sound fe ff p in
      let other = swap.between in
      let first : M.own r e.thread ≡ M.own mid e.thread = laws.own mid r f.thread e.thread f.kind (λ z. absurd (p.apart (sym z))) ff.steps (fits_grow q mid e fe e.thread (fits_there q mid e fe)) in
      let second : M.own r f.thread ≡ M.own other f.thread =
      laws.own other r e.thread f.thread e.kind p.apart swap.later (laws.stays q other f.thread f.thread f.kind swap.before (laws.stepper q other f.thread f.kind swap.before)) in
      let gf : FitsEntry M q f other = record { steps = swap.before; inside = ap M.inside (sym second) ∙ ff.inside } in
      let ge : FitsEntry M other e r = record { steps = swap.later; inside = ap M.inside first ∙ fe.inside } in (
        other,
        gf,
        ge,
        λ k.
            owns_first q mid e (f.thread ∷ more) k fe ∙ ap (λ s. if e.thread == k then M.own mid e.thread ∷ s else s) (owns_first mid r f more k ff)
            ∙ (λ i. if e.thread == k then sym first i ∷ (if f.thread == k then M.own r f.thread ∷ owns_from M r k more else owns_from M r k more) else (if f.thread == k then M.own r f.thread ∷ owns_from M r k more else owns_from M r k more))
            ∙ both k (e.thread == k) refl (f.thread == k) refl
            ∙ (λ i. if f.thread == k then second i ∷ (if e.thread == k then M.own r e.thread ∷ owns_from M r k more else owns_from M r k more) else (if e.thread == k then M.own r e.thread ∷ owns_from M r k more else owns_from M r k more))
            ∙ sym (owns_first q other f (e.thread ∷ more) k gf ∙ ap (λ s. if f.thread == k then M.own other f.thread ∷ s else s) (owns_first other r e more k ge)),
      )
    where
      both : (k : ℕ) (x : Bool) → (e.thread == k) ≡ x → (y : Bool) → (f.thread == k) ≡ y
          → (if x then M.own r e.thread ∷ (if y then M.own r f.thread ∷ owns_from M r k more else owns_from M r k more) else (if y then M.own r f.thread ∷ owns_from M r k more else owns_from M r k more))
          ≡ (if y then M.own r f.thread ∷ (if x then M.own r e.thread ∷ owns_from M r k more else owns_from M r k more) else (if x then M.own r e.thread ∷ owns_from M r k more else owns_from M r k more))
      both k true ex true ey = absurd (p.apart (eqb-true e.thread k ex ∙ sym (eqb-true f.thread k ey)))
      both k true ex false ey = refl
      both k false ex true ey = refl
      both k false ex false ey = refl

  -- one entry behind a list
  pub slide : (q r : S) (e : Entry) (fs more : List Entry) → IsSound q → Each (Passes M q e) fs → Run M q (e ∷ (fs ++ more)) r → Becomes M q (e ∷ (fs ++ more)) (fs ++ e ∷ more) r
  slide q r e [] more s can run = becomes_itself q r (e ∷ more) run
  slide q r e (f ∷ fs) more s can run =
      let mid = run.0 in
      let later = run.2 in
      let sw = two_swap q mid later.0 e f (map (λ x. x.thread) (fs ++ more)) s run.1 later.1 can.0 in
      let other = sw.0 in
      let grow = fits_grow q other f sw.1 in
      becomes_then q r (e ∷ f ∷ (fs ++ more)) (f ∷ e ∷ (fs ++ more)) (f ∷ (fs ++ e ∷ more))
      (record { run = (other, sw.1, (later.0, sw.2, later.2)); owns = sw.3 })
      (λ again. behind q other r f (e ∷ (fs ++ more)) (fs ++ e ∷ more) sw.1
      (slide other r e fs more (sound_fits q other f s sw.1) (each_more (Passes M q e) (Passes M other e) (λ x p. passes_later M q other e x grow p) fs can.1) (later.0, sw.2, later.2)))

  -- a list behind another
  pub slide_all : (q r : S) (ys gs more : List Entry) → IsSound q → Each (λ y. Each (Passes M q y) gs) ys → Run M q (ys ++ (gs ++ more)) r → Becomes M q (ys ++ (gs ++ more)) (gs ++ (ys ++ more)) r
  slide_all q r [] gs more s can run = becomes_itself q r (gs ++ more) run
  slide_all q r (y ∷ ys) gs more s can run =
      let grow = fits_grow q run.0 y run.1 in
      becomes_then q r (y ∷ (ys ++ (gs ++ more))) (y ∷ (gs ++ (ys ++ more))) (gs ++ y ∷ (ys ++ more))
      (behind q run.0 r y (ys ++ (gs ++ more)) (gs ++ (ys ++ more)) run.1
      (slide_all run.0 r ys gs more (sound_fits q run.0 y s run.1)
      (each_more (λ z. Each (Passes M q z) gs) (λ z. Each (Passes M run.0 z) gs) (λ z h. each_more (Passes M q z) (Passes M run.0 z) (λ x p. passes_later M q run.0 z x grow p) gs h) ys can.1) run.2))
      (λ again. slide q r y gs (ys ++ more) s can.0 again)
