-- Standing for, to a depth and to every depth.
use Rattle.std.proofs.Common.{◌≡◌, ℕ, zero, suc, List, [], ◌∷◌, sym, ap, subst, ◌∙◌}
use Rattle.std.specs.Prelude.{Bool, Option, Some, None, slice_get}
use Rattle.state.specs.declared.value.Address.{Address}
use Rattle.state.specs.Work as W
use Rattle.state.specs.Work.{Action, Item, Ex, St, Act, Next, unfolded, first_release, open_return}
use Rattle.compile.specs.declared.stack.Code.{Code}
use Rattle.compile.specs.Standing.{Relation, Agree, StandsOnce, StandsTo, Stands}

-- a greater relation agrees as well
pub agree_with : (result : Bool) (K L : Relation) → ((place : ℕ) (taken : List Address) (work : List Item) → K place taken work → L place taken work)
    → (c : Code) (taken : List Address) (more : List Item) (a : Action) → Agree result K c taken more a → Agree result L c taken more a
agree_with result K L f c taken more (W.Push v) h = (h.0, f _ _ _ h.1)
agree_with result K L f c taken more (W.Load x) h = (h.0, f _ _ _ h.1)
agree_with result K L f c taken more (W.Store x) h = (h.0, f _ _ _ h.1)
agree_with result K L f c taken more W.Drop h = (h.0, f _ _ _ h.1)
agree_with result K L f c taken more (W.Unary op) h = (h.0, f _ _ _ h.1)
agree_with result K L f c taken more (W.Binary op) h = (h.0, f _ _ _ h.1)
agree_with result K L f c taken more (W.AndThen e) h = (h.0, h.1, f _ _ _ h.2, f _ _ _ h.3)
agree_with result K L f c taken more (W.OrElse e) h = (h.0, h.1, f _ _ _ h.2, f _ _ _ h.3)
agree_with result K L f c taken more (W.Choose s u) h = (h.0, h.1, f _ _ _ h.2, f _ _ _ h.3)
agree_with result K L f c taken more (W.Loop e s) h = (h.0, h.1, f _ _ _ h.2, f _ _ _ h.3)
agree_with result K L f c taken more (W.Get x) h = (h.0, f _ _ _ h.1)
agree_with result K L f c taken more (W.Put x) h = (h.0, f _ _ _ h.1)
agree_with result K L f c taken more (W.New x) h = (h.0, f _ _ _ h.1)
agree_with result K L f c taken more (W.Call m) h = (h.0, f _ _ _ h.1)
agree_with result K L f c taken more (W.Acquire s) h = (h.0, λ a. f _ _ _ (h.1 a))
agree_with result K L f c taken more (W.Release a) h = (h.0, h.1, h.2, f _ _ _ h.3)
agree_with result K L f c taken more W.Ret h = h
agree_with result K L f c taken more W.Print h = (h.0, f _ _ _ h.1)
agree_with result K L f c taken more W.Start h = (h.0, f _ _ _ h.1)

module _ (result : Bool) (code : List Code) where
  abbrev pub To : ℕ → ℕ → List Address → List Item → Type 0
  To n place taken work = StandsTo result code n place taken work

  -- a smaller depth is free
  pub fewer : (n place : ℕ) (taken : List Address) (work : List Item) → To (suc n) place taken work → To n place taken work
  fewer zero place taken work h = tt
  fewer (suc n) place taken work h =
      record { line = h.line; there = h.there; action = h.action; rest = h.rest; next = h.next; agree = agree_with result (To (suc n)) (To n) (fewer n) h.line taken h.rest h.action h.agree }

  -- a work list counts by its unfolding only
  pub same_work : (n place : ℕ) (taken : List Address) (work other : List Item) → unfolded work ≡ unfolded other → To n place taken work → To n place taken other
  same_work zero place taken work other e h = tt
  same_work (suc n) place taken work other e h = record { line = h.line; there = h.there; action = h.action; rest = h.rest; next = sym e ∙ h.next; agree = h.agree }

  -- from the line at the place
  pub at_line : (n place : ℕ) (taken : List Address) (work : List Item) (c : Code) (a : Action) (rest : List Item)
      → slice_get code place ≡ Some c → unfolded work ≡ Some (a, rest) → Agree result (To n) c taken rest a → To n place taken work
  at_line zero place taken work c a rest there next agree = tt
  at_line (suc n) place taken work c a rest there next agree =
      record { line = c; there = there; action = a; rest = rest; next = next; agree = agree_with result (To (suc n)) (To n) (fewer n) c taken rest a agree }

  abbrev action_in : Option Next → Action
  action_in None = W.Ret
  action_in (Some n) = n.0

  return_once : (K : Relation) (c : Code) (taken : List Address) (r : Option (Address × List Item)) (more other : List Item) (a : Action) (rest : List Item)
      → Some (open_return r more) ≡ Some (a, rest) → Agree result K c taken rest a
      → (rest' : List Item) × (Some (open_return r other) ≡ Some (a, rest')) × Agree result K c taken rest' a
  return_once K c taken None more other a rest e h =
      let is : W.Ret ≡ a = ap action_in e in
      (other, (λ j. Some (is j, other)), subst (λ x. Agree result K c taken other x) is (subst (λ x. Agree result K c taken rest x) (sym is) h))
  return_once K c taken (Some later) more other a rest e h = (rest, e, h)

  -- behind a return a work list counts by its first release only
  pub return_with : (n place : ℕ) (taken : List Address) (more other : List Item) → first_release more ≡ first_release other
      → To n place taken (Act W.Ret ∷ more) → To n place taken (Act W.Ret ∷ other)
  return_with zero place taken more other e h = tt
  return_with (suc n) place taken more other e h =
      let once = return_once (To n) h.line taken (first_release more) more other h.action h.rest h.next h.agree in
      record { line = h.line; there = h.there; action = h.action; rest = once.0; next = subst (λ r. Some (open_return r other) ≡ Some (h.action, once.0)) e once.1; agree = once.2 }

  -- the relation at each depth is that at every depth
  limit : (c : Code) (taken : List Address) (more : List Item) (a : Action) → ((n : ℕ) → Agree result (To n) c taken more a) → Agree result (Stands result code) c taken more a
  limit c taken more (W.Push v) h = ((h 0).0, λ n. (h n).1)
  limit c taken more (W.Load x) h = ((h 0).0, λ n. (h n).1)
  limit c taken more (W.Store x) h = ((h 0).0, λ n. (h n).1)
  limit c taken more W.Drop h = ((h 0).0, λ n. (h n).1)
  limit c taken more (W.Unary op) h = ((h 0).0, λ n. (h n).1)
  limit c taken more (W.Binary op) h = ((h 0).0, λ n. (h n).1)
  limit c taken more (W.AndThen e) h =
      ((h 0).0, (h 0).1, (λ n. (h n).2), λ n. let same : (h n).0 ≡ (h 0).0 = cc ((h n).1, (h 0).1) in subst (λ p. To n p taken (Ex e ∷ more)) same (h n).3)
  limit c taken more (W.OrElse e) h =
      ((h 0).0, (h 0).1, (λ n. (h n).2), λ n. let same : (h n).0 ≡ (h 0).0 = cc ((h n).1, (h 0).1) in subst (λ p. To n p taken (Ex e ∷ more)) same (h n).3)
  limit c taken more (W.Choose s u) h =
      ((h 0).0, (h 0).1, (λ n. (h n).2), λ n. let same : (h n).0 ≡ (h 0).0 = cc ((h n).1, (h 0).1) in subst (λ p. To n p taken (St u ∷ more)) same (h n).3)
  limit c taken more (W.Loop e s) h =
      ((h 0).0, (h 0).1, (λ n. (h n).2), λ n. let same : (h n).0 ≡ (h 0).0 = cc ((h n).1, (h 0).1) in subst (λ p. To n p taken more) same (h n).3)
  limit c taken more (W.Get x) h = ((h 0).0, λ n. (h n).1)
  limit c taken more (W.Put x) h = ((h 0).0, λ n. (h n).1)
  limit c taken more (W.New x) h = ((h 0).0, λ n. (h n).1)
  limit c taken more (W.Call m) h = ((h 0).0, λ n. (h n).1)
  limit c taken more (W.Acquire s) h = ((h 0).0, λ a n. (h n).1 a)
  limit c taken more (W.Release a) h =
      ((h 0).0, (h 0).1, (h 0).2, λ n. let same : (h n).0 ≡ (h 0).0 = cc ((h n).2, (h 0).2) in subst (λ b. To n c.next b more) same (h n).3)
  limit c taken more W.Ret h = h 0
  limit c taken more W.Print h = ((h 0).0, λ n. (h n).1)
  limit c taken more W.Start h = ((h 0).0, λ n. (h n).1)

  abbrev rest_in : Option Next → List Item
  rest_in None = []
  rest_in (Some n) = n.1

  -- what stands to every depth has the next action at its line, and stands to every depth after it
  pub stands_once : (place : ℕ) (taken : List Address) (work : List Item) → Stands result code place taken work → StandsOnce result code (Stands result code) place taken work
  stands_once place taken work h =
      let first = h 1 in
      record {
        line = first.line;
        there = first.there;
        action = first.action;
        rest = first.rest;
        next = first.next;
        agree = limit first.line taken first.rest first.action (λ n.
            let nth = h (suc n) in
            let line_is : nth.line ≡ first.line = cc (nth.there, first.there) in
            let a_is : nth.action ≡ first.action = ap action_in (sym nth.next ∙ first.next) in
            let r_is : nth.rest ≡ first.rest = ap rest_in (sym nth.next ∙ first.next) in
            subst (λ a. Agree result (To n) first.line taken first.rest a) a_is
            (subst (λ r. Agree result (To n) first.line taken r nth.action) r_is
            (subst (λ l. Agree result (To n) l taken nth.rest nth.action) line_is nth.agree)));
      }
