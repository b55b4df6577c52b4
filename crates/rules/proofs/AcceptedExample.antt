-- The counter program is accepted: its relevant paths, and an admissible assignment.
use Rattle.std.proofs.Common.{◌≡◌, ℕ, zero, suc, Bool, true, false, List, [], ◌∷◌, None, Some, refl, sym, ap, subst, ◌∙◌, ◌≤◌, arith, ◌||◌}
use Rattle.std.specs.Prelude.{Contains, length, if◌then◌else◌}
use Rattle.std.specs.List.Sorted.{IsStrictlySortedBy}
use Rattle.paths.specs.Paths.{PathData, path_order}
use Rattle.paths.specs.Renamings.{under_call}
use Rattle.paths.proofs.PathOrder.{eq_is, eq_itself}
use Rattle.algebra.specs.HeldPaths.{has_path}
use Rattle.algebra.specs.declared.basic.Basic.TheVariants.{Mover, Atomic}
use Rattle.core_program.specs.Core.{Method, Expr, Exprs, ThisE, no_exprs}
use Rattle.core_program.specs.Locks.{path_of}
use Rattle.core_program.specs.Examples.{counter, this_path, inc_body, run_body, main_body}
use Rattle.core_program.proofs.ExampleProofs.{EachFrom, each, counter_alone}
use Rattle.rules.specs.Guards.{guard_of, guard_path}
use Rattle.rules.specs.Mentions.{Mention, Accesses, Calls, Locks, Names, mentions, paths_of}
use Rattle.rules.specs.Near.{Mentions, Requires, Near, required, locked, guarded, called, overriding, named, IsRel, IsLoc, ArePathsOf, rel_of, loc_of}
use Rattle.rules.specs.Effect.{effect}
use Rattle.rules.specs.Rules.{AtMost, IsAntitone, AreBodiesBelow, HoldsBound, IsAccepted}
use Rattle.rules.specs.Examples.{counter_paths, counter_levels, cell_path}
use Rattle.rules.proofs.BasicLemmas.{below_itself}
use Rattle.rules.proofs.EffectExamples.{inc_at, run_at}

-- the facts of all elements
abbrev AllOf : {A : Type 0} → (A → Type 0) → List A → Type 0
AllOf Q [] = Unit {0}
AllOf Q (x ∷ xs) = Q x × AllOf Q xs

at_element : {A : Type 0} (Q : A → Type 0) (xs : List A) → AllOf Q xs → (x : A) → Contains xs x → Q x
at_element Q [] all x (k, below, is) = absurd (omega arith)
at_element Q (y ∷ ys) all x (zero, below, is) = subst Q is all.0
at_element Q (y ∷ ys) all x (suc k, below, is) = at_element Q ys all.1 x (k, omega arith, is)

-- what each body mentions
on_mentions : (Q : ℕ → Mention → Type 0) → AllOf (Q 0) (mentions inc_body) → AllOf (Q 1) (mentions run_body) → AllOf (Q 2) (mentions main_body) → (m : ℕ) (x : Mention) → Mentions counter m x → Q m x
on_mentions Q inc run main m x (method, is, has) =
    each (λ n (method : Method). (x : Mention) → Contains (mentions method.body) x → Q n x) counter.methods
    (at_element (Q 0) (mentions inc_body) inc, (at_element (Q 1) (mentions run_body) run, (at_element (Q 2) (mentions main_body) main, tt)))
    m method is x has

-- the paths that may be near each method
abbrev Allowed : ℕ → PathData → Type 0
Allowed zero p = this_path ≡ p
Allowed (suc zero) p = cell_path ≡ p
Allowed (suc (suc m)) p = ⊥

required_allowed : (m : ℕ) (p : PathData) → Requires counter m p → Allowed m p
required_allowed m p (method, is, has) =
    each (λ n (method : Method). (p : PathData) → Contains method.requires_ p → Allowed n p) counter.methods
    ((λ q (k, below, e). absurd (omega arith)), ((λ q (k, below, e). absurd (omega arith)), ((λ q (k, below, e). absurd (omega arith)), tt)))
    m method is p has

abbrev LocksAllowed : ℕ → Mention → Type 0
LocksAllowed m x = (p : PathData) → x ≡ Locks p → Allowed m p

abbrev AccessAllowed : ℕ → Mention → Type 0
AccessAllowed m x = (e : Expr) (f : ℕ) (p : PathData) → x ≡ Accesses e f → guard_path (guard_of counter f (path_of counter e)) ≡ Some p → Allowed m p

abbrev CallAllowed : ℕ → Mention → Type 0
CallAllowed m x = (e : Expr) (callee : ℕ) (args : Exprs) (q p : PathData) → x ≡ Calls e callee args → Allowed callee q → under_call (path_of counter e) (paths_of counter args) q ≡ Some p → Allowed m p

abbrev NamesAllowed : ℕ → Mention → Type 0
NamesAllowed m x = (y : ℕ) (e : Expr) (q p : PathData) → x ≡ Names y e → Allowed m q → Allowed m p

inc_access : (e : Expr) (f : ℕ) (p : PathData) → Accesses ThisE 0 ≡ Accesses e f → guard_path (guard_of counter f (path_of counter e)) ≡ Some p → this_path ≡ p
inc_access e f p is guard =
    let same_e : ThisE ≡ e = cc in
    let same_f : 0 ≡ f = cc in
    let both : Some this_path ≡ Some p = ap (λ x. guard_path (guard_of counter x (path_of counter ThisE))) same_f ∙ ap (λ x. guard_path (guard_of counter f (path_of counter x))) same_e ∙ guard in
    cc

run_access : (e : Expr) (f : ℕ) (p : PathData) → Accesses ThisE 1 ≡ Accesses e f → guard_path (guard_of counter f (path_of counter e)) ≡ Some p → cell_path ≡ p
run_access e f p is guard =
    let same_e : ThisE ≡ e = cc in
    let same_f : 1 ≡ f = cc in
    let both : None ≡ Some p = ap (λ x. guard_path (guard_of counter x (path_of counter ThisE))) same_f ∙ ap (λ x. guard_path (guard_of counter f (path_of counter x))) same_e ∙ guard in
    absurd cc

run_call : (e : Expr) (callee : ℕ) (args : Exprs) (q p : PathData) → Calls (Rattle.core_program.specs.Core.GetE ThisE 1) 0 no_exprs ≡ Calls e callee args → Allowed callee q → under_call (path_of counter e) (paths_of counter args) q ≡ Some p → cell_path ≡ p
run_call e callee args q p is allowed under =
    let same_e : Rattle.core_program.specs.Core.GetE ThisE 1 ≡ e = cc in
    let same_callee : 0 ≡ callee = cc in
    let same_args : no_exprs ≡ args = cc in
    let q_is : this_path ≡ q = subst (λ m. Allowed m q) (sym same_callee) allowed in
    let both : Some cell_path ≡ Some p =
    ap (λ x. under_call (path_of counter x) (paths_of counter no_exprs) this_path) same_e
    ∙ ap (λ x. under_call (path_of counter e) (paths_of counter x) this_path) same_args
    ∙ ap (λ x. under_call (path_of counter e) (paths_of counter args) x) q_is ∙ under in
    cc

pub near_allowed : (m : ℕ) (p : PathData) → Near counter m p → Allowed m p
near_allowed m p (required r) = required_allowed m p r
near_allowed m p (locked has) = on_mentions LocksAllowed
    ((λ q e. cc), ((λ q e. absurd cc), ((λ q e. absurd cc), tt)))
    ((λ q e. absurd cc), ((λ q e. absurd cc), tt))
    ((λ q e. absurd cc), tt) m _ has p refl
near_allowed m p (guarded e f has guard) = on_mentions AccessAllowed
    ((λ a g q is h. absurd cc), (inc_access, (inc_access, tt)))
    ((λ a g q is h. absurd cc), (run_access, tt))
    ((λ a g q is h. absurd cc), tt) m _ has e f p refl guard
near_allowed m p (called e callee args q has near outer under) = on_mentions CallAllowed
    ((λ a c b r s is h k. absurd cc), ((λ a c b r s is h k. absurd cc), ((λ a c b r s is h k. absurd cc), tt)))
    (run_call, ((λ a c b r s is h k. absurd cc), tt))
    ((λ a c b r s is h k. absurd cc), tt) m _ has e callee args q p refl (near_allowed callee q near) under
near_allowed m p (overriding over o near outer known) = absurd (counter_alone over m o)
near_allowed m p (named q e start near has path fits) = on_mentions NamesAllowed
    ((λ y a r s is h. absurd cc), ((λ y a r s is h. absurd cc), ((λ y a r s is h. absurd cc), tt)))
    ((λ y a r s is h. absurd cc), ((λ y a r s is h. absurd cc), tt))
    ((λ y a r s is h. absurd h), tt) m _ has q.root e q p refl (near_allowed m q near)

-- and the other way round
near_this : Near counter 0 this_path
near_this = locked (_, refl, (0, omega arith, refl))

near_cell : Near counter 1 cell_path
near_cell = called (Rattle.core_program.specs.Core.GetE ThisE 1) 0 no_exprs this_path (_, refl, (0, omega arith, refl)) near_this (_, refl, omega arith) refl

only_path : (p q : PathData) → has_path (p ∷ []) q ≡ true → p ≡ q
only_path p q e = eq_is p q (or_false _ e)
  where
    or_false : (b : Bool) → (b || false) ≡ true → b ≡ true
    or_false true e = refl
    or_false false e = e

has_itself : (p q : PathData) → p ≡ q → has_path (p ∷ []) q ≡ true
has_itself p q e = subst (λ x. has_path (p ∷ []) x ≡ true) e (ap (λ b. b || false) (eq_itself p))

none_ascend : IsStrictlySortedBy path_order []
unfolding IsStrictlySortedBy
none_ascend = tt

one_ascends : (p : PathData) → IsStrictlySortedBy path_order (p ∷ [])
unfolding IsStrictlySortedBy
one_ascends p = (tt, tt)

-- each path near a method of this program is rooted at `this`
outer_root : (m : ℕ) (p : PathData) → Allowed m p → 0 ≡ p.root
outer_root zero p is = ap (λ x. x.root) is
outer_root (suc zero) p is = ap (λ x. x.root) is
outer_root (suc (suc m)) p is = absurd is

no_local : (m : ℕ) (p : PathData) → IsLoc counter m p → false ≡ true
no_local m p (near, (method, is, past)) = absurd (let e = outer_root m p (near_allowed m p near) in omega (arith, e, past))

nothing_near : (m : ℕ) (p : PathData) → IsRel counter (suc (suc m)) p → false ≡ true
nothing_near m p (near, outer) = absurd (near_allowed (suc (suc m)) p near)

counter_paths_are : EachFrom (ArePathsOf counter) 0 counter_paths
counter_paths_are = (
  record {
    rel = λ p. ((λ has. subst (IsRel counter 0) (only_path this_path p has) (near_this, (_, refl, omega arith))), (λ r. has_itself this_path p (near_allowed 0 p r.0)));
    loc = λ p. ((λ has. absurd cc), no_local 0 p);
    rel_ascends = one_ascends _;
    loc_ascends = none_ascend;
  },
  (
    record {
      rel = λ p. ((λ has. subst (IsRel counter 1) (only_path cell_path p has) (near_cell, (_, refl, omega arith))), (λ r. has_itself cell_path p (near_allowed 1 p r.0)));
      loc = λ p. ((λ has. absurd cc), no_local 1 p);
      rel_ascends = one_ascends _;
      loc_ascends = none_ascend;
    },
    (
      record {
        rel = λ p. ((λ has. absurd cc), nothing_near 0 p);
        loc = λ p. ((λ has. absurd cc), no_local 2 p);
        rel_ascends = none_ascend;
        loc_ascends = none_ascend;
      },
      tt,
    ),
  ),
)

few_rel : (m : ℕ) → length (rel_of counter_paths m) ≤ 8
few_rel zero = omega arith
few_rel (suc zero) = omega arith
few_rel (suc (suc zero)) = omega arith
few_rel (suc (suc (suc m))) = omega arith

few_loc : (m : ℕ) → length (loc_of counter_paths m) ≤ 8
few_loc zero = omega arith
few_loc (suc zero) = omega arith
few_loc (suc (suc zero)) = omega arith
few_loc (suc (suc (suc m))) = omega arith

level_falls : (h k : Bool) → (h ≡ true → k ≡ true) → AtMost (if k then Mover else Atomic) (if h then Mover else Atomic)
level_falls true true part = refl
level_falls true false part = absurd (let e : false ≡ true = part refl in cc)
level_falls false true part = refl
level_falls false false part = refl

levels_fall : IsAntitone (rel_of counter_paths) counter_levels
levels_fall zero H K within part = level_falls (H this_path) (K this_path) (part this_path)
levels_fall (suc zero) H K within part = level_falls (H cell_path) (K cell_path) (part cell_path)
levels_fall (suc (suc m)) H K within part = refl

levels_close : AreBodiesBelow counter (rel_of counter_paths) counter_levels
levels_close m method is H within locks =
    each (λ n (method : Method). AtMost (effect counter (rel_of counter_paths) counter_levels method.body H) (counter_levels n H)) counter.methods (
      subst (λ b. AtMost b (counter_levels 0 H)) (sym (inc_at (H this_path))) (below_itself _),
      (subst (λ b. AtMost b (counter_levels 1 H)) (sym (run_at (H cell_path))) (below_itself _), (refl, tt)),
    )
    m method is

pub counter_accepted : IsAccepted counter
counter_accepted = record {
  sets = counter_paths;
  relevant = record { count = refl; each = each (ArePathsOf counter) counter_paths counter_paths_are };
  few = record { rel = few_rel; loc = few_loc };
  assignment = counter_levels;
  admissible = record { falling = levels_fall; closed = record { bodies = levels_close; overrides = λ m over method is o. absurd (counter_alone over m o) }; bounds = each (HoldsBound counter_levels) counter.methods (refl, (refl, (refl, tt))) };
}
