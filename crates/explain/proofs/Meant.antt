-- Each method that is more than its limit has a reason, which means what it says.
use Rattle.std.proofs.Common.{◌≡◌, ◌≢◌, ◌⊎◌, ℕ, Bool, true, false, not, ◌&&◌, ◌||◌, List, [], ◌∷◌, ◌++◌, Option, Some, None, IsSome, is_some, if◌then◌else◌, refl, sym, ap, subst, ◌∙◌, arith, inl, inr}
use Rattle.std.specs.Prelude.{Contains, filter}
use Rattle.std.specs.List.{AllByRecursion, list_all}
use Rattle.std.proofs.lemmas.Bool.{and_parts, false≢true}
use Rattle.std.proofs.lemmas.Option.{none-some, same_Some}
use Rattle.base.proofs.Lists.{contains_cases, contains_later}
use Rattle.paths.specs.Paths.{PathData}
use Rattle.algebra.specs.declared.basic.Basic.{Basic}
use Rattle.algebra.specs.declared.basic.Basic.TheVariants.{Const, Mover, Atomic, Cmpd, Error}
use Rattle.algebra.specs.Basics.{below_of}
use Rattle.algebra.specs.HeldPaths.{Held, has_path}
use Rattle.core_program.specs.Core.{Program, Method}
use Rattle.effects.specs.Parts.{StmtP}
use Rattle.rules.specs.Effect.{Assignment, effect}
use Rattle.rules.specs.Rules.{AtMost, held_in}
use Rattle.explain.specs.StepReadings.{are_many, first_where, is_cmpd, is_error, own_at}
use Rattle.explain.specs.Steps.{stmt_steps}
use Rattle.explain.specs.Visits.{Visit, stmt_visits}
use Rattle.explain.proofs.WhyErrors.{error_reads, error_is}
use Rattle.explain.proofs.Heavy.{part_heavy}
use Rattle.explain.proofs.Readings.{cmpd_reads, cmpd_is}
use Rattle.explain.proofs.AllVisits.{part_among}
use Rattle.explain.specs.Explaining.{begins_compound, body_why, done_in_order, is_call_of_method, compound_or, compound_why, is_error_of_part, looped_or, over_of, steps_of, steps_why, why_of, with_first, wrong_of, wrong_or}
use Rattle.explain.specs.Meanings.{are_within, IsBefore, IsAmong, IsAboveLimit, IsReasonOf, Means}
use Rattle.explain.specs.Views.{errors_in}
use Rattle.explain.specs.Whys.{WhyData, Compound, Two, Overridden}

-- ---- basics

-- more than a limit that is at least atomic, and no error
cmpd_above : (b limit : Basic) → below_of Atomic limit ≡ true → below_of b limit ≡ false → is_error b ≡ false → b ≡ Cmpd
cmpd_above Const Const atomic above fine = absurd cc
cmpd_above Const Mover atomic above fine = absurd cc
cmpd_above Const Atomic atomic above fine = absurd cc
cmpd_above Const Cmpd atomic above fine = absurd cc
cmpd_above Const Error atomic above fine = absurd cc
cmpd_above Mover Const atomic above fine = absurd cc
cmpd_above Mover Mover atomic above fine = absurd cc
cmpd_above Mover Atomic atomic above fine = absurd cc
cmpd_above Mover Cmpd atomic above fine = absurd cc
cmpd_above Mover Error atomic above fine = absurd cc
cmpd_above Atomic Const atomic above fine = absurd cc
cmpd_above Atomic Mover atomic above fine = absurd cc
cmpd_above Atomic Atomic atomic above fine = absurd cc
cmpd_above Atomic Cmpd atomic above fine = absurd cc
cmpd_above Atomic Error atomic above fine = absurd cc
cmpd_above Cmpd Const atomic above fine = absurd cc
cmpd_above Cmpd Mover atomic above fine = absurd cc
cmpd_above Cmpd Atomic atomic above fine = refl
cmpd_above Cmpd Cmpd atomic above fine = absurd cc
cmpd_above Cmpd Error atomic above fine = absurd cc
cmpd_above Error Const atomic above fine = absurd cc
cmpd_above Error Mover atomic above fine = absurd cc
cmpd_above Error Atomic atomic above fine = absurd cc
cmpd_above Error Cmpd atomic above fine = absurd cc
cmpd_above Error Error atomic above fine = absurd cc

-- neither movable, nor an error, nor compound
atomic_else : (b : Basic) → below_of b Mover ≡ false → is_error b ≡ false → is_cmpd b ≡ false → b ≡ Atomic
atomic_else Const heavy fine simple = absurd cc
atomic_else Mover heavy fine simple = absurd cc
atomic_else Atomic heavy fine simple = refl
atomic_else Cmpd heavy fine simple = absurd cc
atomic_else Error heavy fine simple = absurd cc

-- ---- lists

all_mapped : {X : Type 0} (Q R : X → Type 0) (xs : List X) → ((x : X) → Q x → R x) → AllByRecursion Q xs → AllByRecursion R xs
all_mapped Q R [] f all = tt
all_mapped Q R (x ∷ xs) f all = (f x all.0, all_mapped Q R xs f all.1)

-- each item of a list stands in it
each_there : {X : Type 0} (xs : List X) → AllByRecursion (Contains xs) xs
each_there [] = tt
each_there (x ∷ xs) = ((0, omega arith, refl), all_mapped (Contains xs) (Contains (x ∷ xs)) xs (λ y there. contains_later x y xs there) (each_there xs))

all_filtered : (Q : Visit → Type 0) (test : Visit → Bool) (vs : List Visit) → AllByRecursion Q vs → AllByRecursion (λ v. Q v × (test v ≡ true)) (filter test vs)
all_filtered Q test [] all = tt
all_filtered Q test (v ∷ vs) all = by (test v) refl (all_filtered Q test vs all.1)
  where
    by : (b : Bool) → test v ≡ b → AllByRecursion (λ w. Q w × (test w ≡ true)) (filter test vs) → AllByRecursion (λ w. Q w × (test w ≡ true)) (if b then v ∷ filter test vs else filter test vs)
    by true is rest = ((all.0, is), rest)
    by false is rest = rest

-- what holds of all holds of the first that passes a test
all_first : (Q : Visit → Type 0) (test : Visit → Bool) (vs : List Visit) (v : Visit) → AllByRecursion Q vs → first_where test vs ≡ Some v → Q v
all_first Q test [] v all e = absurd (none-some v e)
all_first Q test (w ∷ vs) v all e = by (test w) e (all_first Q test vs v all.1)
  where
    by : (b : Bool) → (if b then Some w else first_where test vs) ≡ Some v → (first_where test vs ≡ Some v → Q v) → Q v
    by true named later = subst Q (same_Some w v named) all.0
    by false named later = later named

-- the first that a filter leaves, and what is behind it
record IsCut (test : Visit → Bool) (vs : List Visit) (v : Visit) (ws : List Visit) : Type 0 where
  front : List Visit
  rest : List Visit
  whole : vs ≡ front ++ (v ∷ rest)
  left : filter test rest ≡ ws

same_head : (v w : Visit) (vs ws : List Visit) → v ∷ vs ≡ w ∷ ws → v ≡ w
same_head v w vs ws e = cc

same_tail : (v w : Visit) (vs ws : List Visit) → v ∷ vs ≡ w ∷ ws → vs ≡ ws
same_tail v w vs ws e = cc

first_left : (test : Visit → Bool) (vs : List Visit) (v : Visit) (ws : List Visit) → filter test vs ≡ v ∷ ws → IsCut test vs v ws
first_left test [] v ws e = absurd cc
first_left test (x ∷ xs) v ws e = by (test x) e (first_left test xs v ws)
  where
    by : (b : Bool) → (if b then x ∷ filter test xs else filter test xs) ≡ v ∷ ws → (filter test xs ≡ v ∷ ws → IsCut test xs v ws) → IsCut test (x ∷ xs) v ws
    by true named later = record { front = []; rest = xs; whole = ap (λ y. y ∷ xs) (same_head x v (filter test xs) ws named); left = same_tail x v (filter test xs) ws named }
    by false named later = let more = later named in record { front = x ∷ more.front; rest = more.rest; whole = ap (λ l. x ∷ l) more.whole; left = more.left }

two_left : (test : Visit → Bool) (vs : List Visit) (v w : Visit) (ws : List Visit) → filter test vs ≡ v ∷ w ∷ ws → IsBefore vs v w
two_left test vs v w ws e =
    let one = first_left test vs v (w ∷ ws) e in
    let other = first_left test one.rest w ws one.left in
    record { before = one.front; between = other.front; after = other.rest; whole = one.whole ∙ ap (λ l. one.front ++ (v ∷ l)) other.whole }

-- a filter that leaves none is one whose opposite leaves all
none_left : (test : Visit → Bool) (vs : List Visit) → filter test vs ≡ [] → filter (λ v. not (test v)) vs ≡ vs
none_left test [] e = refl
none_left test (v ∷ vs) e = by (test v) e (none_left test vs)
  where
    by : (b : Bool) → (if b then v ∷ filter test vs else filter test vs) ≡ [] → (filter test vs ≡ [] → filter (λ w. not (test w)) vs ≡ vs)
        → (if not b then v ∷ filter (λ w. not (test w)) vs else filter (λ w. not (test w)) vs) ≡ v ∷ vs
    by true named later = absurd cc
    by false named later = ap (λ l. v ∷ l) (later named)

module _ (P : Program) (rel : ℕ → List PathData) (A : Assignment) where
  abbrev compound : Visit → Bool
  compound v = is_cmpd (own_at P rel A v)

  -- ---- steps

  module _ (vs : List Visit) where
    -- an atomic step, and a compound one
    abbrev Atom : Visit → Type 0
    Atom v = IsAmong P rel A vs Atomic v

    abbrev Comp : Visit → Type 0
    Comp v = IsAmong P rel A vs Cmpd v

    module _ (visits : List Visit) (overs : List ℕ) (H : Held) (limit : Basic) where
      abbrev Meant : WhyData → Type 0
      Meant why = Means P rel A visits vs overs H limit why

      -- the first compound step, where not all is nothing
      first_meant : (cs : List Visit) → AllByRecursion Comp cs → (cs ≡ [] → ⊥) → Meant (with_first None cs)
      first_meant [] all some = absurd (some refl)
      first_meant (c ∷ cs) all some = all.0

      alone_meant : (self : ℕ) (cs : List Visit) → AllByRecursion Comp cs → (cs ≡ [] → ⊥) → Meant (compound_why self None cs)
      alone_meant self cs all some = by (first_where (λ c. not (is_call_of_method self c.part)) cs) refl
        where
          by : (found : Option Visit) → first_where (λ c. not (is_call_of_method self c.part)) cs ≡ found → Meant (compound_or found None cs)
          by None is = first_meant cs all some
          by (Some c) is = all_first Comp (λ c. not (is_call_of_method self c.part)) cs c all is

      -- an atomic step and a compound one, in the order in which they are done
      ordered : (v c : Visit) (cs : List Visit) → filter (λ u. not (compound u)) vs ≡ v ∷ [] → filter compound vs ≡ c ∷ cs → Atom v → Comp c → Meant (done_in_order (begins_compound P rel A vs) (Two v c))
      ordered v c cs own_is cs_is atom comp = by vs refl own_is cs_is
        where
          by : (us : List Visit) → vs ≡ us → filter (λ u. not (compound u)) us ≡ v ∷ [] → filter compound us ≡ c ∷ cs → Meant (done_in_order (begins_compound P rel A us) (Two v c))
          by [] same own comps = absurd cc
          by (u ∷ us) same own comps = pick (compound u) refl own comps
            where
              pick : (b : Bool) → compound u ≡ b → (if not b then u ∷ filter (λ w. not (compound w)) us else filter (λ w. not (compound w)) us) ≡ v ∷ []
                  → (if b then u ∷ filter compound us else filter compound us) ≡ c ∷ cs → Meant (done_in_order b (Two v c))
              pick false is own comps =
                  let first : u ≡ v = same_head u v (filter (λ w. not (compound w)) us) [] own in
                  let later = first_left compound us c cs comps in
                  (record { before = []; between = later.front; after = later.rest; whole = same ∙ (λ i. first i ∷ later.whole i) }, inl (atom, inr comp))
              pick true is own comps =
                  let first : u ≡ c = same_head u c (filter compound us) cs comps in
                  let later = first_left (λ w. not (compound w)) us v [] own in
                  (record { before = []; between = later.front; after = later.rest; whole = same ∙ (λ i. first i ∷ later.whole i) }, inr (comp, atom))

      -- a step that isn't compound by itself, and others that are
      behind_meant : (self : ℕ) (v : Visit) (cs : List Visit) → filter (λ u. not (compound u)) vs ≡ v ∷ [] → filter compound vs ≡ cs → Atom v → AllByRecursion Comp cs → (cs ≡ [] → ⊥)
          → Meant (done_in_order (begins_compound P rel A vs) (compound_why self (Some v) cs))
      behind_meant self v cs own_is cs_is atom all some = by (first_where (λ c. not (is_call_of_method self c.part)) cs) refl
        where
          kept : (b : Bool) (c : Visit) → Comp c → Meant (done_in_order b (Compound c))
          kept true c comp = comp
          kept false c comp = comp

          with_one : (ds : List Visit) → filter compound vs ≡ ds → AllByRecursion Comp ds → (ds ≡ [] → ⊥) → Meant (done_in_order (begins_compound P rel A vs) (with_first (Some v) ds))
          with_one [] is comps nonempty = absurd (nonempty refl)
          with_one (d ∷ ds) is comps nonempty = ordered v d ds own_is is atom comps.0

          by : (found : Option Visit) → first_where (λ c. not (is_call_of_method self c.part)) cs ≡ found → Meant (done_in_order (begins_compound P rel A vs) (compound_or found (Some v) cs))
          by None is = with_one cs cs_is all some
          by (Some c) is = kept (begins_compound P rel A vs) c (all_first Comp (λ c. not (is_call_of_method self c.part)) cs c all is)

      looped_meant : (v : Visit) (loop : Option ℕ) (why : WhyData) → v.loop ≡ loop → Atom v → (loop ≡ None → Meant why) → Meant (looped_or v loop why)
      looped_meant v None why is atom rest = rest refl
      looped_meant v (Some n) why is atom rest = (atom, is)

      steps_meant : (self : ℕ) (own cs : List Visit) → filter (λ v. not (compound v)) vs ≡ own → filter compound vs ≡ cs
          → AllByRecursion Atom own → AllByRecursion Comp cs → are_many P rel A vs ≡ true → Meant (steps_why self (begins_compound P rel A vs) own cs)
      steps_meant self [] cs own_is cs_is atoms comps many =
          alone_meant self cs comps
          (λ empty. let all = none_left compound vs (cs_is ∙ empty) in false≢true (sym (ap (are_many P rel A) (sym all ∙ own_is)) ∙ many))
      steps_meant self (v ∷ []) cs own_is cs_is atoms comps many =
          looped_meant v v.loop (done_in_order (begins_compound P rel A vs) (compound_why self (Some v) cs)) refl atoms.0
          (λ once. behind_meant self v cs own_is cs_is atoms.0 comps
          (λ empty. let all = none_left compound vs (cs_is ∙ empty) in
          let alone : vs ≡ v ∷ [] = sym all ∙ own_is in
          let one : are_many P rel A (v ∷ []) ≡ false = (λ i. (is_some (once i) || false) || (is_cmpd (atoms.0.own i) || false)) in
          false≢true (sym (ap (are_many P rel A) alone ∙ one) ∙ many)))
      steps_meant self (v ∷ w ∷ ws) cs own_is cs_is atoms comps many =
          looped_meant v v.loop (Two v w) refl atoms.0 (λ once. (two_left (λ u. not (compound u)) vs v w ws own_is, inl (atoms.0, inl atoms.1.0)))

  -- each of these steps can't be moved, and is no error
  abbrev Solid : List Visit → Visit → Type 0
  Solid vs v = Contains vs v × (below_of (own_at P rel A v) Mover ≡ false) × (is_error (own_at P rel A v) ≡ false)

  all_solid : (vs ws : List Visit) → AllByRecursion (Contains vs) ws → list_all (λ v. not (below_of (own_at P rel A v) Mover)) ws ≡ true
      → ((v : Visit) → Contains vs v → is_error (own_at P rel A v) ≡ false) → AllByRecursion (Solid vs) ws
  all_solid vs [] there heavy fine = tt
  all_solid vs (w ∷ ws) there heavy fine =
      let both = and_parts _ _ heavy in
      ((there.0, not_true _ both.0, fine w there.0), all_solid vs ws there.1 both.1 fine)
    where
      not_true : (b : Bool) → not b ≡ true → b ≡ false
      not_true true e = absurd cc
      not_true false e = refl

  own_atoms : (vs : List Visit) (ws : List Visit) → AllByRecursion (λ v. Solid vs v × (not (compound v) ≡ true)) ws → AllByRecursion (IsAmong P rel A vs Atomic) ws
  own_atoms vs ws all = all_mapped (λ v. Solid vs v × (not (compound v) ≡ true)) (IsAmong P rel A vs Atomic) ws
      (λ v h. record { there = h.0.0; own = atomic_else (own_at P rel A v) h.0.1 h.0.2 (not_is _ h.1) }) all
    where
      not_is : (b : Bool) → not b ≡ true → b ≡ false
      not_is true e = absurd cc
      not_is false e = refl

  own_comps : (vs : List Visit) (ws : List Visit) → AllByRecursion (λ v. Solid vs v × (compound v ≡ true)) ws → AllByRecursion (IsAmong P rel A vs Cmpd) ws
  own_comps vs ws all = all_mapped (λ v. Solid vs v × (compound v ≡ true)) (IsAmong P rel A vs Cmpd) ws
      (λ v h. record { there = h.0.0; own = cmpd_is (own_at P rel A v) h.1 }) all

  -- a list in which some visit passes a test has a first one that does
  some_where : (test : Visit → Bool) (vs : List Visit) (v : Visit) → Contains vs v → test v ≡ true → IsSome (first_where test vs)
  some_where test [] v (k, below, is) passes = absurd (omega (arith, below))
  some_where test (x ∷ xs) v there passes = by (test x) refl (contains_cases x v xs there) (λ more. some_where test xs v more passes)
    where
      by : (b : Bool) → test x ≡ b → (x ≡ v) ⊎ Contains xs v → (Contains xs v → IsSome (first_where test xs)) → IsSome (if b then Some x else first_where test xs)
      by true is where_is later = refl
      by false is (inl same) later = absurd (false≢true (sym is ∙ ap test same ∙ passes))
      by false is (inr more) later = later more

  none_where : (test : Visit → Bool) (vs : List Visit) → filter test vs ≡ [] → first_where test vs ≡ None
  none_where test [] e = refl
  none_where test (x ∷ xs) e = by (test x) e (none_where test xs)
    where
      by : (b : Bool) → (if b then x ∷ filter test xs else filter test xs) ≡ [] → (filter test xs ≡ [] → first_where test xs ≡ None) → (if b then Some x else first_where test xs) ≡ None
      by true named later = absurd cc
      by false named later = later named

  -- ---- the first method that is more than the limit

  record IsOverFound (ms : List ℕ) (H : Held) (limit : Basic) : Type 0 where
    method : ℕ
    basic : Basic
    found : over_of rel A limit ms H ≡ Overridden method basic
    over : IsAboveLimit rel A ms H limit method basic

  over_found : (ms : List ℕ) (H : Held) (limit : Basic) → list_all (λ m. below_of (A m (held_in (rel m) H)) limit) ms ≡ false → IsOverFound ms H limit
  over_found [] H limit e = absurd cc
  over_found (m ∷ ms) H limit e = by (below_of (A m (held_in (rel m) H)) limit) refl e (over_found ms H limit)
    where
      by : (b : Bool) → below_of (A m (held_in (rel m) H)) limit ≡ b → (b && list_all (λ k. below_of (A k (held_in (rel k) H)) limit) ms) ≡ false
          → (list_all (λ k. below_of (A k (held_in (rel k) H)) limit) ms ≡ false → IsOverFound ms H limit) → IsOverFound (m ∷ ms) H limit
      by true is rest later =
          let more = later rest in
          record {
            method = more.method;
            basic = more.basic;
            found = ap (λ (c : Bool). if c then over_of rel A limit ms H else Overridden m (A m (held_in (rel m) H))) is ∙ more.found;
            over = record { there = contains_later m more.method ms more.over.there; is = more.over.is; above = more.over.above };
          }
      by false is rest later =
          record {
            method = m;
            basic = A m (held_in (rel m) H);
            found = ap (λ (c : Bool). if c then over_of rel A limit ms H else Overridden m (A m (held_in (rel m) H))) is;
            over = record { there = (0, omega arith, refl); is = refl; above = is };
          }

  -- ---- a method

  module _ (overs : List ℕ) (self : ℕ) (method : Method) (limit : Basic) where
    abbrev begun : Held
    begun = has_path method.requires_

    abbrev all_visits : List Visit
    all_visits = stmt_visits P method.body 0 begun None

    abbrev all_steps : List Visit
    all_steps = stmt_steps P rel A method.body 0 begun None

    abbrev body : Basic
    body = effect P rel A method.body begun

    wrong_errors : AllByRecursion (IsAmong P rel A all_visits Error) (errors_in P rel A all_visits)
    wrong_errors = all_mapped (λ v. Contains all_visits v × (is_error (own_at P rel A v) ≡ true)) (IsAmong P rel A all_visits Error) (errors_in P rel A all_visits)
        (λ v h. record { there = h.0; own = error_is (own_at P rel A v) h.1 })
        (all_filtered (Contains all_visits) (λ v. is_error (own_at P rel A v)) all_visits (each_there all_visits))

    wrong_meant : (errors : List Visit) → AllByRecursion (IsAmong P rel A all_visits Error) errors → (errors ≡ [] → ⊥) → IsReasonOf P rel A overs method limit (wrong_of P rel errors)
    wrong_meant errors all some = by (first_where (λ v. is_error_of_part P rel v.part v.held) errors) refl errors all some
      where
        by : (found : Option Visit) → first_where (λ v. is_error_of_part P rel v.part v.held) errors ≡ found → (vs : List Visit) → AllByRecursion (IsAmong P rel A all_visits Error) vs → (vs ≡ [] → ⊥)
            → IsReasonOf P rel A overs method limit (wrong_or found vs)
        by (Some v) is vs every there = all_first (IsAmong P rel A all_visits Error) (λ w. is_error_of_part P rel w.part w.held) errors v all is
        by None is [] every there = absurd (there refl)
        by None is (v ∷ vs) every there = every.0

    fine : body ≢ Error → (v : Visit) → Contains all_steps v → is_error (own_at P rel A v) ≡ false
    fine good v there = by (is_error (own_at P rel A v)) refl
      where
        by : (b : Bool) → is_error (own_at P rel A v) ≡ b → b ≡ false
        by false is = refl
        by true is =
            absurd (good ((error_reads P rel A (StmtP method.body) 0 begun).1
            (some_where (λ w. is_error (own_at P rel A w)) all_visits v (part_among P rel A (StmtP method.body) 0 begun v there) is)))

    solid : body ≢ Error → AllByRecursion (Solid all_steps) all_steps
    solid good = all_solid all_steps all_steps (each_there all_steps) (part_heavy P rel A (StmtP method.body) 0 begun) (fine good)

    compound_meant_body : body ≢ Error → body ≡ Cmpd → IsReasonOf P rel A overs method limit (steps_of P rel A self all_steps)
    compound_meant_body good is =
        steps_meant all_steps all_visits overs begun limit self
        (filter (λ v. not (compound v)) all_steps) (filter compound all_steps) refl refl
        (own_atoms all_steps (filter (λ v. not (compound v)) all_steps) (all_filtered (Solid all_steps) (λ v. not (compound v)) all_steps (solid good)))
        (own_comps all_steps (filter compound all_steps) (all_filtered (Solid all_steps) compound all_steps (solid good)))
        ((cmpd_reads P rel A (StmtP method.body) 0 begun good).0 is)

    not_error : (b : Basic) → is_error b ≡ false → b ≢ Error
    not_error b fine e = false≢true (sym fine ∙ ap is_error e)

    body_meant : AtMost Atomic limit → below_of body limit ≡ false → IsReasonOf P rel A overs method limit (body_why P rel A self body (errors_in P rel A all_visits) all_steps)
    body_meant atomic above = by (is_error body) refl
      where
        by : (b : Bool) → is_error body ≡ b → IsReasonOf P rel A overs method limit (if b then wrong_of P rel (errors_in P rel A all_visits) else steps_of P rel A self all_steps)
        by true is = wrong_meant (errors_in P rel A all_visits) wrong_errors
            (λ empty. let none = none_where (λ v. is_error (own_at P rel A v)) all_visits empty in
            let some = (error_reads P rel A (StmtP method.body) 0 begun).0 (error_is body is) in
            false≢true (sym (ap is_some none) ∙ some))
        by false is = compound_meant_body (not_error body is) (cmpd_above body limit atomic above is)

    pub meant : AtMost Atomic limit → are_within P rel A overs method limit ≡ false → IsReasonOf P rel A overs method limit (why_of P rel A overs self method limit)
    meant atomic above = by (below_of body limit) refl above
      where
        by : (b : Bool) → below_of body limit ≡ b → (b && list_all (λ m. below_of (A m (held_in (rel m) begun)) limit) overs) ≡ false
            → IsReasonOf P rel A overs method limit (if b then over_of rel A limit overs begun else body_why P rel A self body (errors_in P rel A all_visits) all_steps)
        by true is rest = let found = over_found overs begun limit rest in subst (IsReasonOf P rel A overs method limit) (sym found.found) found.over
        by false is rest = body_meant atomic is
