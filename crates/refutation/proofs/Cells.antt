-- The cells of a program: each has its place, and there is one for each set of held paths that counts.
use Rattle.std.proofs.Common.{◌≡◌, ℕ, zero, suc, ◌+◌, Bool, true, false, List, [], ◌∷◌, ◌++◌, map, Some, refl, sym, ap, subst, ◌∙◌, inl, inr, arith}
use Rattle.std.specs.Prelude.{filter, slice_get, if◌then◌else◌}
use Rattle.std.specs.List.{list_all, AllByRecursion}
use Rattle.std.specs.Cmp.{both_ways}
use Rattle.std.proofs.lemmas.Bool.{and_from, or_cases, or_left, or_right}
use Rattle.paths.specs.Paths.{PathData, path_eq}
use Rattle.paths.proofs.PathOrder.{eq_is}
use Rattle.algebra.specs.HeldPaths.{Held, has_path}
use Rattle.core_program.specs.Core.{Program, Method}
use Rattle.rules.specs.Rules.{IsSubset}
use Rattle.rules.proofs.SetLemmas.{has_all, first, second}
use Rattle.refutation.specs.Certificates.{are_placed}
use Rattle.refutation.specs.Passes.{with_and_without, subsets_of, MethodAtSet, cells_in, cells_from, cells_of}

-- facts of each element, carried through the lists that cells are made of
each_first : {A : Type 0} (Q : A → Type 0) (xs ys : List A) → AllByRecursion Q (xs ++ ys) → AllByRecursion Q xs
each_first Q [] ys all = tt
each_first Q (x ∷ xs) ys all = (all.0, each_first Q xs ys all.1)

each_second : {A : Type 0} (Q : A → Type 0) (xs ys : List A) → AllByRecursion Q (xs ++ ys) → AllByRecursion Q ys
each_second Q [] ys all = all
each_second Q (x ∷ xs) ys all = each_second Q xs ys all.1

each_both : {A : Type 0} (Q : A → Type 0) (xs ys : List A) → AllByRecursion Q xs → AllByRecursion Q ys → AllByRecursion Q (xs ++ ys)
each_both Q [] ys all more = more
each_both Q (x ∷ xs) ys all more = (all.0, each_both Q xs ys all.1 more)

each_unmap : {A B : Type 0} (Q : B → Type 0) (f : A → B) (xs : List A) → AllByRecursion Q (map f xs) → AllByRecursion (λ x. Q (f x)) xs
each_unmap Q f [] all = tt
each_unmap Q f (x ∷ xs) all = (all.0, each_unmap Q f xs all.1)

each_map : {A B : Type 0} (Q : B → Type 0) (f : A → B) (xs : List A) → AllByRecursion (λ x. Q (f x)) xs → AllByRecursion Q (map f xs)
each_map Q f [] all = tt
each_map Q f (x ∷ xs) all = (all.0, each_map Q f xs all.1)

each_unfilter : {A : Type 0} (Q : A → Type 0) (t : A → Bool) (xs : List A) → AllByRecursion Q (filter t xs) → AllByRecursion (λ x. t x ≡ true → Q x) xs
each_unfilter Q t [] all = tt
each_unfilter Q t (x ∷ xs) all =
    elim (t x) as (λ b. t x ≡ b → AllByRecursion Q (if b then x ∷ filter t xs else filter t xs) → (t x ≡ true → Q x) × AllByRecursion (λ x. t x ≡ true → Q x) xs) [
      | true ↦ λ e a. ((λ f. a.0), each_unfilter Q t xs a.1)
      | false ↦ λ e a. ((λ f. absurd (let g : false ≡ true = sym e ∙ f in cc)), each_unfilter Q t xs a)
    ] refl all

pub each_filter : {A : Type 0} (Q : A → Type 0) (t : A → Bool) (xs : List A) → AllByRecursion (λ x. t x ≡ true → Q x) xs → AllByRecursion Q (filter t xs)
each_filter Q t [] all = tt
each_filter Q t (x ∷ xs) all =
    elim (t x) as (λ b. t x ≡ b → AllByRecursion Q (if b then x ∷ filter t xs else filter t xs)) [
      | true ↦ λ e. (all.0 e, each_filter Q t xs all.1)
      | false ↦ λ e. each_filter Q t xs all.1
    ] refl

each_unwith : (Q : List PathData → Type 0) (p : PathData) (xs : List (List PathData)) → AllByRecursion Q (with_and_without p xs) → AllByRecursion (λ ps. Q ps × Q (p ∷ ps)) xs
each_unwith Q p [] all = tt
each_unwith Q p (ps ∷ xs) all = ((all.0, all.1.0), each_unwith Q p xs all.1.1)

pub each_with : (Q : List PathData → Type 0) (p : PathData) (xs : List (List PathData)) → AllByRecursion (λ ps. Q ps × Q (p ∷ ps)) xs → AllByRecursion Q (with_and_without p xs)
each_with Q p [] all = tt
each_with Q p (ps ∷ xs) all = (all.0.0, (all.0.1, each_with Q p xs all.1))

pub each_implies : {A : Type 0} (Q R : A → Type 0) (xs : List A) → ((x : A) → Q x → R x) → AllByRecursion Q xs → AllByRecursion R xs
each_implies Q R [] h all = tt
each_implies Q R (x ∷ xs) h all = (h x all.0, each_implies Q R xs h all.1)

-- among the parts of a list is what a test leaves of it
part_of : (Q : List PathData → Type 0) (ps : List PathData) (H : Held) → AllByRecursion Q (subsets_of ps) → Q (filter H ps)
part_of Q [] H all = all.0
part_of Q (p ∷ ps) H all =
    let both = part_of (λ qs. Q qs × Q (p ∷ qs)) ps H (each_unwith Q p (subsets_of ps) all) in
    elim (H p) as (λ b. Q (if b then p ∷ filter H ps else filter H ps)) [ true ↦ both.1 | false ↦ both.0 ]

-- each part of a list passes a test that each path of the list passes
pub parts_pass : (H : Held) (ps : List PathData) → list_all H ps ≡ true → AllByRecursion (λ qs. list_all H qs ≡ true) (subsets_of ps)
parts_pass H [] e = (refl, tt)
parts_pass H (p ∷ ps) e = each_with (λ qs. list_all H qs ≡ true) p (subsets_of ps)
    (each_implies (λ qs. list_all H qs ≡ true) (λ qs. (list_all H qs ≡ true) × (list_all H (p ∷ qs) ≡ true)) (subsets_of ps)
    (λ qs all. (all, and_from (H p) (list_all H qs) (first (H p) (list_all H ps) e) all))
    (parts_pass H ps (second (H p) (list_all H ps) e)))

-- a cell has a method of the program, at relevant paths that have the required ones
abbrev pub is_placed_cell : Program → (rel : ℕ → List PathData) → MethodAtSet → Bool
is_placed_cell P rel c = are_placed (slice_get P.methods c.method) (rel c.method) c.held

module _ (P : Program) (rel : ℕ → List PathData) where
  placed_in : (m : ℕ) (method : Method) → slice_get P.methods m ≡ Some method → AllByRecursion (λ c. is_placed_cell P rel c ≡ true) (cells_in m method.requires_ (subsets_of (rel m)))
  placed_in m method is = each_map (λ c. is_placed_cell P rel c ≡ true) (λ held. record { method = m; held = held }) (filter (λ held. list_all (has_path held) method.requires_) (subsets_of (rel m)))
      (each_filter (λ held. are_placed (slice_get P.methods m) (rel m) held ≡ true) (λ held. list_all (has_path held) method.requires_) (subsets_of (rel m))
      (each_implies (λ held. list_all (has_path (rel m)) held ≡ true) (λ held. list_all (has_path held) method.requires_ ≡ true → are_placed (slice_get P.methods m) (rel m) held ≡ true) (subsets_of (rel m))
      (λ held inside required. subst (λ o. are_placed o (rel m) held ≡ true) (sym is) (and_from (list_all (has_path (rel m)) held) (list_all (has_path held) method.requires_) inside required))
      (parts_pass (has_path (rel m)) (rel m) (has_all (rel m) (has_path (rel m)) (λ q e. e)))))

  placed_from : (m : ℕ) (methods : List Method) → ((k : ℕ) (method : Method) → slice_get methods k ≡ Some method → slice_get P.methods (m + k) ≡ Some method) → AllByRecursion (λ c. is_placed_cell P rel c ≡ true) (cells_from rel m methods)
  placed_from m [] at = tt
  placed_from m (method ∷ methods) at =
      let here : m + 0 ≡ m = omega arith in
      each_both (λ c. is_placed_cell P rel c ≡ true) (cells_in m method.requires_ (subsets_of (rel m))) (cells_from rel (m + 1) methods)
      (placed_in m method (ap (λ n. slice_get P.methods n) (sym here) ∙ at 0 method refl))
      (placed_from (m + 1) methods (λ k x e. let later : m + 1 + k ≡ m + suc k = omega arith in ap (λ n. slice_get P.methods n) later ∙ at (suc k) x e))

  -- each cell has its place
  pub cells_placed : AllByRecursion (λ c. is_placed_cell P rel c ≡ true) (cells_of P rel)
  cells_placed = placed_from 0 P.methods (λ k method e. let same : 0 + k ≡ k = omega arith in ap (λ n. slice_get P.methods n) same ∙ e)

  cell_from : (Q : MethodAtSet → Type 0) (m : ℕ) (methods : List Method) → AllByRecursion Q (cells_from rel m methods) → (k n : ℕ) (method : Method) → slice_get methods k ≡ Some method → n ≡ m + k
      → (H : Held) → list_all (has_path (filter H (rel n))) method.requires_ ≡ true → Q (record { method = n; held = filter H (rel n) })
  cell_from Q m [] all k n method e is H required = absurd (let f : slice_get [] k ≡ Some method = e in cc)
  cell_from Q m (x ∷ methods) all zero n method e is H required =
      let same : m ≡ n = omega (arith, is) in
      let first_cells = each_first Q (cells_in m x.requires_ (subsets_of (rel m))) (cells_from rel (m + 1) methods) all in
      let that : x ≡ method = same_method x method e in
      let here = subst (λ y. AllByRecursion Q (cells_in m y.requires_ (subsets_of (rel m)))) that first_cells in
      let at_n = subst (λ z. AllByRecursion Q (cells_in z method.requires_ (subsets_of (rel z)))) same here in
      part_of (λ held. list_all (has_path held) method.requires_ ≡ true → Q (record { method = n; held = held })) (rel n) H
      (each_unfilter (λ held. Q (record { method = n; held = held })) (λ held. list_all (has_path held) method.requires_) (subsets_of (rel n))
      (each_unmap Q (λ held. record { method = n; held = held }) (filter (λ held. list_all (has_path held) method.requires_) (subsets_of (rel n))) at_n)) required
    where
      same_method : (x y : Method) → slice_get (x ∷ methods) 0 ≡ Some y → x ≡ y
      same_method x y e = cc
  cell_from Q m (x ∷ methods) all (suc k) n method e is H required =
      cell_from Q (m + 1) methods (each_second Q (cells_in m x.requires_ (subsets_of (rel m))) (cells_from rel (m + 1) methods) all) k n method e (omega (arith, is)) H required

  -- the paths that a test leaves of a list in which all of the set are
  pub listed : (ps : List PathData) (H : Held) → IsSubset H (has_path ps) → has_path (filter H ps) ≡ H
  listed ps H part = λ i q. both_ways (has_path (filter H ps) q) (H q) (left ps H q) (λ h. left_has ps H q h (part q h)) i
    where
      left : (ps : List PathData) (H : Held) (q : PathData) → has_path (filter H ps) q ≡ true → H q ≡ true
      left [] H q e = absurd (let f : false ≡ true = e in cc)
      left (p ∷ ps) H q e = elim (H p) as (λ b. H p ≡ b → has_path (if b then p ∷ filter H ps else filter H ps) q ≡ true → H q ≡ true) [
        | true ↦ λ is h. elim (or_cases (path_eq p q) (has_path (filter H ps) q) h) as (λ _. H q ≡ true) [
          | inl same ↦ subst (λ x. H x ≡ true) (eq_is p q same) is
          | inr later ↦ left ps H q later
        ]
        | false ↦ λ is h. left ps H q h
      ] refl e

      left_has : (ps : List PathData) (H : Held) (q : PathData) → H q ≡ true → has_path ps q ≡ true → has_path (filter H ps) q ≡ true
      left_has [] H q h e = e
      left_has (p ∷ ps) H q h e = elim (or_cases (path_eq p q) (has_path ps q) e) as (λ _. has_path (filter H (p ∷ ps)) q ≡ true) [
        | inl same ↦ elim (H p) as (λ b. H p ≡ b → has_path (if b then p ∷ filter H ps else filter H ps) q ≡ true) [
          | true ↦ λ is. or_left (path_eq p q) (has_path (filter H ps) q) same
          | false ↦ λ is. absurd (let f : false ≡ true = sym is ∙ subst (λ x. H x ≡ true) (sym (eq_is p q same)) h in cc)
        ] refl
        | inr later ↦ elim (H p) as (λ b. has_path (if b then p ∷ filter H ps else filter H ps) q ≡ true) [
          | true ↦ or_right (path_eq p q) (has_path (filter H ps) q) (left_has ps H q h later)
          | false ↦ left_has ps H q h later
        ]
      ]

  -- what each cell of a program has is so at each part of a method's relevant paths that has the required ones
  pub at_part : (Q : MethodAtSet → Type 0) → AllByRecursion Q (cells_of P rel) → (m : ℕ) (method : Method) → slice_get P.methods m ≡ Some method → (H : Held)
      → IsSubset H (has_path (rel m)) → IsSubset (has_path method.requires_) H → Q (record { method = m; held = filter H (rel m) })
  at_part Q all m method is H part required = cell_from Q 0 P.methods all m m method is (omega arith) H
      (has_all method.requires_ (has_path (filter H (rel m))) (subst (λ K. IsSubset (has_path method.requires_) K) (sym (listed (rel m) H part)) required))
