-- What the search keeps, step by step.
use Rattle.std.proofs.Common.{◌≡◌, ℕ, zero, suc, ◌+◌, ◌<◌, ◌≤◌, Bool, true, false, not, ◌||◌, ◌==◌, List, [], ◌∷◌, ◌++◌, length, take, get_or, set, refl, sym, ap, subst, ◌∙◌, arith, ◌⊎◌, inl, inr, append_assoc, append-nil}
use Rattle.std.specs.Prelude.{Result, OnOk, Vec, Option, Some, None, Contains, slice_get, nat_lt, if◌then◌else◌}
use Rattle.std.proofs.lemmas.Bool.Decides.{nat_tests}
use Rattle.std.specs.List.Sorted.{IsStrictlySortedBy}
use Rattle.std.proofs.lemmas.List.Elements.{Contains-append_left, Contains-append_right, Contains-append_cases}
use Rattle.std.proofs.lemmas.Option.{slice_get-get_or, same_Some}
use Rattle.paths.specs.Paths.{PathData, path_order, path_eq}
use Rattle.core_program.specs.Core.{Program}
use Rattle.paths.proofs.PathOrder.{eq_is, eq_itself}
use Rattle.algebra.specs.HeldPaths.{has_path}
use Rattle.rules.specs.declared.clauses.NearPath.{NearPath}
use Rattle.rules.specs.declared.clauses.Link.{Link}
use Rattle.rules.specs.declared.clauses.Clause.{Clause}
use Rattle.rules.specs.declared.clauses.Clause.TheVariants as clause
use Rattle.rules.specs.Clauses.{led_by, ReachedPath, given, led}
use Rattle.rules.specs.Search.{row_at, rows_of, with_link, LinkLeads, IsLed, AreClauseLinks, ListsAgree, GrowsByNext, HasFacts, HasDone, IsLeastFamily}
use Rattle.rules.proofs.Reaching.{contains_none, contains_one, contains_here}
use Rattle.rules.proofs.PathLists.{row_is, row_set_same, row_set_other}
use Rattle.rules.proofs.ClauseLemmas.{on_ok}
use Rattle.std.proofs.lemmas.List.{take_more, take_all}
use Rattle.std.specs.declared.alloc.Global.{Global}
use Rattle.std.proofs.lemmas.Bool.{or_cases, or_left, or_right, not-false}
use Rattle.base.proofs.Lists.{contains_later, next_take}

-- One place.

module _ (near new : List (List PathData)) (queue longer : List NearPath) (place : NearPath) (agree : ListsAgree near queue)
    (ascends : IsStrictlySortedBy path_order (row_at new place.method))
    (here : (q : PathData) → has_path (row_at new place.method) q ≡ (path_eq place.path q || has_path (row_at near place.method) q))
    (others : (n : ℕ) → (n ≡ place.method → ⊥) → row_at new n ≡ row_at near n)
    (kept : (x : NearPath) → Contains queue x → Contains longer x)
    (only : (x : NearPath) → Contains longer x → Contains queue x ⊎ (x ≡ place))
    (has : Contains longer place) where
  at_method : (m : ℕ) → (m ≡ place.method) ⊎ (m ≡ place.method → ⊥)
  at_method m = elim (m == place.method) as (λ b. (m == place.method) ≡ b → (m ≡ place.method) ⊎ (m ≡ place.method → ⊥)) [
    | true ↦ λ e. inl (grind (arith, nat_tests))
    | false ↦ λ e. inr (λ k. grind (arith, nat_tests))
  ] refl

  grown_ascends : (m : ℕ) → IsStrictlySortedBy path_order (row_at new m)
  grown_ascends m = elim (at_method m) as (λ _. IsStrictlySortedBy path_order (row_at new m)) [
    | inl e ↦ subst (λ n. IsStrictlySortedBy path_order (row_at new n)) (sym e) ascends
    | inr d ↦ subst (IsStrictlySortedBy path_order) (sym (others m d)) (agree.ascends m)
  ]

  found_there : (p : PathData) → has_path (row_at new place.method) p ≡ true → Contains longer (record { method = place.method; path = p })
  found_there p e = elim (or_cases (path_eq place.path p) (has_path (row_at near place.method) p) (sym (here p) ∙ e)) as (λ _. Contains longer (record { method = place.method; path = p })) [
    | inl same ↦ subst (λ q. Contains longer (record { method = place.method; path = q })) (eq_is place.path p same) has
    | inr old ↦ kept _ ((agree.same place.method p).0 old)
  ]

  found : (m : ℕ) (p : PathData) → has_path (row_at new m) p ≡ true → Contains longer (record { method = m; path = p })
  found m p e = elim (at_method m) as (λ _. Contains longer (record { method = m; path = p })) [
    | inl is ↦ subst (λ n. Contains longer (record { method = n; path = p })) (sym is) (found_there p (subst (λ n. has_path (row_at new n) p ≡ true) is e))
    | inr differ ↦ kept _ ((agree.same m p).0 (ap (λ row. has_path row p) (sym (others m differ)) ∙ e))
  ]

  listed_old : (m : ℕ) (p : PathData) → has_path (row_at near m) p ≡ true → has_path (row_at new m) p ≡ true
  listed_old m p e = elim (at_method m) as (λ _. has_path (row_at new m) p ≡ true) [
    | inl is ↦ subst (λ n. has_path (row_at new n) p ≡ true) (sym is) (here p ∙ or_right (path_eq place.path p) _ (subst (λ n. has_path (row_at near n) p ≡ true) is e))
    | inr differ ↦ ap (λ row. has_path row p) (others m differ) ∙ e
  ]

  listed : (m : ℕ) (p : PathData) → Contains longer (record { method = m; path = p }) → has_path (row_at new m) p ≡ true
  listed m p in_queue = elim (only _ in_queue) as (λ _. has_path (row_at new m) p ≡ true) [
    | inl old ↦ listed_old m p ((agree.same m p).1 old)
    | inr is ↦ subst (λ (x : NearPath). has_path (row_at new x.method) x.path ≡ true) (sym is) (here place.path ∙ or_left _ _ (eq_itself place.path))
  ]

  grown_agree : ListsAgree new longer
  grown_agree = record { ascends = grown_ascends; same = λ m p. (found m p, listed m p) }

-- a place that wasn't known
pub grows_new : (near new : List (List PathData)) (queue longer : List NearPath) (place : NearPath) → ListsAgree near queue → IsStrictlySortedBy path_order (row_at new place.method) → ((q : PathData) → has_path (row_at new place.method) q ≡ (path_eq place.path q || has_path (row_at near place.method) q)) → ((n : ℕ) → (n ≡ place.method → ⊥) → row_at new n ≡ row_at near n) → longer ≡ queue ++ place ∷ [] → GrowsByNext queue (λ x. x ≡ place) new longer
grows_new near new queue longer place agree ascends here others is =
    let has : Contains longer place = subst (λ l. Contains l place) (sym is) (Contains-append_right queue (place ∷ []) place (contains_here place [])) in
    record {
      agree = grown_agree near new queue longer place agree ascends here others
          (λ x h. subst (λ l. Contains l x) (sym is) (Contains-append_left queue (place ∷ []) x h))
          (λ x h. elim (Contains-append_cases queue (place ∷ []) x (subst (λ l. Contains l x) is h)) as (λ _. Contains queue x ⊎ (x ≡ place)) [ inl old ↦ inl old | inr one ↦ inr (sym (contains_one place x one)) ])
          has;
      added = place ∷ [];
      is = is;
      only = λ x h. sym (contains_one place x h);
      each = λ x e. subst (Contains longer) (sym e) has;
    }

-- a place that was known
pub grows_known : (near new : List (List PathData)) (queue longer : List NearPath) (place : NearPath) → ListsAgree near queue → IsStrictlySortedBy path_order (row_at new place.method) → ((q : PathData) → has_path (row_at new place.method) q ≡ (path_eq place.path q || has_path (row_at near place.method) q)) → ((n : ℕ) → (n ≡ place.method → ⊥) → row_at new n ≡ row_at near n) → has_path (row_at near place.method) place.path ≡ true → longer ≡ queue → GrowsByNext queue (λ x. x ≡ place) new longer
grows_known near new queue longer place agree ascends here others known is =
    let has : Contains longer place = subst (λ l. Contains l place) (sym is) ((agree.same place.method place.path).0 known) in
    record {
      agree = grown_agree near new queue longer place agree ascends here others
          (λ x h. subst (λ l. Contains l x) (sym is) h)
          (λ x h. inl (subst (λ l. Contains l x) is h))
          has;
      added = [];
      is = is ∙ sym (append-nil queue);
      only = λ x h. contains_none x h;
      each = λ x e. subst (Contains longer) (sym e) has;
    }

-- Several places.

pub grows_none : (near : List (List PathData)) (queue : List NearPath) (N : NearPath → Type 0) → ListsAgree near queue → ((x : NearPath) → N x → ⊥) → GrowsByNext queue N near queue
grows_none near queue N agree none = record {
  agree = agree;
  added = [];
  is = sym (append-nil queue);
  only = λ x h. contains_none x h;
  each = λ x h. absurd (none x h);
}

pub grows_same : (near : List (List PathData)) (queue longer : List NearPath) (N M : NearPath → Type 0) → ((x : NearPath) → N x → M x) → ((x : NearPath) → M x → N x) → GrowsByNext queue N near longer → GrowsByNext queue M near longer
grows_same near queue longer N M to back g = record { agree = g.agree; added = g.added; is = g.is; only = λ x h. to x (g.only x h); each = λ x h. g.each x (back x h) }

pub grows_two : (near new : List (List PathData)) (queue longer longest : List NearPath) (N M L : NearPath → Type 0) → ((x : NearPath) → N x → L x) → ((x : NearPath) → M x → L x) → ((x : NearPath) → L x → N x ⊎ M x) → GrowsByNext queue N near longer → GrowsByNext longer M new longest → GrowsByNext queue L new longest
grows_two near new queue longer longest N M L left right split g h = record {
  agree = h.agree;
  added = g.added ++ h.added;
  is = h.is ∙ ap (λ l. l ++ h.added) g.is ∙ append_assoc queue g.added h.added;
  only = λ x has. elim (Contains-append_cases g.added h.added x has) as (λ _. L x) [ inl a ↦ left x (g.only x a) | inr b ↦ right x (h.only x b) ];
  each = λ x l. elim (split x l) as (λ _. Contains longest x) [ inl n ↦ subst (λ q. Contains q x) (sym h.is) (Contains-append_left longer h.added x (g.each x n)) | inr m ↦ h.each x m ];
}

-- the links before a place and the one there
pub led_more : (P : Program) (near new : List (List PathData)) (queue longer longest : List NearPath) (links front : List Link) (link : Link) (place : NearPath) → front ≡ links ++ link ∷ [] → GrowsByNext queue (IsLed P links place) near longer → GrowsByNext longer (LinkLeads P link place) new longest → GrowsByNext queue (IsLed P front place) new longest
led_more P near new queue longer longest links front link place is g h = grows_two near new queue longer longest (IsLed P links place) (LinkLeads P link place) (IsLed P front place)
    (λ x n. (n.0, subst (λ l. Contains l n.0) (sym is) (Contains-append_left links (link ∷ []) n.0 n.1), n.2))
    (λ x m. (link, subst (λ l. Contains l link) (sym is) (Contains-append_right links (link ∷ []) link (contains_here link [])), m))
    (λ x l. elim (Contains-append_cases links (link ∷ []) l.0 (subst (λ c. Contains c l.0) is l.1)) as (λ _. IsLed P links place x ⊎ LinkLeads P link place x) [
      | inl old ↦ inl (l.0, old, l.2)
      | inr one ↦ inr (subst (λ k. LinkLeads P k place x) (sym (contains_one link l.0 one)) l.2)
    ])
    g h

-- Links by method.

pub links_same : (cs : List Clause) (links new : List (List Link)) → AreClauseLinks cs links → ((m : ℕ) → row_at new m ≡ row_at links m) → AreClauseLinks cs new
links_same cs links new a same = record { exact = λ m link. (λ h. (a.exact m link).0 (subst (λ r. Contains r link) (same m) h), λ h. subst (λ r. Contains r link) (sym (same m)) ((a.exact m link).1 h)) }

abbrev leads_is : (c : Clause) (link : Link) → Link
leads_is (clause.Fact x) link = link
leads_is (clause.Leads l) link = l

fact_is_no_link : (x : NearPath) (link : Link) → clause.Fact x ≡ clause.Leads link → ⊥
fact_is_no_link x link e = absurd cc

pub links_fact : (cs all : List Clause) (links : List (List Link)) (x : NearPath) → all ≡ cs ++ clause.Fact x ∷ [] → AreClauseLinks cs links → AreClauseLinks all links
links_fact cs all links x is a = record {
  exact = λ m link. (
    λ h. let k = (a.exact m link).0 h in (subst (λ l. Contains l (clause.Leads link)) (sym is) (Contains-append_left cs (clause.Fact x ∷ []) (clause.Leads link) k.0), k.1),
    λ h. (a.exact m link).1 (
      elim (Contains-append_cases cs (clause.Fact x ∷ []) (clause.Leads link) (subst (λ l. Contains l (clause.Leads link)) is h.0)) as (λ _. Contains cs (clause.Leads link)) [
        | inl old ↦ old
        | inr one ↦ absurd (fact_is_no_link x link (contains_one (clause.Fact x) (clause.Leads link) one))
      ],
      h.1,
    ),
  );
}

module _ (cs all : List Clause) (links new : List (List Link)) (link : Link) (is : all ≡ cs ++ clause.Leads link ∷ []) (a : AreClauseLinks cs links) (rows : (m : ℕ) → row_at new m ≡ (if m == link.from then row_at links m ++ link ∷ [] else row_at links m)) where
  kept_link : (l : Link) → Contains cs (clause.Leads l) → Contains all (clause.Leads l)
  kept_link l h = subst (λ c. Contains c (clause.Leads l)) (sym is) (Contains-append_left cs (clause.Leads link ∷ []) (clause.Leads l) h)

  last_link : Contains all (clause.Leads link)
  last_link = subst (λ c. Contains c (clause.Leads link)) (sym is) (Contains-append_right cs (clause.Leads link ∷ []) (clause.Leads link) (contains_here (clause.Leads link) []))

  linked_to : (m : ℕ) (l : Link) (b : Bool) → (m == link.from) ≡ b → Contains (if b then row_at links m ++ link ∷ [] else row_at links m) l → Contains all (clause.Leads l) × (l.from ≡ m)
  linked_to m l true e h =
      let from : link.from ≡ m = grind (arith, nat_tests) in
      elim (Contains-append_cases (row_at links m) (link ∷ []) l h) as (λ _. Contains all (clause.Leads l) × (l.from ≡ m)) [
        | inl old ↦ let k = (a.exact m l).0 old in (kept_link l k.0, k.1)
        | inr one ↦ subst (λ x. Contains all (clause.Leads x) × (x.from ≡ m)) (contains_one link l one) (last_link, from)
      ]
  linked_to m l false e h = let k = (a.exact m l).0 h in (kept_link l k.0, k.1)

  linked_old : (m : ℕ) (l : Link) (b : Bool) → Contains (row_at links m) l → Contains (if b then row_at links m ++ link ∷ [] else row_at links m) l
  linked_old m l true h = Contains-append_left (row_at links m) (link ∷ []) l h
  linked_old m l false h = h

  linked_last : (m : ℕ) (b : Bool) → (m == link.from) ≡ b → link.from ≡ m → Contains (if b then row_at links m ++ link ∷ [] else row_at links m) link
  linked_last m true e from = Contains-append_right (row_at links m) (link ∷ []) link (contains_here link [])
  linked_last m false e from = absurd (grind (arith, nat_tests))

  linked_back : (m : ℕ) (l : Link) → Contains all (clause.Leads l) → l.from ≡ m → Contains (if m == link.from then row_at links m ++ link ∷ [] else row_at links m) l
  linked_back m l h from = elim (Contains-append_cases cs (clause.Leads link ∷ []) (clause.Leads l) (subst (λ c. Contains c (clause.Leads l)) is h)) as (λ _. Contains (if m == link.from then row_at links m ++ link ∷ [] else row_at links m) l) [
    | inl old ↦ linked_old m l _ ((a.exact m l).1 (old, from))
    | inr one ↦
        let same : link ≡ l = ap (λ c. leads_is c link) (contains_one (clause.Leads link) (clause.Leads l) one) in
        subst (λ x. Contains (if m == link.from then row_at links m ++ link ∷ [] else row_at links m) x) same (linked_last m _ refl (ap (λ x. x.from) same ∙ from))
  ]

  pub links_more : AreClauseLinks all new
  links_more = record {
    exact = λ m l. (
      λ h. linked_to m l _ refl (subst (λ r. Contains r l) (rows m) h),
      λ h. subst (λ r. Contains r l) (sym (rows m)) (linked_back m l h.0 h.1),
    );
  }

pub links_next : (clauses : List Clause) (links new : List (List Link)) (i : ℕ) (c : Clause) → i < length clauses → c ≡ get_or clauses i c → AreClauseLinks (take i clauses) links → ((m : ℕ) → row_at new m ≡ with_link c m (row_at links m)) → AreClauseLinks (take (i + 1) clauses) new
links_next clauses links new i (clause.Fact x) below at a rows =
    links_same (take (i + 1) clauses) links new (links_fact (take i clauses) (take (i + 1) clauses) links x (next_take clauses i (clause.Fact x) below at) a) rows
links_next clauses links new i (clause.Leads link) below at a rows =
    links_more (take i clauses) (take (i + 1) clauses) links new link (next_take clauses i (clause.Leads link) below at) a rows

-- Facts.

none_ascends : IsStrictlySortedBy path_order []
unfolding IsStrictlySortedBy
none_ascends = tt

facts_none : ListsAgree [] []
facts_none = record { ascends = λ m. none_ascends; same = λ m p. (λ h. absurd (let e : false ≡ true = h in cc), λ h. contains_none (record { method = m; path = p }) h) }

pub has_facts_none : HasFacts [] [] []
has_facts_none = record { agree = facts_none; facts = λ x. (λ h. contains_none x h, λ h. contains_none (clause.Fact x) h) }

abbrev fact_of : (c : Clause) → NearPath → NearPath
fact_of (clause.Fact x) y = x
fact_of (clause.Leads l) y = y

module _ (clauses : List Clause) (near new : List (List PathData)) (queue longer : List NearPath) (i : ℕ) (c : Clause) (below : i < length clauses) (at : c ≡ get_or clauses i c) (f : HasFacts (take i clauses) near queue) (g : GrowsByNext queue (λ x. c ≡ clause.Fact x) new longer) where
  next_is : take (i + 1) clauses ≡ take i clauses ++ c ∷ []
  next_is = next_take clauses i c below at

  facts_to : (x : NearPath) → Contains longer x → Contains (take (i + 1) clauses) (clause.Fact x)
  facts_to x h = subst (λ cs. Contains cs (clause.Fact x)) (sym next_is) (elim (Contains-append_cases queue g.added x (subst (λ q. Contains q x) g.is h)) as (λ _. Contains (take i clauses ++ c ∷ []) (clause.Fact x)) [
    | inl old ↦ Contains-append_left (take i clauses) (c ∷ []) (clause.Fact x) ((f.facts x).0 old)
    | inr added ↦ Contains-append_right (take i clauses) (c ∷ []) (clause.Fact x) (subst (Contains (c ∷ [])) (g.only x added) (contains_here c []))
  ])

  facts_back : (x : NearPath) → Contains (take (i + 1) clauses) (clause.Fact x) → Contains longer x
  facts_back x h = elim (Contains-append_cases (take i clauses) (c ∷ []) (clause.Fact x) (subst (λ cs. Contains cs (clause.Fact x)) next_is h)) as (λ _. Contains longer x) [
    | inl old ↦ subst (λ q. Contains q x) (sym g.is) (Contains-append_left queue g.added x ((f.facts x).1 old))
    | inr one ↦ g.each x (contains_one c (clause.Fact x) one)
  ]

  pub facts_next : HasFacts (take (i + 1) clauses) new longer
  facts_next = record { agree = g.agree; facts = λ x. (facts_to x, facts_back x) }

pub facts_start : (near : List (Vec PathData Global)) (queue : List NearPath) → near ≡ [] → queue ≡ [] → HasFacts [] (rows_of near) queue
facts_start near queue no_near no_queue = subst (λ n. HasFacts [] (rows_of n) queue) (sym no_near) (subst (HasFacts [] []) (sym no_queue) has_facts_none)

pub put_fact_some : {A E : Type 0} (r : Result A E) (c : Clause) (place copied : NearPath) (near : List (List PathData)) (queue longer : List NearPath) → c ≡ clause.Fact place → copied ≡ place → OnOk r (GrowsByNext queue (λ x. x ≡ copied) near longer) → OnOk r (GrowsByNext queue (λ x. c ≡ clause.Fact x) near longer)
put_fact_some r c place copied near queue longer is copy h = on_ok r (λ g. grows_same near queue longer (λ x. x ≡ copied) (λ x. c ≡ clause.Fact x)
    (λ x e. is ∙ ap clause.Fact (sym copy ∙ sym e))
    (λ x e. sym (ap (λ d. fact_of d x) (sym is ∙ e)) ∙ sym copy) g) h

pub put_fact_none : (c : Clause) (link : Link) (near : List (List PathData)) (queue : List NearPath) → c ≡ clause.Leads link → ListsAgree near queue → GrowsByNext queue (λ x. c ≡ clause.Fact x) near queue
put_fact_none c link near queue is agree = grows_none near queue (λ x. c ≡ clause.Fact x) agree (λ x e. fact_is_no_link x link (sym e ∙ is))

-- The queue, place by place.

abbrev unwrapped : {A : Type 0} → Option A → A → A
unwrapped None d = d
unwrapped (Some a) d = a

get_in : {A : Type 0} (xs : List A) (k : ℕ) (x : A) → slice_get xs k ≡ Some x → Contains xs x
get_in [] k x at = absurd cc
get_in (y ∷ xs) zero x at = subst (λ z. Contains (y ∷ xs) z) (same_Some y x at) (contains_here y xs)
get_in (y ∷ xs) (suc k) x at = contains_later y x xs (get_in xs k x at)

get_append : {A : Type 0} (xs ys : List A) (k : ℕ) (x : A) → k < length xs → slice_get (xs ++ ys) k ≡ Some x → slice_get xs k ≡ Some x
get_append [] ys k x below is = absurd (omega arith)
get_append (y ∷ xs) ys zero x below is = is
get_append (y ∷ xs) ys (suc k) x below is = get_append xs ys k x (omega arith) is

pub done_none : (P : Program) (cs : List Clause) (links : List (List Link)) (near : List (List PathData)) (queue : List NearPath) → HasFacts cs near queue → HasDone P cs links 0 near queue
done_none P cs links near queue f = record {
  agree = f.agree;
  starts = λ x h. (f.facts x).1 h;
  sound = λ x h. given ((f.facts x).0 h);
  done = λ k x y below at leads. absurd (omega arith);
}

module _ (P : Program) (cs : List Clause) (links : List (List Link)) (next : ℕ) (near new : List (List PathData)) (queue longer : List NearPath) (place : NearPath) (a : AreClauseLinks cs links) (d : HasDone P cs links next near queue) (below : next < length queue) (at : slice_get queue next ≡ Some place) (g : GrowsByNext queue (IsLed P (row_at links place.method) place) new longer) where
  still : (x : NearPath) → Contains queue x → Contains longer x
  still x h = subst (λ q. Contains q x) (sym g.is) (Contains-append_left queue g.added x h)

  reach : (x : NearPath) → IsLed P (row_at links place.method) place x → ReachedPath P cs x.method x.path
  reach x l =
      let k = (a.exact place.method l.0).0 l.1 in
      subst (λ m. ReachedPath P cs m x.path) (sym l.2.method)
      (led l.0 place.path (subst (λ m. ReachedPath P cs m place.path) (sym k.1) (d.sound place (get_in queue next place at))) k.0 l.2.path)

  step : (k : ℕ) (x y : NearPath) (b : Bool) → nat_lt k next ≡ b → k < next + 1 → slice_get queue k ≡ Some x → IsLed P (row_at links x.method) x y → Contains longer y
  step k x y true e under get leads = still y (d.done k x y (grind (arith, nat_tests)) get leads)
  step k x y false e under get leads =
      let same : k ≡ next = grind (arith, nat_tests) in
      let is_place : x ≡ place = same_Some x place (sym get ∙ ap (slice_get queue) same ∙ at) in
      g.each y (subst (λ p. IsLed P (row_at links p.method) p y) is_place leads)

  pub done_more : HasDone P cs links (next + 1) new longer
  done_more = record {
    agree = g.agree;
    starts = λ x h. still x (d.starts x h);
    sound = λ x h. elim (Contains-append_cases queue g.added x (subst (λ q. Contains q x) g.is h)) as (λ _. ReachedPath P cs x.method x.path) [
      | inl old ↦ d.sound x old
      | inr added ↦ reach x (g.only x added)
    ];
    done = λ k x y under get leads. step k x y _ refl under (get_append queue g.added k x (omega arith) (subst (λ q. slice_get q k ≡ Some x) g.is get)) leads;
  }

-- At the end.

at_place : {A : Type 0} (xs : List A) (x : A) → Contains xs x → (k : ℕ) × (k < length xs) × (slice_get xs k ≡ Some x)
at_place xs x (k, below, is) = (k, below, slice_get-get_or xs k x below ∙ ap Some is)

pub reached_all : (P : Program) (cs : List Clause) (links : List (List Link)) (next : ℕ) (near : List (List PathData)) (queue : List NearPath) → AreClauseLinks cs links → HasDone P cs links next near queue → length queue ≤ next → (m : ℕ) (p : PathData) → ReachedPath P cs m p → Contains queue (record { method = m; path = p })
reached_all P cs links next near queue a d all m p (given has) = d.starts (record { method = m; path = p }) has
reached_all P cs links next near queue a d all m p (led link q reached has fits) =
    let from : NearPath = record { method = link.from; path = q } in
    let at = at_place queue from (reached_all P cs links next near queue a d all link.from q reached) in
    d.done at.0 from (record { method = link.to; path = p }) (omega (arith, at.1)) at.2
    (link, (a.exact link.from link).1 (has, refl), record { path = fits; method = refl })

pub least_family : (P : Program) (cs : List Clause) (links : List (List Link)) (next : ℕ) (near : List (List PathData)) (queue : List NearPath) → AreClauseLinks cs links → HasDone P cs links next near queue → length queue ≤ next → IsLeastFamily P cs near
least_family P cs links next near queue a d all = record {
  ascends = d.agree.ascends;
  exact = λ m p. (
    λ h. d.sound (record { method = m; path = p }) ((d.agree.same m p).0 h),
    λ r. (d.agree.same m p).1 (reached_all P cs links next near queue a d all m p r),
  );
}

-- In memory.

had_is : (rows grown : List (Vec PathData Global)) (had : Vec PathData Global) (i m : ℕ) → i ≡ m → i + 1 ≤ length grown → ((n : ℕ) → row_at (rows_of grown) n ≡ row_at (rows_of rows) n) → had ≡ get_or grown i had → had.items ≡ row_at (rows_of rows) m
had_is rows grown had i m is long same at = ap (λ v. v.items) at ∙ sym (row_is grown i had (omega arith)) ∙ same i ∙ ap (row_at (rows_of rows)) is

pub had_ascends : (rows grown : List (Vec PathData Global)) (had : Vec PathData Global) (i m : ℕ) (queue : List NearPath) → i ≡ m → i + 1 ≤ length grown → ((n : ℕ) → row_at (rows_of grown) n ≡ row_at (rows_of rows) n) → had ≡ get_or grown i had → ListsAgree (rows_of rows) queue → IsStrictlySortedBy path_order had.items
had_ascends rows grown had i m queue is long same at agree = subst (IsStrictlySortedBy path_order) (sym (had_is rows grown had i m is long same at)) (agree.ascends m)

module _ (rows grown : List (Vec PathData Global)) (had row : Vec PathData Global) (i : ℕ) (queue : List NearPath) (place : NearPath) (is : i ≡ place.method) (long : i + 1 ≤ length grown)
    (same : (n : ℕ) → row_at (rows_of grown) n ≡ row_at (rows_of rows) n) (at : had ≡ get_or grown i had) (agree : ListsAgree (rows_of rows) queue)
    (ascends : IsStrictlySortedBy path_order row.items) (paths : (q : PathData) → has_path row.items q ≡ (path_eq place.path q || has_path had.items q)) where
  row_now : row_at (rows_of (set grown i row)) place.method ≡ row.items
  row_now = subst (λ m. row_at (rows_of (set grown i row)) m ≡ row.items) is (row_set_same grown i row (omega arith))

  ascends_now : IsStrictlySortedBy path_order (row_at (rows_of (set grown i row)) place.method)
  ascends_now = subst (IsStrictlySortedBy path_order) (sym row_now) ascends

  paths_now : (q : PathData) → has_path (row_at (rows_of (set grown i row)) place.method) q ≡ (path_eq place.path q || has_path (row_at (rows_of rows) place.method) q)
  paths_now q = ap (λ l. has_path l q) row_now ∙ paths q ∙ ap (λ l. path_eq place.path q || has_path l q) (had_is rows grown had i place.method is long same at)

  others_now : (n : ℕ) → (n ≡ place.method → ⊥) → row_at (rows_of (set grown i row)) n ≡ row_at (rows_of rows) n
  others_now n differ = row_set_other grown i n row (λ e. differ (e ∙ is)) ∙ same n

  pub put_new : (longer : List NearPath) → longer ≡ queue ++ place ∷ [] → GrowsByNext queue (λ x. x ≡ place) (rows_of (set grown i row)) longer
  put_new longer e = grows_new (rows_of rows) (rows_of (set grown i row)) queue longer place agree ascends_now paths_now others_now e

  pub put_known : (is_new : Bool) → is_new ≡ not (has_path had.items place.path) → is_new ≡ false → GrowsByNext queue (λ x. x ≡ place) (rows_of (set grown i row)) queue
  put_known is_new fresh old = grows_known (rows_of rows) (rows_of (set grown i row)) queue queue place agree ascends_now paths_now others_now
      (ap (λ l. has_path l place.path) (sym (had_is rows grown had i place.method is long same at)) ∙ not-false (has_path had.items place.path) (sym fresh ∙ old)) refl

pub item_row : {A : Type 0} (rows grown : List (Vec A Global)) (had row : Vec A Global) (i from : ℕ) (item : A) → i ≡ from → i + 1 ≤ length grown → ((n : ℕ) → row_at (rows_of grown) n ≡ row_at (rows_of rows) n) → had ≡ get_or grown i had → row.items ≡ had.items ++ item ∷ [] → (m : ℕ) → row_at (rows_of (set grown i row)) m ≡ (if m == from then row_at (rows_of rows) m ++ item ∷ [] else row_at (rows_of rows) m)
item_row rows grown had row i from item is long same at pushed m = elim (m == from) as (λ b. (m == from) ≡ b → row_at (rows_of (set grown i row)) m ≡ (if b then row_at (rows_of rows) m ++ item ∷ [] else row_at (rows_of rows) m)) [
  | true ↦ λ e.
      let k : i ≡ m = is ∙ sym (grind (arith, nat_tests)) in
      subst (λ n. row_at (rows_of (set grown i row)) n ≡ row_at (rows_of rows) n ++ item ∷ []) k
      (row_set_same grown i row (omega arith) ∙ pushed ∙ ap (λ l. l ++ item ∷ []) (ap (λ v. v.items) at ∙ sym (row_is grown i had (omega arith)) ∙ same i))
  | false ↦ λ e. row_set_other grown i m row (λ k. grind (arith, nat_tests)) ∙ same m
] refl

pub read_at : {A : Type 0} (xs : List A) (i : ℕ) (read copied : A) → i < length xs → read ≡ get_or xs i read → copied ≡ read → slice_get xs i ≡ Some copied
read_at xs i read copied below at copy = slice_get-get_or xs i read below ∙ ap Some (sym at ∙ sym copy)

-- Links of one place.

none_some : (p : PathData) → None ≡ Some p → ⊥
none_some p e = absurd cc

pub follow_some : {A E : Type 0} (P : Program) (r : Result A E) (link : Link) (place : NearPath) (p : PathData) (near : List (List PathData)) (queue longer : List NearPath) → led_by P link.way place.path ≡ Some p → OnOk r (GrowsByNext queue (λ x. x ≡ record { method = link.to; path = p }) near longer) → OnOk r (GrowsByNext queue (LinkLeads P link place) near longer)
follow_some P r link place p near queue longer is h = on_ok r (λ g. grows_same near queue longer (λ x. x ≡ record { method = link.to; path = p }) (LinkLeads P link place)
    (λ x e. subst (LinkLeads P link place) (sym e) (record { path = is; method = refl }))
    (λ x l.
    let e : x.path ≡ p = same_Some x.path p (sym l.path ∙ is) in
    let m : x.method ≡ link.to = l.method in
    λ i. record { method = m i; path = e i })
    g) h

pub follow_none : (P : Program) (link : Link) (place : NearPath) (near : List (List PathData)) (queue : List NearPath) → led_by P link.way place.path ≡ None → ListsAgree near queue → GrowsByNext queue (LinkLeads P link place) near queue
follow_none P link place near queue is agree = grows_none near queue (LinkLeads P link place) agree (λ x l. none_some x.path (sym is ∙ l.path))

pub led_none : (P : Program) (place : NearPath) (near : List (List PathData)) (queue : List NearPath) → ListsAgree near queue → GrowsByNext queue (IsLed P [] place) near queue
led_none P place near queue agree = grows_none near queue (IsLed P [] place) agree (λ x l. contains_none l.0 l.1)

pub led_next : (P : Program) (near new : List (List PathData)) (queue longer longest : List NearPath) (links : List Link) (i : ℕ) (link : Link) (place : NearPath) → i < length links → link ≡ get_or links i link → GrowsByNext queue (IsLed P (take i links) place) near longer → GrowsByNext longer (LinkLeads P link place) new longest → GrowsByNext queue (IsLed P (take (i + 1) links) place) new longest
led_next P near new queue longer longest links i link place below is g h = led_more P near new queue longer longest (take i links) (take (i + 1) links) link place (take_more links i link below ∙ ap (λ x. take i links ++ x ∷ []) (sym is)) g h

pub led_whole : (P : Program) (near : List (List PathData)) (queue longer : List NearPath) (links : List Link) (i : ℕ) (place : NearPath) → length links ≤ i → GrowsByNext queue (IsLed P (take i links) place) near longer → GrowsByNext queue (IsLed P links place) near longer
led_whole P near queue longer links i place all g = subst (λ l. GrowsByNext queue (IsLed P l place) near longer) (take_all i links all) g
