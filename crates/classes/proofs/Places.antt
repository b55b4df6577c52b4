-- The number of the first class with a name, found by the place of the name among those that differ.
use Rattle.std.proofs.Common.{◌≡◌, ℕ, ◌+◌, suc, Bool, true, false, List, [], ◌∷◌, ◌++◌, Option, Some, None, cond, refl, ap, sym, ◌∙◌, ◌||◌, bytes_eq, slice_get, position, arith, append_assoc, if◌then◌else◌}
use Rattle.std.specs.Option.{option_map, option_and_then}
use Rattle.std.specs.List.{position_from}
use Rattle.std.proofs.lemmas.Iterator.Adapters.{position_from-zero}
use Rattle.std.proofs.lemmas.List.{append-nil}
use Rattle.std.proofs.lemmas.List.Folds.{list_any-append}
use Rattle.std.proofs.lemmas.Slice.Eq.{bytes_eq-Decides}
use Rattle.syntax.specs.declared.tree.Name.{Name}
use Rattle.classes.specs.Names.{has_text, texts_of, distinct_after, distinct}
use Rattle.classes.specs.Families.{new_places, first_places}

-- the texts that are new after these
abbrev new_texts : List (List ℕ) → List Name → List (List ℕ)
new_texts seen [] = []
new_texts seen (n ∷ ns) = if has_text seen n.text then new_texts seen ns else n.text ∷ new_texts (seen ++ n.text ∷ []) ns

distinct_is : (seen : List (List ℕ)) (ns : List Name) → distinct_after seen ns ≡ seen ++ new_texts seen ns
distinct_is seen [] = sym (append-nil seen)
distinct_is seen (n ∷ ns) = by_test (has_text seen n.text) refl (λ texts. distinct_is texts ns)
  where
    by_test : (b : Bool) → has_text seen n.text ≡ b → ((texts : List (List ℕ)) → distinct_after texts ns ≡ texts ++ new_texts texts ns)
        → distinct_after (if b then seen else seen ++ n.text ∷ []) ns ≡ seen ++ (if b then new_texts seen ns else n.text ∷ new_texts (seen ++ n.text ∷ []) ns)
    by_test true is later = later seen
    by_test false is later = later (seen ++ n.text ∷ []) ∙ append_assoc seen (n.text ∷ []) (new_texts (seen ++ n.text ∷ []) ns)

-- one place further
shifted : (test : List ℕ → Bool) (i : ℕ) (xs : List (List ℕ)) → position_from test (i + 1) xs ≡ option_map (λ n. n + 1) (position_from test i xs)
shifted test i [] = refl
shifted test i (x ∷ xs) = by_test (test x) (shifted test (i + 1) xs)
  where
    by_test : (b : Bool) → position_from test (i + 1 + 1) xs ≡ option_map (λ n. n + 1) (position_from test (i + 1) xs)
        → cond b (Some (i + 1)) (position_from test (i + 1 + 1) xs) ≡ option_map (λ n. n + 1) (cond b (Some i) (position_from test (i + 1) xs))
    by_test true later = refl
    by_test false later = later

behind_first : (k : ℕ) (ks : List ℕ) (o : Option ℕ) → option_and_then (slice_get (k ∷ ks)) (option_map (λ n. n + 1) o) ≡ option_and_then (slice_get ks) o
behind_first k ks None = refl
behind_first k ks (Some n) = let e : n + 1 ≡ suc n = omega arith in ap (slice_get (k ∷ ks)) e

place_is : (t : List ℕ) (seen : List (List ℕ)) (k : ℕ) (ns : List Name) → has_text seen t ≡ false
    → option_and_then (slice_get (new_places seen k ns)) (position_from (bytes_eq t) 0 (new_texts seen ns)) ≡ position_from (bytes_eq t) k (texts_of ns)
place_is t seen k [] new = refl
place_is t seen k (n ∷ ns) new = by_seen (has_text seen n.text) refl (bytes_eq t n.text) refl (λ texts later. place_is t texts (k + 1) ns later)
  where
    by_seen : (b : Bool) → has_text seen n.text ≡ b → (e : Bool) → bytes_eq t n.text ≡ e
        → ((texts : List (List ℕ)) → has_text texts t ≡ false
        → option_and_then (slice_get (new_places texts (k + 1) ns)) (position_from (bytes_eq t) 0 (new_texts texts ns)) ≡ position_from (bytes_eq t) (k + 1) (texts_of ns))
        → option_and_then (slice_get (if b then new_places seen (k + 1) ns else k ∷ new_places (seen ++ n.text ∷ []) (k + 1) ns))
        (position_from (bytes_eq t) 0 (if b then new_texts seen ns else n.text ∷ new_texts (seen ++ n.text ∷ []) ns))
        ≡ cond e (Some k) (position_from (bytes_eq t) (k + 1) (texts_of ns))
    by_seen true seen_is true same later =
        let e : t ≡ n.text = (bytes_eq-Decides t n.text).0 same in
        absurd (let f : false ≡ true = sym new ∙ ap (has_text seen) e ∙ seen_is in cc)
    by_seen true seen_is false same later = later seen new
    by_seen false seen_is true same later =
        ap (λ b. option_and_then (slice_get (k ∷ new_places (seen ++ n.text ∷ []) (k + 1) ns)) (cond b (Some 0) (position_from (bytes_eq t) 1 (new_texts (seen ++ n.text ∷ []) ns)))) same
    by_seen false seen_is false same later =
        let texts = seen ++ n.text ∷ [] in
        let still : has_text (seen ++ n.text ∷ []) t ≡ false =
        list_any-append (bytes_eq t) seen (n.text ∷ []) ∙ ap (λ b. b || (bytes_eq t n.text || false)) new ∙ ap (λ b. b || false) same in
        ap (λ b. option_and_then (slice_get (k ∷ new_places (seen ++ n.text ∷ []) (k + 1) ns)) (cond b (Some 0) (position_from (bytes_eq t) 1 (new_texts (seen ++ n.text ∷ []) ns)))) same
        ∙ ap (option_and_then (slice_get (k ∷ new_places (seen ++ n.text ∷ []) (k + 1) ns))) (shifted (bytes_eq t) 0 (new_texts (seen ++ n.text ∷ []) ns))
        ∙ behind_first k (new_places (seen ++ n.text ∷ []) (k + 1) ns) (position_from (bytes_eq t) 0 (new_texts (seen ++ n.text ∷ []) ns))
        ∙ later (seen ++ n.text ∷ []) still

pub named_is : (names : List Name) (t : List ℕ) → option_and_then (slice_get (first_places names)) (position (bytes_eq t) (distinct names)) ≡ position (bytes_eq t) (texts_of names)
named_is names t =
    ap (λ texts. option_and_then (slice_get (first_places names)) (position (bytes_eq t) texts)) (distinct_is [] names)
    ∙ ap (option_and_then (slice_get (first_places names))) (position_from-zero (bytes_eq t) (new_texts [] names))
    ∙ place_is t [] 0 names refl
    ∙ sym (position_from-zero (bytes_eq t) (texts_of names))

-- the same of names and places that are known by equations
pub found_by : (names : List Name) (texts : List (List ℕ)) (firsts : List ℕ) (t : List ℕ) → texts ≡ distinct names → firsts ≡ first_places names
    → option_and_then (slice_get firsts) (position (bytes_eq t) texts) ≡ position (bytes_eq t) (texts_of names)
found_by names texts firsts t e f =
    ap (λ x. option_and_then (slice_get firsts) (position (bytes_eq t) x)) e
    ∙ ap (λ x. option_and_then (slice_get x) (position (bytes_eq t) (distinct names))) f
    ∙ named_is names t
