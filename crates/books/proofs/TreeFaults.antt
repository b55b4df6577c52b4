-- Trees, nodes, method lines, and the whole book.
use Rattle.std.proofs.Common.{◌≡◌, inl, inr, ℕ, zero, suc, ◌<◌, ◌≤◌, ◌^◌, Bool, true, false, List, [], ◌∷◌, ◌++◌, length, codes, if◌then◌else◌, Ok, Err, refl, ◌∙◌, ap, arith, length-append}
use Rattle.conditions.specs.Conditions.{Cond, LeafC, TestC}
use Rattle.books.specs.declared.stop.Kind.{Kind}
use Rattle.books.specs.declared.stop.Kind.TheVariants.{Form, TooDeep}
use Rattle.books.specs.Derivations.{Node, node, nodes_from}
use Rattle.books.specs.Books.{Line, is_canonical, most_nesting}
use Rattle.books.specs.Texts.{newline, method_line_text}
use Rattle.books.specs.Combine.{Res, ◌>>=◌, begins, expect, several, exactly}
use Rattle.books.specs.Reading.{number_at, path_at, leaf_at, test_with, tree_at, canonical_at, table_line, word_at_front, premise_with, node_at, line_at, lines_at, nothing_behind}
use Rattle.books.proofs.Several.{Takes, several_done, several_fault, several_more}
use Rattle.books.proofs.Sound.{SoundAt}
use Rattle.books.proofs.SoundTrees.{ReadsLine, sound_line}
use Rattle.books.proofs.PassLemmas.{premise_takes}
use Rattle.books.specs.Broken.{IsPast, IsUncanonical}
use Rattle.books.proofs.Locals.{AfterOk, AfterErr, IsLocal, Local, local_same, local_known, local_seq, local_done, local_stop, local_expect, local_if}
use Rattle.books.proofs.NumberFaults.{local_number, local_path}
use Rattle.books.proofs.WordFaults.{local_leaf, local_word}

-- ---- items side by side

-- several items are one and then several, or none
one_more : {A : Type 0} → ℕ → (List ℕ → Res A) → List ℕ → Res (List A)
one_more byte item ts = if begins byte ts then (item ts >>= λ x r. several byte item r >>= λ xs r. Ok (x ∷ xs, r)) else Ok ([], ts)

more_by : {A : Type 0} (byte : ℕ) (item : List ℕ → Res A) → Takes item → (ts : List ℕ) (x : Res A) → item ts ≡ x → begins byte ts ≡ true → several byte item ts ≡ (x >>= λ x r. several byte item r >>= λ xs r. Ok (x ∷ xs, r))
more_by byte item takes ts (Ok y) e go = several_more byte item takes ts y.0 y.1 go e
more_by byte item takes ts (Err d) e go = several_fault byte item ts d go e

several_by : {A : Type 0} (byte : ℕ) (item : List ℕ → Res A) → Takes item → (ts : List ℕ) (test : Bool) → begins byte ts ≡ test →
    several byte item ts ≡ (if test then (item ts >>= λ x r. several byte item r >>= λ xs r. Ok (x ∷ xs, r)) else Ok ([], ts))
several_by byte item takes ts true e = more_by byte item takes ts (item ts) refl e
several_by byte item takes ts false e = several_done byte item ts e

several_is : {A : Type 0} (byte : ℕ) (item : List ℕ → Res A) → Takes item → (ts : List ℕ) → several byte item ts ≡ one_more byte item ts
unfolding one_more
several_is byte item takes ts = several_by byte item takes ts (begins byte ts) refl

several_within : {A : Type 0} (B : List ℕ → Type 0) (byte : ℕ) (item : List ℕ → Res A) → Takes item → ((ts : List ℕ) → Local B item ts) → (n : ℕ) (ts : List ℕ) → length ts ≤ n → Local B (several byte item) ts
unfolding one_more
several_within B byte item takes law zero ts short = local_same B (one_more byte item) (several byte item) ts (several_is byte item takes)
    (local_if B byte (λ z. item z >>= λ x r. several byte item r >>= λ xs r. Ok (x ∷ xs, r)) (λ z. Ok ([], z)) ts
    (λ go. absurd (empty ts short go)) (λ no. local_done B [] ts))
  where
    empty : (ts : List ℕ) → length ts ≤ 0 → begins byte ts ≡ true → ⊥
    empty [] e go = let no : false ≡ true = go in cc
    empty (b ∷ ts) e go = omega (arith, e)
several_within B byte item takes law (suc n) ts short = local_same B (one_more byte item) (several byte item) ts (several_is byte item takes)
    (local_if B byte (λ z. item z >>= λ x r. several byte item r >>= λ xs r. Ok (x ∷ xs, r)) (λ z. Ok ([], z)) ts
    (λ go. local_known B item (λ x r. several byte item r >>= λ xs r. Ok (x ∷ xs, r)) ts (law ts)
    (λ x r is. local_seq B (several byte item) (λ xs r. Ok (x ∷ xs, r)) r (several_within B byte item takes law n r (omega (arith, short, takes ts x r is))) (λ xs r. local_done B (x ∷ xs) r)))
    (λ no. local_done B [] ts))

local_several : {A : Type 0} (B : List ℕ → Type 0) (byte : ℕ) (item : List ℕ → Res A) → Takes item → ((ts : List ℕ) → Local B item ts) → (ts : List ℕ) → Local B (several byte item) ts
local_several B byte item takes law ts = several_within B byte item takes law (length ts) ts (omega arith)

pub local_exactly : {A : Type 0} (B : List ℕ → Type 0) (item : List ℕ → Res A) → ((ts : List ℕ) → Local B item ts) → (n : ℕ) (ts : List ℕ) → Local B (exactly n item) ts
local_exactly B item law zero ts = local_done B [] ts
local_exactly B item law (suc n) ts =
    local_seq B item (λ x r. exactly n item r >>= λ xs r. Ok (x ∷ xs, r)) ts (law ts)
    (λ x r. local_seq B (exactly n item) (λ xs r. Ok (x ∷ xs, r)) r (local_exactly B item law n r) (λ xs r. local_done B (x ∷ xs) r))

-- ---- trees

module _ (B : List ℕ → Type 0) (root : (rest : List ℕ) → IsPast (2 ^ 16) rest → B rest) (field : (rest : List ℕ) → IsPast (2 ^ 32) rest → B rest) where
  local_test : (inner : List ℕ → Res Cond) → ((ts : List ℕ) → Local B inner ts) → (ts : List ℕ) → Local B (test_with inner) ts
  local_test inner law ts =
      local_seq B (expect (codes "(")) _ ts (local_expect B (codes "(") ts) λ u r.
      local_seq B path_at _ r (local_path B root field r) λ p r.
      local_seq B (expect (codes " ")) _ r (local_expect B (codes " ") r) λ u r.
      local_seq B inner _ r (law r) λ a r.
      local_seq B (expect (codes " ")) _ r (local_expect B (codes " ") r) λ u r.
      local_seq B inner _ r (law r) λ b r.
      local_seq B (expect (codes ")")) _ r (local_expect B (codes ")") r) λ u r.
      local_done B (TestC p a b) r

  local_leaf_tree : (ts : List ℕ) → Local B (λ z. leaf_at z >>= λ b r. Ok (LeafC b, r)) ts
  local_leaf_tree ts = local_seq B leaf_at (λ b r. Ok (LeafC b, r)) ts (local_leaf B ts) (λ b r. local_done B (LeafC b) r)

  pub local_tree : (room : ℕ) (ts : List ℕ) → Local B (tree_at room) ts
  unfolding tree_at
  local_tree zero ts = local_if B 40 (λ z. Err (TooDeep, z)) (λ z. leaf_at z >>= λ b r. Ok (LeafC b, r)) ts (λ go. local_stop B TooDeep ts) (λ no. local_leaf_tree ts)
  local_tree (suc room) ts = local_if B 40 (test_with (tree_at room)) (λ z. leaf_at z >>= λ b r. Ok (LeafC b, r)) ts (λ go. local_test (tree_at room) (λ z. local_tree room z) ts) (λ no. local_leaf_tree ts)

-- a tree, with whether it is canonical
checked : List ℕ → Res Cond → Res Cond
checked ts x = x >>= λ t rest. if is_canonical t then Ok (t, rest) else Err (Form, ts)

canonical_ok : (front : List ℕ) (t : Cond) (rest : List ℕ) → is_canonical t ≡ true → AfterOk (tree_at most_nesting) front t rest → AfterOk canonical_at front t rest
unfolding canonical_at
canonical_ok front t [] e s = tt
canonical_ok front t (b ∷ r) e s = λ more.
    ap (λ x. x >>= λ t rest. if is_canonical t then Ok (t, rest) else Err (Form, front ++ (b ∷ more))) (s more)
    ∙ ap (λ c. if c then Ok (t, b ∷ more) else Err (Form, front ++ (b ∷ more))) e

canonical_err : (B : List ℕ → Type 0) (front : List ℕ) (k : Kind) (rest : List ℕ) → AfterErr B (tree_at most_nesting) front k rest → AfterErr B canonical_at front k rest
unfolding canonical_at
canonical_err B front k [] s = tt
canonical_err B front k (b ∷ r) (inl s) = inl (λ more. ap (λ x. x >>= λ t rest. if is_canonical t then Ok (t, rest) else Err (Form, front ++ (b ∷ more))) (s more))
canonical_err B front k (b ∷ r) (inr s) = inr s

not_canonical : (B : List ℕ → Type 0) → ((rest : List ℕ) → IsUncanonical rest → B rest) → (ts : List ℕ) → IsUncanonical ts → AfterErr B canonical_at [] Form ts
not_canonical B broken [] is = tt
not_canonical B broken (b ∷ ts) is = inr (broken (b ∷ ts) is)

canonical_if : (B : List ℕ → Type 0) → ((rest : List ℕ) → IsUncanonical rest → B rest) → (ts front : List ℕ) (t : Cond) (rest : List ℕ) (test : Bool) → is_canonical t ≡ test → tree_at most_nesting ts ≡ Ok (t, rest) →
    ts ≡ front ++ rest → AfterOk (tree_at most_nesting) front t rest → IsLocal B canonical_at ts (if test then Ok (t, rest) else Err (Form, ts))
canonical_if B broken ts front t rest true e is whole s = (front, whole, canonical_ok front t rest e s)
canonical_if B broken ts front t rest false e is whole s = ([], refl, not_canonical B broken ts (record { tree = t; behind = rest; read = is; uncanonical = e }))

canonical_by : (B : List ℕ → Type 0) → ((rest : List ℕ) → IsUncanonical rest → B rest) → (ts : List ℕ) (x : Res Cond) → tree_at most_nesting ts ≡ x → IsLocal B (tree_at most_nesting) ts x →
    IsLocal B canonical_at ts (x >>= λ t rest. if is_canonical t then Ok (t, rest) else Err (Form, ts))
canonical_by B broken ts (Ok y) e s = canonical_if B broken ts s.0 y.0 y.1 (is_canonical y.0) refl e s.1 s.2
canonical_by B broken ts (Err d) e s = (s.0, s.1, canonical_err B s.0 d.0 d.1 s.2)

module _ (B : List ℕ → Type 0) (root : (rest : List ℕ) → IsPast (2 ^ 16) rest → B rest) (field : (rest : List ℕ) → IsPast (2 ^ 32) rest → B rest) (other : (rest : List ℕ) → IsUncanonical rest → B rest) where
  local_canonical : (ts : List ℕ) → Local B canonical_at ts
  unfolding canonical_at
  local_canonical ts = record { at = canonical_by B other ts (tree_at most_nesting ts) refl (local_tree B root field most_nesting ts).at }

  pub local_table_line : (ts : List ℕ) → Local B table_line ts
  local_table_line ts =
      local_seq B canonical_at _ ts (local_canonical ts) λ t r.
      local_seq B (expect (newline ∷ [])) _ r (local_expect B (newline ∷ []) r) λ u r.
      local_done B t r

  -- ---- derivations

  module _ (count : ℕ) (small : count ≤ 2 ^ 64) (conclusion : (rest : List ℕ) → IsPast count rest → B rest) where
    local_premise : (inner : List ℕ → Res Node) → ((ts : List ℕ) → Local B inner ts) → (ts : List ℕ) → Local B (premise_with inner) ts
    local_premise inner law ts = local_seq B (expect (codes " ")) (λ u r. inner r) ts (local_expect B (codes " ") ts) (λ u r. law r)

    local_node : (room : ℕ) (ts : List ℕ) → Local B (node_at count room) ts
    unfolding node_at
    local_node zero ts = local_if B 40 (λ z. Err (TooDeep, z)) (λ z. Err (Form, z)) ts (λ go. local_stop B TooDeep ts) (λ no. local_stop B Form ts)
    local_node (suc room) ts =
        local_seq B (expect (codes "(")) _ ts (local_expect B (codes "(") ts) λ u r.
        local_seq B word_at_front _ r (local_word B r) λ w r.
        local_seq B (number_at count) _ r (local_number B count conclusion r) λ n r.
        local_seq B (several 32 (premise_with (node_at count room))) _ r
        (local_several B 32 (premise_with (node_at count room)) (λ z d l e. premise_takes count small room z d l e) (λ z. local_premise (node_at count room) (λ y. local_node room y) z) r) λ ds r.
        local_seq B (expect (codes ")")) _ r (local_expect B (codes ")") r) λ u r.
        local_done B (node w n (nodes_from ds)) r

    local_line : (ts : List ℕ) → Local B (line_at count) ts
    unfolding line_at
    local_line ts =
        local_seq B (expect (codes "method ")) _ ts (local_expect B (codes "method ") ts) λ u r.
        local_seq B (number_at (2 ^ 32)) _ r (local_number B (2 ^ 32) field r) λ id r.
        local_seq B (expect (codes " ")) _ r (local_expect B (codes " ") r) λ u r.
        local_seq B (number_at count) _ r (local_number B count conclusion r) λ n r.
        local_seq B (expect (newline ∷ [])) _ r (local_expect B (newline ∷ []) r) λ u r.
        local_seq B (node_at count most_nesting) _ r (local_node most_nesting r) λ d r.
        local_seq B (expect (newline ∷ [])) _ r (local_expect B (newline ∷ []) r) λ u r.
        local_done B (record { id = id; number = n; body = d }) r

    line_shorter : (line : Line) (ts front r : List ℕ) → ts ≡ front ++ r → front ≡ method_line_text line → length r < length ts
    line_shorter line ts front r is spelled = omega (arith, ap length is ∙ length-append front r, ap length spelled)

    line_taken : (ts : List ℕ) (line : Line) (r : List ℕ) (s : Res Line) → SoundAt (ReadsLine count) ts s → s ≡ Ok (line, r) → length r < length ts
    line_taken ts line r (Ok y) s e = line_shorter y.0 ts s.0 r (s.1 ∙ ap (λ z. s.0 ++ z) (ap (λ z. z.1) (same y (line, r) e))) s.2.0
      where
        same : (y z : Line × List ℕ) → (let s : Res Line = Ok y in s ≡ Ok z) → y ≡ z
        same y z e = cc
    line_taken ts line r (Err d) s e = absurd (cc)

    line_takes : Takes (line_at count)
    line_takes ts line r e = line_taken ts line r (line_at count ts) (sound_line count small ts) e

    pub local_lines : (ts : List ℕ) → Local B (lines_at count) ts
    unfolding lines_at
    local_lines ts =
        local_seq B (several 109 (line_at count)) _ ts (local_several B 109 (line_at count) line_takes (λ z. local_line z) ts) λ lines r.
        local_seq B (expect (codes "end" ++ (newline ∷ []))) _ r (local_expect B (codes "end" ++ (newline ∷ [])) r) λ u r.
        local_seq B nothing_behind _ r (local_nothing r) λ u r.
        local_done B lines r
      where
        local_nothing : (ts : List ℕ) → Local B nothing_behind ts
        local_nothing [] = record { at = ([], refl, tt) }
        local_nothing (b ∷ ts) = record { at = ([], refl, inl (λ more. refl)) }
