-- Lines over more trees, and one line more.
use Rattle.std.proofs.Common.{append-nil, ◌≡◌, ℕ, zero, suc, ◌+◌, ◌⊎◌, inl, inr, List, [], ◌∷◌, ◌++◌, length, length-append, map, take, Some, None, slice_get, refl, sym, ◌∙◌, ap, subst, arith}
use Rattle.std.proofs.lemmas.Option.{slice_get_within}
use Rattle.paths.specs.Paths.{PathData}
use Rattle.core_program.specs.Core.{Program, Method}
use Rattle.conditions.specs.declared.tree.Tree.{Tree}
use Rattle.conditions.specs.Conditions.{Cond, cond_of}
use Rattle.books.specs.Derivations.{Node}
use Rattle.books.specs.Books.{Line}
use Rattle.effects.specs.Parts.{StmtP}
use Rattle.derive.specs.Derived.{node_numbers, lines_numbers, AreInOrder}
use Rattle.derive.specs.Bases.{trees_assign}
use Rattle.derive.specs.Concluded.{BeginsWithTrees, Concludes}
use Rattle.derive.specs.Pools.{IsNumberIn}
use Rattle.derive.specs.Moved.{IsMoved}
use Rattle.derive.specs.Lines.{IsLineOf, IsLineMade, AreLinesOf}
use Rattle.derive.proofs.Rows.{get_begins, get_pushed, begins_chain, order_both}
use Rattle.derive.proofs.ConcludeLemmas.{carried, grown, some_at}
use Rattle.derive.proofs.MoveLemmas.{number_begins, number_at, number_order}

module _ (P : Program) (rel : ℕ → List PathData) (trees : List Cond) where
  -- a line from its parts
  pub line_made : (m : ℕ) (method : Method) (from old mid new : List Cond) (id n : ℕ) (t : Cond) (d e : Node) → id ≡ m → slice_get trees m ≡ Some t → IsNumberIn old t n mid →
      Concludes P rel (trees_assign trees) from (StmtP method.body) d → IsMoved from mid new d e → IsLineMade P rel trees m method old new (record { id = id; number = n; body = e })
  line_made m method from old mid new id n t d e same at number concludes moved =
      let there : slice_get new n ≡ Some t = get_begins mid new n t moved.begins (number_at old mid t n number) in
      record {
        begins = begins_chain old mid new (number_begins old mid t n number) moved.begins;
        is_line = record {
          id = same;
          within = slice_get_within new n t there;
          own = there ∙ sym at;
          concludes = carried P rel (trees_assign trees) from new (StmtP method.body) d e concludes moved.same;
        };
        in_order = number_order old mid new t n (node_numbers e) number moved.in_order;
      }

  line_grown : (m : ℕ) (method : Method) (old new : List Cond) (line : Line) → BeginsWithTrees old new → IsLineOf P rel trees m method old line → IsLineOf P rel trees m method new line
  line_grown m method old new line begins is =
      let t = some_at old line.number is.within in
      let there : slice_get new line.number ≡ Some t.0 = get_begins old new line.number t.0 begins t.1 in
      record {
        id = is.id;
        within = slice_get_within new line.number t.0 there;
        own = there ∙ sym t.1 ∙ is.own;
        concludes = grown P rel (trees_assign trees) old new begins (StmtP method.body) line.body is.concludes;
      }

  numbers_pushed : (lines : List Line) (line : Line) → lines_numbers (lines ++ (line ∷ [])) ≡ lines_numbers lines ++ (line.number ∷ node_numbers line.body)
  numbers_pushed [] line = ap (λ ns. line.number ∷ ns) (append-nil (node_numbers line.body))
  numbers_pushed (l ∷ lines) line =
      ap (λ ns. l.number ∷ (node_numbers l.body ++ ns)) (numbers_pushed lines line)
      ∙ ap (λ ns. l.number ∷ ns) (sym (assoc (node_numbers l.body) (lines_numbers lines) (line.number ∷ node_numbers line.body)))
    where
      assoc : (xs ys zs : List ℕ) → (xs ++ ys) ++ zs ≡ xs ++ (ys ++ zs)
      assoc [] ys zs = refl
      assoc (x ∷ xs) ys zs = ap (λ k. x ∷ k) (assoc xs ys zs)

  pub no_lines : (table : List Cond) → table ≡ [] → AreLinesOf P rel trees 0 table []
  no_lines table none = record { count_is = refl; each = λ m method line is at. absurd (let h : None ≡ Some line = at in cc); in_order = ap length (sym none) }

  pub lines_more : (m : ℕ) (method : Method) (old new : List Cond) (lines all : List Line) (line : Line) → slice_get P.methods m ≡ Some method → AreLinesOf P rel trees m old lines →
      IsLineMade P rel trees m method old new line → all ≡ lines ++ (line ∷ []) → AreLinesOf P rel trees (m + 1) new all
  lines_more m method old new lines all line is so_far made pushed = subst (AreLinesOf P rel trees (m + 1) new) (sym pushed) (record {
    count_is = let e = so_far.count_is in omega (arith, e, length-append lines (line ∷ []));
    each = λ k other own at there. chosen k other own at (get_pushed lines line k own there);
    in_order = subst (λ ns. AreInOrder 0 ns (length new)) (sym (numbers_pushed lines line))
        (order_both 0 (length old) (length new) (lines_numbers lines) (line.number ∷ node_numbers line.body) so_far.in_order made.in_order);
  })
    where
      same : (x y : Method) → Some x ≡ Some y → x ≡ y
      same x y e = cc

      chosen : (k : ℕ) (other : Method) (own : Line) → slice_get P.methods k ≡ Some other → (slice_get lines k ≡ Some own) ⊎ ((k ≡ length lines) × (line ≡ own)) → IsLineOf P rel trees k other new own
      chosen k other own at (inl before) = line_grown k other old new own made.begins (so_far.each k other own at before)
      chosen k other own at (inr last) =
          let place : m ≡ k = sym so_far.count_is ∙ sym last.0 in
          let one : method ≡ other = same method other (sym is ∙ ap (slice_get P.methods) place ∙ at) in
          subst (λ z. IsLineOf P rel trees k z new own) one (subst (λ l. IsLineOf P rel trees k method new l) last.1 (subst (λ j. IsLineOf P rel trees j method new line) place made.is_line))

map_take : (n : ℕ) (ts : List Tree) → map cond_of (take n ts) ≡ take n (map cond_of ts)
map_take zero ts = refl
map_take (suc n) [] = refl
map_take (suc n) (t ∷ ts) = ap (λ k. cond_of t ∷ k) (map_take n ts)

take_front : (xs ys : List Cond) → take (length xs) (xs ++ ys) ≡ xs
take_front [] ys = refl
take_front (x ∷ xs) ys = ap (λ k. x ∷ k) (take_front xs ys)

-- the first trees of a list that begins with others
pub taken : (own : List Cond) (ts : List Tree) (n : ℕ) → BeginsWithTrees own (map cond_of ts) → n ≡ length own → map cond_of (take n ts) ≡ own
taken own ts n begins count = map_take n ts ∙ (λ i. take (count i) (begins.is i)) ∙ take_front own begins.behind
