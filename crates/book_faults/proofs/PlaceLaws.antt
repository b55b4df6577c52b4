-- The first fault of a text is where a rule is broken, else where no text goes on.
use Rattle.std.proofs.Common.{◌≡◌, ◌⊎◌, inl, inr, ℕ, zero, suc, ◌+◌, ◌-◌, ◌<◌, ◌≤◌, List, [], ◌∷◌, ◌++◌, length, length-append, length-drop, take, drop, take-append-drop, Option, Some, None, Ok, Err, refl, sym, ◌∙◌, ap, subst, arith, append_assoc}
use Rattle.std.proofs.lemmas.Bool.{cases_order}
use Rattle.std.proofs.Math.Seq.{take-append_seam}
use Rattle.std.proofs.lemmas.Option.{same_Some}
use Rattle.books.specs.declared.stop.Kind.{Kind}
use Rattle.books.specs.declared.stop.Kind.TheVariants as kinds
use Rattle.books.specs.declared.stop.BookFault.{BookFault}
use Rattle.books.specs.declared.stop.BookFault.TheVariants as faults
use Rattle.books.specs.Books.{Book}
use Rattle.books.specs.Combine.{Res}
use Rattle.books.specs.Faults.{fault_at, fault_of, first_book_fault}
use Rattle.books.specs.Passing.{pass_book}
use Rattle.books.specs.Reading.{book_at}
use Rattle.books.specs.Texts.{book_text, IsBookText}
use Rattle.books.proofs.BeforeFaults.{place_in, place_in-is}
use Rattle.books.proofs.BookLaws.{complete_book}
use Rattle.books.proofs.CursorLaws.{opened, no_fault, has_fault}
use Rattle.books.proofs.Stops.{Fails, StopsOn, IsJudged}
use Rattle.books.proofs.There.{take_front, drop_front}
use Rattle.book_faults.specs.Loose.{IsLooseFront}
use Rattle.book_faults.specs.Breaks.{BreaksBook, BreaksAt}
use Rattle.book_faults.specs.FirstFaults.{IsEndedAt, IsFirstBookFault}
use Rattle.book_faults.proofs.TreeStops.{Breaks}
use Rattle.book_faults.proofs.BookStops.{loose_book, Anything, BookFits, judged_book}
use Rattle.book_faults.proofs.Breaking.{book_stops, book_there}
use Rattle.book_faults.proofs.DeepStops.{DeepAt, form_not, deep_book}
use Rattle.book_faults.proofs.LooseTexts.{read_loose, loose_of}

-- a rule is broken at this place
abbrev Broken : List ℕ → ℕ → Type 0
Broken bytes place = (kind : Kind) × BreaksAt bytes kind place

-- less of a front is one
fewer_bytes : (bytes : List ℕ) (k n : ℕ) → k ≤ n → IsLooseFront (take n bytes) → IsLooseFront (take k bytes)
fewer_bytes bytes k n less f =
    record { more = (cut bytes k n less).0 ++ f.more; book = f.book; loose = f.loose; whole = sym (append_assoc (take k bytes) (cut bytes k n less).0 f.more) ∙ ap (λ z. z ++ f.more) (sym (cut bytes k n less).1) ∙ f.whole }
  where
    cut : (bytes : List ℕ) (k n : ℕ) → k ≤ n → (ys : List ℕ) × (take n bytes ≡ take k bytes ++ ys)
    cut bytes zero n less = (take n bytes, refl)
    cut [] (suc k) zero less = absurd (omega (arith, less))
    cut [] (suc k) (suc n) less = ([], refl)
    cut (b ∷ bytes) (suc k) zero less = absurd (omega (arith, less))
    cut (b ∷ bytes) (suc k) (suc n) less = let rest = cut bytes k n (omega (arith, less)) in (rest.0, ap (λ z. b ∷ z) rest.1)

-- what is seen of a fault
record FaultSeen (bytes : List ℕ) (place : ℕ) : Type 0 where
  before : IsLooseFront (take place bytes)
  within : place ≤ length bytes
  why : place < length bytes → (IsLooseFront (take (place + 1) bytes) → ⊥) ⊎ Broken bytes place

goes_on_not : (front : List ℕ) (b : ℕ) → ((more : List ℕ) → Fails (loose_book (front ++ (b ∷ more)))) → IsLooseFront (front ++ (b ∷ [])) → ⊥
goes_on_not front b stuck f =
    let whole : front ++ (b ∷ f.more) ≡ book_text f.book = sym (append_assoc front (b ∷ []) f.more) ∙ f.whole in
    let fails : Fails (loose_book (book_text f.book)) = subst (λ z. Fails (loose_book z)) whole (stuck f.more) in
    let no : Fails {A = Book} (Ok (f.book, [])) = subst Fails (read_loose f.book f.loose) fails in
    no

-- the place of a fault
place_of : (kind other : Kind) (a b : ℕ) (o : Option BookFault) → o ≡ Some (fault_at kind a) → o ≡ Some (fault_at other b) → a ≡ b
place_of kind other a b o e d = sym (place_in-is kind a) ∙ ap place_in (same_Some (fault_at kind a) (fault_at other b) (sym e ∙ d)) ∙ place_in-is other b

-- its kind
abbrev kind_in : BookFault → Kind
kind_in (faults.Form place) = kinds.Form
kind_in (faults.TooDeep place) = kinds.TooDeep
kind_in faults.NoMemory = kinds.Form

kind_in-is : (kind : Kind) (place : ℕ) → kind_in (fault_at kind place) ≡ kind
kind_in-is kinds.Form place = refl
kind_in-is kinds.TooDeep place = refl

kind_of : (kind other : Kind) (a b : ℕ) (o : Option BookFault) → o ≡ Some (fault_at kind a) → o ≡ Some (fault_at other b) → kind ≡ other
kind_of kind other a b o e d = sym (kind_in-is kind a) ∙ ap kind_in (same_Some (fault_at kind a) (fault_at other b) (sym e ∙ d)) ∙ kind_in-is other b

-- behind this front, at its length
at_length : (bytes front rest : List ℕ) (kind : Kind) → bytes ≡ front ++ rest → BreaksBook kind front rest → BreaksAt bytes kind (length front)
at_length bytes front rest kind is b =
    subst (λ z. BreaksBook kind (take (length front) z) (drop (length front) z)) (sym is)
    (subst (λ z. BreaksBook kind z (drop (length front) (front ++ rest))) (sym (take-append_seam front rest)) (subst (BreaksBook kind front) (sym (drop_front front rest)) b))

why_seen : (bytes front rest : List ℕ) → bytes ≡ front ++ rest → StopsOn loose_book front rest ⊎ Breaks BreaksBook front rest → length front < length bytes →
    (IsLooseFront (take (length front + 1) bytes) → ⊥) ⊎ Broken bytes (length front)
why_seen bytes front [] is why within = absurd (omega (arith, within, ap length is ∙ length-append front []))
why_seen bytes front (b ∷ r) is (inl s) within = inl (λ f. goes_on_not front b s (subst IsLooseFront (ap (take (length front + 1)) is ∙ take_front front b r) f))
why_seen bytes front (b ∷ r) is (inr s) within = inr (s.0, at_length bytes front (b ∷ r) s.0 is s.1)

seen_by : (bytes : List ℕ) (x : Res Book) → IsJudged Anything BookFits (Breaks BreaksBook) loose_book bytes x → (kind : Kind) (place : ℕ) → fault_of (length bytes) x ≡ Some (fault_at kind place) → FaultSeen bytes place
seen_by bytes (Ok y) s kind place e = absurd (let no : None ≡ Some (fault_at kind place) = e in cc)
seen_by bytes (Err d) s kind place e =
    let at : length bytes - length d.1 ≡ place = place_of d.0 kind (length bytes - length d.1) place (Some (fault_at d.0 (length bytes - length d.1))) refl e in
    let front : length s.front ≡ place = omega (arith, at, ap length s.whole ∙ length-append s.front d.1) in
    subst (FaultSeen bytes) front (record {
      before = subst IsLooseFront (sym (ap (take (length s.front)) s.whole ∙ take-append_seam s.front d.1))
          (record { more = s.begun.more; book = s.begun.value; loose = s.begun.is.loose; whole = s.begun.is.text });
      within = omega (arith, ap length s.whole ∙ length-append s.front d.1);
      why = why_seen bytes s.front d.1 s.whole s.why;
    })

seen : (bytes : List ℕ) (kind : Kind) (place : ℕ) → first_book_fault bytes ≡ Some (fault_at kind place) → FaultSeen bytes place
seen bytes kind place e = seen_by bytes (book_at bytes) (judged_book bytes).at kind place e

pub broken : (bytes : List ℕ) (kind : Kind) (place : ℕ) → BreaksAt bytes kind place → first_book_fault bytes ≡ Some (fault_at kind place)
broken bytes kind place is =
    let whole : take place bytes ++ drop place bytes ≡ bytes = take-append-drop place bytes in
    let some = book_there kind (take place bytes) (drop place bytes) is in
    let size : length (drop place bytes) ≡ length bytes - place = length-drop place bytes in
    let at : length bytes - length (drop place bytes) ≡ place = omega (arith, some, size) in
    ap first_book_fault (sym whole) ∙ (λ i. fault_of (length (whole i)) (book_stops kind (take place bytes) (drop place bytes) is i)) ∙ ap (λ n. Some (fault_at kind n)) at

-- at a fault a rule is broken, or no text goes on
there_by : (bytes : List ℕ) (kind : Kind) (place : ℕ) → first_book_fault bytes ≡ Some (fault_at kind place) → FaultSeen bytes place → Broken bytes place ⊎ IsEndedAt bytes place
there_by bytes kind place e s = at (split place (length bytes) s.within)
  where
    split : (a n : ℕ) → a ≤ n → (a < n) ⊎ (a ≡ n)
    split zero zero less = inr refl
    split zero (suc n) less = inl (omega arith)
    split (suc a) zero less = absurd (omega (arith, less))
    split (suc a) (suc n) less = next a n (split a n (omega (arith, less)))
      where
        next : (a n : ℕ) → (a < n) ⊎ (a ≡ n) → (suc a < suc n) ⊎ (suc a ≡ suc n)
        next a n (inl less) = inl (omega (arith, less))
        next a n (inr same) = inr (ap suc same)

    given : place < length bytes → (IsLooseFront (take (place + 1) bytes) → ⊥) ⊎ Broken bytes place → Broken bytes place ⊎ IsEndedAt bytes place
    given within (inl stuck) = inr (inl (within, stuck))
    given within (inr is) = inl is

    at : (place < length bytes) ⊎ (place ≡ length bytes) → Broken bytes place ⊎ IsEndedAt bytes place
    at (inl within) = given within (s.why within)
    at (inr same) = inr (inr (same, λ book text. no_fault bytes book [] (fault_at kind place) (complete_book bytes book text) e))

-- where something is too deep, a bracket stands that opens one too many
deep_by : (bytes : List ℕ) (x : Res Book) → DeepAt Anything (BreaksBook kinds.TooDeep) bytes x → (place : ℕ) → fault_of (length bytes) x ≡ Some (fault_at kinds.TooDeep place) → BreaksAt bytes kinds.TooDeep place
deep_by bytes (Ok y) s place e = absurd (let no : None ≡ Some (fault_at kinds.TooDeep place) = e in cc)
deep_by bytes (Err d) s place e =
    let n = length bytes - length d.1 in
    let at : n ≡ place = place_of d.0 kinds.TooDeep n place (Some (fault_at d.0 n)) refl e in
    let t = s (kind_of d.0 kinds.TooDeep n place (Some (fault_at d.0 n)) refl e) in
    let front : length t.0 ≡ place = omega (arith, at, ap length t.1 ∙ length-append t.0 d.1) in
    subst (BreaksAt bytes kinds.TooDeep) front (at_length bytes t.0 d.1 kinds.TooDeep t.1 t.2)

deep : (bytes : List ℕ) (place : ℕ) → first_book_fault bytes ≡ Some (fault_at kinds.TooDeep place) → BreaksAt bytes kinds.TooDeep place
deep bytes place e = deep_by bytes (book_at bytes) (deep_book bytes).at place e

there_kind : (bytes : List ℕ) (kind : Kind) (place : ℕ) → first_book_fault bytes ≡ Some (fault_at kind place) → Broken bytes place ⊎ IsEndedAt bytes place →
    BreaksAt bytes kind place ⊎ ((kind ≡ kinds.Form) × (BreaksAt bytes kinds.TooDeep place → ⊥) × IsEndedAt bytes place)
there_kind bytes kind place e (inl b) = inl (subst (λ k. BreaksAt bytes k place) (kind_of b.0 kind place place (first_book_fault bytes) (broken bytes b.0 place b.1) e) b.1)
there_kind bytes kinds.Form place e (inr ended) =
    inr (refl, (λ b. form_not (kind_of kinds.Form kinds.TooDeep place place (first_book_fault bytes) e (broken bytes kinds.TooDeep place b))), ended)
there_kind bytes kinds.TooDeep place e (inr ended) = inl (deep bytes place e)

pub found : (bytes : List ℕ) (kind : Kind) (place : ℕ) → first_book_fault bytes ≡ Some (fault_at kind place) → IsFirstBookFault bytes kind place
found bytes kind place e =
    let s = seen bytes kind place e in
    record {
      before = s.before;
      first = λ other k less is. (let same = place_of other kind k place (first_book_fault bytes) (broken bytes other k is) e in omega (arith, less, same));
      there = there_kind bytes kind place e (there_by bytes kind place e s);
    }

-- ---- the first fault is at the only place of which its definition is so

-- a text is the front of one, and so is each part of it
whole_front : (bytes : List ℕ) (book : Book) (n : ℕ) → IsBookText bytes book → IsLooseFront (take n bytes)
whole_front bytes book n is = record { more = drop n bytes; book = book; loose = loose_of book is.book_is; whole = take-append-drop n bytes ∙ is.text_is }

-- the place of a fault is not behind one at which no text goes on, nor before it
no_later_end : (bytes : List ℕ) (p place : ℕ) → p < place → IsLooseFront (take place bytes) → IsEndedAt bytes p → place ≤ length bytes → ⊥
no_later_end bytes p place less front (inl stuck) within = stuck.1 (fewer_bytes bytes (p + 1) place (omega (arith, less)) front)
no_later_end bytes p place less front (inr stuck) within = omega (arith, stuck.0, less, within)

-- where there is no fault, the bytes are a text
record TextOf (bytes : List ℕ) : Type 0 where
  book : Book
  text : IsBookText bytes book

text_by : (bytes : List ℕ) (x : Res (ℕ × List ℕ × List ℕ)) → pass_book bytes ≡ x → first_book_fault bytes ≡ None → TextOf bytes
text_by bytes (Ok y) e none = let o = opened bytes y.0.0 y.0.1 y.0.2 y.1 e in record { book = o.book; text = o.text }
text_by bytes (Err d) e none = absurd (let no : Some (fault_at d.0 (length bytes - length d.1)) ≡ None = sym (has_fault bytes d.0 d.1 e) ∙ none in cc)

text_not_ended : (bytes : List ℕ) (place : ℕ) → TextOf bytes → IsEndedAt bytes place → ⊥
text_not_ended bytes place is (inl stuck) = stuck.1 (whole_front bytes is.book (place + 1) is.text)
text_not_ended bytes place is (inr stuck) = stuck.1 is.book is.text

end_within : (bytes : List ℕ) (place : ℕ) → IsEndedAt bytes place → place ≤ length bytes
end_within bytes place (inl stuck) = omega (arith, stuck.0)
end_within bytes place (inr stuck) = omega (arith, stuck.0)

not_before : (bytes : List ℕ) (kind : Kind) (p place : ℕ) → p < place → IsFirstBookFault bytes kind place → IsEndedAt bytes place → Broken bytes p ⊎ IsEndedAt bytes p → ⊥
not_before bytes kind p place less f stuck (inl is) = f.first is.0 p less is.1
not_before bytes kind p place less f stuck (inr other) = no_later_end bytes p place less f.before other (end_within bytes place stuck)

-- a fault of some kind stands here
abbrev HasFault : List ℕ → ℕ → Type 0
HasFault bytes place = (kind : Kind) × (first_book_fault bytes ≡ Some (fault_at kind place))

at_place : (bytes : List ℕ) (kind other : Kind) (p place : ℕ) → IsFirstBookFault bytes kind place → IsEndedAt bytes place → first_book_fault bytes ≡ Some (fault_at other p) → (p ≡ place) ⊎ ((p < place) ⊎ (place < p)) →
    HasFault bytes place
at_place bytes kind other p place f stuck e (inl same) = (other, e ∙ ap (λ n. Some (fault_at other n)) same)
at_place bytes kind other p place f stuck e (inr (inl less)) = absurd (not_before bytes kind p place less f stuck (there_by bytes other p e (seen bytes other p e)))
at_place bytes kind other p place f stuck e (inr (inr less)) = absurd (no_later_end bytes place p less (seen bytes other p e).before stuck (seen bytes other p e).within)

ended_fault : (bytes : List ℕ) (kind : Kind) (place : ℕ) → IsFirstBookFault bytes kind place → IsEndedAt bytes place → (x : Res Book) → book_at bytes ≡ x → HasFault bytes place
ended_fault bytes kind place f stuck (Ok y) e = absurd (text_not_ended bytes place (text_by bytes (pass_book bytes) refl (ap (fault_of (length bytes)) e)) stuck)
ended_fault bytes kind place f stuck (Err d) e =
    let p = length bytes - length d.1 in
    at_place bytes kind d.0 p place f stuck (ap (fault_of (length bytes)) e) (cases_order p place)

-- where no bracket is too deep, the fault is one of form
form_fault : (bytes : List ℕ) (other : Kind) (place : ℕ) → (BreaksAt bytes kinds.TooDeep place → ⊥) → first_book_fault bytes ≡ Some (fault_at other place) → first_book_fault bytes ≡ Some (fault_at kinds.Form place)
form_fault bytes kinds.Form place not_deep e = e
form_fault bytes kinds.TooDeep place not_deep e = absurd (not_deep (deep bytes place e))

first_by : (bytes : List ℕ) (kind : Kind) (place : ℕ) → IsFirstBookFault bytes kind place → BreaksAt bytes kind place ⊎ ((kind ≡ kinds.Form) × (BreaksAt bytes kinds.TooDeep place → ⊥) × IsEndedAt bytes place) →
    first_book_fault bytes ≡ Some (fault_at kind place)
first_by bytes kind place f (inl is) = broken bytes kind place is
first_by bytes kind place f (inr stuck) =
    let fault = ended_fault bytes kind place f stuck.2 (book_at bytes) refl in
    form_fault bytes fault.0 place stuck.1 fault.1 ∙ ap (λ k. Some (fault_at k place)) (sym stuck.0)

pub only : (bytes : List ℕ) (kind : Kind) (place : ℕ) → IsFirstBookFault bytes kind place → first_book_fault bytes ≡ Some (fault_at kind place)
only bytes kind place f = first_by bytes kind place f f.there
