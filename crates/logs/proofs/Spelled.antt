-- What a row is read as is what it spells.
use Rattle.std.proofs.Common.{◌≡◌, ℕ, Bool, true, false, ◌==◌, List, [], ◌∷◌, ◌++◌, Option, Some, None, if◌then◌else◌, codes, ap, sym, refl, subst}
use Rattle.std.proofs.Common.{append-nil}
use Rattle.std.specs.Str.{bytes_eq}
use Rattle.std.proofs.lemmas.Bool.{eqb-true}
use Rattle.std.proofs.lemmas.Option.{none-some, same_Some}
use Rattle.std.proofs.lemmas.Slice.Eq.{bytes_eq-Decides}
use Rattle.logs.specs.Words.{is_log_word, before_space, behind_space}
use Rattle.logs.specs.Said.{DeedData, Take, Give, Read, Write, Change, Start, Join, Stop, Begin, End, SaidData, spell_deed, words_of, AreWords, Spells, bare_deed, deed_with_one, deed_with_two, deed_with_three, third_read, second_read, first_read, deed_read, said_of_deed, said_behind, said_of}

-- what stands behind a word: a space and the rest, or nothing
abbrev tail : Option (List ℕ) → List ℕ
tail None = []
tail (Some rest) = 32 ∷ rest

-- bytes are cut into those before the first space and those behind it
cut_whole : (xs : List ℕ) → xs ≡ before_space xs ++ tail (behind_space xs)
cut_whole [] = refl
cut_whole (x ∷ xs) = elim (x == 32) as (λ b. (x == 32) ≡ b → x ∷ xs ≡ (if b then [] else x ∷ before_space xs) ++ tail (if b then Some xs else behind_space xs)) [
  | true ↦ λ e. ap (λ y. y ∷ xs) (eqb-true x 32 e)
  | false ↦ λ e. ap (λ ys. x ∷ ys) (cut_whole xs)
] refl

-- the deed is this one, or one of the others
step : (P : DeedData → Type 0) (d name : List ℕ) (deed z : DeedData) (y : Option DeedData) → (d ≡ name → P deed) → (y ≡ Some z → P z)
    → (if bytes_eq d name then Some deed else y) ≡ Some z → P z
step P d name deed z y this other = elim (bytes_eq d name) as (λ b. bytes_eq d name ≡ b → (if b then Some deed else y) ≡ Some z → P z) [
  | true ↦ λ e is. subst P (same_Some deed z is) (this ((bytes_eq-Decides d name).0 e))
  | false ↦ λ e is. other is
] refl

-- where a test must hold
tested : (P : DeedData → Type 0) (b : Bool) (y : Option DeedData) (z : DeedData) → (b ≡ true → y ≡ Some z → P z) → (if b then y else None) ≡ Some z → P z
tested P true y z f e = f refl e
tested P false y z f e = absurd (none-some _ e)

-- these bytes spell a deed
abbrev IsSpelled : List ℕ → DeedData → Type 0
IsSpelled bytes deed = (bytes ≡ spell_deed deed) × AreWords (words_of deed)

bare : (d : List ℕ) (z : DeedData) → bare_deed d ≡ Some z → IsSpelled d z
bare d z = step (IsSpelled d) d (codes "stop") Stop z _ (λ e. (e, tt)) (step (IsSpelled d) d (codes "end") End z _ (λ e. (e, tt)) (λ e. absurd (none-some _ e)))

with_one : (d x : List ℕ) (z : DeedData) → is_log_word x ≡ true → deed_with_one d x ≡ Some z → IsSpelled (d ++ 32 ∷ x) z
with_one d x z w =
    let P : DeedData → Type 0 = IsSpelled (d ++ 32 ∷ x) in
    let put : (name : List ℕ) → d ≡ name → d ++ 32 ∷ x ≡ name ++ 32 ∷ x = λ name e. ap (λ k. k ++ 32 ∷ x) e in
    step P d (codes "take") (Take x) z _ (λ e. (put (codes "take") e, (w, tt)))
    (step P d (codes "give") (Give x) z _ (λ e. (put (codes "give") e, (w, tt)))
    (step P d (codes "start") (Start x) z _ (λ e. (put (codes "start") e, (w, tt)))
    (step P d (codes "join") (Join x) z _ (λ e. (put (codes "join") e, (w, tt)))
    (step P d (codes "begin") (Begin x) z _ (λ e. (put (codes "begin") e, (w, tt))) (λ e. absurd (none-some _ e))))))

with_two : (d x y : List ℕ) (z : DeedData) → is_log_word x ≡ true → is_log_word y ≡ true → deed_with_two d x y ≡ Some z → IsSpelled (d ++ 32 ∷ (x ++ 32 ∷ y)) z
with_two d x y z w v =
    let P : DeedData → Type 0 = IsSpelled (d ++ 32 ∷ (x ++ 32 ∷ y)) in
    let put : (name : List ℕ) → d ≡ name → d ++ 32 ∷ (x ++ 32 ∷ y) ≡ name ++ 32 ∷ (x ++ 32 ∷ y) = λ name e. ap (λ k. k ++ 32 ∷ (x ++ 32 ∷ y)) e in
    step P d (codes "read") (Read x y) z _ (λ e. (put (codes "read") e, (w, (v, tt))))
    (step P d (codes "write") (Write x y) z _ (λ e. (put (codes "write") e, (w, (v, tt)))) (λ e. absurd (none-some _ e)))

with_three : (d x y u : List ℕ) (z : DeedData) → is_log_word x ≡ true → is_log_word y ≡ true → is_log_word u ≡ true → deed_with_three d x y u ≡ Some z
    → IsSpelled (d ++ 32 ∷ (x ++ 32 ∷ (y ++ 32 ∷ u))) z
with_three d x y u z w v s =
    step (IsSpelled (d ++ 32 ∷ (x ++ 32 ∷ (y ++ 32 ∷ u)))) d (codes "change") (Change x y u) z _ (λ e. (ap (λ k. k ++ 32 ∷ (x ++ 32 ∷ (y ++ 32 ∷ u))) e, (w, (v, (s, tt))))) (λ e. absurd (none-some _ e))

third : (d x y u : List ℕ) (more : Option (List ℕ)) (z : DeedData) → is_log_word x ≡ true → is_log_word y ≡ true → is_log_word u ≡ true → third_read d x y u more ≡ Some z
    → IsSpelled (d ++ 32 ∷ (x ++ 32 ∷ (y ++ 32 ∷ (u ++ tail more)))) z
third d x y u None z w v s e = subst (λ k. IsSpelled (d ++ 32 ∷ (x ++ 32 ∷ (y ++ 32 ∷ k))) z) (sym (append-nil u)) (with_three d x y u z w v s e)
third d x y u (Some rest) z w v s e = absurd (none-some _ e)

second : (d x y : List ℕ) (more : Option (List ℕ)) (z : DeedData) → is_log_word x ≡ true → is_log_word y ≡ true → second_read d x y more ≡ Some z
    → IsSpelled (d ++ 32 ∷ (x ++ 32 ∷ (y ++ tail more))) z
second d x y None z w v = λ e. subst (λ k. IsSpelled (d ++ 32 ∷ (x ++ 32 ∷ k)) z) (sym (append-nil y)) (with_two d x y z w v e)
second d x y (Some rest) z w v = tested (IsSpelled (d ++ 32 ∷ (x ++ 32 ∷ (y ++ 32 ∷ rest)))) (is_log_word (before_space rest)) _ z
    (λ s e. subst (λ k. IsSpelled (d ++ 32 ∷ (x ++ 32 ∷ (y ++ 32 ∷ k))) z) (sym (cut_whole rest)) (third d x y (before_space rest) (behind_space rest) z w v s e))

first : (d x : List ℕ) (more : Option (List ℕ)) (z : DeedData) → is_log_word x ≡ true → first_read d x more ≡ Some z → IsSpelled (d ++ 32 ∷ (x ++ tail more)) z
first d x None z w = λ e. subst (λ k. IsSpelled (d ++ 32 ∷ k) z) (sym (append-nil x)) (with_one d x z w e)
first d x (Some rest) z w = tested (IsSpelled (d ++ 32 ∷ (x ++ 32 ∷ rest))) (is_log_word (before_space rest)) _ z
    (λ s e. subst (λ k. IsSpelled (d ++ 32 ∷ (x ++ 32 ∷ k)) z) (sym (cut_whole rest)) (second d x (before_space rest) (behind_space rest) z w s e))

deed : (d : List ℕ) (more : Option (List ℕ)) (z : DeedData) → deed_read d more ≡ Some z → IsSpelled (d ++ tail more) z
deed d None z = λ e. subst (λ k. IsSpelled k z) (sym (append-nil d)) (bare d z e)
deed d (Some rest) z = tested (IsSpelled (d ++ 32 ∷ rest)) (is_log_word (before_space rest)) _ z
    (λ s e. subst (λ k. IsSpelled (d ++ 32 ∷ k) z) (sym (cut_whole rest)) (first d (before_space rest) (behind_space rest) z s e))

-- what a thread's deed is read as
by_thread : (t rest : List ℕ) (o : Option DeedData) (said : SaidData) → is_log_word t ≡ true → ((z : DeedData) → o ≡ Some z → IsSpelled rest z) → said_of_deed t o ≡ Some said → Spells said (t ++ 32 ∷ rest)
by_thread t rest None said w h e = absurd (none-some _ e)
by_thread t rest (Some z) said w h e = let s = h z refl in
    subst (λ r. Spells r (t ++ 32 ∷ rest)) (same_Some _ said e) (record { words = (w, s.1); bytes = ap (λ k. t ++ 32 ∷ k) s.0 })

behind : (t : List ℕ) (more : Option (List ℕ)) (said : SaidData) → said_behind t more ≡ Some said → Spells said (t ++ tail more)
behind t None said = λ e. absurd (none-some _ e)
behind t (Some rest) said = elim (is_log_word t) as (λ b. is_log_word t ≡ b → (if b then said_of_deed t (deed_read (before_space rest) (behind_space rest)) else None) ≡ Some said → Spells said (t ++ 32 ∷ rest)) [
  | true ↦ λ w e. by_thread t rest (deed_read (before_space rest) (behind_space rest)) said w
      (λ z is. subst (λ k. IsSpelled k z) (sym (cut_whole rest)) (deed (before_space rest) (behind_space rest) z is)) e
  | false ↦ λ w e. absurd (none-some _ e)
] refl

pub spelled : (row : List ℕ) (said : SaidData) → said_of row ≡ Some said → Spells said row
spelled row said e = subst (Spells said) (sym (cut_whole row)) (behind (before_space row) (behind_space row) said e)
