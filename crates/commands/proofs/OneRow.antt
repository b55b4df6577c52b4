-- Words are one row at most.
use Rattle.std.proofs.Common.{◌≡◌, ◌⊎◌, inl, inr, ℕ, ◌<◌, List, [], ◌∷◌, ◌++◌, Option, Some, None, if◌then◌else◌, codes, decimal, refl, sym, subst, ap, ◌∙◌, arith}
use Rattle.std.proofs.lemmas.Fmt.{decimal_injective}
use Rattle.std.specs.Str.{bytes_eq}
use Rattle.commands.specs.declared.command.Command.{Command}
use Rattle.commands.specs.declared.command.Command.TheVariants.{Check, Print, Run, Serialise, Derive, Verify, SerialiseOpen, Blame, VerifyBlame, Levels, Replay, Generate}
use Rattle.commands.specs.Rows.{Row, IsRow, IsWithin, command_word, worker_words}

-- the command that a word names, with this number where it has one
command_of : List ℕ → ℕ → Option Command
command_of word n = if bytes_eq word (codes "check") then Some Check else if bytes_eq word (codes "print") then Some Print
    else if bytes_eq word (codes "run") then Some Run else if bytes_eq word (codes "serialise") then Some Serialise
    else if bytes_eq word (codes "derive") then Some Derive else if bytes_eq word (codes "verify") then Some Verify
    else if bytes_eq word (codes "serialise-open") then Some SerialiseOpen
    else if bytes_eq word (codes "blame") then Some Blame
    else if bytes_eq word (codes "verify-blame") then Some VerifyBlame
    else if bytes_eq word (codes "levels") then Some Levels
    else if bytes_eq word (codes "replay") then Some Replay
    else if bytes_eq word (codes "generate") then Some (Generate n) else None

number_in : Command → ℕ
number_in Check = 0
number_in Print = 0
number_in Run = 0
number_in Serialise = 0
number_in Derive = 0
number_in Verify = 0
number_in SerialiseOpen = 0
number_in Blame = 0
number_in VerifyBlame = 0
number_in Levels = 0
number_in Replay = 0
number_in (Generate n) = n

named : (command : Command) → command_of (command_word command) (number_in command) ≡ Some command
unfolding command_of number_in
named Check = refl
named Print = refl
named Run = refl
named Serialise = refl
named Derive = refl
named Verify = refl
named SerialiseOpen = refl
named Blame = refl
named VerifyBlame = refl
named Levels = refl
named Replay = refl
named (Generate n) = refl

-- a command has no number, or it is `generate` with one
by_number : (command : Command) → ((worker_words command ≡ []) × (number_in command ≡ 0)) ⊎ ((n : ℕ) × (command ≡ Generate n))
unfolding number_in
by_number Check = inl (refl, refl)
by_number Print = inl (refl, refl)
by_number Run = inl (refl, refl)
by_number Serialise = inl (refl, refl)
by_number Derive = inl (refl, refl)
by_number Verify = inl (refl, refl)
by_number SerialiseOpen = inl (refl, refl)
by_number Blame = inl (refl, refl)
by_number VerifyBlame = inl (refl, refl)
by_number Levels = inl (refl, refl)
by_number Replay = inl (refl, refl)
by_number (Generate n) = inr (n, refl)

-- commands of one word with the same number are one
same_named : (one other : Command) → command_word one ≡ command_word other → number_in one ≡ number_in other → one ≡ other
same_named one other word number =
    let some : Some one ≡ Some other = sym (named one) ∙ (λ i. command_of (word i) (number i)) ∙ named other in cc

-- the word `generate` is no command's without a number
no_generate : (command : Command) → worker_words command ≡ [] → number_in command ≡ 0 → command_word command ≡ codes "generate" → ⊥
unfolding number_in
no_generate command none zero word =
    let same : command ≡ Generate 0 = same_named command (Generate 0) word zero in
    let e : decimal 0 ∷ [] ≡ [] = sym (ap worker_words same) ∙ none in cc

record Same (one other : Command) (names others : List (List ℕ)) : Type 0 where
  command : one ≡ other
  names_are : names ≡ others

same_words : (one other : Command) (names others : List (List ℕ)) → IsWithin one → IsWithin other → command_word one ≡ command_word other → worker_words one ++ names ≡ worker_words other ++ others
    → ((worker_words one ≡ []) × (number_in one ≡ 0)) ⊎ ((n : ℕ) × (one ≡ Generate n)) → ((worker_words other ≡ []) × (number_in other ≡ 0)) ⊎ ((n : ℕ) × (other ≡ Generate n)) → Same one other names others
same_words one other names others a b word rest (inl p) (inl q) =
    record { command = same_named one other word (p.1 ∙ sym q.1); names_are = sym (ap (λ l. l ++ names) p.0) ∙ rest ∙ ap (λ l. l ++ others) q.0 }
same_words one other names others a b word rest (inl p) (inr q) = absurd (no_generate one p.0 p.1 (word ∙ ap command_word q.1))
same_words one other names others a b word rest (inr p) (inl q) = absurd (no_generate other q.0 q.1 (sym word ∙ ap command_word p.1))
same_words one other names others a b word rest (inr p) (inr q) =
    let n = p.0 in
    let m = q.0 in
    let small : n < 1000 = subst IsWithin p.1 a in
    let little : m < 1000 = subst IsWithin q.1 b in
    let both : decimal n ∷ names ≡ decimal m ∷ others = sym (ap (λ c. worker_words c ++ names) p.1) ∙ rest ∙ ap (λ c. worker_words c ++ others) q.1 in
    let digits : decimal n ≡ decimal m = cc in
    let tails : names ≡ others = cc in
    record { command = p.1 ∙ ap Generate (decimal_injective n m (omega (arith, small)) (omega (arith, little)) digits) ∙ sym q.1; names_are = tails }

pub one_row : (words : List (List ℕ)) (row other : Row) → IsRow words row → IsRow words other → row ≡ other
one_row words row other a b =
    let both : command_word row.command ∷ (worker_words row.command ++ row.names) ≡ command_word other.command ∷ (worker_words other.command ++ other.names) = sym a.said ∙ b.said in
    let word : command_word row.command ≡ command_word other.command = cc in
    let rest : worker_words row.command ++ row.names ≡ worker_words other.command ++ other.names = cc in
    let same = same_words row.command other.command row.names other.names a.within b.within word rest (by_number row.command) (by_number other.command) in
    λ i. record { command = same.command i; names = same.names_are i }
