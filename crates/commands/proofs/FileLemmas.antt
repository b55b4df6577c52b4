-- Reading one file more, and what is known of the files then.
use Rattle.std.proofs.Common.{◌≡◌, ◌≢◌, ◌<◌, ◌≤◌, ℕ, zero, suc, List, [], ◌∷◌, ◌++◌, Option, Some, None, Result, Ok, Err, IfSome, IsSome, OnOk, IfErr, false, true, nat_lt, length, replicate, slice_get, unwrap_or, refl, ap, sym, subst, ◌∙◌, append_assoc, arith, Contains}
use Rattle.std.proofs.lemmas.Bool.Decides.{nat_tests}
use Rattle.std.proofs.lemmas.List.{length-replicate}
use Rattle.std.proofs.lemmas.Option.{slice_get_within, get_or_from_slice_get}
use Rattle.sources.specs.Files.{HasSameFaults}
use Rattle.sources.proofs.Exact.{told_within}
use Rattle.edge.specs.declared.transfer.ReadEnd.{ReadEnd}
use Rattle.edge.specs.declared.transfer.ReadEnd.TheVariants as ends
use Rattle.edge.specs.Faults.{Rose}
use Rattle.commands.specs.declared.files.Unread.{Unread}
use Rattle.commands.specs.declared.files.Unread.TheVariants as unread
use Rattle.commands.specs.Files.{AreFilesTold, AreBounded, first_over}
use Rattle.commands.specs.Reading.{AreTheirs, AreWithinBefore, AreRead, IsFirstUnread, IsFirstOver}
use Rattle.commands.specs.Outcomes.{HasMore, IsUnreadFor}

-- what is told stays told
theirs_after : (told after : List ℕ → Option (List ℕ)) → ((other : List ℕ) → after other ≡ told other) → (names files : List (List ℕ)) → AreTheirs after names files → AreTheirs told names files
theirs_after told after same [] [] t = tt
theirs_after told after same [] (file ∷ files) t = t
theirs_after told after same (name ∷ names) [] t = t
theirs_after told after same (name ∷ names) (file ∷ files) t = (subst (λ o. IfSome o (λ its. file ≡ its)) (same name) t.0, theirs_after told after same names files t.1)

within_after : (told after : List ℕ → Option (List ℕ)) → ((other : List ℕ) → after other ≡ told other) → (limit : ℕ) (limits : List ℕ) (name : List ℕ) (names : List (List ℕ)) (place : ℕ)
    → IfSome (told name) (λ file. length file ≤ limit) → AreWithinBefore after limits names place → AreWithinBefore told (limit ∷ limits) (name ∷ names) (suc place)
within_after told after same limit limits name names place first later zero its other below is_limit is_name =
    let l : limit ≡ its = cc in
    let n : name ≡ other = cc in
    subst (λ x. IfSome (told x) (λ file. length file ≤ its)) n (subst (λ x. IfSome (told name) (λ file. length file ≤ x)) l first)
within_after told after same limit limits name names place first later (suc k) its other below is_limit is_name =
    subst (λ o. IfSome o (λ file. length file ≤ its)) (same other) (later k its other (omega (arith, below)) is_limit is_name)

module _ (told after : List ℕ → Option (List ℕ)) (before mid now : List ℕ → ℕ) (limit : ℕ) (limits all : List ℕ) (name : List ℕ) (names every : List (List ℕ)) (bytes : List ℕ)
    (is_all : all ≡ limit ∷ limits) (is_every : every ≡ name ∷ names) (same : (other : List ℕ) → after other ≡ told other) (calm : HasSameFaults before mid)
    (read : IfSome (told name) (λ file. bytes ≡ file)) (within : length bytes ≤ limit) where
  -- one file more was read
  more_read : (old between new : List (List ℕ)) → between ≡ old ++ bytes ∷ [] → HasMore after mid now limits names between new → HasMore told before now all every old new
  more_read old between new put rest = record {
    files = bytes ∷ rest.files;
    put = rest.put ∙ ap (λ xs. xs ++ rest.files) put ∙ append_assoc old (bytes ∷ []) rest.files;
    read = subst (λ xs. AreRead told before now xs every (bytes ∷ rest.files)) (sym is_all) (subst (λ ys. AreRead told before now (limit ∷ limits) ys (bytes ∷ rest.files)) (sym is_every) (record {
      theirs = (read, theirs_after told after same names rest.files rest.read.theirs);
      bounded = (within, rest.read.bounded);
      quiet = λ other. rest.read.quiet other ∙ calm other;
    }));
  }

  pub read_more : {E : Type 0} → (old between new : List (List ℕ)) (r : Result Unit E) → between ≡ old ++ bytes ∷ [] → OnOk r (HasMore after mid now limits names between new) → OnOk r (HasMore told before now all every old new)
  read_more {E} old between new (Err e) put rest = tt
  read_more {E} old between new (Ok u) put rest = more_read old between new put rest

  -- a file behind it wasn't read
  unread_later : (its : List ℕ) → IsFirstUnread after mid now limits names its → IsFirstUnread told before now all every its
  unread_later its rest = subst (λ xs. IsFirstUnread told before now xs every its) (sym is_all) (subst (λ ys. IsFirstUnread told before now (limit ∷ limits) ys its) (sym is_every) (record {
    place = suc rest.place;
    named = rest.named;
    rose = subst (λ n. Rose n (now its)) (calm its) rest.rose;
    others = λ other differs known. rest.others other differs (subst IsSome (sym (same other)) known) ∙ calm other;
    earlier = within_after told after same limit limits name names rest.place (told_within (told name) bytes limit read within) rest.earlier;
  }))

  over_later : (its : List ℕ) → IsFirstOver after mid now limits names its → IsFirstOver told before now all every its
  over_later its rest = subst (λ xs. IsFirstOver told before now xs every its) (sym is_all) (subst (λ ys. IsFirstOver told before now (limit ∷ limits) ys its) (sym is_every) (record {
    place = suc rest.place;
    limit = rest.limit;
    named = rest.named;
    limited = rest.limited;
    over = subst (λ o. IfSome o (λ file. rest.limit < length file)) (same its) rest.over;
    earlier = within_after told after same limit limits name names rest.place (told_within (told name) bytes limit read within) rest.earlier;
    quiet = λ other. rest.quiet other ∙ calm other;
  }))

  unread_more : (end : Unread) → IsUnreadFor limits names after mid now end → IsUnreadFor all every told before now end
  unread_more (unread.Fault its) rest = unread_later its.now rest
  unread_more (unread.TooLarge its) rest = over_later its.now rest
  unread_more unread.NoMemory rest = tt

  pub end_more : {T : Type 0} (r : Result T Unread) → IfErr r (IsUnreadFor limits names after mid now) → IfErr r (IsUnreadFor all every told before now)
  end_more (Ok x) rest = tt
  end_more (Err end) rest = unread_more end rest

module _ (told : List ℕ → Option (List ℕ)) (before now : List ℕ → ℕ) where
  -- the first file is the one that wasn't read
  pub unread_first : (all : List ℕ) (name asked its : List ℕ) (names every : List (List ℕ)) → every ≡ name ∷ names → asked ≡ name → its ≡ name → Rose (before asked) (now asked)
      → ((other : List ℕ) → other ≢ asked → IsSome (told other) → now other ≡ before other) → IsFirstUnread told before now all every its
  unread_first all name asked its names every is_every is_asked is_its rose others = record {
    place = 0;
    named = ap (λ ys. slice_get ys 0) is_every ∙ ap Some (sym is_its);
    rose = subst (λ n. Rose (before n) (now n)) (is_asked ∙ sym is_its) rose;
    others = subst (λ n. (other : List ℕ) → other ≢ n → IsSome (told other) → now other ≡ before other) (is_asked ∙ sym is_its) others;
    earlier = λ k limit other below is_limit is_name. absurd (omega (arith, below));
  }

  pub over_here : (limit : ℕ) (limits all : List ℕ) (name asked its : List ℕ) (names every : List (List ℕ)) → all ≡ limit ∷ limits → every ≡ name ∷ names → asked ≡ name → its ≡ name
      → IfSome (told asked) (λ file. limit < length file) → HasSameFaults before now → IsFirstOver told before now all every its
  over_here limit limits all name asked its names every is_all is_every is_asked is_its over quiet = record {
    place = 0;
    limit = limit;
    named = ap (λ ys. slice_get ys 0) is_every ∙ ap Some (sym is_its);
    limited = ap (λ xs. slice_get xs 0) is_all;
    over = subst (λ n. IfSome (told n) (λ file. limit < length file)) (is_asked ∙ sym is_its) over;
    earlier = λ k most other below is_limit is_name. absurd (omega (arith, below));
    quiet = quiet;
  }

-- a file that is too large is no fault
pub no_fault : (end : ReadEnd) → end ≡ ends.TooLarge → end ≢ ends.Fault
no_fault end is other = let h : ends.TooLarge ≡ ends.Fault = sym is ∙ other in cc

-- what was read is what is told
pub theirs_told : (told : List ℕ → Option (List ℕ)) (names files read : List (List ℕ)) → AreFilesTold told names files → AreTheirs told names read → read ≡ files
theirs_told told [] [] [] t r = refl
theirs_told told [] [] (file ∷ read) t r = absurd r
theirs_told told [] (file ∷ files) read t r = absurd t
theirs_told told (name ∷ names) [] read t r = absurd t
theirs_told told (name ∷ names) (file ∷ files) [] t r = absurd r
theirs_told told (name ∷ names) (file ∷ files) (bytes ∷ read) t r =
    let one : bytes ≡ file = subst (λ o. IfSome o (λ its. bytes ≡ its)) t.0 r.0 in
    let rest : read ≡ files = theirs_told told names files read t.1 r.1 in
    λ i. one i ∷ rest i

-- a file within its limit isn't the first over it
not_over : (limit : ℕ) (limits : List ℕ) (name : List ℕ) (names : List (List ℕ)) (file : List ℕ) (files : List (List ℕ)) (o : Option (List ℕ)) → length file ≤ limit → first_over limits names files ≡ o
    → first_over (limit ∷ limits) (name ∷ names) (file ∷ files) ≡ o
not_over limit limits name names file files o within is = let e : nat_lt limit (length file) ≡ false = grind (arith, nat_tests) in rw (e) is

over_now : (limit : ℕ) (limits : List ℕ) (name : List ℕ) (names : List (List ℕ)) (file : List ℕ) (files : List (List ℕ)) → limit < length file → first_over (limit ∷ limits) (name ∷ names) (file ∷ files) ≡ Some name
over_now limit limits name names file files over = let e : nat_lt limit (length file) ≡ true = grind (arith, nat_tests) in rw (e) refl

-- files within their limits
pub bounded_within : (limits : List ℕ) (names files : List (List ℕ)) → AreBounded limits files → first_over limits names files ≡ None
bounded_within [] names files b = refl
bounded_within (limit ∷ limits) [] files b = refl
bounded_within (limit ∷ limits) (name ∷ names) [] b = refl
bounded_within (limit ∷ limits) (name ∷ names) (file ∷ files) b = not_over limit limits name names file files None b.0 (bounded_within limits names files b.1)

-- what is told behind the first name
later_within : (told : List ℕ → Option (List ℕ)) (limit : ℕ) (limits : List ℕ) (name : List ℕ) (names : List (List ℕ)) (place : ℕ) → AreWithinBefore told (limit ∷ limits) (name ∷ names) (suc place) → AreWithinBefore told limits names place
later_within told limit limits name names place all k its other below is_limit is_name = all (suc k) its other (omega (arith, below)) is_limit is_name

-- the first file over its limit, where the files are told
over_at : (told : List ℕ → Option (List ℕ)) (place : ℕ) (limits : List ℕ) (names files : List (List ℕ)) (limit : ℕ) (its : List ℕ) → AreFilesTold told names files → slice_get names place ≡ Some its → slice_get limits place ≡ Some limit
    → IfSome (told its) (λ file. limit < length file) → AreWithinBefore told limits names place → first_over limits names files ≡ Some its
over_at told place limits [] files limit its t named limited over earlier = absurd cc
over_at told place [] (name ∷ names) files limit its t named limited over earlier = absurd cc
over_at told place (most ∷ limits) (name ∷ names) [] limit its t named limited over earlier = absurd t
over_at told zero (most ∷ limits) (name ∷ names) (file ∷ files) limit its t named limited over earlier =
    let n : name ≡ its = cc in
    let m : most ≡ limit = cc in
    let there : told its ≡ Some file = ap told (sym n) ∙ t.0 in
    let large : limit < length file = subst (λ o. IfSome o (λ f. limit < length f)) there over in
    over_now most limits name names file files (subst (λ x. x < length file) (sym m) large) ∙ ap Some n
over_at told (suc place) (most ∷ limits) (name ∷ names) (file ∷ files) limit its t named limited over earlier =
    not_over most limits name names file files (Some its) (subst (λ o. IfSome o (λ f. length f ≤ most)) t.0 (earlier 0 most name (omega arith) refl refl))
    (over_at told place limits names files limit its t.1 named limited over (later_within told most limits name names place earlier))

pub over_first : (told : List ℕ → Option (List ℕ)) (before now : List ℕ → ℕ) (limits : List ℕ) (names files : List (List ℕ)) (its : List ℕ) → AreFilesTold told names files → IsFirstOver told before now limits names its → first_over limits names files ≡ Some its
over_first told before now limits names files its t first = over_at told first.place limits names files first.limit its t first.named first.limited first.over first.earlier

-- what is told of a file, or else any bytes
its_bytes : (o : Option (List ℕ)) (other : List ℕ) → IfSome o (λ its. unwrap_or o other ≡ its)
its_bytes None other = tt
its_bytes (Some file) other = refl

its_length : (o : Option (List ℕ)) (limit : ℕ) → IfSome o (λ file. length file ≤ limit) → length (unwrap_or o []) ≤ limit
its_length None limit is = omega arith
its_length (Some file) limit is = is

its_over : (o : Option (List ℕ)) (limit : ℕ) → IfSome o (λ file. limit < length file) → limit < length (unwrap_or o (replicate (suc limit) 0))
its_over None limit is = let e : length {A = ℕ} (replicate (suc limit) 0) ≡ suc limit = length-replicate (suc limit) 0 in omega (arith, e)
its_over (Some file) limit is = is

-- the bytes that are told, or none
bytes_told : (List ℕ → Option (List ℕ)) → List (List ℕ) → List (List ℕ)
bytes_told told [] = []
bytes_told told (name ∷ names) = unwrap_or (told name) [] ∷ bytes_told told names

bytes_theirs : (told : List ℕ → Option (List ℕ)) (names : List (List ℕ)) → AreTheirs told names (bytes_told told names)
unfolding bytes_told
bytes_theirs told [] = tt
bytes_theirs told (name ∷ names) = (its_bytes (told name) [], bytes_theirs told names)

-- files of which this is the first over its limit
pub record HasOver (told : List ℕ → Option (List ℕ)) (limits : List ℕ) (names : List (List ℕ)) (name : List ℕ) : Type 0 where
  pub files : List (List ℕ)
  pub theirs : AreTheirs told names files
  pub over : first_over limits names files ≡ Some name

some_over : (told : List ℕ → Option (List ℕ)) (place : ℕ) (limits : List ℕ) (names : List (List ℕ)) (limit : ℕ) (its : List ℕ) → slice_get names place ≡ Some its → slice_get limits place ≡ Some limit
    → IfSome (told its) (λ file. limit < length file) → AreWithinBefore told limits names place → HasOver told limits names its
some_over told place limits [] limit its named limited over earlier = absurd cc
some_over told place [] (name ∷ names) limit its named limited over earlier = absurd cc
some_over told zero (most ∷ limits) (name ∷ names) limit its named limited over earlier =
    let n : name ≡ its = cc in
    let m : most ≡ limit = cc in
    let large : IfSome (told name) (λ file. most < length file) = subst (λ x. IfSome (told x) (λ file. most < length file)) (sym n) (subst (λ x. IfSome (told its) (λ file. x < length file)) (sym m) over) in
    record {
      files = unwrap_or (told name) (replicate (suc most) 0) ∷ bytes_told told names;
      theirs = (its_bytes (told name) (replicate (suc most) 0), bytes_theirs told names);
      over = over_now most limits name names (unwrap_or (told name) (replicate (suc most) 0)) (bytes_told told names) (its_over (told name) most large) ∙ ap Some n;
    }
some_over told (suc place) (most ∷ limits) (name ∷ names) limit its named limited over earlier =
    let rest = some_over told place limits names limit its named limited over (later_within told most limits name names place earlier) in
    record {
      files = unwrap_or (told name) [] ∷ rest.files;
      theirs = (its_bytes (told name) [], rest.theirs);
      over = not_over most limits name names (unwrap_or (told name) []) rest.files (Some its) (its_length (told name) most (earlier 0 most name (omega arith) refl refl)) rest.over;
    }

pub over_some : (told : List ℕ → Option (List ℕ)) (before now : List ℕ → ℕ) (limits : List ℕ) (names : List (List ℕ)) (its : List ℕ) → IsFirstOver told before now limits names its → HasOver told limits names its
over_some told before now limits names its first = some_over told first.place limits names first.limit its first.named first.limited first.over first.earlier

-- the first file that couldn't be read is one of the row
pub unread_named : (told : List ℕ → Option (List ℕ)) (before now : List ℕ → ℕ) (limits : List ℕ) (names : List (List ℕ)) (its : List ℕ) → IsFirstUnread told before now limits names its → Contains names its
unread_named told before now limits names its first = (first.place, slice_get_within names first.place its first.named, get_or_from_slice_get names first.place its its first.named)
