-- What a line of a log says, in words.
use Rattle.std.specs.Prelude.{ℕ, true, ◌≡◌, List, [], ◌∷◌, ◌++◌, Option, Some, None, if◌then◌else◌, codes}
use Rattle.std.specs.Str.{bytes_eq}
use Rattle.logs.specs.declared.lines.Deed.{Deed}
use Rattle.logs.specs.declared.lines.Deed.TheVariants as given
use Rattle.logs.specs.declared.lines.Said.{Said}
use Rattle.logs.specs.Words.{is_log_word, before_space, behind_space}

-- what a thread did
pub data DeedData : Type 0 where
  -- it took a lock; it gave one back
  Take : List ℕ → DeedData
  Give : List ℕ → DeedData
  -- it saw this value in a place; it wrote this value there; it saw the first value there and left the second
  Read : (place seen : List ℕ) → DeedData
  Write : (place left : List ℕ) → DeedData
  Change : (place seen left : List ℕ) → DeedData
  -- it started a thread; it saw that one has ended; it ended itself
  Start : List ℕ → DeedData
  Join : List ℕ → DeedData
  Stop : DeedData
  -- a block of this name begins; the innermost block ends
  Begin : List ℕ → DeedData
  End : DeedData

-- a thread and what it did
pub record SaidData : Type 0 where
  pub thread : List ℕ
  pub deed : DeedData

-- what the code's values say
abbrev pub deed_data : Deed → DeedData
deed_data (given.Take l) = Take l.now
deed_data (given.Give l) = Give l.now
deed_data (given.Read p v) = Read p.now v.now
deed_data (given.Write p v) = Write p.now v.now
deed_data (given.Change p v w) = Change p.now v.now w.now
deed_data (given.Start t) = Start t.now
deed_data (given.Join t) = Join t.now
deed_data given.Stop = Stop
deed_data (given.Begin b) = Begin b.now
deed_data given.End = End

abbrev pub said_data : Said → SaidData
said_data s = record { thread = s.thread.now; deed = deed_data s.deed }

-- How it is spelled.

-- a space and a word
abbrev pub then_word : List ℕ → List ℕ
then_word w = 32 ∷ w

abbrev pub spell_deed : DeedData → List ℕ
spell_deed (Take l) = codes "take" ++ then_word l
spell_deed (Give l) = codes "give" ++ then_word l
spell_deed (Read p v) = codes "read" ++ (then_word p ++ then_word v)
spell_deed (Write p v) = codes "write" ++ (then_word p ++ then_word v)
spell_deed (Change p v w) = codes "change" ++ (then_word p ++ (then_word v ++ then_word w))
spell_deed (Start t) = codes "start" ++ then_word t
spell_deed (Join t) = codes "join" ++ then_word t
spell_deed Stop = codes "stop"
spell_deed (Begin b) = codes "begin" ++ then_word b
spell_deed End = codes "end"

-- a line without its end
abbrev pub spell : SaidData → List ℕ
spell s = s.thread ++ then_word (spell_deed s.deed)

-- all its words are words
abbrev pub AreWords : List (List ℕ) → Type 0
AreWords [] = Unit {0}
AreWords (w ∷ ws) = (is_log_word w ≡ true) × AreWords ws

abbrev pub words_of : DeedData → List (List ℕ)
words_of (Take l) = l ∷ []
words_of (Give l) = l ∷ []
words_of (Read p v) = p ∷ v ∷ []
words_of (Write p v) = p ∷ v ∷ []
words_of (Change p v w) = p ∷ v ∷ w ∷ []
words_of (Start t) = t ∷ []
words_of (Join t) = t ∷ []
words_of Stop = []
words_of (Begin b) = b ∷ []
words_of End = []

-- this is a line: bytes that spell what is said, in words
pub record Spells (said : SaidData) (row : List ℕ) : Type 0 where
  pub words : AreWords (said.thread ∷ words_of said.deed)
  pub bytes : row ≡ spell said

-- How it is read.

-- a deed of one word, of two, three or four
abbrev pub bare_deed : List ℕ → Option DeedData
bare_deed d = if bytes_eq d (codes "stop") then Some Stop else (if bytes_eq d (codes "end") then Some End else None)

abbrev pub deed_with_one : (d x : List ℕ) → Option DeedData
deed_with_one d x =
    if bytes_eq d (codes "take") then Some (Take x) else (
    if bytes_eq d (codes "give") then Some (Give x) else (
    if bytes_eq d (codes "start") then Some (Start x) else (
    if bytes_eq d (codes "join") then Some (Join x) else (
    if bytes_eq d (codes "begin") then Some (Begin x) else None))))

abbrev pub deed_with_two : (d x y : List ℕ) → Option DeedData
deed_with_two d x y = if bytes_eq d (codes "read") then Some (Read x y) else (if bytes_eq d (codes "write") then Some (Write x y) else None)

abbrev pub deed_with_three : (d x y z : List ℕ) → Option DeedData
deed_with_three d x y z = if bytes_eq d (codes "change") then Some (Change x y z) else None

-- the deed whose last words stand here
abbrev pub third_read : (d x y z : List ℕ) → Option (List ℕ) → Option DeedData
third_read d x y z None = deed_with_three d x y z
third_read d x y z (Some rest) = None

abbrev pub second_read : (d x y : List ℕ) → Option (List ℕ) → Option DeedData
second_read d x y None = deed_with_two d x y
second_read d x y (Some rest) = if is_log_word (before_space rest) then third_read d x y (before_space rest) (behind_space rest) else None

abbrev pub first_read : (d x : List ℕ) → Option (List ℕ) → Option DeedData
first_read d x None = deed_with_one d x
first_read d x (Some rest) = if is_log_word (before_space rest) then second_read d x (before_space rest) (behind_space rest) else None

abbrev pub deed_read : List ℕ → Option (List ℕ) → Option DeedData
deed_read d None = bare_deed d
deed_read d (Some rest) = if is_log_word (before_space rest) then first_read d (before_space rest) (behind_space rest) else None

-- what this thread's deed says
abbrev pub said_of_deed : List ℕ → Option DeedData → Option SaidData
said_of_deed t None = None
said_of_deed t (Some d) = Some (record { thread = t; deed = d })

abbrev pub said_behind : List ℕ → Option (List ℕ) → Option SaidData
said_behind t None = None
said_behind t (Some rest) = if is_log_word t then said_of_deed t (deed_read (before_space rest) (behind_space rest)) else None

-- what a row of bytes says, where it is a line
abbrev pub said_of : List ℕ → Option SaidData
said_of row = said_behind (before_space row) (behind_space row)
