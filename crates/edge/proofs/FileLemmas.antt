-- The first file of a name, and the counts of faults of a folder in memory.
use Rattle.std.proofs.Common.{◌≡◌, ◌≢◌, ℕ, ◌+◌, ◌≤◌, ◌<◌, Bool, true, false, List, [], ◌∷◌, length, map, not, nat_lt, Option, Some, None, IsSome, arith, subst, sym, ◌∙◌, ap, refl, cond, get_or, slice_set, String, Vec, string_bytes}
use Rattle.std.specs.Global.{Global}
use Rattle.std.proofs.lemmas.List.{length-map, get_or-set_other}
use Rattle.std.proofs.Math.ListN.{get_or-map}
use Rattle.std.proofs.lemmas.List.Folds.{find_at}
use Rattle.std.proofs.lemmas.List.Quantifiers.{position-Some}
use Rattle.std.proofs.lemmas.Option.{slice_get-get_or, slice_get_past}
use Rattle.std.proofs.lemmas.Slice.Eq.{bytes_eq-Decides}
use Rattle.std.proofs.lemmas.Grind.{common_steps}
use Rattle.std.specs.List.{prefix_len, position_or_len, position}
use Rattle.std.specs.Option.{option_map}
use Rattle.std.specs.Str.{bytes_eq}
use Rattle.edge.specs.InMemory.{StoredFile, FolderInMemory, stored_files, stored_place, bytes_of, fault_count}

-- a test counts as long a prefix of the mapped list
pub prefix_len-map : {X Y : Type 0} (f : X → Y) (p : Y → Bool) (xs : List X) → prefix_len p (map f xs) ≡ prefix_len (λ x. p (f x)) xs
prefix_len-map f p [] = refl
prefix_len-map f p (x ∷ xs) = ap (λ n. cond (p (f x)) (1 + n) 0) (prefix_len-map f p xs)

-- the place of the first element that passes, in a mapped list
pub position-map : {X Y : Type 0} (f : X → Y) (p : Y → Bool) (xs : List X) → position p (map f xs) ≡ position (λ x. p (f x)) xs
position-map f p xs = rw (prefix_len-map f (λ y. not (p y)) xs, length-map xs f) refl

-- a place that is found is the length of the longest front without it
found_place : (n len p : ℕ) → cond (nat_lt n len) (Some n) None ≡ Some p → (n ≡ p) × (n < len)
found_place n len p e = grind (arith, common_steps)

no_place : (n len : ℕ) → cond (nat_lt n len) (Some n) None ≡ None → len ≤ n
no_place n len e = grind (arith, common_steps)

-- the file at the place of a name tells its bytes
pub bytes_of-Some : (files : List StoredFile) (name : List ℕ) (p : ℕ) (d : StoredFile) → stored_place files name ≡ Some p → bytes_of files name ≡ Some ((get_or files p d).bytes)
bytes_of-Some files name p d e =
    let is_name : StoredFile → Bool = λ f. bytes_eq f.name name in
    let at = found_place (position_or_len is_name files) (length files) p e in
    ap (option_map (λ f. f.bytes)) (find_at is_name files ∙ slice_get-get_or files (position_or_len is_name files) d at.1) ∙ ap (λ n. Some ((get_or files n d).bytes)) at.0

-- a name without a place tells nothing
pub bytes_of-None : (files : List StoredFile) (name : List ℕ) → stored_place files name ≡ None → bytes_of files name ≡ None
bytes_of-None files name e =
    let is_name : StoredFile → Bool = λ f. bytes_eq f.name name in
    ap (option_map (λ f. f.bytes)) (find_at is_name files ∙ slice_get_past files (position_or_len is_name files) (no_place (position_or_len is_name files) (length files) e))

-- the same, of the vector that holds the files
pub bytes_of-stored : (files : List (String Global × Vec ℕ Global)) (name : List ℕ) (p : ℕ) (file : String Global × Vec ℕ Global) →
    stored_place (stored_files files) name ≡ Some p → file ≡ get_or files p file → bytes_of (stored_files files) name ≡ Some file.1.items
bytes_of-stored files name p file e at =
    let stored : String Global × Vec ℕ Global → StoredFile = λ f. record { name = string_bytes f.0; bytes = f.1.items } in
    bytes_of-Some (stored_files files) name p (stored file) e ∙ ap (λ (f : StoredFile). Some f.bytes) (get_or-map stored files p file ∙ ap stored (sym at))

-- the place of a name is inside the list
pub place_of-within : (files : List (String Global × Vec ℕ Global)) (name : List ℕ) (p : ℕ) → stored_place (stored_files files) name ≡ Some p → p < length files
place_of-within files name p e =
    let is_name : StoredFile → Bool = λ f. bytes_eq f.name name in
    let at = found_place (position_or_len is_name (stored_files files)) (length (stored_files files)) p e in
    let stored : String Global × Vec ℕ Global → StoredFile = λ f. record { name = string_bytes f.0; bytes = f.1.items } in
    omega (arith, at.0, at.1, length-map files stored)

-- the file at the place of a name has that name
name_at : (files : List StoredFile) (name : List ℕ) (p : ℕ) (d : StoredFile) → stored_place files name ≡ Some p → (get_or files p d).name ≡ name
name_at files name p d e = (bytes_eq-Decides (get_or files p d).name name).0 ((position-Some (λ f. bytes_eq f.name name) files p d e).1)

-- different names have different places
places_differ : (files : List StoredFile) (name other : List ℕ) (p q : ℕ) → stored_place files name ≡ Some p → stored_place files other ≡ Some q → other ≢ name → q ≢ p
places_differ files name other p q at there differs same =
    let d : StoredFile = record { name = []; bytes = [] } in
    differs (sym (name_at files other q d there) ∙ ap (λ n. (get_or files n d).name) same ∙ name_at files name p d at)

-- the count of a name at a place
faults_at : (s : FolderInMemory) (name : List ℕ) (p : ℕ) → stored_place s.files name ≡ Some p → fault_count s name ≡ get_or s.file_faults p 0
faults_at s name p e = rw e refl

-- one fault more of a file leaves the counts of the other files as they were
others_at : (s t : FolderInMemory) (name other : List ℕ) (p v : ℕ) (o : Option ℕ) → stored_place s.files other ≡ o → stored_place s.files name ≡ Some p → t.files ≡ s.files →
    t.file_faults ≡ slice_set s.file_faults p v → other ≢ name → IsSome (bytes_of s.files other) → fault_count t other ≡ fault_count s other
others_at s t name other p v None there at files faults differs told = absurd (let e : false ≡ true = subst IsSome (bytes_of-None s.files other there) told in cc)
others_at s t name other p v (Some q) there at files faults differs told =
    let there' : stored_place t.files other ≡ Some q = ap (λ fs. stored_place fs other) files ∙ there in
    faults_at t other q there' ∙ ap (λ xs. get_or xs q 0) faults ∙ get_or-set_other s.file_faults p q v 0 (places_differ s.files name other p q at there differs) ∙ sym (faults_at s other q there)

pub faults_of-others : (s t : FolderInMemory) (name other : List ℕ) (p v : ℕ) → stored_place t.files name ≡ Some p → t.files ≡ s.files →
    t.file_faults ≡ slice_set s.file_faults p v → other ≢ name → IsSome (bytes_of s.files other) → fault_count t other ≡ fault_count s other
faults_of-others s t name other p v at files faults differs told = others_at s t name other p v (stored_place s.files other) refl (ap (λ fs. stored_place fs name) (sym files) ∙ at) files faults differs told

-- one fault more of the names without a file leaves the counts of the files as they were
told_at : (s t : FolderInMemory) (other : List ℕ) (o : Option ℕ) → stored_place s.files other ≡ o → t.files ≡ s.files →
    t.file_faults ≡ s.file_faults → IsSome (bytes_of s.files other) → fault_count t other ≡ fault_count s other
told_at s t other None there files faults told = absurd (let e : false ≡ true = subst IsSome (bytes_of-None s.files other there) told in cc)
told_at s t other (Some q) there files faults told =
    let there' : stored_place t.files other ≡ Some q = ap (λ fs. stored_place fs other) files ∙ there in
    faults_at t other q there' ∙ ap (λ xs. get_or xs q 0) faults ∙ sym (faults_at s other q there)

pub faults_of-told : (s t : FolderInMemory) (other : List ℕ) → t.files ≡ s.files →
    t.file_faults ≡ s.file_faults → IsSome (bytes_of s.files other) → fault_count t other ≡ fault_count s other
faults_of-told s t other files faults told = told_at s t other (stored_place s.files other) refl files faults told
