-- What was read after one chunk more.
use Rattle.std.proofs.Common.{◌≡◌, ℕ, ◌+◌, ◌<◌, ◌≤◌, List, [], ◌++◌, take, drop, length, Option, Some, None, IfSome, ap, sym, ◌∙◌, refl, subst, arith, append_assoc}
use Rattle.std.proofs.Common.{append-nil, length-append}
use Rattle.std.proofs.lemmas.List.{take-append-drop, nil_from_length}
use Rattle.std.proofs.lemmas.Grind.{common_steps}
use Rattle.edge.specs.Pieces.{GivesFrom}
use Rattle.logs.specs.Logs.{Guard}
use Rattle.log_reading.specs.Reading.{HasReadSoFar, HasReadWhole, HasStoppedInFile}
use Rattle.logs.specs.Stops.{IsEnd}
use Rattle.logs.specs.declared.walk.WalkEnd.{WalkEnd}
use Rattle.logs.specs.Walks.{Stand, WalkedTo, Stands, front, walked}
use Rattle.logs.proofs.Walking.{walked_on}

module _ (guard : ℕ → Guard) where
  fronts_none : (told : Option (List ℕ)) → IfSome told (λ file. (rest : List ℕ) × (file ≡ [] ++ rest))
  fronts_none None = tt
  fronts_none (Some file) = (file, refl)

  pub read_none : (told : Option (List ℕ)) → HasReadSoFar guard told 0 front
  read_none told = record { bytes = []; long = refl; leads = refl; fronts = fronts_none told }

  -- what was given stands behind what was read before
  behind : (file bytes rest chunk : List ℕ) (at n : ℕ) → file ≡ bytes ++ rest → length bytes ≡ at → GivesFrom at n chunk file → take n chunk ≡ take n rest
  behind file bytes rest chunk at n whole long gives =
      let left : drop at file ≡ rest = grind (arith, common_steps, whole, long) in gives.bytes ∙ ap (take n) left

  fronts_more : (told now : Option (List ℕ)) (bytes chunk : List ℕ) (at n : ℕ) → now ≡ told → length bytes ≡ at → IfSome now (GivesFrom at n chunk)
      → IfSome told (λ file. (rest : List ℕ) × (file ≡ bytes ++ rest)) → IfSome told (λ file. (rest : List ℕ) × (file ≡ (bytes ++ take n chunk) ++ rest))
  fronts_more None now bytes chunk at n same long gives is = tt
  fronts_more (Some file) now bytes chunk at n same long gives is =
      let given = subst (λ o. IfSome o (GivesFrom at n chunk)) same gives in
      let piece = behind file bytes is.0 chunk at n is.1 long given in
      (drop n is.0, is.1 ∙ ap (λ r. bytes ++ r) (sym (take-append-drop n is.0)) ∙ sym (append_assoc bytes (take n is.0) (drop n is.0)) ∙ ap (λ r. (bytes ++ r) ++ drop n is.0) (sym piece))

  pub read_more : (told now : Option (List ℕ)) (at n : ℕ) (s m : Stand) (chunk : List ℕ) → HasReadSoFar guard told at s → now ≡ told → IfSome now (GivesFrom at n chunk) → n ≤ length chunk
      → walked guard s (take n chunk) ≡ Stands m → HasReadSoFar guard told (at + n) m
  read_more told now at n s m chunk before same gives within leads = record {
    bytes = before.bytes ++ take n chunk;
    long = let long = before.long in grind (arith, common_steps);
    leads = walked_on guard front s before.bytes (take n chunk) before.leads ∙ leads;
    fronts = fronts_more told now before.bytes chunk at n same before.long gives before.fronts;
  }

  its_whole : (told now : Option (List ℕ)) (bytes chunk : List ℕ) (at n : ℕ) → now ≡ told → length bytes ≡ at → n ≡ 0 → 0 < length chunk → IfSome now (GivesFrom at n chunk)
      → IfSome told (λ file. (rest : List ℕ) × (file ≡ bytes ++ rest)) → IfSome told (λ file. file ≡ bytes)
  its_whole None now bytes chunk at n same long none some gives is = tt
  its_whole (Some file) now bytes chunk at n same long none some gives is =
      let given = subst (λ o. IfSome o (GivesFrom at n chunk)) same gives in
      let past : length file ≤ at = given.end none some in
      let parts : length file ≡ length bytes + length is.0 = ap length is.1 ∙ length-append bytes is.0 in
      is.1 ∙ ap (λ r. bytes ++ r) (nil_from_length is.0 (omega (arith, past, parts, long))) ∙ append-nil bytes

  pub read_whole : (told now : Option (List ℕ)) (limit at n : ℕ) (s : Stand) (chunk : List ℕ) → HasReadSoFar guard told at s → at ≤ limit → now ≡ told → n ≡ 0 → 0 < length chunk
      → IfSome now (GivesFrom at n chunk) → HasReadWhole guard told limit at s
  read_whole told now limit at n s chunk before within same none some gives = record {
    bytes = before.bytes;
    long = before.long;
    within = within;
    leads = before.leads;
    its = its_whole told now before.bytes chunk at n same before.long none some gives before.fronts;
  }

  stopped : (told now : Option (List ℕ)) (at n : ℕ) (s : Stand) (w : WalkedTo) (chunk : List ℕ) → HasReadSoFar guard told at s → now ≡ told → IfSome now (GivesFrom at n chunk)
      → walked guard s (take n chunk) ≡ w → HasStoppedInFile guard told w
  stopped told now at n s w chunk before same gives leads = record {
    bytes = before.bytes ++ take n chunk;
    leads = walked_on guard front s before.bytes (take n chunk) before.leads ∙ leads;
    fronts = fronts_more told now before.bytes chunk at n same before.long gives before.fronts;
  }

  -- how the walk of a piece more ended
  pub stopped_so : (told now : Option (List ℕ)) (at n : ℕ) (s m : Stand) (end : WalkEnd) (chunk : List ℕ) → HasReadSoFar guard told at s → now ≡ told → IfSome now (GivesFrom at n chunk)
      → IsEnd m (walked guard s (take n chunk)) end → (w : WalkedTo) × IsEnd m w end × HasStoppedInFile guard told w
  stopped_so told now at n s m end chunk before same gives ends =
      (walked guard s (take n chunk), ends, stopped told now at n s (walked guard s (take n chunk)) chunk before same gives refl)

  over_by : (told : Option (List ℕ)) (bytes : List ℕ) (limit : ℕ) → limit < length bytes → IfSome told (λ file. (rest : List ℕ) × (file ≡ bytes ++ rest)) → IfSome told (λ file. limit < length file)
  over_by None bytes limit over is = tt
  over_by (Some file) bytes limit over is = let parts : length file ≡ length bytes + length is.0 = ap length is.1 ∙ length-append bytes is.0 in omega (arith, parts, over)

  pub read_over : (told : Option (List ℕ)) (limit at : ℕ) (s : Stand) → HasReadSoFar guard told at s → limit < at → IfSome told (λ file. limit < length file)
  read_over told limit at s before over = over_by told before.bytes limit (let long = before.long in omega (arith, long, over)) before.fronts
