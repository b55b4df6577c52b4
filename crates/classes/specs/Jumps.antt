-- Jumps up a line of classes: past several of them at once, where none of them is looked for.
use Rattle.std.specs.Prelude.{◌≡◌, ◌≤◌, ◌<◌, ℕ, suc, ◌+◌, ◌*◌, ◌/◌, ◌%◌, ◌^◌, ◌==◌, Bool, true, List, [], ◌∷◌, length, Option, Some, None, is_some, position, bytes_eq, slice_get, unwrap_or, option_and_then}
use Rattle.classes.specs.declared.jumps.Jump.{Jump}
use Rattle.classes.specs.Table.{ClassData}

-- ---- buckets of names

-- the bucket of a name, where the bytes before these came to so much
abbrev pub bucket_after : ℕ → List ℕ → ℕ
bucket_after so_far [] = so_far
bucket_after so_far (b ∷ bs) = bucket_after ((so_far * 5 + b) % 64) bs

-- the bucket of a name: equal names have the same
abbrev pub bucket : List ℕ → ℕ
bucket name = bucket_after 0 name

-- whether these buckets, each a bit, have one
abbrev pub has_bucket : ℕ → ℕ → Bool
has_bucket buckets one = (buckets / 2 ^ one) % 2 == 1

-- these buckets have those of the names
abbrev pub have_all : ℕ → List (List ℕ) → Type 0
have_all buckets names = (name : List ℕ) → is_some (position (bytes_eq name) names) ≡ true → has_bucket buckets (bucket name) ≡ true

-- these buckets have all that others have
abbrev pub have_each : ℕ → ℕ → Type 0
have_each buckets others = (one : ℕ) → one < 64 → has_bucket others one ≡ true → has_bucket buckets one ≡ true

-- ---- jumps

-- the class above one of these
abbrev pub above_among : List ClassData → ℕ → Option ℕ
above_among classes k = option_and_then (λ c. c.above) (slice_get classes k)

-- the jump from the class with this number; a class that isn't there has one that leads to itself
abbrev pub jump_at : List Jump → ℕ → Jump
jump_at jumps k = unwrap_or (slice_get jumps k) (record { depth = 0; to = k; names = 0 })

-- the jump from a class below another one leads where two jumps from that one lead, and tells what they pass
pub record IsFar (jumps : List Jump) (k above : ℕ) : Type 0 where
  pub leads : (jump_at jumps k).to ≡ (jump_at jumps (jump_at jumps above).to).to
  pub first : have_each (jump_at jumps k).names (jump_at jumps above).names
  pub second : have_each (jump_at jumps k).names (jump_at jumps (jump_at jumps above).to).names

-- the jump from a class below another one: where it doesn't lead to that one, it leads further
pub record IsJumpBelow (jumps : List Jump) (k above : ℕ) : Type 0 where
  pub deeper : (jump_at jumps k).depth ≡ suc (jump_at jumps above).depth
  pub leads : ((jump_at jumps k).to ≡ above → ⊥) → IsFar jumps k above

-- the jump from a class: it tells the names that the class itself declares, and leads to it where no other is above
pub record IsJump (classes : List ClassData) (jumps : List Jump) (k : ℕ) : Type 0 where
  pub few : (jump_at jumps k).depth ≤ length classes
  pub names : (c : ClassData) → slice_get classes k ≡ Some c → have_all (jump_at jumps k).names c.field_names × have_all (jump_at jumps k).names c.method_names
  pub alone : above_among classes k ≡ None → (jump_at jumps k).to ≡ k
  pub below : (d : ℕ) → above_among classes k ≡ Some d → IsJumpBelow jumps k d

-- a jump from each of these classes
abbrev pub AreJumps : List ClassData → List Jump → Type 0
AreJumps classes jumps = (k : ℕ) → IsJump classes jumps k

-- each class in which something is found declares a name of this bucket
abbrev pub AreOfBucket : List Jump → (ℕ → Option ℕ) → ℕ → Type 0
AreOfBucket jumps own one = (k : ℕ) → is_some (own k) ≡ true → has_bucket (jump_at jumps k).names one ≡ true
