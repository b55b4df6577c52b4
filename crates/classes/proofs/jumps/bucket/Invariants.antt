use Rattle.std.proofs.Common.{◌≡◌, ◌<◌, drop}
use Rattle.classes.specs.Jumps.{bucket, bucket_after}
use Rattle.classes.proofs.jumps.bucket.Given as goal

-- the rest of the bytes gives the bucket
abbrev pub invariant-loop-byte : goal.invariant-loop-byte
invariant-loop-byte l = (l.so_far < 64) × (bucket_after l.so_far (drop l.byte-index l.byte-items) ≡ bucket l.name)
