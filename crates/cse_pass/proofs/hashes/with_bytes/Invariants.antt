use Rattle.std.proofs.Common.{◌≡◌, drop}
use Rattle.cse_pass.specs.Hashes.{with_bytes}
use Rattle.cse_pass.proofs.hashes.with_bytes.Given as goal

abbrev pub invariant-loop-byte : goal.invariant-loop-byte
invariant-loop-byte l = with_bytes l.all (drop l.byte-index l.bytes) ≡ with_bytes l.hash l.bytes
