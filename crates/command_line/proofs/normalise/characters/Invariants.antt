use Rattle.std.proofs.Common.{◌≡◌, ◌≤◌, ◌+◌, drop}
use Rattle.command_line.specs.Normal.{characters}
use Rattle.command_line.proofs.normalise.characters.Given as goal

abbrev pub invariant-loop-byte : goal.invariant-loop-byte
invariant-loop-byte l = record {
  counted : characters l.bytes ≡ l.count + characters (drop l.byte-index l.bytes);
  few : l.count ≤ l.byte-index;
}
