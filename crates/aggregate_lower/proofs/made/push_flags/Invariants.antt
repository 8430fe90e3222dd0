use Rattle.std.proofs.Common.{◌≡◌, ◌-◌, ◌≤◌, ◌++◌, replicate}
use Rattle.aggregate_lower.proofs.made.push_flags.Given as goal

abbrev pub invariant-loop : goal.invariant-loop
invariant-loop l = record {
  put : l.flags.items ≡ l.fn.flags.items ++ replicate (l.counter - l.low) l.flag;
  few : l.counter - l.low ≤ l.high - l.low;
}
