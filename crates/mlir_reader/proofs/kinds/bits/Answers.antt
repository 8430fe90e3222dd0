use Rattle.std.proofs.Common.{◌≡◌, ℕ, ◌*◌, ◌-◌, ◌^◌, ◌<◌, ◌≤◌, true, arith}
use Rattle.std.specs.Prelude.{◌%◌, ◌&&◌, nat_lt}
use Rattle.std.proofs.lemmas.Bool.{and_parts, ltb-true}
use Rattle.std.proofs.Math.Nat.{pow-le-pow_right, mod-le}
use Rattle.stored_form.specs.Constants.{has_negative}
use Rattle.mlir_reader.proofs.kinds.bits.Goals as goal

-- half of the numbers of a width of at most 128 bits
half_fits : (w n : ℕ) → has_negative w n ≡ true → (1 * 2 ^ (w - 1)) % 340282366920938463463374607431768211456 ≤ 170141183460469231731687303715884105728
half_fits w n h =
    let p = and_parts (nat_lt 0 w) (nat_lt w 129 && nat_lt n (2 ^ (w - 1))) h in
    let q = and_parts (nat_lt w 129) (nat_lt n (2 ^ (w - 1))) p.1 in
    let b : w < 129 = ltb-true w 129 q.0 in
    let s : 2 ^ (w - 1) ≤ 2 ^ 127 = pow-le-pow_right {n = 2} (omega arith) {i = w - 1} {j = 127} (omega arith) in
    omega (arith, s, mod-le (1 * 2 ^ (w - 1)) 340282366920938463463374607431768211456)

pub overflow_add-result : goal.overflow_add-result
overflow_add-result c = let h = half_fits c.args.width c.args.n c.requires in omega (arith, h)
