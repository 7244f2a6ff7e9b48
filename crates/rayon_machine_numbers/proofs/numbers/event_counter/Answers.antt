use Rattle.std.proofs.Common.{arith, sym, lit<, ◌≤◌, ◌<◌, ◌^◌}
use Rattle.std.proofs.Math.Nat.{mod-eq_of_lt, pow-le-pow_right}
use Rattle.rayon_machine_numbers.proofs.numbers.event_counter.Goals as goal

pub returns-else-jec_bits-lt64 : goal.returns-else-jec_bits-lt64
returns-else-jec_bits-lt64 c =
    let wide : 2 ^ 64 ≤ 2 ^ c.args.jec_bits = pow-le-pow_right {n = 2} (lit< tt) c.if-jec_bits-lt64.false in
    let small : c.args.turn < 2 ^ 64 = omega arith in
    let fits : c.args.turn < 2 ^ c.args.jec_bits = omega (arith, wide) in
    sym (mod-eq_of_lt fits)
