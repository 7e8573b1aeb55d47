-- The test of one bit of a number, by a mask.
use Rattle.std.proofs.Common.{◌≡◌, ℕ, ◌*◌, ◌/◌, ◌%◌, ◌==◌, nat_eq, bit_and, arith, not}
use Rattle.std.proofs.lemmas.Nat.Bits.{and_pow}
use Rattle.std.proofs.lemmas.Bool.Decides.{nat_tests}

pub four_masked : (n : ℕ) → not (nat_eq (bit_and n 4) 0) ≡ (n / 4 % 2 == 1)
four_masked n =
    let bit : bit_and n 4 ≡ n / 4 % 2 * 4 = and_pow n 2 in
    rw bit (grind (arith, nat_tests))

pub two_masked : (n : ℕ) → not (nat_eq (bit_and n 2) 0) ≡ (n / 2 % 2 == 1)
two_masked n =
    let bit : bit_and n 2 ≡ n / 2 % 2 * 2 = and_pow n 1 in
    rw bit (grind (arith, nat_tests))
