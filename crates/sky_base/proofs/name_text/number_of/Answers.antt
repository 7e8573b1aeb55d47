use Rattle.std.proofs.Common.{◌≡◌, ℕ, ◌+◌, ◌^◌, ◌<◌, ◌≤◌, ◌++◌, List, [], ◌∷◌, Some, take, get_or, length, subst, arith, add-one, refl, sym, ap, ◌∙◌}
use Rattle.std.proofs.Math.Seq.{take-suc, take-length}
use Rattle.sky_base.specs.NameText.{hex_digit, hex_digits}
use Rattle.sky_base.proofs.NameTextLaws.{hex_digits-none, hex_digits-more, room, below_next, is_digit, same_number}
use Rattle.sky_base.proofs.name_text.number_of.Goals as goal

pub loop-byte-init : goal.loop-byte-init
loop-byte-init c = (omega arith, hex_digits-none 0)

pub overflow_mul-number : goal.overflow_mul-number
overflow_mul-number c =
    let most = room c.loop-byte.byte-index c.loop-byte.number (omega arith) c.loop-byte.invariant.0 in omega arith

pub overflow_add-number : goal.overflow_add-number
overflow_add-number c =
    let most = room c.loop-byte.byte-index c.loop-byte.number (omega arith) c.loop-byte.invariant.0 in
    omega (arith, most, c.in_ok-digit_value.ensures.small, c.from.ensures)

pub loop-byte-preserved : goal.loop-byte-preserved
loop-byte-preserved c =
    let value : c.from.result < 16 = omega (arith, c.in_ok-digit_value.ensures.small, c.from.ensures) in
    let more = hex_digits-more c.loop-byte.byte-index c.loop-byte.number c.from.result value in
    let next : take (c.loop-byte.byte-index + 1) c.args.text.now ≡ take c.loop-byte.byte-index c.args.text.now ++ get_or c.args.text.now c.loop-byte.byte-index 0 ∷ [] =
    rw add-one (take-suc c.args.text.now c.loop-byte.byte-index 0 (omega arith)) in
    let digit : hex_digit c.from.result ≡ get_or c.args.text.now c.loop-byte.byte-index 0 = ap hex_digit c.from.ensures ∙ c.in_ok-digit_value.ensures.digit in (
      below_next c.loop-byte.byte-index c.loop-byte.number c.from.result value c.loop-byte.invariant.0,
      more
          ∙ ap (λ (xs : List ℕ). xs ++ hex_digit c.from.result ∷ []) c.loop-byte.invariant.1
          ∙ ap (λ (d : ℕ). take c.loop-byte.byte-index c.args.text.now ++ d ∷ []) digit
          ∙ sym next,
    )

pub returns-in_err-digit_value-clause-reads : goal.returns-in_err-digit_value-clause-reads
returns-in_err-digit_value-clause-reads c = λ number below digits.
    let found = is_digit 16 number c.loop-byte.byte-index (omega arith) in
    let there = found.2 ∙ ap (λ (l : List ℕ). get_or l c.loop-byte.byte-index 0) digits in
    absurd (c.in_err-digit_value.ensures.other refl found.0 found.1 there)

module _ (text : List ℕ) (index number : ℕ) (long : length text ≡ 16) (ends : length text ≤ index) (within : index ≤ length text) (below : number < 16 ^ index) (is : hex_digits index number ≡ take index text) where
  -- the number that was read is the one with these digits
  is_number : (other : ℕ) → other < 2 ^ 62 → hex_digits 16 other ≡ text → number ≡ other
  is_number other small digits =
      let at : index ≡ 16 = omega arith in
      let whole : take index text ≡ text = ap (λ (n : ℕ). take n text) (at ∙ sym long) ∙ take-length text in
      let room : number < 16 ^ 16 = subst (λ (n : ℕ). number < 16 ^ n) at below in
      same_number 16 number other room (omega arith) (subst (λ (n : ℕ). hex_digits n number ≡ hex_digits 16 other) at (is ∙ whole ∙ sym digits))

pub returns-then-number-lt-NUMBERS-clause-reads : goal.returns-then-number-lt-NUMBERS-clause-reads
returns-then-number-lt-NUMBERS-clause-reads c = λ number below digits.
    ap Some (is_number c.args.text.now c.loop-byte.byte-index c.loop-byte.number c.requires c.loop-byte-test.false (omega arith) c.loop-byte.invariant.0 c.loop-byte.invariant.1 number below digits)

pub returns-else-number-lt-NUMBERS-clause-reads : goal.returns-else-number-lt-NUMBERS-clause-reads
returns-else-number-lt-NUMBERS-clause-reads c = λ number below digits.
    let same = is_number c.args.text.now c.loop-byte.byte-index c.loop-byte.number c.requires c.loop-byte-test.false (omega arith) c.loop-byte.invariant.0 c.loop-byte.invariant.1 number below digits in
    absurd (omega arith)
