-- `list::numbers::Digits::with` has the digits with one more, if they are a field. Assumes nothing.
use native.Mathlib.Omega.{arith}
use Rattle.list.proofs.Words.{digit_other, digit_fifth, digit_more}
use Rattle.list.proofs.numbers.Digits.with.Goals.{then-not-is_ascii_digit-via-then-not-is_ascii_digit, then-not-is_ascii_digit-via-else-not-is_ascii_digit+then-self-eq-MOST_DIGITS}
use Rattle.list.proofs.numbers.Digits.with.Goals as goal

pub returns-then-not-is_ascii_digit : goal.returns-then-not-is_ascii_digit
returns-then-not-is_ascii_digit c = λ p h. elim c.then-not-is_ascii_digit.branch [
  | then-not-is_ascii_digit-via-then-not-is_ascii_digit w ↦ digit_other p c.args.self c.args.b h w.if-not-is_ascii_digit.ensures.cases
  | then-not-is_ascii_digit-via-else-not-is_ascii_digit+then-self-eq-MOST_DIGITS w ↦ digit_fifth p c.args.self c.args.b h w.if-self-eq-MOST_DIGITS.true
]

pub returns : goal.returns
returns c = λ p h.
    let k = c.if-not-is_ascii_digit.ensures.cases in
    digit_more p c.args.self c.args.b h _ (omega arith) (omega arith) (omega arith) (omega arith) (omega arith)
