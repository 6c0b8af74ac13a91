-- `put_decimal` writes the one digit of a number below ten, or its two digits, or the digits of a hundredth of n and its last two
-- behind them. A hundredth of a 64-bit number has 18 digits at most, so two allowed for less give the same digits.
use Rattle.std.proofs.Common.{◌<◌, ◌^◌, sym, arith}
use Rattle.job.proofs.Writing.{◌▸◌, spelled, counted}
use Rattle.job.proofs.Digits.{one_digit, two_digits, digits_last_two, length_decimal, length_hundredth}
use Rattle.job.proofs.text.Page.+put_decimal.Goals as goal

pub returns-then-n-lt10 : goal.returns-then-n-lt10
returns-then-n-lt10 t c =
    let n = c.args.n in
    let fits : n < 2 ^ 64 = omega arith in
    counted (length_decimal n fits) (spelled (sym (one_digit n c.if-n-lt10.true)) c.put_byte.ensures)

pub returns-then-n-lt100 : goal.returns-then-n-lt100
returns-then-n-lt100 t c =
    let n = c.args.n in
    let fits : n < 2 ^ 64 = omega arith in
    counted (length_decimal n fits) (spelled (sym (two_digits n c.if-n-lt10.false c.if-n-lt100.true)) c.put_two_digits.ensures)

pub put_two_digits-requires-2-clause-room : goal.put_two_digits-requires-2-clause-room
put_two_digits-requires-2-clause-room t c =
    let n = c.args.n in
    let fits : n < 2 ^ 64 = omega arith in
    omega (arith, c.put_decimal.ensures.place, length_hundredth n fits)

pub returns : goal.returns
returns t c =
    let n = c.args.n in
    let fits : n < 2 ^ 64 = omega arith in
    counted (length_decimal n fits)
    (spelled (sym (digits_last_two n c.if-n-lt100.false fits)) (c.put_decimal.ensures ▸ c.put_two_digits-2.ensures))
