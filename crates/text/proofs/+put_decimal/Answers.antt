-- `text::put_decimal` meets its contract: a number of one digit, or its tenth and then its last digit.
use Rattle.std.proofs.Common.{rules}
use Rattle.text.specs.Putting.{fits_one, puts_one, fits_tenth, fits_last, puts_last}
use Rattle.text.proofs.+put_decimal.Goals as goal

pub put_digit-requires : goal.put_digit-requires
put_digit-requires t c = search (fits_one, rules)

pub returns-then-n-lt10 : goal.returns-then-n-lt10
returns-then-n-lt10 t c = search puts_one

pub put_decimal-last-requires : goal.put_decimal-last-requires
put_decimal-last-requires t c = search (fits_tenth, rules)

pub put_digit-requires-2 : goal.put_digit-requires-2
put_digit-requires-2 t c = search (fits_last, rules)

pub returns : goal.returns
returns t c = search puts_last
