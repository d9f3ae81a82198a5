use Rattle.std.proofs.Common.{sym, arith}
use Rattle.format.proofs.Digits.{length_one, length_digits}
use Rattle.writer.proofs.width.Goals as goal

pub returns-in-0-to-9 : goal.returns-in-0-to-9
returns-in-0-to-9 c = (sym (length_one c.args.n (omega arith)), omega arith)

pub returns-in-10-to-99 : goal.returns-in-10-to-99
returns-in-10-to-99 c = (sym (length_digits 0 c.args.n (omega arith) (omega arith)), omega arith)

pub returns-in-100-to-999 : goal.returns-in-100-to-999
returns-in-100-to-999 c = (sym (length_digits 1 c.args.n (omega arith) (omega arith)), omega arith)

pub returns-in-1000-to-9999 : goal.returns-in-1000-to-9999
returns-in-1000-to-9999 c = (sym (length_digits 2 c.args.n (omega arith) (omega arith)), omega arith)

pub returns-in-10000-to-99999 : goal.returns-in-10000-to-99999
returns-in-10000-to-99999 c = (sym (length_digits 3 c.args.n (omega arith) (omega arith)), omega arith)

pub returns-in-100000-to-999999 : goal.returns-in-100000-to-999999
returns-in-100000-to-999999 c = (sym (length_digits 4 c.args.n (omega arith) (omega arith)), omega arith)

pub returns-in-1000000-to-9999999 : goal.returns-in-1000000-to-9999999
returns-in-1000000-to-9999999 c = (sym (length_digits 5 c.args.n (omega arith) (omega arith)), omega arith)

pub returns-in-10000000-to-99999999 : goal.returns-in-10000000-to-99999999
returns-in-10000000-to-99999999 c = (sym (length_digits 6 c.args.n (omega arith) (omega arith)), omega arith)

pub returns-in-100000000-to-999999999 : goal.returns-in-100000000-to-999999999
returns-in-100000000-to-999999999 c = (sym (length_digits 7 c.args.n (omega arith) (omega arith)), omega arith)

pub returns-in_default : goal.returns-in_default
returns-in_default c = (sym (length_digits 8 c.args.n (omega arith) (omega arith)), omega arith)
