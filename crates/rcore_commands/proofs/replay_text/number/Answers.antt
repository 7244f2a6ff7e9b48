use Rattle.std.proofs.Common.{rules}
use Rattle.rcore_commands.proofs.Numbers.{plain_is_decimal, decimal_is_read}
use Rattle.rcore_commands.proofs.replay_text.number.Goals as goal

pub returns-clause-text : goal.returns-clause-text
returns-clause-text c = let p = plain_is_decimal c.args.word.now c.parse.result (c.is_digits.ensures.digits c.if-not-is_digits.false) (c.has_leading_zero.ensures.none c.if-has_leading_zero.false) c.parse.ensures.value.0 in search (rules, p)

pub returns-clause-read : goal.returns-clause-read
returns-clause-read c n l e = let p = decimal_is_read n c.args.word.now c.parse.result l e c.parse.ensures.value.0 in search (rules, p)
