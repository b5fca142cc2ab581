use Rattle.std.proofs.Common.{arith}
use Rattle.std.proofs.lemmas.List.Sums.{prefix_len-le-length}
use Rattle.wat_lex.specs.grammar.Classes.{is_idchar}
use Rattle.wat_lex.proofs.inside.Outlines.{some_prefix}
use Rattle.wat_lex.proofs.inside.Starts.{letter_is_idchar, some_text}
use Rattle.wat_lex.proofs.lexer.scan.letters.Goals as goal

pub letters_kind-kind-requires-clause-some : goal.letters_kind-kind-requires-clause-some
letters_kind-kind-requires-clause-some c =
    omega (arith, c.keyword_len-len.ensures, some_prefix is_idchar c.args.text.now (some_text c.args.text.now c.requires.0) (letter_is_idchar _ c.requires.0 c.requires.1))

pub letters_kind-kind-requires-clause-within : goal.letters_kind-kind-requires-clause-within
letters_kind-kind-requires-clause-within c = omega (arith, c.keyword_len-len.ensures, prefix_len-le-length is_idchar c.args.text.now)
