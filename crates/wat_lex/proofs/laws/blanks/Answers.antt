use Rattle.wat_lex.proofs.tokens.BlankedTilings.{blanks_are_space, blanks_are_text}
use Rattle.wat_lex.proofs.tokens.LooserComments.{comments_stay}
use Rattle.wat_lex.proofs.laws.blanks.Goals as goal

pub returns-clause-tokens : goal.returns-clause-tokens
returns-clause-tokens c = blanks_are_space

pub returns-clause-text : goal.returns-clause-text
returns-clause-text c = blanks_are_text

pub returns-clause-looser : goal.returns-clause-looser
returns-clause-looser c = comments_stay
