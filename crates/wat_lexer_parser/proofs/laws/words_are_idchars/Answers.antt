use Rattle.wat_words.specs.Words.{annotation_word, annotation_words, standard_word, standard_words}
use Rattle.wat_lexer_parser.proofs.words.Spelling.{annotation_idchars, idchars_at, standard_idchars}
use Rattle.wat_lexer_parser.proofs.laws.words_are_idchars.Goals as goal

pub returns-clause-keywords : goal.returns-clause-keywords
unfolding standard_word
returns-clause-keywords c place = idchars_at standard_words place standard_idchars

pub returns-clause-annotations : goal.returns-clause-annotations
unfolding annotation_word
returns-clause-annotations c place = idchars_at annotation_words place annotation_idchars
