use Rattle.wat_lex.specs.tokens.Setting.{Setting}
use Rattle.wat_c.specs.CommentPlaces.{TellsComment, CommentsAreParsers}
use Rattle.wat_c.proofs.comments.comment_at.Goals as goal

pub returns-clause-parsers : goal.returns-clause-parsers
unfolding CommentsAreParsers
returns-clause-parsers c =
    let s : Setting = record { text = c.args.text.now; flags = c.args.settings } in
    let known : TellsComment s c.args.pos c.comment_word.result = record { answer = c.past_space.result; past = c.past_space.ensures.past; known = c.comment_word.ensures } in
    c.comments_are_parsers.ensures.parsers s c.args.pos c.comment_word.result known
