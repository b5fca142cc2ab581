use Rattle.std.proofs.Common.{◌≡◌, Bool, List, sym, subst}
use Rattle.std.specs.Prelude.{Option}
use Rattle.wat_lex.specs.tokens.Setting.{Setting}
use Rattle.wat_lex.specs.tokens.Tiling.{MaximalTiling}
use Rattle.wat_lex.specs.declared.lexer.faults.LexFault.{LexFault}
use Rattle.wat_lex.specs.declared.lexer.kinds.Token.{Token}
use Rattle.wat_lexer_parser.specs.places.Source.{Source}
use Rattle.wat_lexer_parser.proofs.parser.lazy.LazyBuffer.lemma_only.Goals as goal

same : (x y : Setting) (b c : Bool) (ts us : List Token) (e f : Option LexFault) → x ≡ y → b ≡ c → ts ≡ us → e ≡ f
    → ◌≡◌ {A = Source} (record { setting = x; track = b; tokens = ts; ending = e }) (record { setting = y; track = c; tokens = us; ending = f })
same x y b c ts us e f h i j k = cc

pub returns-clause-only : goal.returns-clause-only
returns-clause-only c = λ s h e t.
    let own = c.args.self.now in
    let read = subst (λ x. MaximalTiling x 0 own.tokens own.ending) (sym e) c.lemma_sound.ensures.read in
    let one = c.one_tiling.ensures.one s.setting 0 s.tokens own.tokens s.ending own.ending h read in
    same s.setting own.setting s.track own.track s.tokens own.tokens s.ending own.ending e t one.0 one.1
