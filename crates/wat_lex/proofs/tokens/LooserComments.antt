-- Tokens under some flags are tokens under those that take most, and so are the comments among them.
use Rattle.std.proofs.Common.{◌+◌, ℕ, List, [], ◌∷◌, ◌++◌, subst, sym}
use Rattle.std.specs.Prelude.{Option}
use Rattle.std.proofs.lemmas.List.Elements.{Contains-append_left}
use Rattle.wat_lex.specs.tokens.Blanking.{CommentsStay}
use Rattle.wat_lex.specs.tokens.Setting.{Setting, lenient}
use Rattle.wat_lex.specs.tokens.Tiling.{TokenAt, Tiling, MaximalTiling}
use Rattle.wat_lex.specs.declared.lexer.faults.LexFault.{LexFault}
use Rattle.wat_lex.specs.declared.lexer.kinds.Token.{Token}
use Rattle.wat_lex.proofs.grammar.Looser.{is_at_looser, lenient_looser}
use Rattle.wat_lex.proofs.tokens.MovedTexts.{tiling_ends}
use Rattle.wat_lex.proofs.tokens.SomeTilings.{some_tiling}

-- the text under the flags that take most
loosely : Setting → Setting
loosely s = record s { flags = lenient }

token_stays : (s : Setting) (p : ℕ) (t : Token) → TokenAt s p t → TokenAt (loosely s) p t
unfolding loosely
token_stays s p t h = record {
  offset = h.offset;
  word = h.word;
  rest = h.rest;
  is_at = is_at_looser s.flags lenient _ t.kind h.word h.rest (lenient_looser s.flags) h.is_at;
  len = h.len;
}

-- tokens, and then all that come after them
tiling_on : (s : Setting) (p to : ℕ) (ts us : List Token) (e : Option LexFault) → Tiling s p to ts → MaximalTiling (loosely s) to us e → MaximalTiling (loosely s) p (ts ++ us) e
tiling_on s p to [] us e h g = subst (λ q. MaximalTiling (loosely s) q us e) (sym h) g
tiling_on s p to (t ∷ ts) us e h g =
    let r = tiling_on s (t.offset + t.len) to ts us e h.1 g in
    record { to = r.to; tiling = (token_stays s p t h.0, r.tiling); ends = r.ends }

pub comments_stay : CommentsStay
unfolding loosely
comments_stay s p c u at raw =
    let to = raw.tiling.to in
    let k = some_tiling (loosely s) to u (tiling_ends s p to raw.tokens u at raw.tiling.tiling) in
    record {
      tokens = raw.tokens ++ k.0;
      ending = k.1;
      tiling = tiling_on s p to raw.tokens k.0 k.1 raw.tiling.tiling k.2;
      among = Contains-append_left raw.tokens k.0 c raw.among;
      kind = raw.kind;
    }
