-- A token or a lexical error follows a `(` that is followed by `@`.
use lib.Utf8.{encode}
use Rattle.std.proofs.Common.{◌≡◌, ℕ, ◌+◌, List, [], ◌∷◌, ◌++◌, ap, ◌∙◌, subst, length, arith, Some, None}
use Rattle.std.specs.Prelude.{Option, IsTrue}
use Rattle.std.proofs.lemmas.Option.{slice_get_past}
use Rattle.wat_lex.specs.grammar.Classes.{size}
use Rattle.wat_lex.specs.grammar.Words.{Word}
use Rattle.wat_lex.specs.tokens.Setting.{Setting}
use Rattle.wat_lex.specs.tokens.Tiling.{TokenAt, Tiling, EndsAt}
use Rattle.wat_lex.specs.declared.lexer.faults.LexFault.{LexFault}
use Rattle.wat_lex.specs.declared.lexer.kinds.Token.{Token}
use Rattle.wat_lex.specs.declared.lexer.kinds.TokenKind.TheVariants.{LParen}
use Rattle.wat_lexer_parser.specs.lemmas.Parts.{is_mark}
use Rattle.wat_lexer_parser.specs.laws.ShownLaws.{MarksEndInFaults}

-- The last token of a tiling ends at the end of the tiling.
pub record LastAt (s : Setting) (to : ℕ) (t : Token) : Type 0 where
  pub from : ℕ
  pub token : TokenAt s from t
  pub ends : t.offset + t.len ≡ to

last_at : (s : Setting) (from to : ℕ) (ts : List Token) (t : Token) → Tiling s from to (ts ++ (t ∷ [])) → LastAt s to t
last_at s from to [] t h = record { from = from; token = h.0; ends = h.1 }
last_at s from to (u ∷ ts) t h = last_at s (u.offset + u.len) to ts t h.1

pub paren_len : (s : Setting) (p : ℕ) (t : Token) → TokenAt s p t → t.kind ≡ LParen → t.len ≡ 1
unfolding encode
paren_len s p t h e = h.len ∙ ap size (subst (λ k. Word k h.word s.flags) e h.is_at.word)

ends_text : (s : Setting) (to : ℕ) (ending : Option LexFault) → ending ≡ None → EndsAt s to ending → to ≡ length s.text
ends_text s to None e h = h
ends_text s to (Some f) e h = cc

pub marks_end_in_faults : MarksEndInFaults
marks_end_in_faults s ts t read e mark none =
    let l = last_at s.setting 0 read.to ts t (subst (Tiling s.setting 0 read.to) e read.tiling) in
    let one = paren_len s.setting l.from t l.token mark.0 in
    let all = ends_text s.setting read.to s.ending none read.ends in
    let past = slice_get_past s.setting.text (t.offset + 1) (omega (arith, l.ends, one, all)) in
    let no : IsTrue (is_mark None) = subst (λ b. IsTrue (is_mark b)) past mark.1 in
    absurd (cc)
