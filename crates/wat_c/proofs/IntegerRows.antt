-- The lexemes of integers' rows: their bytes are their characters, and the row tells what precedes their digits.
use Rattle.std.proofs.Common.{◌≡◌, ◌<◌, ◌+◌, ◌-◌, ℕ, List, [], ◌∷◌, ◌++◌, length, take, drop, refl, ap, sym, ◌∙◌, subst, arith, Bool, true, false, cond}
use Rattle.std.specs.Prelude.{◌==◌, ◌||◌, if◌then◌else◌}
use Rattle.std.specs.Str.{IsUtf8}
use Rattle.std.proofs.lemmas.List.{take_at, drop-drop, drop-take, length-drop}
use Rattle.std.proofs.lemmas.Str.{encodes-chars, encodes-append, encodes-IsAscii, IsUtf8-drop}
use lib.Utf8.{encodes}
use Rattle.wat_lex.specs.grammar.Numbers.{Number, Digits, last, next, parted, IntegralPart, decimal, hexadecimal, unsigned, sign_of, sign_token}
use Rattle.wat_lex.specs.grammar.Words.{Word}
use Rattle.wat_lex.specs.tokens.EverySetting.{TokensAreReadable, WordsOfTokens}
use Rattle.wat_lex.specs.tokens.ReadableTokens.{IsTokenOf, word_of}
use Rattle.wat_lex.specs.tokens.Setting.{lenient}
use Rattle.wat_lex.specs.values.NumberValues.{after_prefix}
use Rattle.wat_lex.specs.declared.lexer.kinds.Sign.TheVariants as sign
use Rattle.wat_lex.specs.declared.lexer.kinds.TokenKind.TheVariants.{Integer}
use Rattle.wat_c_records.specs.Counting.{IsRow, row_kind_of}
use Rattle.wat_c_records.specs.Rows.{sign_code}
use Rattle.wat_c_records.specs.declared.counting.Row.{Row}
use Rattle.wat_c.specs.ByRow.{kind_of, token_of, sign_known}
use Rattle.wat_c.specs.Numbers.{lead}
use Rattle.wat_c.proofs.NumberLexemes.{number_word, number_ascii}
use Rattle.wat_c.proofs.RowTokens.{row_readable, row_kind, integer_by_code}

-- ---- the lexeme of a row

unsigned_drop : (w : List ℕ) → unsigned w ≡ drop (if sign_code (sign_token (sign_of w)) == 0 then 0 else 1) w
unsigned_drop [] = refl
unsigned_drop (c ∷ t) = by (c == 43) (c == 45)
  where
    by : (a b : Bool) → cond (a || b) t (c ∷ t) ≡ drop (if sign_code (sign_token (cond a sign.Plus (cond b sign.Minus sign.None))) == 0 then 0 else 1) (c ∷ t)
    by true b = refl
    by false true = refl
    by false false = refl

prefix_drop : (hex : Bool) (s : List ℕ) → after_prefix hex s ≡ drop (if hex then 2 else 0) s
prefix_drop true s = refl
prefix_drop false s = refl

digits_some : (hex : Bool) (s : List ℕ) → Digits hex s [] → 0 < length s
digits_some hex s (last h) = omega arith
digits_some hex s (next h r) = omega arith
digits_some hex s (parted h r) = omega arith

integral_some : (hex : Bool) (s : List ℕ) → IntegralPart hex s [] → 0 < length (after_prefix hex s)
integral_some hex s (decimal h) = digits_some false s h
integral_some hex s (hexadecimal {t = t} h) = digits_some true t h

-- what a row tells of an integer
pub record IntegerWord (text : List ℕ) (row : Row) : Type 0 where
  pub word : List ℕ
  pub is : word_of text (token_of row) ≡ word
  pub bytes : take row.len (drop row.offset text) ≡ word
  pub long : length word ≡ row.len
  pub sign : row.kind.sign ≡ sign_code (sign_token (sign_of word))
  pub digits : after_prefix row.kind.hex (unsigned word) ≡ drop (lead row.kind) word
  pub some : lead row.kind < row.len

-- the kind that a row tells, and what the row says of it
known_sign : (text : List ℕ) (row : Row) → IsRow text row → row.kind.code ≡ 11 → row.kind.sign ≡ sign_code (sign_token (sign_known row.kind.sign))
known_sign text row h e = ap (λ k. k.sign) (row_kind text row h ∙ ap (row_kind_of text h.token) (integer_by_code row.kind e))

module _ (readable : TokensAreReadable) (words : WordsOfTokens) (text : List ℕ) (row : Row) (utf8 : IsUtf8 text) (h : IsRow text row) (e : row.kind.code ≡ 11) where
  token_readable : IsTokenOf text (token_of row)
  token_readable = row_readable readable text row (kind_of row.kind) h refl

  known_number : (r : IsTokenOf text (token_of row)) → Number r.word (Integer (record { sign = sign_known row.kind.sign; has_underscores = row.kind.has_underscores; hex = row.kind.hex }))
  known_number r = number_word (Integer (record { sign = sign_known row.kind.sign; has_underscores = row.kind.has_underscores; hex = row.kind.hex })) r.word refl (subst (λ k. Word k r.word lenient) (integer_by_code row.kind e) r.is)

  by_readable : (r : IsTokenOf text (token_of row)) → IntegerWord text row
  by_readable r =
      let n = known_number r in
      let w = r.word in
      let ascii = number_ascii (Integer (record { sign = sign_known row.kind.sign; has_underscores = row.kind.has_underscores; hex = row.kind.hex })) w refl n in
      let same : encodes w ≡ w = encodes-IsAscii w ascii in
      let long : length w ≡ row.len = ap length (sym same) ∙ sym r.len in
      let back : drop row.offset text ≡ w ++ encodes r.rest =
      sym (encodes-chars (drop row.offset text) (IsUtf8-drop text row.offset utf8 h.boundary)) ∙ ap encodes r.cut ∙ encodes-append w r.rest ∙ ap (λ x. x ++ encodes r.rest) same in
      let sign : row.kind.sign ≡ sign_code (sign_token (sign_of w)) = known_sign text row h e ∙ ap (λ s. sign_code (sign_token s)) n.1 in
      let p = if row.kind.hex then 2 else 0 in
      let q = if row.kind.sign == 0 then 0 else 1 in
      let front : unsigned w ≡ drop q w = unsigned_drop w ∙ ap (λ s. drop (if s == 0 then 0 else 1) w) (sym sign) in
      let digits : after_prefix row.kind.hex (unsigned w) ≡ drop (lead row.kind) w = prefix_drop row.kind.hex (unsigned w) ∙ ap (drop p) front ∙ drop-drop p q w in
      record {
        word = w;
        is = words text (token_of row) utf8 r;
        bytes = ap (take row.len) back ∙ take_at w (encodes r.rest) row.len long;
        long = long;
        sign = sign;
        digits = digits;
        some = omega (arith, integral_some row.kind.hex (unsigned w) n.0, ap length digits, length-drop (lead row.kind) w, long);
      }

  pub integer_word : IntegerWord text row
  integer_word = by_readable token_readable

-- the digits in the text
pub digits_there : (text : List ℕ) (row : Row) → IntegerWord text row → take (row.len - lead row.kind) (drop (row.offset + lead row.kind) text) ≡ after_prefix row.kind.hex (unsigned (word_of text (token_of row)))
digits_there text row h =
    let n = lead row.kind in
    let some = h.some in
    let parts : row.len ≡ n + (row.len - n) = omega arith in
    sym (ap (take (row.len - n)) (drop-drop n row.offset text)) ∙ sym (drop-take n (row.len - n) (drop row.offset text)) ∙ ap (λ m. drop n (take m (drop row.offset text))) (sym parts)
    ∙ ap (drop n) h.bytes ∙ sym h.digits ∙ ap (λ w. after_prefix row.kind.hex (unsigned w)) (sym h.is)
