-- Block comments at the start of a text.
use Rattle.std.proofs.Common.{◌≡◌, ◌≢◌, ◌≤◌, ◌+◌, ℕ, List, [], ◌∷◌, ◌++◌, length, drop, get_or, refl, arith, ap, sym, ◌∙◌, subst, append_assoc, length-drop}
use Rattle.std.proofs.lemmas.List.{append-nil}
use Rattle.std.proofs.lemmas.Str.{encodes-chars}
use Rattle.std.specs.Str.{chars, IsUtf8}
use lib.Utf8.{encode, encodes}
use Rattle.wat_lex.specs.grammar.Classes.{size}
use Rattle.wat_lex.specs.grammar.Comments.{Closes, close, plain, lone_semicolon, lone_paren, nested, BlockComment, opened}
use Rattle.wat_lex.specs.tokens.Faults.{Fault, dangling}
use Rattle.wat_lex.specs.inside.ScannedLexemes.{LexemeFound, Refused}
use Rattle.wat_lex.specs.tokens.Setting.{allowing}
use Rattle.wat_lex.specs.declared.lexer.kinds.TokenKind.TheVariants.{BlockComment as block_kind}
use Rattle.wat_lex.specs.declared.lexer.faults.LexError.TheVariants.{DanglingBlockComment}
use Rattle.wat_lex.proofs.grammar.Comments.{at_nil}
use Rattle.wat_lex.proofs.grammar.CommentBytes.{to_bytes, from_bytes}
use Rattle.wat_lex.proofs.inside.Confusing.{size-append}
use Rattle.wat_lex.proofs.grammar.AsciiPrefixes.{led}
use Rattle.wat_lex.specs.declared.lexer.settings.Settings.{Settings}

-- what closes is a prefix of the text, and closes whatever follows
pub record Cut (t r : List ℕ) : Type 0 where
  pub prefix : List ℕ
  pub cut : t ≡ prefix ++ r
  pub closes : (x : List ℕ) → Closes (prefix ++ x) x

semicolon_cut : (d : ℕ) (t r f : List ℕ) → d ≢ 41 → d ∷ t ≡ f ++ r → ((x : List ℕ) → Closes (f ++ x) x) → Cut (59 ∷ d ∷ t) r
semicolon_cut d t r [] a e h = at_nil [] (h [])
semicolon_cut d t r (b ∷ f) a e h = let same : d ≡ b = cc in record { prefix = 59 ∷ b ∷ f; cut = ap (λ x. 59 ∷ x) e; closes = λ x. lone_semicolon (λ k. a (same ∙ k)) (h x) }

paren_cut : (d : ℕ) (t r f : List ℕ) → d ≢ 59 → d ∷ t ≡ f ++ r → ((x : List ℕ) → Closes (f ++ x) x) → Cut (40 ∷ d ∷ t) r
paren_cut d t r [] a e h = at_nil [] (h [])
paren_cut d t r (b ∷ f) a e h = let same : d ≡ b = cc in record { prefix = 40 ∷ b ∷ f; cut = ap (λ x. 40 ∷ x) e; closes = λ x. lone_paren (λ k. a (same ∙ k)) (h x) }

pub closes_cut : (t r : List ℕ) → Closes t r → Cut t r
closes_cut t r close = record { prefix = 59 ∷ 41 ∷ []; cut = refl; closes = λ x. close }
closes_cut t r (plain {c = c} {t = s} a b h) = let k = closes_cut s r h in record { prefix = c ∷ k.prefix; cut = ap (λ x. c ∷ x) k.cut; closes = λ x. plain a b (k.closes x) }
closes_cut t r (lone_semicolon {d = d} {t = s} a h) = let k = closes_cut (d ∷ s) r h in semicolon_cut d s r k.prefix a k.cut k.closes
closes_cut t r (lone_paren {d = d} {t = s} a h) = let k = closes_cut (d ∷ s) r h in paren_cut d s r k.prefix a k.cut k.closes
closes_cut t r (nested {t = s} {m = m} g h) =
    let k = closes_cut s m g in
    let l = closes_cut m r h in
    record {
      prefix = 40 ∷ 59 ∷ (k.prefix ++ l.prefix);
      cut = ap (λ x. 40 ∷ 59 ∷ x) (k.cut ∙ ap (λ x. k.prefix ++ x) l.cut ∙ sym (append_assoc k.prefix l.prefix r));
      closes = λ x. subst (λ y. Closes (40 ∷ 59 ∷ y) x) (sym (append_assoc k.prefix l.prefix x)) (nested (k.closes (l.prefix ++ x)) (l.closes x));
    }

size_open : (f : List ℕ) → size (40 ∷ 59 ∷ f) ≡ 2 + size f
unfolding encode
size_open f = omega arith

-- a text that begins with `(;`
pub record Opens (text : List ℕ) : Type 0 where
  pub chars : chars text ≡ 40 ∷ 59 ∷ chars (drop 2 text)
  pub utf8 : IsUtf8 (drop 2 text)
  pub bytes : text ≡ 40 ∷ 59 ∷ drop 2 text

pub opens : (text : List ℕ) → IsUtf8 text → get_or text 0 0 ≡ 40 → get_or text 1 0 ≡ 59 → Opens text
opens [] u a b = cc
opens (c ∷ []) u a b = cc
opens (c ∷ d ∷ t) u a b =
    let l = led (c ∷ d ∷ t) 40 u (omega arith) a (omega arith) in
    let m = led (d ∷ t) 59 l.utf8 (omega arith) b (omega arith) in
    record { chars = l.chars ∙ ap (λ x. 40 ∷ x) m.chars; utf8 = m.utf8; bytes = l.bytes ∙ ap (λ x. 40 ∷ x) m.bytes }

pub block_found : (flags : Settings) (text : List ℕ) (n : ℕ) → IsUtf8 text → get_or text 0 0 ≡ 40 → get_or text 1 0 ≡ 59 → n ≤ length (drop 2 text) → Closes (drop 2 text) (drop n (drop 2 text)) → LexemeFound (allowing flags) text (record { kind = block_kind; len = n + 2 })
block_found flags text n u a b l h =
    let o = opens text u a b in
    let cs = chars (drop 2 text) in
    let spelt : encodes cs ≡ drop 2 text = encodes-chars (drop 2 text) o.utf8 in
    let rest = from_bytes (length cs) cs (drop n (drop 2 text)) (omega arith) (subst (λ x. Closes x (drop n (drop 2 text))) (sym spelt) h) in
    let k = closes_cut cs rest.chars rest.closes in
    record {
      word = 40 ∷ 59 ∷ k.prefix;
      rest = rest.chars;
      is_at = record {
        cut = o.chars ∙ ap (λ x. 40 ∷ 59 ∷ x) k.cut;
        word = (opened (subst (λ x. Closes x []) (append-nil k.prefix) (k.closes [])), tt);
        ends = tt;
      };
      len =
          let e : length (drop 2 text) ≡ size k.prefix + size rest.chars = ap length (sym spelt) ∙ ap size k.cut ∙ size-append k.prefix rest.chars in
          let f : length (drop n (drop 2 text)) ≡ size rest.chars = ap length rest.is in
          let g : size (40 ∷ 59 ∷ k.prefix) ≡ 2 + size k.prefix = size_open k.prefix in
          omega (arith, length-drop n (drop 2 text));
    }

pub block_dangles : (flags : Settings) (text : List ℕ) → IsUtf8 text → get_or text 0 0 ≡ 40 → get_or text 1 0 ≡ 59 → ((r : List ℕ) → Closes (drop 2 text) r → ⊥) → Refused flags text (record { offset = 0; error = DanglingBlockComment })
block_dangles flags text u a b h =
    let o = opens text u a b in
    let cs = chars (drop 2 text) in
    let spelt : encodes cs ≡ drop 2 text = encodes-chars (drop 2 text) o.utf8 in
    let none : (r : List ℕ) → BlockComment (40 ∷ 59 ∷ cs) r → ⊥ = λ r g. never cs r (λ k. h (encodes r) (subst (λ x. Closes x (encodes r)) spelt (to_bytes cs r k))) g in
    record {
      at = chars text;
      fault = subst (λ x. Fault flags x DanglingBlockComment x) (sym o.chars) (dangling none);
      place = omega (arith, ap length (encodes-chars text u));
    }
  where
    never : (cs r : List ℕ) → (Closes cs r → ⊥) → BlockComment (40 ∷ 59 ∷ cs) r → ⊥
    never cs r f (opened k) = f k
