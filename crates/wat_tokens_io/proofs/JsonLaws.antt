-- Lemmas about a line of JSON and its parts.
use Rattle.std.proofs.Common.{◌≡◌, ◌+◌, ◌-◌, ◌<◌, ℕ, get_or, List, [], ◌∷◌, ◌++◌, length, take, drop, refl, sym, ap, subst, ◌∙◌, append_assoc, arith}
use Rattle.std.proofs.lemmas.List.{append-nil, take_more, take-append-drop}
use Rattle.std.proofs.Math.Seq.{take-add}
use Rattle.std.proofs.lemmas.List.Concat.{flat_map-append}
use Rattle.std.specs.Prelude.{Option, flat_map, codes}
use Rattle.wat_lex.specs.tokens.ReadableTokens.{token_text}
use Rattle.wat_lex.specs.declared.lexer.kinds.Token.{Token}
use Rattle.wat_lex.specs.declared.lexer.kinds.TokenKind.{TokenKind}
use Rattle.wat_lex.specs.declared.lexer.kinds.TokenKind.TheVariants.{LineComment, BlockComment, Whitespace, LParen, RParen, String, Id, Keyword, Annotation, Reserved, Integer, Float}
use Rattle.wat_tokens_io.specs.Blocks.{Puts}
use Rattle.wat_tokens_io.specs.JsonStrings.{json_string}
use Rattle.wat_tokens_io.specs.Lines.{kind_name}
use Rattle.wat_tokens_io.specs.Streams.{AppendsPrefix}
use Rattle.wat_tokens_io.specs.lemmas.BlockLaws.{puts_more, cut_more, cut_longer}

-- The name of a kind has no byte that is escaped.
pub kind_string : (kind : TokenKind) → codes "\"" ++ kind_name kind ++ codes "\"" ≡ json_string (kind_name kind)
kind_string LineComment = refl
kind_string BlockComment = refl
kind_string Whitespace = refl
kind_string LParen = refl
kind_string RParen = refl
kind_string String = refl
kind_string Id = refl
kind_string Keyword = refl
kind_string Annotation = refl
kind_string Reserved = refl
kind_string (Integer k) = refl
kind_string (Float k) = refl

quoted : (p k q n t : List ℕ) → p ++ (k ++ q) ++ n ++ (q ++ t) ≡ p ++ k ++ (q ++ n ++ q) ++ t
quoted p k q n t = simp append_assoc refl

-- The name of a kind is written between quotation marks.
pub kind_between : (kind : TokenKind) (front : List ℕ) → front ++ codes ",\"kind\":\"" ++ kind_name kind ++ codes "\",\"text\":" ≡ front ++ codes ",\"kind\":" ++ json_string (kind_name kind) ++ codes ",\"text\":"
kind_between kind front = quoted front (codes ",\"kind\":") (codes "\"") (kind_name kind) (codes ",\"text\":") ∙ ap (λ x. front ++ codes ",\"kind\":" ++ x ++ codes ",\"text\":") (kind_string kind)

regrouped : (f k n t q : List ℕ) → f ++ (k ++ n ++ (t ++ q)) ≡ (f ++ k ++ n ++ t) ++ q
regrouped f k n t q = simp append_assoc refl

-- The quotation mark that opens the text is written after the name of its member.
pub kind_at : (kind : TokenKind) (front : List ℕ) → front ++ (codes ",\"kind\":\"" ++ kind_name kind ++ codes "\",\"text\":\"") ≡ (front ++ codes ",\"kind\":" ++ json_string (kind_name kind) ++ codes ",\"text\":") ++ codes "\""
kind_at kind front = regrouped front (codes ",\"kind\":\"") (kind_name kind) (codes "\",\"text\":") (codes "\"") ∙ ap (λ x. x ++ codes "\"") (kind_between kind front)

-- The bytes of one more element.
pub each_next : (f : ℕ → List ℕ) (xs : List ℕ) (i : ℕ) → i < length xs → flat_map f (take (i + 1) xs) ≡ flat_map f (take i xs) ++ f (get_or xs i 0)
each_next f xs i lt =
    ap (flat_map f) (take_more xs i 0 lt) ∙ flat_map-append f (take i xs) (get_or xs i 0 ∷ []) ∙ ap (λ x. flat_map f (take i xs) ++ x) (append-nil (f (get_or xs i 0)))

pub each_alone : (f : ℕ → List ℕ) (xs : List ℕ) → 0 < length xs → flat_map f (take 1 xs) ≡ f (get_or xs 0 0)
each_alone f xs some = each_next f xs 0 some

-- The bytes of `n` more elements.
pub each_more : (f : ℕ → List ℕ) (xs : List ℕ) (i n : ℕ) → flat_map f (take (i + n) xs) ≡ flat_map f (take i xs) ++ flat_map f (take n (drop i xs))
each_more f xs i n = ap (flat_map f) (take-add i n xs) ∙ flat_map-append f (take i xs) (take n (drop i xs))

-- The bytes of the first `i` elements, and those of the others.
pub each_split : (f : ℕ → List ℕ) (xs : List ℕ) (i : ℕ) → flat_map f xs ≡ flat_map f (take i xs) ++ flat_map f (drop i xs)
each_split f xs i = ap (flat_map f) (sym (take-append-drop i xs)) ∙ flat_map-append f (take i xs) (drop i xs)

-- If a write fails at the first bytes of a string, a prefix of the block and the string was written.
pub cut_some : (f : ℕ → List ℕ) (a b : Option (List ℕ)) (block xs ys : List ℕ) (n : ℕ) → ys ≡ flat_map f (take n xs) → AppendsPrefix a b (block ++ ys) → AppendsPrefix a b (block ++ flat_map f xs)
cut_some f a b block xs ys n e h =
    cut_longer a b (block ++ ys) (flat_map f (drop n xs)) (block ++ flat_map f xs) h
    (ap (λ x. block ++ x) (each_split f xs n ∙ ap (λ x. x ++ flat_map f (drop n xs)) (sym e)) ∙ sym (append_assoc block ys (flat_map f (drop n xs))))

-- Appending bytes to the block without a write.
pub puts_pushed : (a b : Option (List ℕ)) (block block' block'' xs ys : List ℕ) → Puts a b block block' xs → block'' ≡ block' ++ ys → Puts a b block block'' (xs ++ ys)
puts_pushed a b block block' block'' xs ys h e = record {
  written = h.written;
  appended = h.appended;
  all = ap (λ x. h.written ++ x) e ∙ sym (append_assoc h.written block' ys) ∙ ap (λ x. x ++ ys) h.all ∙ append_assoc block xs ys;
}

-- The quotation mark that opens a string is written with the part before it, and the one that closes it with the part
-- after it.
marks_apart : (front string after : List ℕ) → (front ++ codes "\"") ++ string ++ (codes "\"" ++ after) ≡ front ++ (codes "\"" ++ string ++ codes "\"") ++ after
marks_apart front string after = simp append_assoc refl

-- Three parts are appended.
puts_parts : (a b c d : Option (List ℕ)) (k l m n xs ys zs : List ℕ) → Puts a b k l xs → Puts b c l m ys → Puts c d m n zs → Puts a d k n (xs ++ ys ++ zs)
puts_parts a b c d k l m n xs ys zs f g h = puts_more a c d k m n (xs ++ ys) zs (xs ++ ys ++ zs) (puts_more a b c k l m xs ys (xs ++ ys) f g refl) h refl

-- If a write fails at the first of two parts, a prefix of both was written.
pub cut_front : (a b : Option (List ℕ)) (k xs ys : List ℕ) → AppendsPrefix a b (k ++ xs) → AppendsPrefix a b (k ++ (xs ++ ys))
cut_front a b k xs ys h = cut_longer a b (k ++ xs) ys (k ++ (xs ++ ys)) h (sym (append_assoc k xs ys))

-- If a write fails at the first, the second or the third of three parts, a prefix of all was written.
cut_first : (a b : Option (List ℕ)) (k xs ys zs : List ℕ) → AppendsPrefix a b (k ++ xs) → AppendsPrefix a b (k ++ (xs ++ ys ++ zs))
cut_first a b k xs ys zs h = cut_longer a b (k ++ xs) (ys ++ zs) (k ++ (xs ++ ys ++ zs)) h (ap (λ x. k ++ x) (append_assoc xs ys zs) ∙ sym (append_assoc k xs (ys ++ zs)))

cut_second : (a b c : Option (List ℕ)) (k l xs ys zs : List ℕ) → Puts a b k l xs → AppendsPrefix b c (l ++ ys) → AppendsPrefix a c (k ++ (xs ++ ys ++ zs))
cut_second a b c k l xs ys zs f h = cut_longer a c (k ++ (xs ++ ys)) zs (k ++ (xs ++ ys ++ zs)) (cut_more a b c k l xs ys (xs ++ ys) f h refl) (sym (append_assoc k (xs ++ ys) zs))

cut_third : (a b c d : Option (List ℕ)) (k l m xs ys zs : List ℕ) → Puts a b k l xs → Puts b c l m ys → AppendsPrefix c d (m ++ zs) → AppendsPrefix a d (k ++ (xs ++ ys ++ zs))
cut_third a b c d k l m xs ys zs f g h = cut_more a c d k m (xs ++ ys) zs (xs ++ ys ++ zs) (puts_more a b c k l m xs ys (xs ++ ys) f g refl) h refl

-- A line is appended in three parts, or a write fails at one of them.
pub row_put : (a b c d : Option (List ℕ)) (k l m n front string after : List ℕ) → Puts a b k l (front ++ codes "\"") → Puts b c l m string → Puts c d m n (codes "\"" ++ after) → Puts a d k n (front ++ (codes "\"" ++ string ++ codes "\"") ++ after)
row_put a b c d k l m n front string after f g h = subst (λ x. Puts a d k n x) (marks_apart front string after) (puts_parts a b c d k l m n (front ++ codes "\"") string (codes "\"" ++ after) f g h)

pub row_cut_first : (a b : Option (List ℕ)) (k front string after : List ℕ) → AppendsPrefix a b (k ++ (front ++ codes "\"")) → AppendsPrefix a b (k ++ (front ++ (codes "\"" ++ string ++ codes "\"") ++ after))
row_cut_first a b k front string after h = subst (λ x. AppendsPrefix a b (k ++ x)) (marks_apart front string after) (cut_first a b k (front ++ codes "\"") string (codes "\"" ++ after) h)

pub row_cut_second : (a b c : Option (List ℕ)) (k l front string after : List ℕ) → Puts a b k l (front ++ codes "\"") → AppendsPrefix b c (l ++ string) → AppendsPrefix a c (k ++ (front ++ (codes "\"" ++ string ++ codes "\"") ++ after))
row_cut_second a b c k l front string after f h = subst (λ x. AppendsPrefix a c (k ++ x)) (marks_apart front string after) (cut_second a b c k l (front ++ codes "\"") string (codes "\"" ++ after) f h)

pub row_cut_third : (a b c d : Option (List ℕ)) (k l m front string after : List ℕ) → Puts a b k l (front ++ codes "\"") → Puts b c l m string → AppendsPrefix c d (m ++ (codes "\"" ++ after)) → AppendsPrefix a d (k ++ (front ++ (codes "\"" ++ string ++ codes "\"") ++ after))
row_cut_third a b c d k l m front string after f g h = subst (λ x. AppendsPrefix a d (k ++ x)) (marks_apart front string after) (cut_third a b c d k l m (front ++ codes "\"") string (codes "\"" ++ after) f g h)

-- The text of a token is a range of the source's bytes, from its start to its end.
pub text_of : (text bytes : List ℕ) (t : Token) → bytes ≡ text → take (t.offset + t.len - t.offset) (drop t.offset bytes) ≡ token_text text t
text_of text bytes t e = ap (λ b. take (t.offset + t.len - t.offset) (drop t.offset b)) e ∙ ap (λ n. take n (drop t.offset text)) {x = t.offset + t.len - t.offset} {y = t.len} (omega arith)
