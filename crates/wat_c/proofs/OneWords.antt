-- The range that is reported for a value is unique.
use Rattle.std.proofs.Common.{◌≡◌, ℕ, List, sym, ◌∙◌, arith, take, drop}
use Rattle.std.specs.Prelude.{Ok, Err}
use Rattle.wat_lex.specs.tokens.EverySetting.{NamesAreUnique}
use Rattle.wat_lex.specs.values.UniqueValues.{OneValue}
use Rattle.wat_lex.specs.values.WordValues.{empty_name}
use Rattle.wat_lex.specs.declared.lexer.kinds.Token.{Token}
use Rattle.wat_lex.specs.declared.lexer.kinds.TokenKind.{TokenKind}
use Rattle.wat_lex.specs.declared.lexer.kinds.TokenKind.TheVariants as kind
use Rattle.wat_c.specs.Words.{ReadsValue, IsUnescapedValue, TellsWord, given, escaped, nameless, other, OneWord}
use Rattle.wat_c.specs.declared.answers.Refusal.TheVariants.{Fault}
use Rattle.wat_c.specs.declared.words.Word.{Word}
use Rattle.wat_c.proofs.OneFinding.{One, one_string, one_name}

one_value : ((w : List ℕ) → OneValue w) → NamesAreUnique → (k : TokenKind) (text : List ℕ) (t : Token) → One (ReadsValue k text t)
one_value s n kind.String text t = one_string s text t
one_value s n kind.LineComment text t = one_name n text t
one_value s n kind.BlockComment text t = one_name n text t
one_value s n kind.Whitespace text t = one_name n text t
one_value s n kind.LParen text t = one_name n text t
one_value s n kind.RParen text t = one_name n text t
one_value s n kind.Id text t = one_name n text t
one_value s n kind.Keyword text t = one_name n text t
one_value s n kind.Annotation text t = one_name n text t
one_value s n kind.Reserved text t = one_name n text t
one_value s n (kind.Integer k) text t = one_name n text t
one_value s n (kind.Float k) text t = one_name n text t

module _ (s : (w : List ℕ) → OneValue w) (n : NamesAreUnique) (text : List ℕ) (t : Token) where
  -- A token with a value has no error in it.
  named_or_not : (word : Word) → IsUnescapedValue text t word → ReadsValue t.kind text t (Err (Fault (empty_name t.kind))) → ⊥
  named_or_not word h k =
      let same = one_value s n t.kind text t (Ok (take word.len (drop word.start text))) (Err (Fault (empty_name t.kind))) h.reads k (λ x. cc) (λ x. cc) in
      cc

  same_place : (a b : Word) → a.status ≡ 0 → b.status ≡ 0 → IsUnescapedValue text t a → IsUnescapedValue text t b → a ≡ b
  same_place a b x y h k =
      let hb = h.begins in
      let kb = k.begins in
      let he = h.ends in
      let ke = k.ends in
      let start : a.start ≡ b.start = hb ∙ sym kb in
      let len : a.len ≡ b.len = omega (arith, he, ke, start) in
      let status = x ∙ sym y in
      λ i. record { start = start i; len = len i; status = status i }

  by : (a b : Word) → TellsWord text t a → TellsWord text t b → a ≡ b
  by a b (given x h) (given y k) = same_place a b x y h k
  by a b (given x h) (escaped y v p) = absurd (p h.plain)
  by a b (given x h) (nameless y v p r) = absurd (named_or_not a h r)
  by a b (given x h) (other y v) = absurd (v h.kind)
  by a b (escaped x u p) (given y k) = absurd (p k.plain)
  by a b (escaped x u p) (escaped y v q) = x ∙ sym y
  by a b (escaped x u p) (nameless y v q r) = absurd (p q)
  by a b (escaped x u p) (other y v) = absurd (v u)
  by a b (nameless x u p r) (given y k) = absurd (named_or_not b k r)
  by a b (nameless x u p r) (escaped y v q) = absurd (q p)
  by a b (nameless x u p r) (nameless y v q m) = x ∙ sym y
  by a b (nameless x u p r) (other y v) = absurd (v u)
  by a b (other x u) (given y k) = absurd (u k.kind)
  by a b (other x u) (escaped y v q) = absurd (u v)
  by a b (other x u) (nameless y v q m) = absurd (u v)
  by a b (other x u) (other y v) = x ∙ sym y

  pub one_word : OneWord text t
  unfolding OneWord
  one_word = by
