-- What may follow a token in a formatted text.
use Rattle.std.proofs.Common.{◌≡◌, ◌≢◌, ℕ, Bool, true, false, eqb, List, [], ◌∷◌, refl, sym, ◌∙◌, subst, inl, inr}
use Rattle.std.proofs.lemmas.Bool.{false≢true}
use Rattle.std.specs.Prelude.{IsTrue, Option, Some, if◌then◌else◌}
use Rattle.wat_lex.specs.grammar.Classes.{is_run_char, semicolon, line_feed}
use Rattle.wat_lex.specs.grammar.Words.{MayFollow}
use Rattle.wat_lex.specs.declared.lexer.kinds.TokenKind.{TokenKind}
use Rattle.wat_lex.specs.declared.lexer.kinds.TokenKind.TheVariants.{LineComment, BlockComment, Whitespace, LParen, RParen, String, Id, Keyword, Annotation, Reserved, Integer, Float}
use Rattle.wat_format.specs.Gaps.{settled, is_break}
use Rattle.wat_format.specs.Layout.{is_white}
use Rattle.wat_format.specs.Sorts.{sort_of, sort_of_keyword, sort_by_first, begins_block, ends_block, parts_block, is_mark_byte}
use Rattle.wat_format.specs.declared.gap.Gap.{Gap}
use Rattle.wat_format.specs.declared.gap.Gap.TheVariants.{Touching, Blanks, LineEnd, EmptyLine}
use Rattle.wat_format.specs.declared.sort.Sort.{Sort}
use Rattle.wat_format.specs.declared.sort.Sort.TheVariants.{Open, Close, Comment, Mark, At, Begins as BeginsBlock, Ends, Parts, Other}

-- A character that continues no lexeme except a line comment.
pub record GoesOnWithNone (c : ℕ) : Type 0 where
  pub no_run : is_run_char c ≡ false
  pub no_semicolon : eqb c semicolon ≡ false

not_true : {b : Bool} → b ≡ false → IsTrue b → ⊥
not_true e h = false≢true (sym e ∙ h)

-- Such a character may follow every token except whitespace and line comments.
pub ends_words : (kind : TokenKind) (w rest : List ℕ) (c : ℕ) → is_white kind ≡ false → kind ≢ LineComment → GoesOnWithNone c → MayFollow kind w (c ∷ rest)
ends_words LineComment w rest c e n g = absurd (n refl)
ends_words BlockComment w rest c e n g = tt
ends_words Whitespace w rest c e n g = absurd (false≢true (sym e))
ends_words LParen w rest c e n g = not_true g.no_semicolon
ends_words RParen w rest c e n g = tt
ends_words Reserved w rest c e n g = (λ _. not_true g.no_semicolon, λ _. not_true g.no_run)
ends_words String w rest c e n g = not_true g.no_run
ends_words Id w rest c e n g = not_true g.no_run
ends_words Keyword w rest c e n g = not_true g.no_run
ends_words Annotation w rest c e n g = not_true g.no_run
ends_words (Integer i) w rest c e n g = not_true g.no_run
ends_words (Float f) w rest c e n g = not_true g.no_run

-- a line feed may follow line comments too
pub feed_ends_words : (kind : TokenKind) (w rest : List ℕ) → is_white kind ≡ false → MayFollow kind w (line_feed ∷ rest)
feed_ends_words LineComment w rest e = inr refl
feed_ends_words BlockComment w rest e = tt
feed_ends_words Whitespace w rest e = absurd (false≢true (sym e))
feed_ends_words LParen w rest e = not_true refl
feed_ends_words RParen w rest e = tt
feed_ends_words Reserved w rest e = (λ _. not_true refl, λ _. not_true refl)
feed_ends_words String w rest e = not_true refl
feed_ends_words Id w rest e = not_true refl
feed_ends_words Keyword w rest e = not_true refl
feed_ends_words Annotation w rest e = not_true refl
feed_ends_words (Integer i) w rest e = not_true refl
feed_ends_words (Float f) w rest e = not_true refl

-- what may follow goes by the next character
pub same_first : (kind : TokenKind) (w rest rest' : List ℕ) (c : ℕ) → MayFollow kind w (c ∷ rest) → MayFollow kind w (c ∷ rest')
same_first LineComment w rest rest' c (inl e) = absurd cc
same_first LineComment w rest rest' c (inr h) = inr h
same_first BlockComment w rest rest' c h = tt
same_first Whitespace w rest rest' c h = h
same_first LParen w rest rest' c h = h
same_first RParen w rest rest' c h = tt
same_first Reserved w rest rest' c h = (h.0, h.1)
same_first String w rest rest' c h = h
same_first Id w rest rest' c h = h
same_first Keyword w rest rest' c h = h
same_first Annotation w rest rest' c h = h
same_first (Integer i) w rest rest' c h = h
same_first (Float f) w rest rest' c h = h

-- a sort that no parenthesis joins into a comment
abbrev pub NoSemicolon : Sort → Type 0
NoSemicolon Mark = ⊥
NoSemicolon Comment = ⊥
NoSemicolon y = Unit {0}

abbrev pub NoComment : Sort → Type 0
NoComment Comment = ⊥
NoComment x = Unit {0}

-- Gaps that are written as no bytes.
pub data Touches : Sort → Sort → Gap → Type 0 where
  stayed : {x y : Sort} → Touches x y Touching
  opened : {y : Sort} {g : Gap} → NoSemicolon y → Touches Open y g
  closed : {x : Sort} {g : Gap} → NoComment x → Touches x Close g

pub touches : (x y : Sort) (g : Gap) → settled x y g ≡ Touching → Touches x y g
touches x y Touching h = Touches.stayed
touches Comment Close g h = absurd cc
touches Comment y g h = absurd cc
touches Open Comment g h = absurd cc
touches x Comment g h = absurd cc
touches Open Mark g h = absurd cc
touches Open At g h = absurd cc
touches Open y g h = Touches.opened tt
touches x Close LineEnd h = absurd cc
touches x Close EmptyLine h = absurd cc
touches Mark Close g h = absurd cc
touches x Close g h = Touches.closed tt
touches x y g h = absurd cc

-- what is written after a line comment whose line ends
pub breaks_after : (y : Sort) (g : Gap) → is_break g ≡ true → is_break (settled Comment y g) ≡ true
breaks_after Close g h = refl
breaks_after y g h = h

pub settled_again : (x y : Sort) (g : Gap) → settled x y (settled x y g) ≡ settled x y g
settled_again Comment Close g = refl
settled_again Comment y g = refl
settled_again x Comment Touching = refl
settled_again Open Comment (Blanks n) = refl
settled_again Open Comment g = refl
settled_again x Comment g = refl
settled_again Open Mark Touching = refl
settled_again Open Mark g = refl
settled_again Open At Touching = refl
settled_again Open At g = refl
settled_again Open y g = refl
settled_again x Close LineEnd = refl
settled_again x Close EmptyLine = refl
settled_again x y LineEnd = refl
settled_again x y EmptyLine = refl
settled_again Mark y Touching = refl
settled_again Mark y g = refl
settled_again x Mark Touching = refl
settled_again x Mark g = refl
settled_again x Close g = refl
settled_again x y g = refl

-- the sorts of tokens that are neither parentheses nor line comments
abbrev pub IsPlain : Sort → Type 0
IsPlain Open = ⊥
IsPlain Close = ⊥
IsPlain Comment = ⊥
IsPlain y = Unit {0}

choice_is_plain : (b c d : Bool) → IsPlain (if b then BeginsBlock else if c then Ends else if d then Parts else Other)
choice_is_plain true c d = tt
choice_is_plain false true d = tt
choice_is_plain false false true = tt
choice_is_plain false false false = tt

keyword_is_plain : (before : Option Sort) (w : List ℕ) → IsPlain (sort_of_keyword before w)
keyword_is_plain (Some Open) w = tt
keyword_is_plain before w = choice_is_plain (begins_block w) (ends_block w) (parts_block w)

mark_is_plain : (b c : Bool) → IsPlain (if b then At else if c then Mark else Other)
mark_is_plain true c = tt
mark_is_plain false true = tt
mark_is_plain false false = tt

first_is_plain : (w : List ℕ) → IsPlain (sort_by_first w)
first_is_plain [] = tt
first_is_plain (c ∷ w) = mark_is_plain (eqb c 64) (is_mark_byte c)

plain_is_no : (y z : Sort) → (IsPlain z → ⊥) → IsPlain y → y ≡ z → ⊥
plain_is_no y z n h e = n (subst IsPlain e h)

pub kind_of_open : (before : Option Sort) (kind : TokenKind) (w : List ℕ) → sort_of before kind w ≡ Open → kind ≡ LParen
kind_of_open before LParen w e = refl
kind_of_open before LineComment w e = absurd cc
kind_of_open before RParen w e = absurd cc
kind_of_open before Keyword w e = absurd (plain_is_no _ Open (λ h. h) (keyword_is_plain before w) e)
kind_of_open before kind w e = absurd (plain_is_no _ Open (λ h. h) (first_is_plain w) e)

pub kind_of_close : (before : Option Sort) (kind : TokenKind) (w : List ℕ) → sort_of before kind w ≡ Close → kind ≡ RParen
kind_of_close before RParen w e = refl
kind_of_close before LineComment w e = absurd cc
kind_of_close before LParen w e = absurd cc
kind_of_close before Keyword w e = absurd (plain_is_no _ Close (λ h. h) (keyword_is_plain before w) e)
kind_of_close before kind w e = absurd (plain_is_no _ Close (λ h. h) (first_is_plain w) e)
