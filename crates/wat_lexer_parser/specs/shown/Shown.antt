-- WebAssembly 2.0, 6.2.3 (white space) and 6.2.4 (comments); custom annotations proposal (lexical format,
-- annotations). The tokens visible to a parser: all except whitespace, comments, and groups `(@name ..)` of
-- unregistered names. The proposal does not say what the error is if an annotation has an invalid name, or if the group
-- of an unregistered one has no end: `misnamed` and `unclosed` define it.
use Rattle.std.specs.Prelude.{◌≡◌, ◌≢◌, ℕ, List, [], ◌∷◌, ◌+◌, Option, Some, None, Result, Ok, Err, IsTrue, IsFalse, IsUtf8}
use Rattle.wat_lex.specs.values.Names.{Name, NameFault}
use Rattle.wat_lexer_parser.specs.groups.Sorts.{Group, NoGroup}
use Rattle.wat_lex.specs.tokens.Blanks.{is_blank, is_marked}
use Rattle.wat_lexer_parser.specs.names.RegisteredNames.{Names, is_registered}
use Rattle.wat_lexer_parser.specs.places.Source.{Token, LParen, Annotation, LexError, EmptyAnnotation, LexFault, Fault, Lex, Unclosed, word_of}

-- A visible token with the raw tokens after it, `None` at the end of the text, or an error.
abbrev pub Finding : Type 0
Finding = Result (Option (Token × List Token)) Fault

-- The result if no token is left: the end of the text, or its lexical error.
abbrev pub ended : Option LexFault → Finding
ended None = Ok None
ended (Some f) = Err (record { offset = f.offset; kind = Lex f.error })

-- The result if no token is left inside the group opened at `t`. There the end of the text is an error, at the offset
-- after `t`.
abbrev pub unclosed_ending : Option LexFault → Token → Finding
unclosed_ending None t = Err (record { offset = t.offset + 1; kind = Unclosed })
unclosed_ending (Some f) t = ended (Some f)

-- `t` is an annotation of the name `x`, which is UTF-8 and not empty.
pub record HasName (text : List ℕ) (t : Token) (x : List ℕ) : Type 0 where
  pub kind : t.kind ≡ Annotation
  pub name : Name (word_of text t) x
  pub utf8 : IsUtf8 x
  pub some : x ≢ []

-- `t` is an annotation whose name has the error `e`.
pub record IsMisnamed (text : List ℕ) (t : Token) (e : LexError) : Type 0 where
  pub kind : t.kind ≡ Annotation
  pub fault : NameFault EmptyAnnotation (word_of text t) e

-- `t` is a `(` that is followed immediately by `@` in the text.
abbrev pub IsMarked : List ℕ → Token → Type 0
IsMarked text t = (t.kind ≡ LParen) × IsTrue (is_marked text t)

-- `Shown text ending names ts found`: `ts` are the raw tokens of `text` from some token on. After them is the end of the
-- text if `ending` is `None`, otherwise the lexical error `ending`. `names` are the registered names. A peek at `ts` finds `found`. Whitespace, comments, and groups of
-- unregistered annotations are skipped. A `(` directly before an annotation is an error if the name of the annotation is
-- invalid, or if the name is unregistered and the group has no end. If the last raw token is a `(` and an `@` follows
-- it in the text, then lexing failed at this `@`, and the result is `ended ending`. Any other token is visible.
pub data Shown (text : List ℕ) (ending : Option LexFault) (names : Names) : List Token → Finding → Type 0 where
  none_left : Shown text ending names [] (ended ending)
  blank : {t : Token} {r : List Token} {a : Finding} → IsTrue (is_blank t.kind) → Shown text ending names r a → Shown text ending names (t ∷ r) a
  none_follows : {t : Token} → IsMarked text t → Shown text ending names (t ∷ []) (ended ending)
  no_annotation : {t u : Token} {r : List Token} → IsMarked text t → u.kind ≢ Annotation → Shown text ending names (t ∷ u ∷ r) (Ok (Some (t, u ∷ r)))
  misnamed : {t u : Token} {r : List Token} {e : LexError} → IsMarked text t → IsMisnamed text u e → Shown text ending names (t ∷ u ∷ r) (Err (record { offset = u.offset; kind = Lex e }))
  registered : {t u : Token} {r : List Token} {x : List ℕ} → IsMarked text t → HasName text u x → IsTrue (is_registered names x) → Shown text ending names (t ∷ u ∷ r) (Ok (Some (t, u ∷ r)))
  skipped : {t u : Token} {r m : List Token} {x : List ℕ} {a : Finding} → IsMarked text t → HasName text u x → IsFalse (is_registered names x) → Group (u ∷ r) m → Shown text ending names m a
      → Shown text ending names (t ∷ u ∷ r) a
  unclosed : {t u : Token} {r : List Token} {x : List ℕ} → IsMarked text t → HasName text u x → IsFalse (is_registered names x) → NoGroup (u ∷ r) → Shown text ending names (t ∷ u ∷ r) (unclosed_ending ending t)
  unmarked : {t : Token} {r : List Token} → t.kind ≡ LParen → IsFalse (is_marked text t) → Shown text ending names (t ∷ r) (Ok (Some (t, r)))
  other : {t : Token} {r : List Token} → IsFalse (is_blank t.kind) → t.kind ≢ LParen → Shown text ending names (t ∷ r) (Ok (Some (t, r)))
