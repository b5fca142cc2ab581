-- WebAssembly 2.0, 6.3 (values: integers, strings, names, identifiers), 6.2.2 (keywords) and 6.6.1 (indices), and the
-- custom annotations proposal. The formats of the library's types. The reading of each is the one of `readings/Types`.
use Rattle.std.proofs.Common.{◌≡◌, ap, refl}
use Rattle.std.specs.Prelude.{ℕ, ◌^◌, Bool, true, false, if◌then◌else◌, List, ◌++◌, codes, Option}
use Rattle.std.specs.Str.{is_utf8}
use Rattle.wat_lexer_parser.specs.parser.Takers.{Reader, as_keyword, as_integer, as_open, as_id, as_string, as_annotation}
use Rattle.wat_lexer_parser.specs.rules.Formats.{Format, Lookout, a_token, a_word, a_named, as_read, token, mapped, spanned, checked, and_then, give, refuse, refuse_after, allocated, where_seen, optional, group, second}
use Rattle.wat_lexer_parser.specs.readings.Readings as words
use Rattle.wat_lexer_parser.specs.readings.Types.{Reference, ByName, Number, Spelled, spelling, unsigned_below, utf8_or_refused, as_owned_id}
use Rattle.wat_lexer_parser.specs.readings.Types as types
use Rattle.wat_words.specs.Words.{annotation_word, quoted}

abbrev pub integer : {V : Type 0} → List ℕ → (Bool × ℕ → Option V) → Format V
integer name fits = checked fits (codes "invalid " ++ name ++ codes " number: constant out of range") (token as_integer (codes "expected a " ++ name))

abbrev pub u32 : Format ℕ
u32 = integer (codes "u32") (unsigned_below (2 ^ 32))

abbrev pub identifier : Format Spelled
identifier = mapped (λ v. record { name = v.0.0; owned = v.0.1; generation = 0; span = v.1 }) (spanned (token as_owned_id (codes "expected an identifier")))

abbrev pub bytes : Format (List ℕ)
bytes = token as_string (codes "expected a string")

abbrev pub utf8_by : Bool → List ℕ → Format (List ℕ)
utf8_by true v = give v
utf8_by false v = refuse_after (codes "malformed UTF-8 encoding")

pub utf8_is : (v : List ℕ) → (utf8_by (is_utf8 v) v).reading ≡ utf8_or_refused v
utf8_is v = by_test (is_utf8 v)
  where
    by_test : (b : Bool) → (utf8_by b v).reading ≡ (if b then words.give v else words.refuse_after (codes "malformed UTF-8 encoding"))
    by_test true = refl
    by_test false = refl

-- A string whose value is UTF-8.
abbrev pub text : Format (List ℕ)
text = as_read (and_then bytes (λ v. utf8_by (is_utf8 v) v)) types.text (ap (λ next. words.and_then types.bytes next) (λ at v. utf8_is v at))

abbrev pub owned_text : Format (List ℕ)
owned_text = allocated text

-- A token with a given word. The value is its byte offset.
abbrev pub word : Reader (List ℕ) → List ℕ → List ℕ → Format ℕ
word read w expected = mapped (λ v. v.1) (spanned (token (spelling read w) expected))

abbrev pub a_keyword_of : List ℕ → Format ℕ
a_keyword_of w = word as_keyword w (codes "expected keyword " ++ quoted false w)

pub keyword_is : (w : List ℕ) → (a_keyword_of w).reading ≡ types.keyword false w
unfolding types.keyword
keyword_is w = refl

abbrev pub keyword : List ℕ → Format ℕ
keyword w = as_read (a_keyword_of w) (types.keyword false w) (keyword_is w)

abbrev pub an_annotation_of : List ℕ → Format ℕ
an_annotation_of w = word as_annotation w (codes "expected annotation " ++ quoted true w)

pub annotation_is : (w : List ℕ) → (an_annotation_of w).reading ≡ types.annotation true w
unfolding types.annotation
annotation_is w = refl

abbrev pub annotation : List ℕ → Format ℕ
annotation w = as_read (an_annotation_of w) (types.annotation true w) (annotation_is w)

abbrev pub an_integer : Lookout
an_integer = a_token as_integer

abbrev pub an_identifier : Lookout
an_identifier = a_token as_id

abbrev pub a_string : Lookout
a_string = a_token as_string

abbrev pub a_group : Lookout
a_group = a_token as_open

abbrev pub a_keyword : List ℕ → Lookout
a_keyword w = a_word as_keyword w

-- An index: an identifier, or a 32-bit integer with its byte offset.
abbrev pub an_index : Format Reference
an_index =
    where_seen an_identifier (mapped ByName identifier)
    (where_seen an_integer (mapped (λ v. Number v.0 v.1) (spanned u32)) (refuse (codes "unexpected token, expected an index or an identifier")))

-- An optional group `(@name "..")`, whose value is the name. The peek compares the second token with `@name`.
abbrev pub optional_name : Format (Option (List ℕ))
optional_name = optional (second (a_named (annotation_word 1))) (group (and_then (annotation (annotation_word 1)) (λ at. text)))
