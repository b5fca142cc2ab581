-- WebAssembly 2.0, 6.3 (values: integers, strings, names, identifiers), 6.2.2 (keywords) and 6.6.1 (indices), and the
-- custom annotations proposal. The readings of the library's types, and their peeks.
use Rattle.std.specs.Prelude.{ℕ, ◌*◌, ◌^◌, nat_lt, nat_le, Bool, true, false, if◌then◌else◌, ℤ, pos, neg_ℤ, ◌-ℤ◌, List, ◌++◌, codes, Option, Some, None, Result, Ok, Err, bytes_eq}
use Rattle.std.specs.Str.{is_utf8}
use Rattle.wat_lex.specs.errors.Errors.{Report}
use Rattle.wat_lex.specs.identifiers.Identifiers.{Identifier}
use Rattle.wat_lex.specs.declared.lexer.kinds.TokenKind.TheVariants as kind
use Rattle.wat_lex.specs.declared.token.Index.{Index}
use Rattle.wat_lex.specs.declared.token.Index.TheVariants as index
use Rattle.wat_lexer_parser.specs.parser.Sights.{Sight, without_allocation, sight_of, seen_after, second}
use Rattle.wat_lexer_parser.specs.parser.Takers.{Reader, token_value_at, allocates_at, name_is_decoded, as_id, as_integer, as_string, as_keyword, as_reserved, as_annotation, as_open}
use Rattle.wat_lexer_parser.specs.readings.Readings.{Reading, token, refuse, refuse_after, give, and_then, mapped, pair, spanned, allocated, checked, where_seen, optional, group, under}
use Rattle.wat_words.specs.Words.{quoted, annotation_word}

-- Identifiers: the name, a flag that is true if the name is owned, the generation, and the byte offset.

pub record Spelled : Type 0 where
  pub name : List ℕ
  pub owned : Bool
  pub generation : ℕ
  pub span : ℕ

abbrev pub spelled : Identifier → Spelled
spelled i = record { name = i.name; owned = i.owned; generation = i.generation; span = i.span }

-- The name of an identifier, with a flag that is true if the name is owned, because it was decoded.
abbrev pub named_by : Bool → Option (Result (List ℕ) Report) → Option (Result (List ℕ × Bool) Report)
named_by owned None = None
named_by owned (Some (Ok name)) = Some (Ok (name, owned))
named_by owned (Some (Err f)) = Some (Err f)

abbrev pub as_owned_id : Reader (List ℕ × Bool)
as_owned_id text t kind = named_by (name_is_decoded text t) (as_id text t kind)

abbrev pub identifier : Reading Spelled
identifier = mapped (λ v. record { name = v.0.0; owned = v.0.1; generation = 0; span = v.1 }) (spanned (token as_owned_id (codes "expected an identifier")))

abbrev pub an_identifier : Sight
an_identifier = sight_of as_id

-- Integers: a function `fits` maps the sign and the natural number that the digits denote to a value of the type.

-- Unsigned integers below a bound. A minus sign is an error, also before 0.
abbrev pub unsigned_below : ℕ → Bool × ℕ → Option ℕ
unsigned_below bound (true, n) = None
unsigned_below bound (false, n) = if nat_lt n bound then Some n else None

-- Signed integers from `-half` to `2 * half - 1`. A number from `half` on denotes the number less `2 * half`.
abbrev pub signed_within : ℕ → Bool × ℕ → Option ℤ
signed_within half (true, n) = if nat_le n half then Some (neg_ℤ (pos n)) else None
signed_within half (false, n) =
    if nat_lt n half then Some (pos n) else if nat_lt n (2 * half) then Some (pos n -ℤ pos (2 * half)) else None

-- `signed_within`, as a definition that proof search does not unfold.
unfoldable pub signed_number : ℕ → Bool × ℕ → Option ℤ
signed_number half n = signed_within half n

abbrev pub integer : {V : Type 0} → List ℕ → (Bool × ℕ → Option V) → Reading V
integer name fits =
    checked fits (codes "invalid " ++ name ++ codes " number: constant out of range") (token as_integer (codes "expected a " ++ name))

-- An unsigned 32-bit integer.
abbrev pub u32 : Reading ℕ
u32 = integer (codes "u32") (unsigned_below (2 ^ 32))

abbrev pub an_integer : Sight
an_integer = sight_of as_integer

-- Indices: an identifier, or a `u32` with its byte offset.

pub data Reference : Type 0 where
  Number : ℕ → ℕ → Reference
  ByName : Spelled → Reference

abbrev pub reference : Index → Reference
reference (index.Num n span) = Number n span
reference (index.Id i) = ByName (spelled i)

abbrev pub an_index : Reading Reference
an_index =
    where_seen an_identifier (mapped ByName identifier)
    (where_seen an_integer (mapped (λ v. Number v.0 v.1) (spanned u32))
    (refuse (codes "unexpected token, expected an index or an identifier")))

abbrev pub as_index : Reader (Unit {0})
as_index text t kind.Id = Some (Ok tt)
as_index text t (kind.Integer k) = Some (Ok tt)
as_index text t kind = None

abbrev pub sees_index : Sight
sees_index = sight_of as_index

-- An item reference: its kind and its index, in a group.
abbrev pub item : {V : Type 0} → Reading V → Reading (V × Reference)
item m = group (pair m an_index)

-- A peek after a `(`. False if the visible token is of another kind.
abbrev pub after_open : Sight → Sight
after_open sight a = seen_after sight a (token_value_at as_open a)

-- Strings: bytes, or a text in UTF-8, which may be copied into an allocation of its own.

abbrev pub bytes : Reading (List ℕ)
bytes = token as_string (codes "expected a string")

abbrev pub utf8_or_refused : List ℕ → Reading (List ℕ)
utf8_or_refused v = if is_utf8 v then give v else refuse_after (codes "malformed UTF-8 encoding")

abbrev pub text : Reading (List ℕ)
text = and_then bytes utf8_or_refused

abbrev pub owned_text : Reading (List ℕ)
owned_text = allocated text

abbrev pub a_string : Sight
a_string = sight_of as_string

-- Words: a token of a kind whose value is a given word. The value of the reading is the token's byte offset.

abbrev pub spelling_by : List ℕ → Option (Result (List ℕ) Report) → Option (Result (Unit {0}) Report)
spelling_by w None = None
spelling_by w (Some (Ok v)) = if bytes_eq v w then Some (Ok tt) else None
spelling_by w (Some (Err f)) = Some (Err f)

-- A reader of tokens with this word. A token whose name has an error yields that error.
abbrev pub spelling : Reader (List ℕ) → List ℕ → Reader (Unit {0})
spelling read w text t k = spelling_by w (read text t k)

abbrev pub is_taken : {V : Type 0} → Result (Option (V × ℕ)) Report → Result Bool Report
is_taken (Ok None) = Ok false
is_taken (Ok (Some v)) = Ok true
is_taken (Err f) = Err f

abbrev pub word : Reader (List ℕ) → List ℕ → List ℕ → Reading ℕ
word read w expected = mapped (λ v. v.1) (spanned (token (spelling read w) expected))

abbrev pub sees_word : Reader (List ℕ) → List ℕ → Sight
sees_word read w a = without_allocation (is_taken (token_value_at (spelling read w) a))

unfoldable pub keyword : Bool → List ℕ → Reading ℕ
keyword at w = word as_keyword w (codes "expected keyword " ++ quoted at w)

unfoldable pub reserved_symbol : Bool → List ℕ → Reading ℕ
reserved_symbol at w = word as_reserved w (codes "expected reserved symbol " ++ quoted at w)

unfoldable pub annotation : Bool → List ℕ → Reading ℕ
annotation at w = word as_annotation w (codes "expected annotation " ++ quoted at w)

-- A peek for an annotation of this name. The name of each annotation is compared with it, and may have to be decoded
-- for that.
abbrev pub sees_annotation : List ℕ → Sight
sees_annotation w a = record { known = is_taken (token_value_at (spelling as_annotation w) a); takes = allocates_at as_annotation a }

-- The reading of `@name` and a string, whose value is the string; and the optional group that contains them. The peek
-- for the group compares the second token with `@name`.
abbrev pub name_annotation : Reading (List ℕ)
name_annotation = and_then (annotation true (annotation_word 1)) (λ at. text)

abbrev pub optional_name : Reading (Option (List ℕ))
optional_name = optional (second (sees_annotation (annotation_word 1))) (group name_annotation)

-- A reading during which the names of the standard annotations are registered.
abbrev pub under_standard : {V : Type 0} → Reading V → Reading V
under_standard m =
    under (codes "custom") (under (codes "producers") (under (codes "name") (under (codes "dylink.0") (under (codes "metadata.code.branch_hint") m))))
