-- Lemmas about the readings of the library's types: each consumes a token.
use Rattle.std.proofs.Common.{◌^◌, ℕ, List, [], ◌∷◌, Bool, true}
use Rattle.std.specs.Prelude.{◌++◌, codes, length, nat_le, Option}
use Rattle.wat_lexer_parser.specs.lemmas.ReadingLaws.{advances_token, advances_and_then, advances_mapped, advances_spanned, advances_checked, advances_where_seen, advances_refuse, advances_group}
use Rattle.wat_lexer_parser.specs.parser.Takers.{Reader, as_integer, as_string, as_annotation, as_keyword, as_reserved}
use Rattle.wat_lexer_parser.specs.readings.Attempts.{attempts_held}
use Rattle.wat_lexer_parser.specs.readings.Choices.{Choice, one_after, one_of}
use Rattle.wat_lexer_parser.specs.readings.Readings.{Reading, also_taking, token, refuse, mapped, pair, spanned, where_seen}
use Rattle.wat_lexer_parser.specs.readings.Reads.{Advances}
use Rattle.wat_lexer_parser.specs.readings.Types.{Reference, Number, ByName, Spelled, identifier, an_identifier, integer, an_integer, u32, unsigned_below, an_index, item, bytes, text, utf8_or_refused, spelling, word, keyword, reserved_symbol, annotation, name_annotation, as_owned_id}
use Rattle.wat_words.specs.Words.{quoted, annotation_word}

-- The reading of each alternative consumes a token.
abbrev pub EachAdvances : {V : Type 0} → List (Choice V) → Type 0
EachAdvances [] = Unit {0}
EachAdvances (c ∷ cs) = Advances c.reading × EachAdvances cs

one_after_advances : {V : Type 0} (missed : List (List ℕ)) (cs : List (Choice V)) → EachAdvances cs → Advances (one_after missed cs)
one_after_advances missed [] h a v e = cc
one_after_advances missed (c ∷ cs) h a v e =
    advances_where_seen c.sight c.reading (λ a. also_taking (nat_le attempts_held (length missed)) (one_after (missed ++ (c.shows ∷ [])) cs a)) h.0 (one_after_advances (missed ++ (c.shows ∷ [])) cs h.1) a v e

pub advances_one_of : {V : Type 0} (cs : List (Choice V)) → EachAdvances cs → Advances (one_of cs)
advances_one_of cs h = one_after_advances [] cs h

pub advances_identifier : Advances identifier
advances_identifier =
    let m = token as_owned_id (codes "expected an identifier") in
    advances_mapped {W = Spelled} (λ v. record { name = v.0.0; owned = v.0.1; generation = 0; span = v.1 }) (spanned m) (advances_spanned m (advances_token as_owned_id (codes "expected an identifier")))

pub advances_integer : {V : Type 0} (name : List ℕ) (fits : Bool × ℕ → Option V) → Advances (integer name fits)
advances_integer name fits = advances_checked fits _ _ (advances_token as_integer (codes "expected a " ++ name))

pub advances_u32 : Advances u32
advances_u32 = advances_integer (codes "u32") (unsigned_below (2 ^ 32))

pub advances_index : Advances an_index
advances_index =
    let number : Reading Reference = mapped (λ v. Number v.0 v.1) (spanned u32) in
    let other : Reading Reference = refuse (codes "unexpected token, expected an index or an identifier") in
    let numbered : Advances number = advances_mapped (λ v. Number v.0 v.1) (spanned u32) (advances_spanned u32 advances_u32) in
    advances_where_seen an_identifier (mapped ByName identifier) (where_seen an_integer number other) (advances_mapped ByName identifier advances_identifier)
    (advances_where_seen an_integer number other numbered (advances_refuse Reference (codes "unexpected token, expected an index or an identifier")))

pub advances_item : {V : Type 0} (m : Reading V) → Advances (item m)
advances_item m = advances_group (pair m an_index)

pub advances_bytes : Advances bytes
advances_bytes = advances_token as_string (codes "expected a string")

pub advances_text : Advances text
advances_text = advances_and_then bytes utf8_or_refused advances_bytes

pub advances_word : (read : Reader (List ℕ)) (w expected : List ℕ) → Advances (word read w expected)
advances_word read w expected =
    let m = token (spelling read w) expected in advances_mapped (λ v. v.1) (spanned m) (advances_spanned m (advances_token (spelling read w) expected))

pub advances_keyword : (at : Bool) (w : List ℕ) → Advances (keyword at w)
unfolding keyword
advances_keyword at w = advances_word as_keyword w (codes "expected keyword " ++ quoted at w)

pub advances_reserved_symbol : (at : Bool) (w : List ℕ) → Advances (reserved_symbol at w)
unfolding reserved_symbol
advances_reserved_symbol at w = advances_word as_reserved w (codes "expected reserved symbol " ++ quoted at w)

pub advances_annotation : (at : Bool) (w : List ℕ) → Advances (annotation at w)
unfolding annotation
advances_annotation at w = advances_word as_annotation w (codes "expected annotation " ++ quoted at w)

pub advances_name_annotation : Advances name_annotation
advances_name_annotation = advances_and_then (annotation true (annotation_word 1)) (λ at. text) (advances_annotation true (annotation_word 1))
