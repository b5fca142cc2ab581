-- The readings of the types of the library are independent of the start offset. Only spans in values are mapped. These
-- are proofs, which a reader may skip.
use Rattle.std.proofs.Common.{◌≡◌, ℕ, List, Bool, true, false, map-id, refl, sym, Some, None}
use Rattle.std.specs.List.{flat_map}
use Rattle.std.specs.Prelude.{◌^◌, ◌++◌, Option, codes, if◌then◌else◌, map}
use Rattle.std.specs.Option.{option_map}
use Rattle.std.specs.Str.{is_utf8}
use Rattle.wat_lexer_parser.specs.parser.Sights.{Sight, second}
use Rattle.wat_lexer_parser.specs.parser.Takers.{Reader, as_annotation, as_id, as_integer, as_keyword, as_string}
use Rattle.wat_lexer_parser.specs.readings.Readings.{Reading, give, group, joined_while, mapped, refuse, refuse_after, spanned, token, where_seen, while_seen}
use Rattle.wat_lexer_parser.specs.readings.Types.{Reference, ByName, Number, Spelled, an_identifier, an_index, an_integer, annotation, bytes, identifier, integer, keyword, name_annotation, optional_name, owned_text, sees_annotation, spelling, text, u32, under_standard, unsigned_below, utf8_or_refused, word, as_owned_id}
use Rattle.wat_words.specs.Words.{annotation_word, quoted}
use Rattle.wat_format_theorems.specs.Reads.{MovesReading, MovesReader, MovesSight}
use Rattle.wat_format_theorems.specs.lemmas.Moving.{moves_allocated, moves_and_then, moves_as, moves_checked, moves_give, moves_group, moves_mapped, moves_optional, moves_refuse, moves_refuse_after, moves_spanned, moves_token, moves_under, moves_where_seen, moves_while, needs_checked, needs_token, spanned_moved}
use Rattle.wat_format_theorems.specs.lemmas.Seeing.{NeedsToken, ShownLaws, moves_annotation, moves_id, moves_integer, moves_keyword, moves_named, moves_owned_id, moves_second, moves_sight_of, moves_spelling, moves_string}

-- `stays` maps values without spans.
abbrev pub stays : {V : Type 0} → (ℕ → ℕ) → V → V
stays move v = v

-- `spelled_moved` maps the span of an identifier, and `reference_moved` that of an index.
abbrev pub spelled_moved : (ℕ → ℕ) → Spelled → Spelled
spelled_moved move i = record i { span = move i.span }

abbrev pub reference_moved : (ℕ → ℕ) → Reference → Reference
reference_moved move (Number n span) = Number n (move span)
reference_moved move (ByName i) = ByName (spelled_moved move i)

-- `span_moved` maps the offset of a value.
abbrev pub span_moved : (ℕ → ℕ) → ℕ → ℕ
span_moved move at = move at

pub moves_identifier : ShownLaws → MovesReading 1 spelled_moved identifier
moves_identifier laws =
    let m = token as_owned_id (codes "expected an identifier") in
    moves_mapped (spanned_moved stays) spelled_moved (λ v. record { name = v.0.0; owned = v.0.1; generation = 0; span = v.1 }) 1 (spanned m) (λ move v. refl)
    (moves_spanned laws stays 1 m (needs_token as_owned_id (codes "expected an identifier")) (moves_token laws stays as_owned_id (codes "expected an identifier") moves_owned_id))

same_option : {V : Type 0} (o : Option V) → o ≡ option_map (λ v. v) o
same_option None = refl
same_option (Some v) = refl

-- Integers of any type.
pub moves_number : ShownLaws → {V : Type 0} (name : List ℕ) (fits : Bool × ℕ → Option V) → MovesReading 1 stays (integer name fits)
moves_number laws name fits =
    let m = token as_integer (codes "expected a " ++ name) in
    moves_checked laws stays stays fits (codes "invalid " ++ name ++ codes " number: constant out of range") 1 m (λ move v. same_option (fits v)) (moves_token laws stays as_integer (codes "expected a " ++ name) moves_integer)

needs_u32 : NeedsToken u32
needs_u32 =
    needs_checked (unsigned_below (2 ^ 32)) (codes "invalid " ++ codes "u32" ++ codes " number: constant out of range") (token as_integer (codes "expected a " ++ codes "u32")) (needs_token as_integer (codes "expected a " ++ codes "u32"))

pub moves_u32 : ShownLaws → MovesReading 1 stays u32
moves_u32 laws = moves_number laws (codes "u32") (unsigned_below (2 ^ 32))

pub moves_index : ShownLaws → MovesReading 1 reference_moved an_index
moves_index laws =
    let named : Reading Reference = mapped ByName identifier in
    let number : Reading Reference = mapped (λ v. Number v.0 v.1) (spanned u32) in
    let other : Reading Reference = refuse (codes "unexpected token, expected an index or an identifier") in
    let numbered : MovesReading 1 reference_moved number = moves_mapped (spanned_moved stays) reference_moved (λ v. Number v.0 v.1) 1 (spanned u32) (λ move v. refl) (moves_spanned laws stays 1 u32 needs_u32 (moves_u32 laws)) in
    moves_where_seen reference_moved 1 an_identifier named (where_seen an_integer number other) (moves_sight_of laws stays as_id moves_id) (moves_mapped spelled_moved reference_moved ByName 1 identifier (λ move v. refl) (moves_identifier laws))
    (moves_where_seen reference_moved 1 an_integer number other (moves_sight_of laws stays as_integer moves_integer) numbered (moves_refuse laws reference_moved 1 (codes "unexpected token, expected an index or an identifier")))

moves_word_at : ShownLaws → (read : Reader (List ℕ)) (w expected : List ℕ) → MovesReader stays read → MovesReading 1 span_moved (word read w expected)
moves_word_at laws read w expected r =
    let m = token (spelling read w) expected in
    moves_mapped (spanned_moved stays) span_moved (λ v. v.1) 1 (spanned m) (λ move v. refl) (moves_spanned laws stays 1 m (needs_token (spelling read w) expected) (moves_token laws stays (spelling read w) expected (moves_spelling read w r)))

pub moves_keyword_at : ShownLaws → (at : Bool) (w : List ℕ) → MovesReading 1 span_moved (keyword at w)
unfolding keyword
moves_keyword_at laws at w = moves_word_at laws as_keyword w (codes "expected keyword " ++ quoted at w) moves_keyword

pub moves_annotation_at : ShownLaws → (at : Bool) (w : List ℕ) → MovesReading 1 span_moved (annotation at w)
unfolding annotation
moves_annotation_at laws at w = moves_word_at laws as_annotation w (codes "expected annotation " ++ quoted at w) moves_annotation

pub moves_bytes : ShownLaws → MovesReading 1 stays bytes
moves_bytes laws = moves_token laws stays as_string (codes "expected a string") moves_string

moves_utf8 : (v : List ℕ) → MovesReading 0 stays (utf8_or_refused v)
moves_utf8 v = by_test (is_utf8 v)
  where
    by_test : (b : Bool) → MovesReading 0 stays (if b then give v else refuse_after (codes "malformed UTF-8 encoding"))
    by_test true = moves_give stays v (λ move. refl)
    by_test false = moves_refuse_after stays 0 (codes "malformed UTF-8 encoding")

pub moves_text : ShownLaws → MovesReading 1 stays text
moves_text laws = moves_and_then stays stays 1 0 bytes utf8_or_refused (moves_bytes laws) (λ s ts v h. moves_utf8 v s ts h)

pub moves_owned_text : ShownLaws → MovesReading 1 stays owned_text
moves_owned_text laws = moves_allocated stays 1 text (moves_text laws)

pub moves_name_annotation : ShownLaws → MovesReading 2 stays name_annotation
moves_name_annotation laws = moves_and_then span_moved stays 1 1 (annotation true (annotation_word 1)) (λ at. text) (moves_annotation_at laws true (annotation_word 1)) (λ s ts v h. moves_text laws s ts h)

pub moves_optional_name : ShownLaws → MovesReading 0 stays optional_name
moves_optional_name laws =
    let named = second (sees_annotation (annotation_word 1)) in
    moves_as (λ move. option_map (stays move)) stays 0 optional_name (λ move o. sym (same_option o))
    (moves_optional stays 4 named (group name_annotation) (moves_second laws (sees_annotation (annotation_word 1)) (moves_named laws (annotation_word 1))) (moves_group laws 2 stays name_annotation (moves_name_annotation laws)))

pub moves_under_standard : {V : Type 0} (moved : (ℕ → ℕ) → V → V) (n : ℕ) (m : Reading V) → MovesReading n moved m → MovesReading n moved (under_standard m)
moves_under_standard moved n m one =
    moves_under moved n (codes "custom") _ (moves_under moved n (codes "producers") _ (moves_under moved n (codes "name") _ (moves_under moved n (codes "dylink.0") _ (moves_under moved n (codes "metadata.code.branch_hint") m one))))

-- Lists of values without spans.

pub moves_all : {V : Type 0} (sight : Sight) (m : Reading V) → MovesSight sight → MovesReading 1 stays m → MovesReading 0 stays (while_seen sight m)
moves_all {V} sight m look one =
    let listed : (ℕ → ℕ) → List V → List V = λ move. map (stays move) in
    moves_as listed stays 0 (while_seen sight m) (λ move vs. map-id vs) (moves_while stays sight m look one)

pub moves_joined : {V : Type 0} (sight : Sight) (m : Reading (List V)) → MovesSight sight → MovesReading 1 stays m → MovesReading 0 stays (joined_while sight m)
moves_joined sight m look one = moves_mapped stays stays (λ vss. flat_map (λ vs. vs) vss) 0 (while_seen sight m) (λ move vss. refl) (moves_all sight m look one)
