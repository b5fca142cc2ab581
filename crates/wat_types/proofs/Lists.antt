-- Lists of number types: each consumes a token, and all are concatenated.
use Rattle.std.proofs.Common.{◌≡◌, ◌∙◌, ◌<◌, ℕ, List, [], ◌∷◌, ◌++◌, true, false, arith, length, map, refl, sym, ap, Ok}
use Rattle.std.specs.List.{flat_map}
use Rattle.std.proofs.lemmas.List.{length-map}
use Rattle.wat_lexer_parser.specs.lemmas.ReadingLaws.{advances_mapped}
use Rattle.wat_lexer_parser.specs.lemmas.TypeLaws.{advances_keyword, advances_one_of}
use Rattle.wat_lexer_parser.specs.lemmas.WhileLaws.{some_takes}
use Rattle.wat_lexer_parser.specs.parser.Sights.{Sight}
use Rattle.wat_lexer_parser.specs.parser.State.{State}
use Rattle.wat_lexer_parser.specs.readings.Readings.{Reading, joined_while, mapped, known_as, while_seen}
use Rattle.wat_lexer_parser.specs.readings.Reads.{Advances}
use Rattle.wat_types.specs.Meanings.{f32_word, f64_word, i32_word, i64_word, kw, number_types, val}
use Rattle.wat_types.specs.declared.types.ValType.{ValType}
use Rattle.wat_types.specs.declared.types.ValType.TheVariants.{I32, I64, F32, F64}

number : (v : ValType) (word : List ℕ) → Advances (mapped (λ at. v) (kw word))
number v word = advances_mapped (λ at. v) (kw word) (advances_keyword false word)

pub advances_val : Advances val
unfolding val
advances_val = advances_one_of number_types (number I32 i32_word, (number I64 i64_word, (number F32 f32_word, (number F64 f64_word, tt))))

joined_map : {X V : Type 0} (f : X → List V) (xs : List X) → flat_map (λ vs. vs) (map f xs) ≡ flat_map f xs
joined_map f [] = refl
joined_map f (x ∷ xs) = ap (λ vs. f x ++ vs) (joined_map f xs)

-- The concatenation of the values of the lists.
pub joined_read : {X V : Type 0} (f : X → List V) (sight : Sight) (m : Reading (List V)) (a : State) (xs : List X) (vs : List V) → (while_seen sight m a).answer ≡ Ok (map f xs) → vs ≡ flat_map f xs → (joined_while sight m a).answer ≡ Ok vs
joined_read f sight m a xs vs h e = ap (known_as (λ vss. flat_map (λ vs. vs) vss)) h ∙ ap Ok (joined_map f xs ∙ sym e)

-- If there is a list, the reading may allocate.
pub joined_takes : {X V : Type 0} (f : X → List V) (sight : Sight) (m : Reading (List V)) (a : State) (xs : List X) → (while_seen sight m a).answer ≡ Ok (map f xs) → 0 < length xs → (joined_while sight m a).takes_memory ≡ true
joined_takes f sight m a xs h l = some_takes sight m a (map f xs) h (omega (arith, l, length-map xs f))
