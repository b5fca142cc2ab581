-- Theorems about every text and setting, from lemmas on words, tilings and names.
use Rattle.std.proofs.Common.{ℕ, [], ◌∷◌, ◌∙◌, refl, sym, subst, inl, inr}
use Rattle.std.specs.Prelude.{Some, None, Ok, Err, Option, Result}
use Rattle.wat_lex.specs.tokens.EverySetting.{ScanResultExists, ScanResultIsUnique, EachBoundaryHasTiling, TilingsAreUnique, TokensOfCuts, TokensOfMoves, TokensAreReadable, TokensEndAtBoundaries, WordsOfTokens, NamesExist, NamesAreUnique, NamesAreValues, StringsAreValues, CutsAreOne}
use Rattle.wat_lex.specs.tokens.Faults.{FaultAt}
use Rattle.wat_lex.specs.tokens.Setting.{Setting}
use Rattle.wat_lex.specs.tokens.UniqueTilings.{SomeTiling, ResultAt}
use Rattle.wat_lex.specs.declared.lexer.kinds.Token.{Token}
use Rattle.wat_lex.specs.declared.lexer.kinds.TokenKind.TheVariants.{String, Id, Annotation}
use Rattle.wat_lex.specs.declared.lexer.faults.LexFault.{LexFault}
use Rattle.wat_lex.proofs.tokens.CutTexts as cut_texts
use Rattle.wat_lex.proofs.tokens.RawLaws.{after}
use Rattle.wat_lex.proofs.tokens.MovedTexts as moved_texts
use Rattle.wat_lex.proofs.values.OneValues.{one_name, one_value, one_cut}
use Rattle.wat_lex.proofs.tokens.OneTilings.{one_tiling, is_at_one}
use Rattle.wat_lex.proofs.values.SomeValues.{name_of, value_of}
use Rattle.wat_lex.proofs.tokens.SomeTilings.{some_tiling}
use Rattle.wat_lex.proofs.tokens.ReadableTokens.{token_of, token_chars}
use Rattle.wat_lex.proofs.values.WordValues.{string_value_is, name_good, name_fault}

first_is_at : (s : Setting) (p : ℕ) → SomeTiling s p → (r : Result (Option Token) LexFault) × ResultAt s p r
first_is_at s p ([], None, h) = (Ok None, h.tiling ∙ h.ends)
first_is_at s p ([], Some f, h) = (Err f, subst (λ q. FaultAt s q f) (sym h.tiling) h.ends)
first_is_at s p (t ∷ ts, e, h) = (Ok (Some t), h.tiling.0)

pub something_is_at : ScanResultExists
something_is_at s p u b = first_is_at s p (some_tiling s p u b)

pub one_thing_is_at : ScanResultIsUnique
one_thing_is_at s p q r h g = is_at_one s p q r h g

pub each_place_is_tiled : EachBoundaryHasTiling
each_place_is_tiled s p u b = some_tiling s p u b

pub tilings_are_one : TilingsAreUnique
tilings_are_one s p = one_tiling s p

pub tokens_of_cuts : TokensOfCuts
tokens_of_cuts s p u b = cut_texts.cuts s p u b

pub tokens_of_moves : TokensOfMoves
tokens_of_moves s p u b = moved_texts.moves s p u b

pub tokens_are_readable : TokensAreReadable
tokens_are_readable s p t b h = token_of s p t b h

pub tokens_end_at_boundaries : TokensEndAtBoundaries
tokens_end_at_boundaries s p t u b h = after s p t u b h

pub words_of_tokens : WordsOfTokens
words_of_tokens text t u h = token_chars text t u h

pub names_are_there : NamesExist
names_are_there empty w (inl h) = name_of empty Id w (inl refl) h
names_are_there empty w (inr h) = name_of empty Annotation w (inr refl) h

pub names_are_one : NamesAreUnique
names_are_one empty w = one_name empty w

pub names_are_values : NamesAreValues
names_are_values = record { good = λ empty w name h u n. name_good empty w name h u n; fault = λ empty e w h. name_fault empty e w h }

pub strings_are_values : StringsAreValues
strings_are_values = record { some = λ w h. value_of String w refl h; one = one_value; value = string_value_is }

pub cuts_are_one : CutsAreOne
cuts_are_one w = one_cut w
