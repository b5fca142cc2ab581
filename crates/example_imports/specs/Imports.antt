-- The grammar of import lists, over the visible tokens of a text. Not part of the standard.
use Rattle.std.specs.Prelude.{ℕ, false, List, Option, codes, refl}
use Rattle.example_imports.specs.declared.Kind.{Kind}
use Rattle.example_imports.specs.declared.Kind.TheVariants.{Code, Pages}
use Rattle.wat_lexer_parser.specs.readings.Types.{Spelled}
use Rattle.wat_lexer_parser.specs.rules.Formats.{Format, and_then, choice, group, many, mapped, nothing_else, one_of, optional}
use Rattle.wat_lexer_parser.specs.rules.FormatTypes.{a_keyword, an_identifier, identifier, keyword, optional_name, text, u32}
use Rattle.wat_words.specs.Words.{quoted}

-- An entry, as callers see it.
pub record Read : Type 0 where
  pub place : List ℕ
  pub field : List ℕ
  pub id : Option Spelled
  pub kind : Kind
  pub name : Option (List ℕ)

-- A kind: `code N` or `pages N`.
unfoldable pub kind : Format Kind
kind =
    one_of (choice (a_keyword (codes "code")) (quoted false (codes "code")) (and_then (keyword (codes "code")) (λ at. mapped Code u32))
    (choice (a_keyword (codes "pages")) (quoted false (codes "pages")) (and_then (keyword (codes "pages")) (λ at. mapped Pages u32)) nothing_else))

-- An entry after its two strings and its identifier: a kind and an optional name.
unfoldable pub entry_after_id : List ℕ → List ℕ → Option Spelled → Format Read
entry_after_id p f i = and_then kind (λ k. mapped (λ n. record { place = p; field = f; id = i; kind = k; name = n }) optional_name)

-- An entry after its two strings: an optional identifier, a kind and an optional name.
unfoldable pub entry_after_strings : List ℕ → List ℕ → Format Read
entry_after_strings p f = and_then (optional an_identifier identifier) (λ i. entry_after_id p f i)

-- An entry after its keyword: two strings, an optional identifier, a kind and an optional name.
unfoldable pub entry_body : Format Read
entry_body = and_then text (λ p. and_then text (λ f. entry_after_strings p f))

unfoldable pub inner : Format Read
inner = and_then (keyword (codes "entry")) (λ at. entry_body)

abbrev pub entry : Format Read
entry = group inner

-- The contents of a list's group: `imports` and the entries.
unfoldable pub list : Format (List Read)
list = and_then (keyword (codes "imports")) (λ at. many entry refl)

abbrev pub imports : Format (List Read)
imports = group list
