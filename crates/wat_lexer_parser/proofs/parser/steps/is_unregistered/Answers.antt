use Rattle.std.proofs.Common.{◌≡◌, ◌<◌, ◌∙◌, ap, sym, refl, Bool, true, false, rules, List, ℕ}
use Rattle.std.specs.Prelude.{Result, Ok, Err, Option, Some, None, IsTrue, is_some, not}
use Rattle.std.specs.Result.{result_err}
use Rattle.wat_lex.specs.declared.lexer.faults.LexError.{LexError}
use Rattle.wat_lex.specs.declared.lexer.faults.LexError.TheVariants.{EmptyAnnotation}
use Rattle.wat_lex.specs.tokens.ReadableTokens.{word_of}
use Rattle.wat_lex.specs.values.WordValues.{name_value, empty_name}
use Rattle.wat_lexer_parser.specs.inside.Table.{is_quoted}
use Rattle.wat_lexer_parser.specs.names.RegisteredNames.{no_names}
use Rattle.wat_lexer_parser.proofs.inside.PlainNames.{plain_value}
use Rattle.wat_lexer_parser.proofs.shown.Annotations.{skipped}
use Rattle.wat_lexer_parser.proofs.parser.steps.is_unregistered.Goals as goal

-- A result without an error is a name.
named : (r : Result (List ℕ) LexError) → result_err r ≡ None → (x : List ℕ) × (r ≡ Ok x)
named (Ok x) e = (x, refl)
named (Err f) e = cc

none_is : {X : Type 0} → (o : Option X) (b : Bool) → is_some o ≡ not b → IsTrue b → o ≡ None
none_is None b e t = refl
none_is (Some x) b e t = let no : true ≡ false = e ∙ ap not t in cc

pub returns : goal.returns
returns c = λ more.
    let long : 1 < c.args.token.len = search rules in
    let text = c.args.text.now in
    let plain : is_quoted text c.args.token ≡ false = search rules in
    let none : c.args.names.now ≡ no_names = search rules in
    let name = plain_value c.tokens.ensures.word c.names.ensures.value text c.args.token c.utf8.text c.requires.token c.requires.kind plain long in
    skipped text c.args.names.now c.args.token name.0 none c.requires.kind name.1

pub returns-then-is_quoted : goal.returns-then-is_quoted
returns-then-is_quoted c = λ fine.
    let text = c.args.text.now in
    let none : c.args.names.now ≡ no_names = search rules in
    let word = word_of text c.args.token in
    let whole = ap (λ k. result_err (name_value (empty_name k) word)) (sym c.requires.kind) ∙ sym c.name_fault.ensures ∙ none_is c.name_fault.result c.is_none.result c.is_none.ensures fine in
    let name = named (name_value EmptyAnnotation word) whole in
    skipped text c.args.names.now c.args.token name.0 none c.requires.kind name.1
