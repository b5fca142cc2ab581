use Rattle.std.proofs.Common.{◌≡◌, ◌∙◌, ◌≤◌, ◌<◌, ◌+◌, ◌-◌, ◌*◌, ◌/◌, ◌%◌, ◌^◌, ◌∷◌, [], ℕ, List, Some, length, map, ap, sym, subst, refl, rules, arith}
use Rattle.std.specs.Prelude.{slice_get}
use Rattle.std.proofs.lemmas.List.{length-map}
use Rattle.std.proofs.lemmas.Option.{slice_get_within}
use Rattle.wat_module_tokens.specs.declared.stream.PackedU32.{PackedU32}
use Rattle.wat_module_tokens.specs.declared.stream.PackedToken.{PackedToken}
use Rattle.wat_module_tokens.specs.declared.stream.PackedToken.TheVariants as short
use Rattle.wat_module_tokens.specs.Terminals.{past, terminal, Terminal, Open, Close, Word}
use Rattle.wat_module_tokens.specs.Tokens.{AreCharacters, IsReadable, Stream, bytes_at, first_len, from_position, joined, number_of, second_at, second_len, step_of, terminal_in, terminals_in}
use Rattle.wat_module_tokens.specs.TokenCursor.{terminals_of}
use Rattle.wat_module_tokens.proofs.Positions.{from_index, pieces}
use Rattle.wat_module_tokens.proofs.stream.TokenStream.cursor.Goals as goal

pub returns : goal.returns
unfolding terminals_of
returns c =
    let text = c.self.inside.text.now in
    let ks = c.self.inside.kept.now in
    let ts = c.self.inside.tokens.items in
    let view : c.args.self.now ≡ record { text = text; terminals = pieces text ks ts } = sym c.self.view_is in
    subst (λ (s : Stream). from_position 0 s.terminals ≡ joined s.terminals) (sym view) (from_index text ks ts 0)
