-- The terminals that remain to be parsed. Not part of the standard.
use Rattle.std.specs.Prelude.{List}
use Rattle.wat_module_tokens.specs.declared.stream.TokenCursor.{TokenCursor}
use Rattle.wat_module_tokens.specs.Terminals.{Terminal}
use Rattle.wat_module_tokens.specs.Tokens.{from_position}

-- The terminals of a source from the current position on.
unfoldable pub terminals_of : TokenCursor → List Terminal
terminals_of p = from_position p.at p.source.now.terminals
