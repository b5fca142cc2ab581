-- An error as callers see it, computed from its fields.
use Rattle.std.specs.Prelude.{Option, Some, None}
use Rattle.std.specs.String.{string_bytes}
use Rattle.wat_lex.specs.errors.Errors.{Report, Cause, Lexical, Custom}
use Rattle.wat_lex.specs.errors.Rendering.{Excerpt, rendered_line}
use Rattle.wat_lex.specs.declared.error.Error.TheInside.{Inside}
use Rattle.wat_lex.specs.declared.error.Kind.{Kind}
use Rattle.wat_lex.specs.declared.error.Kind.TheVariants.{Memory, Plain, InText}
use Rattle.wat_lex.specs.declared.error.Located.{Located}
use Rattle.wat_lex.specs.declared.error.Reason.{Reason}
use Rattle.wat_lex.specs.declared.error.Reason.TheVariants.{Lex, Message}
use Rattle.wat_lex.specs.declared.error.text.Text.{Text}

abbrev pub excerpt_of : Text → Excerpt
excerpt_of t = record { line = t.line; column = t.column; snippet = rendered_line (string_bytes t.source) }

abbrev pub cause_of : Reason → Cause
cause_of (Lex e) = Lexical e
cause_of (Message m) = Custom (string_bytes m)

abbrev pub report_of : Located → Report
report_of l = record { offset = l.span; cause = cause_of l.reason; excerpt = Some (excerpt_of l.text) }

abbrev pub kind_view : Kind → Option Report
kind_view (Memory refused) = None
kind_view (Plain span m) = Some (record { offset = span; cause = Custom (string_bytes m); excerpt = None })
kind_view (InText located) = Some (report_of located.value)

abbrev pub error_view : Inside → Option Report
error_view e = kind_view e.kind
