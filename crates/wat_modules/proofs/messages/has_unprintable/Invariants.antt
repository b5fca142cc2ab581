use Rattle.std.proofs.Common.{◌≡◌, IsUtf8}
use Rattle.std.specs.List.{list_any}
use Rattle.std.specs.Str.{chars}
use Rattle.std.specs.Str.Iter.{chars_rest}
use Rattle.wat_modules.specs.Messages.{is_unprintable}
use Rattle.wat_modules.proofs.messages.has_unprintable.Given as goal

abbrev pub invariant-loop-c : goal.invariant-loop-c
invariant-loop-c l = IsUtf8 (chars_rest l.c-iterator) × (list_any is_unprintable (chars (chars_rest l.c-iterator)) ≡ list_any is_unprintable (chars l.fn.text))
