-- A text takes at most two columns for each of its bytes.
use Rattle.std.proofs.Common.{◌<◌, ◌≤◌, ◌+◌, ◌*◌, ℕ, false, List, [], ◌∷◌, Option, Some, None, length, arith, length-append, inl, inr}
use Rattle.std.specs.Char.{len_utf8}
use Rattle.std.proofs.lemmas.Bool.{cases_lt}
use Rattle.std.proofs.lemmas.Bool.Decides.{nat_tests}
use Rattle.std.proofs.lemmas.Str.{length-encode, len_utf8_bounds}
use lib.Utf8.{encode, encodes}
use Rattle.unicode_width.specs.declared.kind.Kind.{Kind}
use Rattle.unicode_width.specs.declared.kind.Kind.TheVariants as kinds
use Rattle.unicode_width.specs.declared.state.After.{After}
use Rattle.unicode_width.specs.declared.state.Change.{Change}
use Rattle.unicode_width.specs.declared.state.Change.TheVariants.{Less, Same, One, Three}
use Rattle.unicode_width.specs.declared.state.State.{State}
use Rattle.unicode_width.specs.Kind.{kind}
use Rattle.unicode_width.specs.Width.{plain, single, of_kind, alone, joins, changed, joined_or, Reading, past_selectors, in_context, past_emoji, if_kept, step, read_before, str_width}

single_le : (c : ℕ) → (single false c).0 ≤ 3
single_le c = grind arith

of_kind_le : (c : ℕ) (k : Kind) → (of_kind false c k).0 ≤ 3
of_kind_le c kinds.Zero = omega arith
of_kind_le c kinds.Narrow = omega arith
of_kind_le c kinds.Wide = omega arith
of_kind_le c kinds.Ambiguous = omega arith
of_kind_le c kinds.Alef = omega arith
of_kind_le c kinds.KhmerLetter = omega arith
of_kind_le c kinds.TifinaghConsonant = omega arith
of_kind_le c kinds.LisuTone = omega arith
of_kind_le c kinds.RegionalIndicator = omega arith
of_kind_le c kinds.EmojiModifier = omega arith
of_kind_le c kinds.Emoji = omega arith
of_kind_le c kinds.Single = single_le c

alone_le : (c : ℕ) → (alone false c).0 ≤ 3
unfolding alone
alone_le c = of_kind_le c (kind c)

changed_le : (total : ℕ) (change : Change) → changed total change ≤ total + 3
changed_le total Less = omega arith
changed_le total Same = omega arith
changed_le total One = omega arith
changed_le total Three = omega arith

joined_le : (c total : ℕ) (j : Option (Change × After)) → (joined_or total j (alone false c)).0 ≤ total + 3
joined_le c total (Some j) = changed_le total j.0
joined_le c total None = omega (arith, alone_le c)

two_bytes : (c : ℕ) → 0xA0 < c → 2 ≤ len_utf8 c
two_bytes c h = grind (arith, nat_tests)

past_selectors_le : (c total : ℕ) (after : After) → (past_selectors false c total after).0 ≤ total + 3
unfolding past_selectors
past_selectors_le c total after = grind (arith, alone_le c, joined_le c total (joins false after c))

in_context_le : (c total : ℕ) (s : State) → (in_context false c total s).0 ≤ total + 3
unfolding in_context
in_context_le c total s = grind (arith, past_selectors_le c total s.after)

past_emoji_le : (c total : ℕ) (s : State) → (past_emoji false c total s).0 ≤ total + 3
unfolding past_emoji
past_emoji_le c total s = grind (arith, alone_le c, in_context_le c total s)

past_emoji_low : (c total : ℕ) (s : State) → c ≤ 0xA0 → (past_emoji false c total s).0 ≤ total + 2
unfolding past_emoji
past_emoji_low c total s l = grind (arith, nat_tests)

step_le : (c : ℕ) (r : Reading) → (step false c r).0 ≤ r.0 + 3
unfolding step
step_le c (total, s) = grind (arith, past_emoji_le c total s, past_emoji_le c total (record (if_kept s) { emoji = false }))

step_low : (c : ℕ) (r : Reading) → c ≤ 0xA0 → (step false c r).0 ≤ r.0 + 2
unfolding step
step_low c (total, s) l = grind (arith, past_emoji_low c total s l, past_emoji_low c total (record (if_kept s) { emoji = false }) l)

read_le : (cs : List ℕ) → (read_before false cs (0, plain)).0 ≤ 2 * length (encodes cs)
read_le [] = omega arith
read_le (c ∷ cs) =
    let after = read_le cs in
    let before = read_before false cs (0, plain) in
    let longer = length-append (encode c) (encodes cs) in
    let bounds = len_utf8_bounds c in
    elim (cases_lt 0xA0 c) [
      | inl high ↦ omega (arith, after, step_le c before, longer, length-encode c, two_bytes c high)
      | inr low ↦ omega (arith, after, step_low c before low, longer, length-encode c, bounds.0)
    ]

pub str_width_le : (cs : List ℕ) → str_width false cs ≤ 2 * length (encodes cs)
unfolding str_width
str_width_le cs = read_le cs
