use Rattle.std.proofs.Common.{◌≡◌, ◌≢◌, ◌≤◌, ◌<◌, ◌+◌, ◌-◌, ◌/◌, ◌^◌, ℕ, List, length, drop, get_or, ap, ◌∙◌, subst, sym, arith}
use Rattle.std.specs.Int.Count.{count_trailing_zeros}
use Rattle.wat_lex.specs.inside.Nesting.{Reaches, delimits, passing}
use Rattle.wat_lex.proofs.grammar.Comments.{open_at, close_at}
use Rattle.wat_lex.proofs.inside.Leads.{Lowest, lowest_passes, none_passes}
use Rattle.wat_lex.proofs.inside.Nesting.{after_many, past_stretch, opening_bytes, closing_bytes}
use Rattle.wat_lex.proofs.lexer.scan.comments.past_delimiters.Goals as goal
use Rattle.wat_lex.proofs.lexer.scan.comments.past_delimiters.Goals.{then-text-i-eq40, else-text-i-eq40}

-- What is known at offset `i` of a block: its further delimiters, and what is open.
record At (s : List ℕ) (from i level found : ℕ) : Type 0 where
  some : 0 < level
  on : from ≤ i
  range : from + 17 ≤ length s
  mask : found ≡ passing (delimits s) i (from + 16 - i)
  reaches : Reaches s level (drop i s)
  left : found ≢ 0

low : (s : List ℕ) (from i level found : ℕ) → At s from i level found → Lowest (delimits s) i (from + 16 - i) (count_trailing_zeros 64 found)
low s from i level found h = let on = h.on in lowest_passes (delimits s) i (from + 16 - i) found h.mask (omega arith) h.left

here : (s : List ℕ) (from i level found : ℕ) → At s from i level found → Reaches s level (drop (i + count_trailing_zeros 64 found) s)
here s from i level found h =
    let l = low s from i level found h in
    let r = h.range in
    past_stretch s i (i + count_trailing_zeros 64 found) level (omega arith) (omega (arith, l.within, r)) h.some l.before h.reaches

opened : (s : List ℕ) (from i level found : ℕ) → At s from i level found → get_or s (i + count_trailing_zeros 64 found) 0 ≡ 40 → Reaches s (level + 1) (drop (i + count_trailing_zeros 64 found + 2) s)
opened s from i level found h e =
    let p = i + count_trailing_zeros 64 found in
    let l = low s from i level found h in
    let r = h.range in
    open_at s p level (omega (arith, l.within, r)) e (opening_bytes s p l.is e) h.some (here s from i level found h)

closed : (s : List ℕ) (from i level found : ℕ) → At s from i level found → get_or s (i + count_trailing_zeros 64 found) 0 ≢ 40 → Reaches s (level - 1) (drop (i + count_trailing_zeros 64 found + 2) s)
closed s from i level found h e =
    let p = i + count_trailing_zeros 64 found in
    let l = low s from i level found h in
    let r = h.range in
    let bytes = closing_bytes s p l.is e in
    close_at s p level (omega (arith, l.within, r)) bytes.0 bytes.1 h.some (here s from i level found h)

rest : (s : List ℕ) (from i level found : ℕ) → At s from i level found → found / 2 ^ count_trailing_zeros 64 found / 2 ^ 2 ≡ passing (delimits s) (i + count_trailing_zeros 64 found + 2) (from + 16 - (i + count_trailing_zeros 64 found + 2))
rest s from i level found h =
    let z = count_trailing_zeros 64 found in
    let n = from + 16 - i in
    let few : n - z - 2 ≡ from + 16 - (i + z + 2) = omega arith in
    ap (λ x. x / 2 ^ 2) (ap (λ x. x / 2 ^ z) h.mask ∙ after_many (delimits s) i n z) ∙ after_many (delimits s) (i + z) (n - z) 2 ∙ ap (passing (delimits s) (i + z + 2)) few

pub loop-found-init : goal.loop-found-init
loop-found-init c =
    let few : 16 ≡ c.args.from + 16 - c.args.from = omega arith in
    record {
      some = c.requires.some;
      few = c.requires.few;
      on = omega arith;
      range = omega arith;
      mask = c.requires.mask ∙ ap (passing (delimits c.args.text.now) c.args.from) few;
      reaches = c.requires.reaches;
    }

pub bounds-text-i : goal.bounds-text-i
bounds-text-i c =
    let h : At c.args.text.now c.args.from c.loop-found.i c.loop-found.level c.loop-found.found =
    record { some = c.loop-found.invariant.some; on = c.loop-found.invariant.on; range = c.requires.range; mask = c.loop-found.invariant.mask; reaches = c.loop-found.invariant.reaches; left = c.loop-found-test.true } in
    let l = low _ _ _ _ _ h in
    omega (arith, l.within, c.requires.range)

pub returns-then-level-eq0-clause-range : goal.returns-then-level-eq0-clause-range
returns-then-level-eq0-clause-range c =
    let h : At c.args.text.now c.args.from c.loop-found.i c.loop-found.level c.loop-found.found =
    record { some = c.loop-found.invariant.some; on = c.loop-found.invariant.on; range = c.requires.range; mask = c.loop-found.invariant.mask; reaches = c.loop-found.invariant.reaches; left = c.loop-found-test.true } in
    let l = low _ _ _ _ _ h in
    omega (arith, l.within, c.requires.range)

pub returns-then-level-eq0-clause-reaches : goal.returns-then-level-eq0-clause-reaches
returns-then-level-eq0-clause-reaches c =
    let s = c.args.text.now in
    let h : At s c.args.from c.loop-found.i c.loop-found.level c.loop-found.found =
    record { some = c.loop-found.invariant.some; on = c.loop-found.invariant.on; range = c.requires.range; mask = c.loop-found.invariant.mask; reaches = c.loop-found.invariant.reaches; left = c.loop-found-test.true } in
    let t = drop (c.loop-found.i + count_trailing_zeros 64 c.loop-found.found + 2) s in
    subst (λ x. Reaches s x t) c.if-level-eq0.true (elim c.if-text-i-eq40.branch [
      | then-text-i-eq40 w ↦ subst (λ x. Reaches s x t) (sym w.level-is) (opened _ _ _ _ _ h w.if-text-i-eq40.true)
      | else-text-i-eq40 w ↦ subst (λ x. Reaches s x t) (sym w.level-is) (closed _ _ _ _ _ h w.if-text-i-eq40.false)
    ])

pub loop-found-preserved : goal.loop-found-preserved
loop-found-preserved c =
    let s = c.args.text.now in
    let h : At s c.args.from c.loop-found.i c.loop-found.level c.loop-found.found =
    record { some = c.loop-found.invariant.some; on = c.loop-found.invariant.on; range = c.requires.range; mask = c.loop-found.invariant.mask; reaches = c.loop-found.invariant.reaches; left = c.loop-found-test.true } in
    let l = low _ _ _ _ _ h in
    let t = drop (c.loop-found.i + count_trailing_zeros 64 c.loop-found.found + 2) s in
    record {
      some = omega (arith, c.if-level-eq0.false);
      few = elim c.if-text-i-eq40.branch [ then-text-i-eq40 w ↦ omega (arith, w.level-is, c.loop-found.invariant.few) | else-text-i-eq40 w ↦ omega (arith, w.level-is, c.loop-found.invariant.few) ];
      on = omega (arith, c.loop-found.invariant.on);
      range = omega (arith, l.within, c.loop-found.invariant.on);
      mask = rest _ _ _ _ _ h;
      reaches = elim c.if-text-i-eq40.branch [
        | then-text-i-eq40 w ↦ subst (λ x. Reaches s x t) (sym w.level-is) (opened _ _ _ _ _ h w.if-text-i-eq40.true)
        | else-text-i-eq40 w ↦ subst (λ x. Reaches s x t) (sym w.level-is) (closed _ _ _ _ _ h w.if-text-i-eq40.false)
      ];
    }

pub returns-clause-reaches : goal.returns-clause-reaches
returns-clause-reaches c =
    let s = c.args.text.now in
    let i = c.loop-found.i in
    let v = c.loop-found.invariant in
    let none = none_passes (delimits s) i (c.args.from + 16 - i) c.loop-found.found v.mask c.loop-found-test.false in
    past_stretch s i c.max.result c.loop-found.level (omega (arith, c.max.ensures)) (omega (arith, c.max.ensures, v.range, c.requires.range)) v.some (λ k a b. none k a (omega (arith, c.max.ensures, a, b))) v.reaches
