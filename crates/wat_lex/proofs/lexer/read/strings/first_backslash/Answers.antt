use Rattle.std.proofs.Common.{sym, ap, ap₂, ◌∙◌, subst, ◌≡◌, ◌<◌, ◌==◌, ◌∷◌, [], ℕ, Bool, List, true, false, not, map, get_or, refl, arith}
use Rattle.std.proofs.lemmas.Bool.{both_ways}
use Rattle.std.proofs.lemmas.List.Sums.{prefix_len_passes, prefix_len_stops}
use Rattle.std.specs.List.{prefix_len}
use Rattle.std.specs.Simd.Lanes.{chunk, mask_l}
use Rattle.memchr.specs.Find.{is_byte}
use Rattle.wat_lex.specs.inside.Blocks.{failures}
use Rattle.wat_lex.proofs.inside.Blocks.{ends_at, ends_before}
use Rattle.wat_lex.proofs.lexer.read.strings.first_backslash.Goals as goal

twice : (b : Bool) → not (not b) ≡ b
twice true = refl
twice false = refl

all_twice : (p : ℕ → Bool) (v : List ℕ) → map (λ b. not (not (p b))) v ≡ map p v
all_twice p [] = refl
all_twice p (x ∷ v) = ap₂ (λ a b. a ∷ b) (twice (p x)) (all_twice p v)

denied : (b : Bool) → not b ≡ true → b ≡ false
denied true e = sym e
denied false e = refl

allowed : (b : Bool) → not b ≡ false → b ≡ true
allowed true e = refl
allowed false e = sym e

pub returns-then-found-ne0 : goal.returns-then-found-ne0
returns-then-found-ne0 c =
    let text = c.args.text.now in
    let found = c.equal_to-found.result in
    let other : ℕ → Bool = λ b. not (is_byte 92 b) in
    let mask : found ≡ failures other (chunk 0 16 text) =
    c.equal_to-found.ensures ∙ ap (λ v. mask_l (map (λ b. b == 92) v)) c.block_at.ensures ∙ sym (ap mask_l (all_twice (is_byte 92) (chunk 0 16 text))) in
    let first : prefix_len other text ≡ _ = ends_at other text 0 16 found mask (omega arith) (omega arith) c.if-found-ne0.true in
    let within : prefix_len other text < 16 = ends_before other text 0 16 found mask (omega arith) c.if-found-ne0.true in (
      record {
        low = omega arith;
        high = omega (arith, first, within);
        before = λ j _ l h. both_ways (is_byte 92 (get_or text j 0)) (denied _ (prefix_len_passes other text j 0 (omega (arith, first, l)))) h;
      },
      subst (λ k. is_byte 92 (get_or text k 0) ≡ true) first (allowed _ (prefix_len_stops other text 0 (omega (arith, within)))),
    )
