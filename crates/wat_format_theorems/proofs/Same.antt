-- The visible tokens of a text, and those of the same tokens at other offsets.
use Rattle.std.proofs.Common.{◌≡◌, ℕ, List, ◌∷◌, refl, sym, ap, ◌∙◌, subst}
use Rattle.std.proofs.lemmas.List.Elements.{All-cons, All-nil}
use Rattle.std.specs.Prelude.{Option, Some, None, Ok, Err, map}
use Rattle.std.specs.List.{All}
use Rattle.std.specs.Option.{option_map}
use Rattle.wat_lex.specs.tokens.ReadableTokens.{token_text}
use Rattle.wat_lex.specs.declared.lexer.kinds.Token.{Token}
use Rattle.wat_lexer_parser.specs.declared.parser.fault.Fault.{Fault}
use Rattle.wat_lexer_parser.specs.lemmas.After.{same_token}
use Rattle.wat_lexer_parser.specs.names.RegisteredNames.{Names}
use Rattle.wat_lexer_parser.specs.laws.AllShown.{AllShown, end, fault, next}
use Rattle.wat_lexer_parser.specs.shown.Shown.{Finding, Shown}
use Rattle.wat_lexer_parser.specs.shown.Showing.{OneThingShown}
use Rattle.wat_lexer_parser.specs.inside.ShownIn.{Showing, shown_in}
use Rattle.wat_format_theorems.specs.Moved.{token_moved, fault_moved}
use Rattle.wat_format_theorems.specs.Sides.{AllSame}
use Rattle.wat_format_theorems.specs.lemmas.Found.{Found, found}

module _ (x y : List ℕ) (move : ℕ → ℕ) where
  module _ (n : Names) where
    -- what is found of the one and of the other
    of_both : OneThingShown → (ts us : List Token) (a b : Finding) → AllSame x y move ts us → Shown x None n ts a → Shown y None n us b → Found x y move a b
    of_both one ts us a b h p q =
        subst (λ v. Found x y move v b) (sym (one x None n ts a p)) (subst (λ v. Found x y move (shown_in x None n Showing ts) v) (sym (one y None n us b q)) (found x y move n ts us h Showing))

    -- All visible tokens.
    pub record Moved (vs ws : List Token) (f g : Option Fault) : Type 0 where
      pub tokens : ws ≡ map (token_moved move) vs
      pub last : g ≡ option_map (fault_moved move) f
      pub texts : All (λ t. token_text y (token_moved move t) ≡ token_text x t) vs

    abbrev KeepsText : Token → Type 0
    KeepsText t = token_text y (token_moved move t) ≡ token_text x t

    pub all_moved : OneThingShown → (ts us vs ws : List Token) (f g : Option Fault) → AllSame x y move ts us → AllShown x None n ts vs f → AllShown y None n us ws g → Moved vs ws f g
    all_moved one ts us vs ws f g h (end p) (end q) = record { tokens = refl; last = refl; texts = All-nil KeepsText }
    all_moved one ts us vs ws f g h (end p) (fault {f = b} q) = let e : ◌≡◌ {A = Finding} (Err b) (Ok None) = of_both one ts us (Ok None) (Err b) h p q in absurd cc
    all_moved one ts us vs ws f g h (end p) (next {r = r} {t = u} q rest) = let e : ◌≡◌ {A = Finding} (Ok (Some (u, r))) (Ok None) = of_both one ts us (Ok None) (Ok (Some (u, r))) h p q in absurd cc
    all_moved one ts us vs ws f g h (fault {f = a} p) (end q) = let e : ◌≡◌ {A = Finding} (Ok None) (Err (fault_moved move a)) = of_both one ts us (Err a) (Ok None) h p q in absurd cc
    all_moved one ts us vs ws f g h (fault {f = a} p) (fault {f = b} q) =
        let e : ◌≡◌ {A = Finding} (Err b) (Err (fault_moved move a)) = of_both one ts us (Err a) (Err b) h p q in
        let k : b ≡ fault_moved move a = cc in
        record { tokens = refl; last = ap Some k; texts = All-nil KeepsText }
    all_moved one ts us vs ws f g h (fault {f = a} p) (next {r = r} {t = u} q rest) = let e : ◌≡◌ {A = Finding} (Ok (Some (u, r))) (Err (fault_moved move a)) = of_both one ts us (Err a) (Ok (Some (u, r))) h p q in absurd cc
    all_moved one ts us vs ws f g h (next {r = r} {t = t} p more) (end q) = let k = of_both one ts us (Ok (Some (t, r))) (Ok None) h p q in absurd (let e : ◌≡◌ {A = Finding} (Ok None) (Ok (Some (k.0, k.1))) = k.2 in cc)
    all_moved one ts us vs ws f g h (next {r = r} {t = t} p more) (fault {f = b} q) = let k = of_both one ts us (Ok (Some (t, r))) (Err b) h p q in absurd (let e : ◌≡◌ {A = Finding} (Err b) (Ok (Some (k.0, k.1))) = k.2 in cc)
    all_moved one ts us vs ws f g h (next {r = r} {us = vs'} {t = t} p more) (next {r = q'} {us = ws'} {t = u} q rest) =
        let k = of_both one ts us (Ok (Some (t, r))) (Ok (Some (u, q'))) h p q in
        let e = same_token {F = Fault} u k.0 q' k.1 k.2 in
        let ih = all_moved one r k.1 vs' ws' f g k.4 more (subst (λ l. AllShown y None n l ws' g) e.1 rest) in
        record {
          tokens = ap (λ v. v ∷ ws') (e.0 ∙ k.3.is) ∙ ap (λ l. token_moved move t ∷ l) ih.tokens;
          last = ih.last;
          texts = All-cons KeepsText t vs' (subst (λ v. token_text y v ≡ token_text x t) k.3.is k.3.text) ih.texts;
        }
