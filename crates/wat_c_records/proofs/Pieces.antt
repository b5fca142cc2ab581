-- Rows of a text that was read in pieces.
use Rattle.std.proofs.Common.{◌≡◌, ◌≢◌, ◌+◌, ◌++◌, ℕ, zero, suc, List, [], ◌∷◌, false, refl, sym, ap, ◌∙◌, subst, inl, inr, Some, None}
use Rattle.std.specs.Prelude.{Option, map, slice_get}
use Rattle.std.specs.Str.{IsUtf8, IsCharBoundary}
use Rattle.std.proofs.lemmas.Bool.{cases_Bool}
use Rattle.std.proofs.lemmas.List.{map-append}
use Rattle.std.proofs.lemmas.Str.{IsCharBoundary-start}
use Rattle.wat_lex.specs.tokens.EverySetting.{TokensEndAtBoundaries}
use Rattle.wat_lex.specs.tokens.Setting.{Setting}
use Rattle.wat_lex.specs.tokens.Tiling.{EndsAt, Tiling, TokenAt}
use Rattle.wat_lex.specs.declared.lexer.faults.LexFault.{LexFault}
use Rattle.wat_lex.specs.declared.lexer.kinds.Token.{Token}
use Rattle.wat_lex.specs.tokens.Blanks.{is_blank}
use Rattle.wat_lexer_parser.specs.laws.Counting.{CountingShowsTheSame, PlainTokensAreShown, counting}
use Rattle.wat_lexer_parser.specs.shown.Showing.{OneThingShown, SomethingShown}
use Rattle.wat_c_records.specs.Counting.{StopsCounting, StopsCounting.ended, StopsCounting.full, StopsCounting.faulty, row_of}
use Rattle.wat_c_records.specs.Links.{without_link}
use Rattle.wat_c_records.specs.Pieces.{FillsInPieces, FillsInPieces.last, FillsInPieces.piece, PiecesAreRows, PiecesTellTokens, PlainRowsAreShown, RowsTellTokens}
use Rattle.wat_c_records.specs.Places.{ending_code}
use Rattle.wat_c_records.specs.declared.counting.Row.{Row}
use Rattle.wat_c_records.proofs.Counted.{counting_append, counting_blank, counting_other}
use Rattle.wat_c_records.proofs.Looking.{answer_plain}
use Rattle.wat_c_records.proofs.RawPlaces.{counts}
use Rattle.wat_c_records.proofs.Known.{tells}

tilings_joined : (s : Setting) (from mid to : ℕ) (ts us : List Token) → Tiling s from mid ts → Tiling s mid to us → Tiling s from to (ts ++ us)
tilings_joined s from mid to [] us h k = subst (λ p. Tiling s p to us) (sym h) k
tilings_joined s from mid to (t ∷ ts) us h k = (h.0, tilings_joined s (t.offset + t.len) mid to ts us h.1 k)

-- what the raw tokens end with, by why no row follows
pub record Ended (s : Setting) (at why : ℕ) : Type 0 where
  pub ending : Option LexFault
  pub ends : EndsAt s at ending
  pub known : why ≡ ending_code ending

ended_by : (s : Setting) (at room count : ℕ) (ts : List Token) (why : ℕ) → StopsCounting s at room count ts why → why ≢ 1 → Ended s at why
ended_by s at room count ts why (ended l e) n = record { ending = None; ends = e; known = refl }
ended_by s at room count ts why (full e c) n = absurd (n refl)
ended_by s at room count ts why (faulty f code l h e) n = record { ending = Some f; ends = h; known = e }

-- what the pieces are of
pub record Read (s : Setting) (from : ℕ) (rows : List Row) (why : ℕ) : Type 0 where
  pub tokens : List Token
  pub to : ℕ
  pub tiling : Tiling s from to tokens
  pub ended : Ended s to why
  pub known : rows ≡ map (row_of s.text 0) (counting tokens)

read : (s : Setting) (from : ℕ) (rows : List Row) (why : ℕ) → FillsInPieces s from rows why → Read s from rows why
read s from rows why (last {room = room} {filled = filled} h e n) = record {
  tokens = h.tokens;
  to = filled.at;
  tiling = h.tiling;
  ended = ended_by s filled.at room filled.count h.tokens why (subst (StopsCounting s filled.at room filled.count h.tokens) e h.stops) n;
  known = h.rows_are;
}
read s from rows why (piece {rows = first} {others = others} {filled = filled} h k) =
    let r = read s filled.at others why k in
    record {
      tokens = h.tokens ++ r.tokens;
      to = r.to;
      tiling = tilings_joined s from filled.at r.to h.tokens r.tokens h.tiling r.tiling;
      ended = r.ended;
      known =
          ap (λ x. x ++ others) h.rows_are ∙ ap (λ x. map (row_of s.text 0) (counting h.tokens) ++ x) r.known
          ∙ sym (map-append (row_of s.text 0) (counting h.tokens) (counting r.tokens))
          ∙ ap (map (row_of s.text 0)) (sym (counting_append h.tokens r.tokens));
    }

unlinked : (x : List ℕ) (ts : List Token) → map without_link (map (row_of x 0) ts) ≡ map (row_of x 0) ts
unlinked x [] = refl
unlinked x (t ∷ ts) = ap (λ r. row_of x 0 t ∷ r) (unlinked x ts)

pub pieces_are_rows : PiecesAreRows
pieces_are_rows s filled rows why h same linked =
    let r = read s 0 filled why h in
    record {
      source = record { setting = s; track = false; tokens = r.tokens; ending = r.ended.ending };
      of_text = refl;
      are = record {
        read = record { to = r.to; tiling = r.tiling; ends = r.ended.ends };
        known = same ∙ ap (map without_link) r.known ∙ unlinked s.text (counting r.tokens);
        linked = linked;
        ends = r.ended.known;
      };
    }

pub pieces_tell_tokens : PiecesTellTokens
pieces_tell_tokens s filled rows why h same =
    let r = read s 0 filled why h in (
      record { setting = s; track = false; tokens = r.tokens; ending = r.ended.ending },
      refl,
      record {
        read = record { to = r.to; tiling = r.tiling; ends = r.ended.ends };
        known = same ∙ ap (map without_link) r.known ∙ unlinked s.text (counting r.tokens);
      },
    )

-- A significant token at its offset.
pub record IsAt (s : Setting) (t : Token) : Type 0 where
  pub boundary : IsCharBoundary s.text t.offset
  pub is_at : TokenAt s t.offset t

is_at : TokensEndAtBoundaries → (s : Setting) (from to : ℕ) (ts : List Token) (n : ℕ) (t : Token) → IsUtf8 s.text → IsCharBoundary s.text from
    → Tiling s from to ts → slice_get (counting ts) n ≡ Some t → IsAt s t
is_at ends s from to [] zero t utf8 b h e = cc
is_at ends s from to [] (suc n) t utf8 b h e = cc
is_at ends s from to (u ∷ ts) n t utf8 b h e =
    let later = ends s from u utf8 b h.0 in
    let here : IsAt s u = record {
      boundary = subst (IsCharBoundary s.text) (sym h.0.offset) b;
      is_at = subst (λ p. TokenAt s p u)
          (sym h.0.offset) h.0;
    } in
    elim (cases_Bool (is_blank u.kind)) [
      | inl k ↦ is_at ends s (u.offset + u.len) to ts n t utf8 later h.1 (sym (ap (λ r. slice_get r n) (counting_blank u ts k)) ∙ e)
      | inr k ↦ (elim n as (λ m. slice_get (u ∷ counting ts) m ≡ Some t → IsAt s t) [
        | zero ↦ λ f. let g : u ≡ t = cc in subst (IsAt s) g here
        | suc m ↦ λ f. is_at ends s (u.offset + u.len) to ts m t utf8 later h.1 f
      ]) (sym (ap (λ r. slice_get r n) (counting_other u ts k)) ∙ e)
    ]

-- the row of a token with the link of the row
row_known : (x : List ℕ) (row : Row) (t : Token) → without_link row ≡ row_of x 0 t → row ≡ row_of x row.link t
row_known x row t e = ap (λ (r : Row). record r { link = row.link }) e

pub rows_tell_tokens : TokensEndAtBoundaries → RowsTellTokens
rows_tell_tokens ends s rows number row utf8 h e =
    let x = s.setting.text in
    let k = tells x rows (counting s.tokens) number row h.known e in
    let at = is_at ends s.setting 0 h.read.to s.tokens number k.token utf8 (IsCharBoundary-start x utf8) h.read.tiling k.there in
    let offset : row.offset ≡ k.token.offset = ap (λ (r : Row). r.offset) k.known in
    record {
      flags = s.setting.flags;
      token = k.token;
      boundary = subst (IsCharBoundary x) (sym offset) at.boundary;
      is_at = subst (λ p. TokenAt s.setting p k.token) (sym offset) at.is_at;
      counts = counts s.tokens number k.token k.there;
      known = row_known x row k.token k.known;
    }

pub plain_rows_are_shown : SomethingShown → OneThingShown → CountingShowsTheSame → PlainTokensAreShown → PlainRowsAreShown
plain_rows_are_shown some one same plain s rows why number row names utf8 are there other =
    answer_plain some one same s utf8 rows why are names number row there plain other
