-- WebAssembly 2.0, 6.2.2 (tokens) and 6.3 (values): the terminal symbols of the grammar of modules. They are the tokens
-- of a text with their values; whitespace, comments and annotations are not among them. Also the optional identifiers
-- of labels, locals and other items. Section numbers in this crate are those of WebAssembly 2.0.
use Rattle.std.specs.Prelude.{ℕ, zero, suc, Bool, false, List, [], ◌∷◌, bytes_eq, Option, Some, None}
use Rattle.std.specs.Float.{binary32, binary64}
use Rattle.wat_floats.specs.Literals.{literal}
use Rattle.wat_module_tokens.specs.declared.token.DecodedToken.{DecodedToken}
use Rattle.wat_module_tokens.specs.declared.token.DecodedToken.TheVariants as token
use Rattle.wat_module_tokens.specs.declared.token.Name.{Name}
use Rattle.wat_module_tokens.specs.declared.token.Name.TheVariants as name
use Rattle.wat_module_tokens.specs.declared.token.Sign.{Sign}

-- 6.2.2, token: a token with its value.
pub data Terminal : Type 0 where
  -- A parenthesis.
  Open : Terminal
  Close : Terminal
  -- A keyword, by its bytes.
  Word : List ℕ → Terminal
  -- 6.3.5, identifier, by the bytes of its name.
  Id : List ℕ → Terminal
  -- 6.3.1, integer: its sign and its magnitude. A token yields one only if the magnitude is below 2^64
  -- (`integer` in `wat_module_lexer.specs.TokenCursor`).
  Integer : Sign → ℕ → Terminal
  -- 6.3.2, floating-point: any other numeric token, by its bits as a float of 32 and of 64
  -- bits, each `None` if it is out of range.
  Float : Option ℕ → Option ℕ → Terminal
  -- 6.3.3, string, by its value.
  Text : List ℕ → Terminal
  -- Any other token: no rule of the grammar accepts it.
  Other : Terminal

-- The terminal of the lexeme `w`, read as a float.
abbrev pub float_of : List ℕ → Terminal
float_of w = Float (literal binary32 w) (literal binary64 w)

-- The terminal of a decoded token of the code.
abbrev pub terminal : DecodedToken → Terminal
terminal token.Open = Open
terminal token.Close = Close
terminal (token.Word w) = Word w.now
terminal (token.Id x) = Id x.now
terminal (token.Integer s n) = Integer s n
terminal (token.Float w) = float_of w.now
terminal (token.Text v) = Text v.now
terminal token.Other = Other

-- 6.3.5, identifier; 6.5.1, label: an optional identifier, by the bytes of its name.
abbrev pub Label : Type 0
Label = Option (List ℕ)

-- An optional identifier of the code, as a definition.
abbrev pub label : Name → Label
label (name.Given x) = Some x.now
label name.Absent = None

-- Returns `true` if an item has the identifier `x`.
abbrev pub is_name : List ℕ → Label → Bool
is_name x None = false
is_name x (Some y) = bytes_eq y x

-- The tokens after the `)` of a group in which `d` more groups are open, or no tokens if the group has no `)`.
abbrev pub past : ℕ → List Terminal → List Terminal
past d [] = []
past d (Open ∷ ts) = past (suc d) ts
past zero (Close ∷ ts) = ts
past (suc d) (Close ∷ ts) = past d ts
past d (Word w ∷ ts) = past d ts
past d (Id x ∷ ts) = past d ts
past d (Integer s n ∷ ts) = past d ts
past d (Text v ∷ ts) = past d ts
past d (Float narrow wide ∷ ts) = past d ts
past d (Other ∷ ts) = past d ts
