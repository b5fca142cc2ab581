-- RFC 8259, section 7 (strings): a text as a JSON string.
use Rattle.std.specs.Prelude.{◌==◌, ◌+◌, ◌/◌, ◌%◌, nat_lt, ℕ, List, [], ◌∷◌, ◌++◌, codes, flat_map, if◌then◌else◌}

-- The lowercase hexadecimal digit of a value below 16, as a byte.
abbrev pub hex_digit : ℕ → ℕ
hex_digit d = if nat_lt d 10 then 48 + d else 87 + d

-- The form of a byte in a string. A quotation mark, a reverse solidus and control characters are escaped: line feed,
-- carriage return and tab by their letters, and other control characters as `\u` and four hexadecimal digits. Every
-- other byte is unchanged, including the bytes of characters beyond ASCII.
abbrev pub escaped : ℕ → List ℕ
escaped b =
    if b == 0x22 then codes "\\\""
    else if b == 0x5C then codes "\\\\"
    else if b == 0x0A then codes "\\n"
    else if b == 0x0D then codes "\\r"
    else if b == 0x09 then codes "\\t"
    else if nat_lt b 0x20 then codes "\\u00" ++ hex_digit (b / 16) ∷ hex_digit (b % 16) ∷ []
    else b ∷ []

-- The JSON string of `text`: its bytes in that form, between quotation marks.
abbrev pub json_string : List ℕ → List ℕ
json_string text = codes "\"" ++ flat_map escaped text ++ codes "\""
