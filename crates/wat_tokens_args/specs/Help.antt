-- Texts about the program: its version and its help. Not part of the standard.
use Rattle.std.specs.Prelude.{ℕ, List, codes}

abbrev pub version : List ℕ
version = codes "wat_tokens 0.1.0, of wast 263.0.0\n"

abbrev pub help : List ℕ
help = codes "wat_tokens: the tokens of WebAssembly text\n\nusage: wat_tokens [OPTION..] [COMMAND] [FILE..]\n\nIt reads FILE, or standard input if there is none or FILE is `-`, and writes standard output.\n\ncommands; without one it is `list`:\n  list         the raw tokens, a line each: first byte, end, kind\n  sig NAME..   the significant tokens: no whitespace, no comments, and no annotations\n               `(@name ..)` except those of the names\n  play CALL..  the replies of a parser to calls, a line each\n  blank        the text with spaces over its comments\n  types        the bytes of the module, if all its fields are function types\n  module       the bytes of the module, of all fields of WebAssembly 2.0\n  fmt          the formatted text; with `--check` the names of the files that are not formatted,\n               with `--diff` the lines that differ, with `--write` nothing: these files are\n               rewritten; a folder is the `.wat` and `.wast` files below it\n  help         this text\n\n`list`, `sig` and `fmt` take any number of files, the others one. Of several files each plain\nlist follows a line `==> FILE <==`. All words after `sig` and `play` are names and calls: their\nfiles are options. Without a command the first FILE is `-`, or has a `.` or a `/` in it, or is\nthere. After `--` a FILE may begin with a dash.\n\noptions, before the command or, except with `sig` and `play`, anywhere after it:\n  --allow-confusing     accept characters that can make a text look other than it is\n  --strict-underscores  reject doubled underscores in `\\u{..}`\n  --json                write each token of `list` or `sig` as a line of JSON: offset and length\n                        in bytes, kind, text, line and column; and an error as the last line\n  --file NAME           read this file; may be given more than once\n  -o, --output FILE     write the bytes of `types` or `module` to FILE, if the text compiles; `-` is\n                        standard output, also if that is a terminal\n  --no-names            write `module` without name section and custom sections\n  --no-validate         write `module` also if it is not valid\n  -h, --help            this text; first, or after `list`, `blank`, `types`, `module` or `fmt`\n  -V, --version         the version, as first word\n\ncalls of a parser:\n  look        peek at the next token\n  take        return the next token, and advance past it\n  comment     return the comment that comes next, and advance past it\n  reg=NAME    make the annotations of a name visible from here on\n  unreg=NAME  hide them again\n  parens=N    parse a group in parentheses with up to N tokens in it\n\nexit status: 0 if all is written, 1 if a text has a lexical or syntax error, is not valid or is\nnot formatted, 2 otherwise.\n\nexamples:\n  wat_tokens a.wat\n  wat_tokens a.wat b.wat --json\n  wat_tokens --file a.wat --file b.wat sig name\n  wat_tokens module a.wat -o a.wasm\n  wat_tokens fmt --write a.wat b.wat\n  printf '(@a x) (func)' | wat_tokens play look reg=a take\n"
