-- Descriptions of failed system calls, by their error number (POSIX, `errno.h`). Not part of the WebAssembly standard.
use Rattle.std.specs.Prelude.{◌==◌, ℕ, Bool, false, List, [], ◌++◌, codes, Option, Some, None, if◌then◌else◌}
use Rattle.std.specs.Fmt.{decimal}
use Rattle.wat_tokens_io.specs.declared.failed.Failed.{Failed}

-- The description of an error number.
abbrev pub error_words : ℕ → List ℕ
error_words code =
    if code == 2 then codes "no such file or directory"
    else if code == 5 then codes "input/output error"
    else if code == 9 then codes "bad file descriptor"
    else if code == 13 then codes "permission denied"
    else if code == 20 then codes "not a directory"
    else if code == 21 then codes "is a directory"
    else if code == 24 then codes "too many open files"
    else if code == 27 then codes "file too large"
    else if code == 28 then codes "no space left on device"
    else if code == 32 then codes "broken pipe"
    else if code == 36 then codes "file name too long"
    else if code == 40 then codes "too many levels of symbolic links"
    else codes "error " ++ decimal code ++ codes " of the system"

-- The error number of a failed call, if there is one.
abbrev pub error_code : Failed → Option ℕ
error_code failed = failed.code

-- A colon and the description of a failed call, or nothing without an error number.
abbrev pub cause : Failed → List ℕ
cause failed = words failed.code
  where
    words : Option ℕ → List ℕ
    words None = []
    words (Some code) = codes ": " ++ error_words code

-- The call was a write to a pipe without a reader.
abbrev pub is_closed_pipe : Failed → Bool
is_closed_pipe failed = is_broken failed.code
  where
    is_broken : Option ℕ → Bool
    is_broken None = false
    is_broken (Some code) = code == 32
