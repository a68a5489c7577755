-- Document 01, "Records": a record's detail, which says how a string begins (lexer.rs `StringType`). It is 0 but for a StringStart.
-- A quote is given by its byte, `"` or `'` (lexer.rs `StringQuote`).
-- Assumes nothing.
use Rattle.std.specs.Prelude.{Bool, ◌&&◌, ℕ, ◌+◌, ◌*◌, eqb, leb}
use Rattle.base.specs.Pick.{pick}
use Rattle.token.specs.Kind.{string_start, kind_most}

-- `StringQuote::Double`
abbrev pub double_quote : ℕ
double_quote = 34

-- `StringQuote::Single`
abbrev pub single_quote : ℕ
single_quote = 39

-- the most hashes that open a raw string: the Rust counts them in a byte
abbrev pub hashes_most : ℕ
hashes_most = 255

-- `StringType::Normal`: double 0, single 1
abbrev pub normal_detail : ℕ → ℕ
normal_detail quote = pick (eqb quote double_quote) 0 1

-- `StringType::Raw`: raw double 2 + 2h, raw single 3 + 2h, with h hashes
abbrev pub raw_detail : ℕ → ℕ → ℕ
raw_detail quote hashes = pick (eqb quote double_quote) (2 + 2 * hashes) (3 + 2 * hashes)

-- the greatest detail: raw single with the most hashes
abbrev pub detail_most : ℕ
detail_most = 513

-- the details that a record of this kind may have
abbrev pub detail_allowed : ℕ → ℕ → Bool
detail_allowed kind detail = pick (eqb kind string_start) (leb detail detail_most) (eqb detail 0)

-- a kind and a detail that may be shown together: the kind is none over 80, and the detail is one that it may have (else: refusal 9)
abbrev pub fits : ℕ → ℕ → Bool
fits kind detail = leb kind kind_most && detail_allowed kind detail
