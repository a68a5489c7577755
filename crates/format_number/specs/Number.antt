-- string_format_options.rs `consume_u32`, over the characters that are left; and `chars.peek()`.
-- Assumes nothing.
use Rattle.std.specs.Prelude.{ℕ, ◌+◌, ◌-◌, ◌*◌, List, [], ◌∷◌, ltb, Result, Ok, Err}
use Rattle.base.specs.Pick.{pick}
use Rattle.format_options.specs.Letters.{no_char, zero_digit, is_digit}
use Rattle.format_options.specs.declared.FormatError.{FormatError}
use Rattle.format_options.specs.declared.FormatError.TheVariants.{ExpectedNumber, TooLarge}
use Rattle.format_number.specs.declared.Number.{Number}

-- `chars.peek()`
unfoldable pub peeked : List ℕ → ℕ
peeked [] = no_char
peeked (c ∷ cs) = c

-- the number n, of k digits after the first
abbrev pub value : ℕ → ℕ → Result Number FormatError
value n k = Ok (record { n = n; digits = k })

-- how many digits were taken after the first
abbrev pub digits_of : Result Number FormatError → ℕ
digits_of (Ok v) = v.digits
digits_of (Err e) = 0

-- `u32::MAX`
abbrev pub index_max : ℕ
index_max = 4294967295

-- the loop of `consume_u32`: n is the number so far, and k how many digits the loop has taken. The first value over the limit is told
unfoldable pub digits_from : ℕ → ℕ → List ℕ → Result Number FormatError
digits_from n k [] = value n k
digits_from n k (c ∷ cs) =
    let m = n * 10 + (c - zero_digit) in
    pick (is_digit c) (pick (ltb index_max m) (Err (TooLarge m)) (digits_from m (k + 1) cs)) (value n k)

-- the number that begins with `first` and goes on in cs
unfoldable pub consume_u32 : ℕ → List ℕ → Result Number FormatError
consume_u32 first cs = pick (is_digit first) (digits_from (first - zero_digit) 0 cs) (Err (ExpectedNumber first))
