-- How many bytes a character has, and which one stands where its lead byte opens so many (RFC 3629, section 4, UTF8-1 to UTF8-4).
-- Assumes nothing.
use Rattle.std.specs.Prelude.{ℕ, ◌+◌, ◌-◌, ◌%◌, List, Bool, ◌&&◌, length, get_or, take, drop, leb, eqb, Ok, Err}
use Rattle.base.specs.Pick.{pick}
use Rattle.base.specs.All.{all_good}
use Rattle.utf8.specs.Read.{Read, seq_len, second_ok, code2, code3, code4}

-- the bytes of the character that was read; 0 where there is none
abbrev pub len_of : Read → ℕ
len_of (Ok (c, n)) = n
len_of (Err _) = 0

-- the lead byte opens n bytes, there are so many, and the second may follow it
abbrev pub opens_by : List ℕ → ℕ → Bool
opens_by s n = eqb (seq_len (get_or s 0 0)) n && (leb n (length s) && second_ok (get_or s 0 0) (get_or s 1 0))

-- each byte is a character of its own
abbrev pub is_single : List ℕ → ℕ → Bool
is_single s k = eqb (seq_len (get_or s k 0)) 1

abbrev pub all_single : List ℕ → Bool
all_single s = all_good (is_single s) (length s)

-- 128 such bytes stand from the place i on, which is a multiple of 128
abbrev pub is_block : List ℕ → ℕ → Bool
is_block s i = eqb (i % 128) 0 && (leb 128 (length s - i) && all_single (take 128 (drop i s)))

-- the character of n bytes from the place i of s on: one, two, three, or else four
abbrev pub char_of : ℕ → List ℕ → ℕ → Read
char_of n s i =
    let a = get_or s i 0 in
    let b = get_or s (i + 1) 0 in
    let c = get_or s (i + 2) 0 in
    pick (eqb n 1) (Ok (a, 1))
    (pick (eqb n 2) (Ok (code2 a b, 2)) (pick (eqb n 3) (Ok (code3 a b c, 3)) (Ok (code4 a b c (get_or s (i + 3) 0), 4))))
