-- RFC 3629, section 4, "Syntax of UTF-8 Byte Sequences": its grammar as tests on the bytes, in the order in which they stand.
-- The first byte says how many there are; then each is tested, and where the bytes end before it, they are cut.
-- That this finds exactly what section 3 encodes is proved in `ReadLaws` and `MeaningLaws`.
-- Assumes nothing.
use Rattle.std.specs.Prelude.{ℕ, ◌+◌, ◌*◌, ◌%◌, List, Bool, length, get_or, drop, ltb, eqb, Ok, Err, Result}
use Rattle.base.specs.Pick.{pick}
use Rattle.base.specs.Range.{inside}
use Rattle.utf8.specs.declared.ReadError.{ReadError}
use Rattle.utf8.specs.declared.ReadError.TheVariants.{Bad, Cut}

-- what stands at a place: a character, as its code point and how many bytes it has, or why there is none
abbrev pub Read : Type 0
Read = Result (ℕ × ℕ) ReadError

-- how many bytes a character has that opens with the byte a; 0: none does
unfoldable pub seq_len : ℕ → ℕ
seq_len a =
    -- UTF8-1 = %x00-7F
    pick (ltb a 0x80) 1
    (pick (ltb a 0xc2) 0
    -- UTF8-2 = %xC2-DF ..
    (pick (ltb a 0xe0) 2
    -- UTF8-3 = %xE0-EF ..
    (pick (ltb a 0xf0) 3
    -- UTF8-4 = %xF0-F4 ..
    (pick (ltb a 0xf5) 4
    0))))

-- UTF8-tail = %x80-BF
abbrev pub is_tail : ℕ → Bool
is_tail b = inside b 0x80 0xbf

-- b may follow the lead byte a
unfoldable pub second_ok : ℕ → ℕ → Bool
second_ok a b =
    -- UTF8-3 = %xE0 %xA0-BF UTF8-tail / ..
    pick (eqb a 0xe0) (inside b 0xa0 0xbf)
    -- .. / %xED %x80-9F UTF8-tail / ..
    (pick (eqb a 0xed) (inside b 0x80 0x9f)
    -- UTF8-4 = %xF0 %x90-BF 2( UTF8-tail ) / ..
    (pick (eqb a 0xf0) (inside b 0x90 0xbf)
    -- .. / %xF4 %x80-8F 2( UTF8-tail )
    (pick (eqb a 0xf4) (inside b 0x80 0x8f)
    (is_tail b))))

-- the code points that two, three and four bytes stand for: the bits that section 3 writes as x
abbrev pub code2 : ℕ → ℕ → ℕ
code2 a b = a % 32 * 64 + b % 64

abbrev pub code3 : ℕ → ℕ → ℕ → ℕ
code3 a b c = a % 16 * 4096 + b % 64 * 64 + c % 64

abbrev pub code4 : ℕ → ℕ → ℕ → ℕ → ℕ
code4 a b c d = a % 8 * 262144 + b % 64 * 4096 + c % 64 * 64 + d % 64

-- l from its fourth byte on, which is the last
unfoldable pub fourth : List ℕ → Read
fourth l =
    pick (ltb (length l) 4) (Err Cut)
    (pick (is_tail (get_or l 3 0)) (Ok (code4 (get_or l 0 0) (get_or l 1 0) (get_or l 2 0) (get_or l 3 0), 4)) (Err Bad))

-- l from its third byte on, of n
unfoldable pub third : ℕ → List ℕ → Read
third n l =
    pick (ltb (length l) 3) (Err Cut)
    (pick (is_tail (get_or l 2 0))
    (pick (eqb n 3) (Ok (code3 (get_or l 0 0) (get_or l 1 0) (get_or l 2 0), 3)) (fourth l))
    (Err Bad))

-- l from its second byte on, of n
unfoldable pub second : ℕ → List ℕ → Read
second n l =
    pick (ltb (length l) 2) (Err Cut)
    (pick (second_ok (get_or l 0 0) (get_or l 1 0)) (pick (eqb n 2) (Ok (code2 (get_or l 0 0) (get_or l 1 0), 2)) (third n l)) (Err Bad))

-- l, whose first byte opens a character of n bytes
unfoldable pub head_of : ℕ → List ℕ → Read
head_of n l = pick (eqb n 0) (Err Bad) (pick (eqb n 1) (Ok (get_or l 0 0, 1)) (second n l))

-- the first character of l. The empty list begins every character
unfoldable pub decode_head : List ℕ → Read
decode_head l = pick (ltb (length l) 1) (Err Cut) (head_of (seq_len (get_or l 0 0)) l)

-- what stands at the place i of s
abbrev pub read_at : List ℕ → ℕ → Read
read_at s i = decode_head (drop i s)
