-- The definitions at written-out bytes: the examples of RFC 3629, section 7, and bytes that it forbids. antt computes each.
-- Assumes nothing.
use Rattle.std.specs.Prelude.{Err}
use mathlib.Core.Path.{◌≡◌, refl}
use mathlib.Core.List.{[], ◌∷◌}
use Rattle.utf8.specs.Encode.{encode_all}
use Rattle.utf8.specs.Chars.{chars, check_from}
use Rattle.utf8.specs.CharsLaws.{computes}
use Rattle.utf8.specs.declared.Utf8Error.TheVariants.{BadAt, CutAt}

-- "A", not identical to, alpha, "."
rfc1 : chars (0x41 ∷ 0xe2 ∷ 0x89 ∷ 0xa2 ∷ 0xce ∷ 0x91 ∷ 0x2e ∷ []) ≡ 0x41 ∷ 0x2262 ∷ 0x391 ∷ 0x2e ∷ []
unfolding computes
rfc1 = refl

rfc1_back : encode_all (0x41 ∷ 0x2262 ∷ 0x391 ∷ 0x2e ∷ []) ≡ 0x41 ∷ 0xe2 ∷ 0x89 ∷ 0xa2 ∷ 0xce ∷ 0x91 ∷ 0x2e ∷ []
unfolding computes
rfc1_back = refl

-- hangugo
rfc2 : chars (0xed ∷ 0x95 ∷ 0x9c ∷ 0xea ∷ 0xb5 ∷ 0xad ∷ 0xec ∷ 0x96 ∷ 0xb4 ∷ []) ≡ 0xd55c ∷ 0xad6d ∷ 0xc5b4 ∷ []
unfolding computes
rfc2 = refl

-- nihongo
rfc3 : chars (0xe6 ∷ 0x97 ∷ 0xa5 ∷ 0xe6 ∷ 0x9c ∷ 0xac ∷ 0xe8 ∷ 0xaa ∷ 0x9e ∷ []) ≡ 0x65e5 ∷ 0x672c ∷ 0x8a9e ∷ []
unfolding computes
rfc3 = refl

-- the byte order mark, U+233B4
rfc4 : chars (0xef ∷ 0xbb ∷ 0xbf ∷ 0xf0 ∷ 0xa3 ∷ 0x8e ∷ 0xb4 ∷ []) ≡ 0xfeff ∷ 0x233b4 ∷ []
unfolding computes
rfc4 = refl

-- an overlong form, a surrogate, a value past the last, a lone tail, each after an "A"
overlong : check_from 0 (0x41 ∷ 0xc0 ∷ 0x80 ∷ []) ≡ Err (BadAt 1)
unfolding computes
overlong = refl

surrogate : check_from 0 (0x41 ∷ 0xed ∷ 0xa1 ∷ 0x8c ∷ []) ≡ Err (BadAt 1)
unfolding computes
surrogate = refl

past : check_from 0 (0x41 ∷ 0xf4 ∷ 0x90 ∷ 0x80 ∷ 0x80 ∷ []) ≡ Err (BadAt 1)
unfolding computes
past = refl

tail : check_from 0 (0x41 ∷ 0x80 ∷ []) ≡ Err (BadAt 1)
unfolding computes
tail = refl

-- cut by the end, against wrong before the end
cut : check_from 0 (0x41 ∷ 0xf0 ∷ 0xa3 ∷ 0x8e ∷ []) ≡ Err (CutAt 1)
unfolding computes
cut = refl

bad : check_from 0 (0x41 ∷ 0xf0 ∷ 0x80 ∷ []) ≡ Err (BadAt 1)
unfolding computes
bad = refl
