-- Laws of `encode`, and of what is built of it.
--     encode1 .. encode4    the form of an encoding, by the range of the character
--     encode_some           a character has a byte or more
--     empty_well, one_well, more_well    the empty list is well formed; one character is; well-formed bytes before well-formed bytes are
--     all_append, scalars_drop    the encoding of two lists of characters; what is left of scalar values
--     begins_less           a shorter part from the start begins the same character
-- Assumes nothing.
use Rattle.std.specs.Prelude.{ℕ, zero, suc, ◌+◌, ◌/◌, ◌%◌, ◌<◌, ◌≤◌, ◌≡◌, refl, List, [], ◌∷◌, ◌++◌, length, drop}
use Rattle.std.proofs.Common.{arith, sym, ◌∙◌, append_assoc, append-nil, length-append, lt-ltb, le-ltb}
use Rattle.base.specs.PickLaws.{by_lt}
use Rattle.utf8.specs.Encode.{Scalar, encode, encode_all, Scalars, WellFormed, Begins}

pub encode1 : (c : ℕ) → c < 0x80 → encode c ≡ c ∷ []
unfolding encode
encode1 c h = rw (lt-ltb c 0x80 h)

pub encode2 : (c : ℕ) → 0x80 ≤ c → c < 0x800 → encode c ≡ (0xc0 + c / 64) ∷ (0x80 + c % 64) ∷ []
unfolding encode
encode2 c h k = rw (le-ltb c 0x80 h, lt-ltb c 0x800 k)

pub encode3 : (c : ℕ) → 0x800 ≤ c → c < 0x10000 → encode c ≡ (0xe0 + c / 4096) ∷ (0x80 + c / 64 % 64) ∷ (0x80 + c % 64) ∷ []
unfolding encode
encode3 c h k = rw (le-ltb c 0x80 (omega arith), le-ltb c 0x800 h, lt-ltb c 0x10000 k)

pub encode4 : (c : ℕ) → 0x10000 ≤ c
    → encode c ≡ (0xf0 + c / 262144) ∷ (0x80 + c / 4096 % 64) ∷ (0x80 + c / 64 % 64) ∷ (0x80 + c % 64) ∷ []
unfolding encode
encode4 c h = rw (le-ltb c 0x80 (omega arith), le-ltb c 0x800 (omega arith), le-ltb c 0x10000 h)

pub encode_some : (c : ℕ) → 0 < length (encode c)
unfolding encode
encode_some c =
    by_lt P c 0x80 (λ h. omega arith)
    (λ h. by_lt P c 0x800 (λ k. omega arith) (λ k. by_lt P c 0x10000 (λ m. omega arith) (λ m. omega arith)))
  where
    P : List ℕ → Type 0
    P l = 0 < length l

pub empty_well : WellFormed []
unfolding encode_all
empty_well = record { points = []; scalars = tt; same = refl }

pub one_well : (c : ℕ) → Scalar c → WellFormed (encode c)
unfolding encode_all
one_well c w = record { points = c ∷ []; scalars = (w, tt); same = sym (append-nil (encode c)) }

pub all_append : (cs ds : List ℕ) → encode_all (cs ++ ds) ≡ encode_all cs ++ encode_all ds
unfolding encode_all
all_append [] ds = refl
all_append (c ∷ cs) ds = rw (all_append cs ds, append_assoc)

both_scalars : (cs ds : List ℕ) → Scalars cs → Scalars ds → Scalars (cs ++ ds)
both_scalars [] ds v w = w
both_scalars (c ∷ cs) ds v w = (v.0, both_scalars cs ds v.1 w)

pub scalars_drop : (k : ℕ) (cs : List ℕ) → Scalars cs → Scalars (drop k cs)
scalars_drop zero cs w = w
scalars_drop (suc k) [] w = w
scalars_drop (suc k) (c ∷ cs) w = scalars_drop k cs w.1

pub more_well : {l m : List ℕ} → WellFormed l → WellFormed m → WellFormed (l ++ m)
more_well v w =
    record {
      points = v.points ++ w.points;
      scalars = both_scalars v.points w.points v.scalars w.scalars;
      same = rw (v.same, w.same) (sym (all_append v.points w.points));
    }

pub begins_less : (l m : List ℕ) → Begins (l ++ m) → Begins l
begins_less l m b =
    record {
      code = b.code;
      scalar = b.scalar;
      more = m ++ b.more;
      left = omega (arith, b.left, length-append m b.more);
      same = b.same ∙ append_assoc l m b.more;
    }
