-- What one turn of the loop comes to, at the character c of n bytes that stands at `p.at`, for each arm.
--     next_within, dot_within     the next character begins inside, or the string ends there; so does what follows a dot
--     filled, goes, fails         by what the arm's body is
--     turn_fill_sign .. turn_unexpected    by the arm
-- Assumes nothing.
use Rattle.std.specs.Prelude.{Option, Some, None, Result, Ok, Err}
use Prim.Native.Nat.{ℕ, suc, ◌+◌, ◌-◌, ◌≤◌, ◌<◌}
use native.Mathlib.Omega.{arith}
use mathlib.Core.Path.{◌≡◌, refl, sym, ap, subst, ◌∙◌}
use mathlib.Core.Bool.{Bool, true, false}
use mathlib.Core.List.{List, [], ◌∷◌}
use lib.ListN.{length, take, drop, length-append}
use Rattle.base.specs.Refusal.{format_most}
use Rattle.utf8.specs.Encode.{encode, encode_all}
use Rattle.utf8.specs.EncodeLaws.{encode1}
use Rattle.utf8.specs.Chars.{chars, At}
use Rattle.utf8.specs.CharsLaws.{at_char}
use Rattle.cluster.specs.First.{go_on, first_end}
use Rattle.format_options.specs.Options.{with_alignment, with_width, with_precision, with_representation, with_fill}
use Rattle.format_options.specs.Letters.{is_digit, char_to_alignment}
use Rattle.format_options.specs.LettersLaws.{sign_low, digit_is}
use Rattle.format_options.specs.declared.Part.{Part}
use Rattle.format_options.specs.declared.Representation.{Representation}
use Rattle.format_options.specs.declared.Options.{Options}
use Rattle.format_options.specs.declared.FormatError.TheVariants.{UnexpectedToken}
use Rattle.format_number.specs.Number.{peeked, consume_u32}
use Rattle.format_number.specs.PeekLaws.{ascii_here, peek_within}
use Rattle.format_number.specs.NumberLaws.{began}
use Rattle.format_options.specs.declared.FormatError.{FormatError}
use Rattle.format_number.specs.declared.Number.{Number}
use Rattle.format_arms.specs.Arms as arms
use Rattle.format_arms.specs.Arms.{arm_of}
use Rattle.format_arms.specs.ArmsLaws.{ArmIs, arm_is}
use Rattle.format_arms.specs.declared.Position.{Position}
use Rattle.format_arms.specs.declared.Arm.{Arm}
use Rattle.format_arms.specs.declared.Arm.TheVariants as arm
use Rattle.format_state.specs.State.{keep, goes_to, goes_filled, number_to, fails_with}
use Rattle.format_state.specs.declared.Parsing.{Parsing}
use Rattle.format.specs.Parse as parse
use Rattle.format.specs.Parse.{add_fill, body_of, on_consumed}
use Rattle.format.specs.Read.{cluster_to, turn_of, body_at, turn_at, Here}

-- one character of one byte, and k more of one byte each
one_more_lem : (k d : ℕ) (ds : List ℕ) → d < 128 → length (encode_all (take k ds)) ≡ k → length (encode_all (take (suc k) (d ∷ ds))) ≡ suc k
unfolding encode_all
one_more_lem k d ds h e = rw (encode1 d h) (ap suc e)

module _ (look : ℕ → ℕ) (edition : ℕ) (s : List ℕ) (p : Parsing) (c n : ℕ) (h : Here s p.at c n) where
  abbrev at : ℕ
  at = p.at

  -- what follows the character
  abbrev cs : List ℕ
  cs = chars (drop (at + n) s)

  here : At s at c n
  here = at_char s at c n h.found

  pub next_within : at + n ≤ format_most
  next_within = omega (arith, here.fits, h.small)

  abbrev body : parse.Body
  body = body_at look edition p c cs

  abbrev turn : Parsing
  turn = turn_at look edition p c cs

  -- the bytes of c and of the k characters after it
  bytes : (k : ℕ) → at + length (encode_all (take (suc k) (c ∷ cs))) ≡ at + n + length (encode_all (take k cs))
  unfolding encode_all
  bytes k = omega (arith, here.width, length-append (encode c) (encode_all (take k cs)))

  goes : (o : Options) (q : Position) (k : ℕ) (fill : Option Part) (e : ℕ) → body ≡ parse.Goes o q k fill → e ≡ at + n + length (encode_all (take k cs))
      → goes_to o q e (add_fill keep p.added fill) ≡ turn
  goes o q k fill e b w =
      ap {B = Parsing} (λ (i : ℕ). goes_to o q i (add_fill keep p.added fill)) (w ∙ sym (bytes k)) ∙ sym (ap (turn_of p (c ∷ cs)) b)

  filled : (o : Options) (q : Position) (k len end e : ℕ) → body ≡ parse.goes_filled o q k (record { place = at; len = len }) → len ≡ end - at
      → e ≡ at + n + length (encode_all (take k cs)) → goes_filled p o q end e ≡ turn
  filled o q k len end e b l w =
      let fill : Part = record { place = at; len = end - at } in
      goes (with_fill fill o) q k (Some fill) e (b ∙ ap {B = parse.Body} (λ (m : ℕ). parse.goes_filled o q k (record { place = at; len = m })) l) w

  fails : (e : FormatError) → body ≡ parse.Fails e → fails_with p e ≡ turn
  fails e b = sym (ap (turn_of p (c ∷ cs)) b)

  module _ (a : Arm) (e : arm_of c (peeked cs) p.position ≡ a) where
    by_arm : body ≡ body_of look edition at p.result c cs a
    by_arm = ap (body_of look edition at p.result c cs) e

  -- c itself, as a fill
  own : parse.len_utf8 c ≡ at + n - at
  own = omega (arith, here.width)

  pub turn_fill_sign : arm_of c (peeked cs) p.position ≡ arm.FillSign
      → goes_filled p (with_alignment (char_to_alignment (peeked cs)) p.result) arms.min_width (at + n) (at + n + 1) ≡ turn
  unfolding encode_all
  turn_fill_sign e =
      let d = peeked cs in
      let low = sign_low d (subst (ArmIs c d p.position) e (arm_is c d p.position)).0 in
      let a = ascii_here s (at + n) d refl low in
      let w : length (encode_all (take 1 cs)) ≡ 1 = ap (λ (l : List ℕ). length (encode_all (take 1 l))) a.rest ∙ one_more_lem 0 d (chars (drop (at + n + 1) s)) low refl in
      filled (with_alignment (char_to_alignment d) p.result) _ 1 _ _ _ (by_arm arm.FillSign e) own (omega (arith, w))

  pub turn_align : arm_of c (peeked cs) p.position ≡ arm.Align
      → goes_to (with_alignment (char_to_alignment c) p.result) arms.min_width (at + n) p.added ≡ turn
  unfolding encode_all
  turn_align e = goes (with_alignment (char_to_alignment c) p.result) _ 0 None _ (by_arm arm.Align e) (omega arith)

  pub turn_zero_fill : arm_of c (peeked cs) p.position ≡ arm.ZeroFill → goes_filled p p.result arms.min_width (at + n) (at + n) ≡ turn
  unfolding encode_all
  turn_zero_fill e = filled p.result _ 0 _ _ _ (by_arm arm.ZeroFill e) own (omega arith)

  pub turn_represent : (r : Representation) → arm_of c (peeked cs) p.position ≡ arm.Represent r
      → goes_to (with_representation r p.result) arms.end (at + n) p.added ≡ turn
  unfolding encode_all
  turn_represent r e = goes (with_representation r p.result) _ 0 None _ (by_arm (arm.Represent r) e) (omega arith)

  pub turn_unexpected : arm_of c (peeked cs) p.position ≡ arm.Unexpected → fails_with p (UnexpectedToken c) ≡ turn
  turn_unexpected e = fails _ (by_arm arm.Unexpected e)

  pub turn_width : arm_of c (peeked cs) p.position ≡ arm.MinWidth → number_to p false (at + n) (consume_u32 c cs) ≡ turn
  turn_width e = go (consume_u32 c cs) refl
    where
      f : ℕ → ℕ → parse.Body
      f m k = parse.Goes (with_width m p.result) arms.precision k None

      is : (r : Result Number FormatError) → consume_u32 c cs ≡ r → body ≡ on_consumed r f
      is r x = by_arm arm.MinWidth e ∙ ap (λ (y : Result Number FormatError). on_consumed y f) x

      go : (r : Result Number FormatError) → consume_u32 c cs ≡ r → number_to p false (at + n) r ≡ turn
      go (Ok v) x =
          let t = (began c cs v.n v.digits x).rest in
          let w : v.digits ≡ t.more = omega (arith, t.is) in
          let l : at + n + v.digits ≡ at + n + length (encode_all (take v.digits cs)) = rw w (omega (arith, t.bytes)) in
          goes (with_width v.n p.result) _ v.digits None _ (is (Ok v) x) l
      go (Err o) x = fails o (is (Err o) x)

  -- what follows the first digit of a precision
  same_number : consume_u32 (peeked cs) (drop 1 cs) ≡ consume_u32 (peeked cs) (chars (drop (at + n + 1) s))
  unfolding consume_u32
  same_number = go (is_digit (peeked cs)) refl
    where
      go : (t : Bool) → is_digit (peeked cs) ≡ t → consume_u32 (peeked cs) (drop 1 cs) ≡ consume_u32 (peeked cs) (chars (drop (at + n + 1) s))
      go true q =
          let a = ascii_here s (at + n) (peeked cs) refl (omega (arith, digit_is (peeked cs) q)) in
          ap (λ (l : List ℕ). consume_u32 (peeked cs) (drop 1 l)) a.rest
      go false q = rw q

  pub dot_within : arm_of c (peeked cs) p.position ≡ arm.Precision → at + n + 1 ≤ format_most
  dot_within e =
      let d = peeked cs in
      omega (arith, peek_within s (at + n) (subst (ArmIs c d p.position) e (arm_is c d p.position)), h.small)

  pub turn_precision : arm_of c (peeked cs) p.position ≡ arm.Precision
      → number_to p true (at + n + 1) (consume_u32 (peeked cs) (chars (drop (at + n + 1) s))) ≡ turn
  turn_precision e = go (consume_u32 d rest) refl
    where
      d : ℕ
      d = peeked cs

      rest : List ℕ
      rest = chars (drop (at + n + 1) s)

      f : ℕ → ℕ → parse.Body
      f m k = parse.Goes (with_precision m p.result) arms.type (suc k) None

      is : (r : Result Number FormatError) → consume_u32 d rest ≡ r → body ≡ on_consumed r f
      is r x = by_arm arm.Precision e ∙ ap (λ (y : Result Number FormatError). on_consumed y f) (same_number ∙ x)

      go : (r : Result Number FormatError) → consume_u32 d rest ≡ r → number_to p true (at + n + 1) r ≡ turn
      go (Ok v) x =
          let k = v.digits in
          let b = began d rest v.n k x in
          let low : d < 128 = omega (arith, digit_is d b.digit) in
          let a = ascii_here s (at + n) d refl low in
          let w : k ≡ b.rest.more = omega (arith, b.rest.is) in
          let y : length (encode_all (take k rest)) ≡ k = rw w b.rest.bytes in
          let z : length (encode_all (take (suc k) cs)) ≡ suc k =
          ap (λ (l : List ℕ). length (encode_all (take (suc k) l))) a.rest ∙ one_more_lem k d rest low y in
          goes (with_precision v.n p.result) _ (suc k) None _ (is (Ok v) x) (omega (arith, z))
      go (Err o) x = fails o (is (Err o) x)

  pub turn_cluster : arm_of c (peeked cs) p.position ≡ arm.FillCluster
      → cluster_to p (first_end look edition at (chars (drop at s))) ≡ turn
  turn_cluster e =
      let k = go_on look edition (look c ∷ []) cs in
      let end = first_end look edition at (c ∷ cs) in
      let fill : Part = record { place = at; len = first_end look edition 0 (c ∷ cs) } in
      let one : suc k - 1 ≡ k = omega arith in
      let b : body ≡ parse.goes_filled p.result arms.alignment k fill =
      by_arm arm.FillCluster e ∙ ap {B = parse.Body} (λ (j : ℕ). parse.goes_filled p.result arms.alignment j fill) one in
      ap {B = Parsing} (λ (l : List ℕ). cluster_to p (first_end look edition at l)) here.step
      ∙ filled p.result arms.alignment k _ end end b (omega arith) (bytes k)
