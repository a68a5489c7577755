-- Where format options lead to, of the definition alone.
--     skip_lands               behind the fill and the alignment a character begins, or the source ends
--     brace_from, options_by    the token, by the brace that is found from there on
--     Braced, brace_behind     that brace stands inside, where a character begins, and not before the options
--     Reaches, options_stands  the lexer after the token stands in the source, no byte back; at a "}" where the mode is popped
-- Assumes nothing.
use Prim.Native.Nat.{ℕ, zero, suc, ◌+◌, ◌-◌, ◌≤◌, ◌<◌}
use Rattle.std.proofs.Common.{arith, sym, ap, subst, ◌∙◌, length-append, eqb-true, eq-eqb, ne_eqb}
use Rattle.std.specs.Prelude.{◌≡◌, Bool, true, false, ◌||◌, List, [], ◌∷◌, ◌++◌, length, get_or, take, drop, Option, Some, None}
use Rattle.std.proofs.Math.Path.{refl}
use Rattle.base.specs.Pick.{pick}
use Rattle.base.specs.PickLaws.{split_eq}
use Rattle.base.specs.AllLaws.{and_left}
use Rattle.utf8.specs.Encode.{encode, encode_all, WellFormed}
use Rattle.utf8.specs.EncodeLaws.{encode1, encode_some}
use Rattle.utf8.specs.Chars.{chars}
use Rattle.utf8.specs.CharsLaws.{After, after_chars}
use Rattle.cluster.specs.First.{first_size, first_rest, second_is}
use Rattle.text.specs.Bytes.{byte_at}
use Rattle.text.specs.Tests.{less, caret, greater, curly_close}
use Rattle.text.specs.Count.{len_utf8}
use Rattle.text.specs.Follow.{next_is, drop_bytes}
use Rattle.text.specs.FollowLaws.{next_is_lem, byte_within}
use Rattle.text.specs.Stands.{Stands, chars_from}
use Rattle.state.specs.Lexer.{reach_of}
use Rattle.state.specs.declared.Change.TheVariants.{Pop}
use Rattle.state.specs.declared.Lexer.{Lexer}
use Rattle.state.specs.declared.Taken.{Taken}
use Rattle.options.specs.ConsumeFormatOptions.{is_aligned, skip_bytes, find_brace, options_token, consume_format_options}

-- ---- bytes that are whole characters

-- past the bytes of the first m characters stand the others
drop_encoded : (m : ℕ) (cs : List ℕ) → drop_bytes (length (encode_all (take m cs))) cs ≡ drop m cs
unfolding encode_all drop_bytes
drop_encoded zero [] = refl
drop_encoded zero (c ∷ cs) = refl
drop_encoded (suc m) [] = refl
drop_encoded (suc m) (c ∷ cs) =
    let n = length (encode c) in
    let k = length (encode_all (take m cs)) in
    let e : length (encode c ++ encode_all (take m cs)) ≡ suc (n + k - 1) =
    omega (arith, length-append (encode c) (encode_all (take m cs)), encode_some c)
    in
    let f : suc (n + k - 1) - n ≡ k = omega (arith, encode_some c) in
    ap (λ (j : ℕ). drop_bytes j (c ∷ cs)) e ∙ ap (λ (j : ℕ). drop_bytes j cs) f ∙ drop_encoded m cs

-- an ASCII character at the front; the 0 of no character is none here
record Ascii (cs : List ℕ) : Type 0 where
  some : 0 < get_or cs 0 0
  low : get_or cs 0 0 < 128

-- after m characters one more, of one byte
one_byte_lem : (m : ℕ) (cs : List ℕ) → Ascii (drop m cs) → length (encode_all (take (suc m) cs)) ≡ length (encode_all (take m cs)) + 1
unfolding encode_all
one_byte_lem zero [] a = absurd (omega (arith, a.some))
one_byte_lem zero (c ∷ cs) a = rw (encode1 c a.low)
one_byte_lem (suc m) [] a = absurd (omega (arith, a.some))
one_byte_lem (suc m) (c ∷ cs) a =
    omega
    (arith, one_byte_lem m cs a, length-append (encode c) (encode_all (take m cs)), length-append (encode c) (encode_all (take (suc m) cs)))

-- ---- the fill and the alignment

either : {G : Type 0} (s t : Bool) → (s ≡ true → G) → (t ≡ true → G) → (s || t) ≡ true → G
either true t f g e = f refl
either false t f g e = g e

module _ (look : ℕ → ℕ) (edition : ℕ) where
  module _ (cs : List ℕ) where
    second_ascii : (c : ℕ) → 0 < c → c < 128 → second_is look edition cs c ≡ true → Ascii (first_rest look edition cs)
    second_ascii c h k e =
        let f : get_or (first_rest look edition cs) 0 0 ≡ c = eqb-true _ c (and_left _ _ e) in
        record { some = omega arith; low = omega arith }

    aligned_ascii : is_aligned look edition cs ≡ true → Ascii (first_rest look edition cs)
    unfolding is_aligned
    aligned_ascii =
        either _ _ (second_ascii less (omega arith) (omega arith))
        (either _ _ (second_ascii caret (omega arith) (omega arith)) (second_ascii greater (omega arith) (omega arith)))

    -- the fill and the alignment, in characters
    abbrev skip_chars : ℕ
    skip_chars = pick (is_aligned look edition cs) (suc (first_size look edition cs)) 0

    skip_is : skip_bytes look edition cs ≡ length (encode_all (take skip_chars cs))
    unfolding skip_bytes encode_all
    skip_is = go (is_aligned look edition cs) refl
      where
        m : ℕ
        m = first_size look edition cs

        go : (t : Bool) → is_aligned look edition cs ≡ t
            → pick t (0 + length (encode_all (take m cs)) + 1) 0 ≡ length (encode_all (take (pick t (suc m) 0) cs))
        go true e = omega (arith, one_byte_lem m cs (aligned_ascii e))
        go false e = refl

  pub skip_lands : (s : List ℕ) (i : ℕ) → i ≤ length s → WellFormed (drop i s)
      → After s (i + skip_bytes look edition (chars (drop i s))) (drop_bytes (skip_bytes look edition (chars (drop i s))) (chars (drop i s)))
  skip_lands s i h w =
      let cs = chars (drop i s) in
      rw (skip_is cs, drop_encoded (skip_chars cs) cs) (after_chars s i h w (skip_chars cs))

-- ---- the brace

-- behind the first k characters stands the brace, at the byte e, where the characters begin at the byte i
record Behind (i e : ℕ) (cs : List ℕ) : Type 0 where
  k : ℕ
  rest : List ℕ
  byte : e ≡ i + length (encode_all (take k cs))
  left : drop k cs ≡ curly_close ∷ rest

behind : (i e : ℕ) (cs : List ℕ) → find_brace i cs ≡ Some e → Behind i e cs
unfolding find_brace encode_all
behind i e [] p = absurd (let z : ◌≡◌ {A = ℕ} 0 1 = cc in omega arith)
behind i e (c ∷ cs) p =
    split_eq c curly_close
    (λ x. let q : Some i ≡ Some e = rw (eq-eqb c curly_close x) at p in
    let r : i ≡ e = cc in
    record { k = 0; rest = cs; byte = omega arith; left = ap {B = List ℕ} (λ d. d ∷ cs) x })
    (λ x. let q : find_brace (i + len_utf8 c) cs ≡ Some e = rw (ne_eqb c curly_close x) at p in
    let b = behind (i + len_utf8 c) e cs q in
    record {
      k = suc b.k;
      rest = b.rest;
      byte = omega (arith, b.byte, length-append (encode c) (encode_all (take b.k cs)));
      left = b.left;
    })

-- a brace stands at e, where a character begins, and not before i
pub record Braced (s : List ℕ) (i e : ℕ) : Type 0 where
  pub on : i ≤ e
  pub within : e < length s
  pub well : WellFormed (drop e s)
  pub brace : byte_at s e ≡ curly_close

brace_found : (s : List ℕ) (i e : ℕ) → i ≤ length s → WellFormed (drop i s) → find_brace i (chars (drop i s)) ≡ Some e → Braced s i e
unfolding next_is
brace_found s i e h w p =
    let b = behind i e (chars (drop i s)) p in
    let a = subst (λ (j : ℕ). After s j (drop b.k (chars (drop i s)))) (sym b.byte) (after_chars s i h w b.k) in
    let t : next_is curly_close (chars (drop e s)) ≡ true = rw (a.left, b.left) in
    let f : byte_at s e ≡ curly_close = eqb-true _ curly_close (sym (next_is_lem s e curly_close a.well (omega arith)) ∙ t) in
    record { on = omega (arith, b.byte); within = byte_within s e curly_close f (omega arith); well = a.well; brace = f }

-- ---- the lexer after the token

-- where the lexer stands after the token t, which l took
pub record Reaches (s : List ℕ) (l : Lexer) (t : Taken) : Type 0 where
  pub stands : Stands s (reach_of t.lexer)
  pub on : (reach_of l).byte.0 ≤ (reach_of t.lexer).byte.0
  pub brace : t.change ≡ Pop → byte_at s (reach_of t.lexer).byte.0 ≡ curly_close

module _ (look : ℕ → ℕ) (edition : ℕ) (s : List ℕ) where
  -- the brace behind a fill and an alignment that begin at i
  abbrev pub brace_from : ℕ → Option ℕ
  brace_from i = let k = i + skip_bytes look edition (chars (drop i s)) in find_brace k (chars (drop k s))

  pub brace_behind : (i e : ℕ) → i ≤ length s → WellFormed (drop i s) → brace_from i ≡ Some e → Braced s i e
  brace_behind i e h w p =
      let a = skip_lands look edition s i h w in
      let b = brace_found s _ e a.within a.well p in
      record { on = omega (arith, b.on); within = b.within; well = b.well; brace = b.brace }

  ended : (l : Lexer) (e : ℕ) → Stands s (reach_of l) → Braced s (reach_of l).byte.0 e → Reaches s l (options_token l (Some e))
  ended l e o b =
      let i = (reach_of l).byte.0 in
      let q : e ≡ i + (e - i) = omega (arith, b.on) in
      record {
        stands = record {
          small = o.small;
          inside = omega (arith, b.within);
          well = subst (λ (j : ℕ). WellFormed (drop j s)) q b.well;
          lines = omega (arith, o.lines);
          columns = omega (arith, o.columns);
        };
        on = omega arith;
        brace = λ _. ap (byte_at s) (sym q) ∙ b.brace;
      }

  stood : (l : Lexer) → Stands s (reach_of l) → Reaches s l (options_token l None)
  stood l o = record { stands = o; on = omega arith; brace = λ e. absurd (let z : ◌≡◌ {A = ℕ} 0 1 = cc in omega arith) }

  pub options_by : (l : Lexer) (b : Option ℕ) → Stands s (reach_of l) → b ≡ brace_from (reach_of l).byte.0
      → options_token l b ≡ consume_format_options look edition (chars_from s (reach_of l)) l
  unfolding consume_format_options
  options_by l b o e = rw (e, (skip_lands look edition s (reach_of l).byte.0 o.inside o.well).left)

  pub options_stands : (l : Lexer) → Stands s (reach_of l) → Reaches s l (consume_format_options look edition (chars_from s (reach_of l)) l)
  options_stands l o = go _ refl
    where
      go : (b : Option ℕ) → b ≡ brace_from (reach_of l).byte.0 → Reaches s l (consume_format_options look edition (chars_from s (reach_of l)) l)
      go (Some e) p =
          let i = (reach_of l).byte.0 in
          let b = brace_behind i e o.inside o.well (sym p) in
          let q : e ≡ i + (e - i) = omega (arith, b.on) in
          rw (← options_by l (Some e) o p)
          (record {
            stands = record {
              small = o.small;
              inside = omega (arith, b.within);
              well = subst (λ (j : ℕ). WellFormed (drop j s)) q b.well;
              lines = omega (arith, o.lines);
              columns = omega (arith, o.columns);
            };
            on = omega arith;
            brace = λ _. ap (byte_at s) (sym q) ∙ b.brace;
          })
      go None p = rw (← options_by l None o p) (stood l o)
