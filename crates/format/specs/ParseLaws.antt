-- Laws of `parse`.
--     parse_adds               a pool of any kind ends as the list of strings says
--     ZeroIn                   a part that is a zero
--     Keeps, parse_keeps       what is kept by a first fill, by a zero and by every other arm holds at the end: the way to show something of
--                              all that `parse` adds
-- Assumes nothing.
use Prim.Native.Nat.{ℕ, zero, suc, ◌+◌, ◌≤◌}
use Rattle.std.proofs.Common.{arith, ◌∙◌, take-append-drop, drop-drop, Option, Some, None, Result, Ok, Err}
use Rattle.std.specs.Prelude.{◌≡◌, ◌≢◌}
use Rattle.std.proofs.Math.Path.{refl, sym, ap, subst}
use mathlib.Core.List.{List, [], ◌∷◌, ◌++◌, append-nil}
use Rattle.std.proofs.Math.ListN.{length, take, drop, length-append, length-drop}
use Rattle.std.proofs.Math.Seq.{take-append_seam, drop-append_seam}
use Rattle.utf8.specs.Encode.{encode, encode_all, Scalars, WellFormed}
use Rattle.utf8.specs.EncodeLaws.{all_append}
use Rattle.utf8.specs.Chars.{chars}
use Rattle.utf8.specs.CharsLaws.{chars_well}
use Rattle.cluster.specs.First.{first_size, first_end}
use Rattle.format_options.specs.Options.{no_options, with_precision}
use Rattle.format_options.specs.Letters.{zero_digit}
use Rattle.format_options.specs.declared.Part.{Part}
use Rattle.format_options.specs.declared.Options.{Options}
use Rattle.format_number.specs.Number.{peeked, consume_u32}
use Rattle.format_options.specs.declared.FormatError.{FormatError}
use Rattle.format_number.specs.declared.Number.{Number}
use Rattle.format_arms.specs.Arms.{start, alignment, min_width, precision, type, end, arm_of}
use Rattle.format_arms.specs.ArmsLaws.{ArmIs, arm_is}
use Rattle.format_arms.specs.declared.Position.{Position}
use Rattle.format_arms.specs.declared.Arm.{Arm}
use Rattle.format_arms.specs.declared.Arm.TheVariants as arm
use Rattle.format.specs.Parse.{len_utf8, Body, Goes, Fails, on_consumed, body_of, OnePass, add_fill, parse_from, parse_with, append, parse, string_of, PartIn, add_all}

-- ---- the pool

-- one more at the end
add_last : {P : Type 0} (add : P → Part → P) (pool : P) (parts : List Part) (part : Part)
    → add_all add pool (append parts part) ≡ add (add_all add pool parts) part
add_last add pool [] part = refl
add_last add pool (q ∷ parts) part = add_last add (add pool q) parts part

module _ {P : Type 0} (add : P → Part → P) (look : ℕ → ℕ) (edition : ℕ) (pool : P) where
  -- what is parsed with a list, as what is parsed with the pool
  abbrev pub poured : OnePass (List Part) → OnePass P
  poured r = record { options = r.options; outcome = r.outcome; pool = add_all add pool r.pool }

  add_fill_lem : (parts : List Part) (fill : Option Part) → add_fill add (add_all add pool parts) fill ≡ add_all add pool (add_fill append parts fill)
  add_fill_lem parts (Some part) = sym (add_last add pool parts part)
  add_fill_lem parts None = refl

  adds : (k at : ℕ) (position : Position) (o : Options) (parts : List Part) (cs : List ℕ)
      → parse_from add look edition k at position o (add_all add pool parts) cs ≡ poured (parse_from append look edition k at position o parts cs)
  unfolding parse_from
  adds k at position o parts [] = refl
  adds (suc k) at position o parts (c ∷ cs) = adds k (at + len_utf8 c) position o parts cs
  adds zero at position o parts (c ∷ cs) =
      go (body_of look edition at o c cs (arm_of c (peeked cs) position)) refl (λ k q r more. adds k (at + len_utf8 c) q r more cs)
    where
      go : (b : Body) → body_of look edition at o c cs (arm_of c (peeked cs) position) ≡ b
          → ((k : ℕ) (q : Position) (r : Options) (more : List Part) → parse_from add look edition k (at + len_utf8 c) q r (add_all add pool more) cs
          ≡ poured (parse_from append look edition k (at + len_utf8 c) q r more cs))
          → parse_from add look edition 0 at position o (add_all add pool parts) (c ∷ cs)
          ≡ poured (parse_from append look edition 0 at position o parts (c ∷ cs))
      go (Goes r q k fill) e ih =
          rw (e, parse_from)
          (ap {B = OnePass P} (λ (x : P). parse_from add look edition k (at + len_utf8 c) q r x cs) (add_fill_lem parts fill) ∙ ih k q r (add_fill append parts fill))
      go (Fails x) e ih = rw (e, parse_from)

  pub parse_adds : (cs : List ℕ) → parse_with add look edition pool cs ≡ poured (parse look edition cs)
  parse_adds cs = adds 0 0 start no_options [] cs

-- ---- what is added

module _ (s : List ℕ) where
  pub record ZeroIn (part : Part) : Type 0 where
    pub part_in : PartIn s part
    pub zero_is : string_of s part ≡ zero_digit ∷ []

  -- from the byte `at` on stand the characters cs
  record Rest (at : ℕ) (cs : List ℕ) : Type 0 where
    within : at ≤ length s
    bytes : drop at s ≡ encode_all cs
    scalars : Scalars cs

  rest_on : (at c : ℕ) (cs : List ℕ) → Rest at (c ∷ cs) → Rest (at + len_utf8 c) cs
  unfolding encode_all
  rest_on at c cs r =
      let n = len_utf8 c in
      let b : drop (at + n) s ≡ encode_all cs = sym (drop-drop n at s) ∙ ap (drop n) r.bytes ∙ drop-append_seam (encode c) (encode_all cs) in
      record {
        within = omega (arith, r.within, ap length r.bytes, length-drop at s, length-append (encode c) (encode_all cs));
        bytes = b;
        scalars = r.scalars.1;
      }

  -- the first k characters
  first_part : (at : ℕ) (cs : List ℕ) (k : ℕ) → Rest at cs → string_of s (record { place = at; len = length (encode_all (take k cs)) }) ≡ encode_all (take k cs)
  first_part at cs k r =
      let whole : drop at s ≡ encode_all (take k cs) ++ encode_all (drop k cs) =
      r.bytes ∙ ap encode_all (sym (take-append-drop k cs)) ∙ all_append (take k cs) (drop k cs) in
      ap (take (length (encode_all (take k cs)))) whole ∙ take-append_seam (encode_all (take k cs)) (encode_all (drop k cs))

  scalars_take : (k : ℕ) (cs : List ℕ) → Scalars cs → Scalars (take k cs)
  scalars_take zero cs w = tt
  scalars_take (suc k) [] w = tt
  scalars_take (suc k) (c ∷ cs) w = (w.0, scalars_take k cs w.1)

  part_first : (at : ℕ) (cs : List ℕ) (k : ℕ) → Rest at cs → PartIn s (record { place = at; len = length (encode_all (take k cs)) })
  part_first at cs k r =
      record {
        within =
            omega (
              arith,
              r.within,
              length-drop at s,
              ap length (r.bytes ∙ ap encode_all (sym (take-append-drop k cs)) ∙ all_append (take k cs) (drop k cs)),
              length-append (encode_all (take k cs)) (encode_all (drop k cs)),
            );
        well = record { points = take k cs; scalars = scalars_take k cs r.scalars; same = first_part at cs k r };
      }

  -- one character
  one_len : (c : ℕ) (cs : List ℕ) → length (encode_all (take 1 (c ∷ cs))) ≡ len_utf8 c
  unfolding encode_all
  one_len c cs = ap length (append-nil (encode c))

  part_one : (at c : ℕ) (cs : List ℕ) → Rest at (c ∷ cs) → PartIn s (record { place = at; len = len_utf8 c })
  part_one at c cs r = subst (λ (n : ℕ). PartIn s (record { place = at; len = n })) (one_len c cs) (part_first at (c ∷ cs) 1 r)

  zero_one : (at c : ℕ) (cs : List ℕ) → c ≡ zero_digit → Rest at (c ∷ cs) → ZeroIn (record { place = at; len = len_utf8 c })
  unfolding encode_all encode
  zero_one at c cs e r =
      record {
        part_in = part_one at c cs r;
        zero_is =
            ap (λ (n : ℕ). take n (drop at s)) (sym (one_len c cs)) ∙ first_part at (c ∷ cs) 1 r ∙ ap (λ (d : ℕ). encode_all (d ∷ [])) e;
      }

  module _ {P : Type 0} (add : P → Part → P) (I : Position → Option Part → P → Type 0) where
    -- I, of the position, the options' fill and the pool, is kept
    pub record Keeps : Type 0 where
      pub by_fill : (q : Position) (fill : Option Part) (pool : P) (part : Part) → I start fill pool → PartIn s part → q ≢ start → I q (Some part) (add pool part)
      pub by_zero : (p q : Position) (fill : Option Part) (pool : P) (part : Part) → I p fill pool → ZeroIn part → q ≢ start → I q (Some part) (add pool part)
      pub by_other : (p q : Position) (fill : Option Part) (pool : P) → I p fill pool → q ≢ start → I q fill pool

    -- it holds at the end, whatever the position there
    abbrev pub Kept : OnePass P → Type 0
    Kept r = (q : Position) × I q r.options.fill r.pool

    module _ (keeps : Keeps) (look : ℕ → ℕ) (edition : ℕ) where
      -- it holds after a body
      abbrev After : P → Body → Type 0
      After pool (Goes o q k fill) = I q o.fill (add_fill add pool fill)
      After pool (Fails e) = Unit {0}

      after : (at : ℕ) (p : Position) (o : Options) (pool : P) (c : ℕ) (cs : List ℕ) → Rest at (c ∷ cs) → I p o.fill pool
          → (a : Arm) → ArmIs c (peeked cs) p a → After pool (body_of look edition at o c cs a)
      after at p o pool c cs r i arm.FillSign t =
          keeps.by_fill min_width o.fill pool _ (subst (λ (q : Position). I q o.fill pool) t.1 i) (part_one at c cs r) (λ e. cc)
      after at p o pool c cs r i arm.Align t = keeps.by_other p min_width o.fill pool i (λ e. cc)
      after at p o pool c cs r i arm.ZeroFill t = keeps.by_zero p min_width o.fill pool _ i (zero_one at c cs t r) (λ e. cc)
      after at p o pool c cs r i arm.MinWidth t = go _ (λ n. refl) (consume_u32 c cs)
        where
          go : (f : ℕ → Options) → ((n : ℕ) → o.fill ≡ (f n).fill) → (x : Result Number FormatError) → After pool (on_consumed x (λ n k. Goes (f n) precision k None))
          go f same (Ok v) =
              subst (λ (fill : Option Part). I precision fill pool) (same v.n) (keeps.by_other p precision o.fill pool i (λ e. cc))
          go f same (Err e) = tt
      after at p o pool c cs r i arm.Precision t = go (consume_u32 (peeked cs) (drop 1 cs))
        where
          go : (x : Result Number FormatError) → After pool (on_consumed x (λ n k. Goes (with_precision n o) type (suc k) None))
          go (Ok v) = keeps.by_other p type o.fill pool i (λ e. cc)
          go (Err e) = tt
      after at p o pool c cs r i (arm.Represent x) t = keeps.by_other p end o.fill pool i (λ e. cc)
      after at p o pool c cs r i arm.FillCluster t =
          let z : length (encode_all (take (first_size look edition (c ∷ cs)) (c ∷ cs))) ≡ first_end look edition 0 (c ∷ cs) = omega arith in
          let part = subst (λ (n : ℕ). PartIn s (record { place = at; len = n })) z (part_first at (c ∷ cs) (first_size look edition (c ∷ cs)) r) in
          keeps.by_fill alignment o.fill pool _ (subst (λ (q : Position). I q o.fill pool) t i) part (λ e. cc)
      after at p o pool c cs r i arm.Unexpected t = tt

      kept : (k at : ℕ) (p : Position) (o : Options) (pool : P) (cs : List ℕ) → Rest at cs → I p o.fill pool → Kept (parse_from add look edition k at p o pool cs)
      unfolding parse_from
      kept k at p o pool [] r i = (p, i)
      kept (suc k) at p o pool (c ∷ cs) r i = kept k (at + len_utf8 c) p o pool cs (rest_on at c cs r) i
      kept zero at p o pool (c ∷ cs) r i =
          go (body_of look edition at o c cs (arm_of c (peeked cs) p)) refl
          (λ k q o' pool' j. kept k (at + len_utf8 c) q o' pool' cs (rest_on at c cs r) j)
        where
          go : (b : Body) → body_of look edition at o c cs (arm_of c (peeked cs) p) ≡ b
              → ((k : ℕ) (q : Position) (o' : Options) (pool' : P) → I q o'.fill pool' → Kept (parse_from add look edition k (at + len_utf8 c) q o' pool' cs))
              → Kept (parse_from add look edition 0 at p o pool (c ∷ cs))
          go (Goes o' q k fill) e ih =
              let j = subst (After pool) e (after at p o pool c cs r i (arm_of c (peeked cs) p) (arm_is c (peeked cs) p)) in
              rw (e, parse_from) (ih k q o' (add_fill add pool fill) j)
          go (Fails x) e ih = rw (e, parse_from) (p, i)

      pub parse_keeps : (pool : P) → WellFormed s → I start None pool → Kept (parse_with add look edition pool (chars s))
      parse_keeps pool w i =
          let v = chars_well s w in
          kept 0 0 start no_options pool (chars s) (record { within = omega arith; bytes = v.0; scalars = v.1 }) i
