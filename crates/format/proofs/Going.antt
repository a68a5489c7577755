-- What the loop of `read_format` keeps: the reading from here on is the whole reading.
--     Going                       it stands at the start of a character, or at the end, and nothing has failed
--     begins, ends                it holds before the first turn; what it gives where no character is left
--     Onward, Turned, turned      it holds after a turn that goes on, at a later place; a turn that fails ends as the whole reading does
-- Assumes nothing.
use Rattle.std.specs.Prelude.{Option, Ok, is_err}
use Prim.Native.Nat.{ℕ, zero, suc, ◌+◌, ◌≤◌, ◌<◌}
use native.Mathlib.Omega.{arith}
use native.Mathlib.Nat.{add-zero}
use mathlib.Core.Path.{◌≡◌, refl, sym, ap, ◌∙◌}
use mathlib.Core.Bool.{Bool, true, false}
use mathlib.Core.List.{List, [], ◌∷◌, ◌++◌}
use lib.ListN.{length, take, drop, length-append}
use Rattle.base.specs.Refusal.{format_most}
use Rattle.utf8.specs.Encode.{encode, encode_all, WellFormed}
use Rattle.utf8.specs.EncodeLaws.{encode_some}
use Rattle.utf8.specs.Read.{read_at}
use Rattle.utf8.specs.Chars.{chars, At}
use Rattle.utf8.specs.CharsLaws.{Stops, at_char, After, after_chars}
use Rattle.format_options.specs.declared.Options.{Options}
use Rattle.format_number.specs.PeekLaws.{none_left}
use Rattle.format_options.specs.declared.Part.{Part}
use Rattle.format_options.specs.declared.FormatError.{FormatError}
use Rattle.format_arms.specs.declared.Position.{Position}
use Rattle.format_state.specs.State.{keep, start_parsing, goes_to, fails_with}
use Rattle.format_state.specs.declared.Strings.{Strings}
use Rattle.format_state.specs.declared.Parsing.{Parsing}
use Rattle.format.specs.Parse as parse
use Rattle.format.specs.Parse.{add_fill, OnePass, parse_from, len_utf8}
use Rattle.format.specs.Read.{reading_of, read_format, ended, turn_of, body_at, turn_at, Here}

-- ---- the loop

module _ (look : ℕ → ℕ) (edition : ℕ) where
  -- from a state on, where cs is left and the last arm took the first k characters of it
  abbrev from : ℕ → Parsing → List ℕ → OnePass Strings
  from k p cs = parse_from keep look edition k p.at p.position p.result p.added cs

  -- the same state, further on
  abbrev moved : Parsing → ℕ → Parsing
  moved p i = record { position = p.position; result = p.result; at = i; added = p.added; outcome = p.outcome }

  -- what an arm took is passed over
  skips : (k : ℕ) (p : Parsing) (cs : List ℕ) → from k p cs ≡ from 0 (moved p (p.at + length (encode_all (take k cs)))) (drop k cs)
  unfolding parse_from encode_all
  skips zero p cs = ap {B = OnePass Strings} (λ (i : ℕ). from 0 (moved p i) cs) (sym (add-zero p.at))
  skips (suc k) p [] = refl
  skips (suc k) p (c ∷ cs) =
      let w : p.at + len_utf8 c + length (encode_all (take k cs)) ≡ p.at + length (encode c ++ encode_all (take k cs)) =
      omega (arith, length-append (encode c) (encode_all (take k cs))) in
      skips k (moved p (p.at + len_utf8 c)) cs ∙ ap {B = OnePass Strings} (λ (i : ℕ). from 0 (moved p i) (drop k cs)) w

  module _ (p : Parsing) (c : ℕ) (cs : List ℕ) where
    -- a turn of the definition that goes on, and one that fails
    turns : (o : Options) (q : Position) (k : ℕ) (fill : Option Part) → body_at look edition p c cs ≡ parse.Goes o q k fill
        → from 0 p (c ∷ cs) ≡ from k (goes_to o q (p.at + len_utf8 c) (add_fill keep p.added fill)) cs
    unfolding parse_from
    turns o q k fill e = rw (e, parse_from)

    breaks : (o : FormatError) → body_at look edition p c cs ≡ parse.Fails o → reading_of (from 0 p (c ∷ cs)) ≡ ended (fails_with p o)
    unfolding parse_from
    breaks o e = rw (e, parse_from)

  nothing : (p : Parsing) → p.outcome ≡ Ok tt → ended p ≡ reading_of (from 0 p [])
  unfolding parse_from
  nothing p e = rw e

  module _ (s : List ℕ) where
    pub record Going (p : Parsing) : Type 0 where
      pub fine : p.outcome ≡ Ok tt
      pub small : length s ≤ format_most
      pub within : p.at ≤ length s
      pub well : WellFormed (drop p.at s)
      pub answer : reading_of (from 0 p (chars (drop p.at s))) ≡ read_format look edition (chars s)

    pub begins : WellFormed s → length s ≤ format_most → Going start_parsing
    unfolding read_format
    begins w h = record { fine = refl; small = h; within = omega arith; well = w; answer = refl }

    module _ (p : Parsing) (g : Going p) where
      pub ends : Stops (read_at s p.at) → ended p ≡ read_format look edition (chars s)
      ends t = nothing p g.fine ∙ ap (λ (l : List ℕ). reading_of (from 0 p l)) (sym (none_left s p.at t)) ∙ g.answer

      module _ (c n : ℕ) (found : read_at s p.at ≡ Ok (c, n)) where
        pub stands : Here s p.at c n
        stands = record { small = g.small; well = g.well; found = found }

        abbrev cs : List ℕ
        cs = chars (drop (p.at + n) s)

        here : At s p.at c n
        here = at_char s p.at c n found

        -- the whole reading is that of c and what follows it
        whole : reading_of (from 0 p (c ∷ cs)) ≡ read_format look edition (chars s)
        whole = ap (λ (l : List ℕ). reading_of (from 0 p l)) (sym here.step) ∙ g.answer

        -- further on, and inside
        pub record Onward (next : Parsing) : Type 0 where
          pub going : Going next
          pub later : p.at < next.at

        onward : (o : Options) (q : Position) (k : ℕ) (fill : Option Part) → body_at look edition p c cs ≡ parse.Goes o q k fill
            → Onward (goes_to o q (p.at + length (encode_all (take (suc k) (c ∷ cs)))) (add_fill keep p.added fill))
        unfolding encode_all
        onward o q k fill e =
            let added = add_fill keep p.added fill in
            let e' = p.at + length (encode_all (take (suc k) (c ∷ cs))) in
            let a : After s e' (drop k cs) = rw here.step at (after_chars s p.at g.within g.well (suc k)) in
            let w : p.at + len_utf8 c + length (encode_all (take k cs)) ≡ e' = omega (arith, length-append (encode c) (encode_all (take k cs))) in
            record {
              going = record {
                fine = refl;
                small = g.small;
                within = a.within;
                well = a.well;
                answer =
                    ap (λ (l : List ℕ). reading_of (from 0 (goes_to o q e' added) l)) a.left
                    ∙ ap (λ (i : ℕ). reading_of (from 0 (goes_to o q i added) (drop k cs))) (sym w)
                    ∙ ap reading_of (sym (turns p c cs o q k fill e ∙ skips k (goes_to o q (p.at + len_utf8 c) added) cs))
                    ∙ whole;
              };
              later = omega (arith, encode_some c, length-append (encode c) (encode_all (take k cs)));
            }

        -- after a turn, by whether it has failed
        abbrev pub Turned : Bool → Parsing → Type 0
        Turned false next = Onward next
        Turned true next = ended next ≡ read_format look edition (chars s)

        by_body : (b : parse.Body) → body_at look edition p c cs ≡ b → Turned (is_err (turn_of p (c ∷ cs) b).outcome) (turn_of p (c ∷ cs) b)
        by_body (parse.Goes o q k fill) e = onward o q k fill e
        by_body (parse.Fails x) e = sym (breaks p c cs x e) ∙ whole

        pub turned : (next : Parsing) (t : Bool) → next ≡ turn_at look edition p c cs → is_err next.outcome ≡ t → Turned t next
        turned next t e f =
            rw (← f, e) (by_body _ refl)
