-- C-14: look-ups that agree on the code points that are left give the same tokens. Each law is the definition's own body, in which the
-- properties of a code point are a path from those that one look-up gives to those that the other gives.
--     TurnsAgree, follow_agrees     a loop depends on nothing but its turns
--     comment_agrees, literal_agrees, raw_agrees, options_agrees, id_or_keyword_agrees, ignored_agrees     what a `consume_*` takes
--     first_agrees                  the first cluster
-- Assumes nothing.
use Rattle.std.specs.Prelude.{ℕ, zero, suc, ◌+◌, ◌-◌, ◌≡◌, ◌&&◌, ◌||◌, eqb, get_or, take, drop, Bool}
use Rattle.std.proofs.Math.Path.{refl}
use Rattle.std.proofs.Math.Bool.{true, false}
use mathlib.Core.List.{List, [], ◌∷◌}
use Rattle.std.proofs.Math.ListN.{length}
use Rattle.base.specs.Pick.{pick}
use Rattle.position.specs.Place.{along_by, line_by}
use Rattle.position.specs.declared.Reach.{Reach}
use Rattle.utf8.specs.Encode.{encode_all}
use Rattle.property.specs.Parts.{width_of}
use Rattle.uax29.specs.Uax29.{joined}
use Rattle.cluster.specs.First.{before, go_on, cluster_size, first_size, second_is}
use Rattle.cluster.specs.FirstLaws.{Agree}
use Rattle.token.specs.Kind.{underscore, comment_single}
use Rattle.text.specs.Tests.{minus, less, caret, greater, no_line_end, id_continue}
use Rattle.text.specs.Count.{len_utf8, run_utf8, run_test}
use Rattle.text.specs.Follow.{next_is, Closed, Stopped, follow_in, drop_bytes}
use Rattle.text.specs.declared.Turn.{Turn}
use Rattle.text.specs.declared.Turn.TheVariants.{Pass, Line, Close, Stuck}
use Rattle.state.specs.Lexer.{reach_of, token_to}
use Rattle.state.specs.declared.Lexer.{Lexer}
use Rattle.newlines.specs.PlainTurn.{plain_turn}
use Rattle.comments.specs.ConsumeComment.{comment_turn, comment_token, consume_comment_multi, consume_comment}
use Rattle.strings.specs.ConsumeStringLiteral.{literal_turn, literal_token, consume_string_literal}
use Rattle.strings.specs.ConsumeRawString.{raw_turn, raw_token, consume_raw_string_contents}
use Rattle.options.specs.ConsumeFormatOptions.{is_aligned, skip_bytes, find_brace, options_token, consume_format_options}
use Rattle.names.specs.ConsumeIdOrKeyword.{name_end, name_token, consume_id_or_keyword, consume_ignored}

-- ---- loops

-- the turns at each of the characters are the same
abbrev pub TurnsAgree : (ℕ → List ℕ → Turn) → (ℕ → List ℕ → Turn) → List ℕ → Type 0
TurnsAgree turn other [] = Unit {0}
TurnsAgree turn other (c ∷ cs) = (turn c cs ≡ other c cs) × TurnsAgree turn other cs

pub follow_agrees : (turn other : ℕ → List ℕ → Turn) (k : ℕ) (r : Reach) (cs : List ℕ) → TurnsAgree turn other cs
    → follow_in turn k r cs ≡ follow_in other k r cs
unfolding follow_in
follow_agrees turn other k r [] a = refl
follow_agrees turn other (suc k) r (c ∷ cs) a = follow_agrees turn other (suc k - len_utf8 c) r cs a.1
follow_agrees turn other zero r (c ∷ cs) a =
    λ i. elim (a.0 i) [ Pass b w ↦ follow_agrees turn other (b - len_utf8 c) (along_by b w r) cs a.1 i | Line b ↦ follow_agrees turn other (b - len_utf8 c) (line_by b r) cs a.1 i | Close b w ↦ Closed (along_by b w r) | Stuck ↦ Stopped ]

module _ (f g : ℕ → ℕ) where
  pub agree_drop : (k : ℕ) (cs : List ℕ) → Agree f g cs → Agree f g (drop k cs)
  agree_drop zero cs a = a
  agree_drop (suc k) [] a = tt
  agree_drop (suc k) (c ∷ cs) a = agree_drop k cs a.1

  run_agrees : (test : ℕ → ℕ → Bool) (r : Reach) (cs : List ℕ) → Agree f g cs → run_test f test r cs ≡ run_test g test r cs
  unfolding run_utf8
  run_agrees test r [] a = refl
  run_agrees test r (c ∷ cs) a =
      λ i. elim (test c (a.0 i)) [ true ↦ run_agrees test (along_by (len_utf8 c) (width_of (a.0 i)) r) cs a.1 i | false ↦ r ]

  -- a turn that asks for the properties of its own character alone
  turns_agree : (turn : (ℕ → ℕ) → ℕ → List ℕ → Turn) → ((c : ℕ) (rest : List ℕ) → f c ≡ g c → turn f c rest ≡ turn g c rest)
      → (cs : List ℕ) → Agree f g cs → TurnsAgree (turn f) (turn g) cs
  turns_agree turn h [] a = tt
  turns_agree turn h (c ∷ cs) a = (h c cs a.0, turns_agree turn h cs a.1)

  comment_turn_lem : (c : ℕ) (rest : List ℕ) → f c ≡ g c → comment_turn f c rest ≡ comment_turn g c rest
  unfolding comment_turn plain_turn
  comment_turn_lem c rest p = λ i. comment_turn (λ _. p i) c rest

  literal_turn_lem : (quote c : ℕ) (rest : List ℕ) → f c ≡ g c → literal_turn f quote c rest ≡ literal_turn g quote c rest
  unfolding literal_turn plain_turn
  literal_turn_lem quote c rest p = λ i. literal_turn (λ _. p i) quote c rest

  raw_turn_lem : (delimiter c : ℕ) (rest : List ℕ) → f c ≡ g c → raw_turn f delimiter c rest ≡ raw_turn g delimiter c rest
  unfolding raw_turn plain_turn
  raw_turn_lem delimiter c rest p = λ i. raw_turn (λ _. p i) delimiter c rest

  pub comment_agrees : (c : ℕ) (cs : List ℕ) (l : Lexer) → Agree f g cs → consume_comment f (c ∷ cs) l ≡ consume_comment g (c ∷ cs) l
  unfolding consume_comment consume_comment_multi
  comment_agrees c cs l a =
      let start = along_by 1 1 (reach_of l) in
      λ i. pick (next_is minus cs)
      (comment_token l (follow_agrees (comment_turn f) (comment_turn g) 0 start cs (turns_agree comment_turn comment_turn_lem cs a) i))
      (token_to comment_single (run_agrees no_line_end start cs a i) l)

  pub literal_agrees : (quote : ℕ) (cs : List ℕ) (l : Lexer) → Agree f g cs
      → consume_string_literal f quote cs l ≡ consume_string_literal g quote cs l
  unfolding consume_string_literal
  literal_agrees quote cs l a =
      λ i. literal_token l
      (follow_agrees (literal_turn f quote) (literal_turn g quote) 0 (reach_of l) cs
      (turns_agree (λ look. literal_turn look quote) (literal_turn_lem quote) cs a) i)

  pub raw_agrees : (delimiter : ℕ) (cs : List ℕ) (l : Lexer) → Agree f g cs
      → consume_raw_string_contents f delimiter cs l ≡ consume_raw_string_contents g delimiter cs l
  unfolding consume_raw_string_contents
  raw_agrees delimiter cs l a =
      λ i. raw_token delimiter l
      (follow_agrees (raw_turn f delimiter) (raw_turn g delimiter) 0 (reach_of l) cs
      (turns_agree (λ look. raw_turn look delimiter) (raw_turn_lem delimiter) cs a) i)

  -- ---- names

  name_agrees : (c : ℕ) (cs : List ℕ) (l : Lexer) → Agree f g cs → name_end f (c ∷ cs) l ≡ name_end g (c ∷ cs) l
  unfolding name_end
  name_agrees c cs l a = run_agrees id_continue (along_by (len_utf8 c) 1 (reach_of l)) cs a

  pub id_or_keyword_agrees : (c : ℕ) (cs : List ℕ) (l : Lexer) → Agree f g cs
      → consume_id_or_keyword f (c ∷ cs) l ≡ consume_id_or_keyword g (c ∷ cs) l
  id_or_keyword_agrees c cs l a = λ i. name_token (c ∷ cs) (name_agrees c cs l a i) l

  pub ignored_agrees : (c : ℕ) (cs : List ℕ) (l : Lexer) → Agree f g cs → consume_ignored f (c ∷ cs) l ≡ consume_ignored g (c ∷ cs) l
  ignored_agrees c cs l a = λ i. token_to underscore (name_agrees c cs l a i) l

  -- ---- clusters and format options

  module _ (edition : ℕ) where
    before_agrees : (left : List ℕ) (k : ℕ) (cs : List ℕ) → Agree f g cs → before f left k cs ≡ before g left k cs
    before_agrees left zero cs a = refl
    before_agrees left (suc k) [] a = refl
    before_agrees left (suc k) (c ∷ cs) a = λ i. before_agrees (a.0 i ∷ left) k cs a.1 i

    go_agrees : (left cs : List ℕ) → Agree f g cs → go_on f edition left cs ≡ go_on g edition left cs
    unfolding go_on
    go_agrees left [] a = refl
    go_agrees left (c ∷ cs) a = λ i. pick (joined edition left (a.0 i)) (suc (go_agrees (a.0 i ∷ left) cs a.1 i)) 0

    size_agrees : (left cs : List ℕ) → Agree f g cs → cluster_size f edition left cs ≡ cluster_size g edition left cs
    size_agrees left [] a = refl
    size_agrees left (c ∷ cs) a = λ i. suc (go_agrees (a.0 i ∷ left) cs a.1 i)

    pub first_agrees : (cs : List ℕ) → Agree f g cs → first_size f edition cs ≡ first_size g edition cs
    first_agrees cs a = size_agrees [] cs a

    second_agrees : (cs : List ℕ) → Agree f g cs → (d : ℕ) → second_is f edition cs d ≡ second_is g edition cs d
    second_agrees cs a d =
        λ i. eqb (get_or (drop (first_agrees cs a i) cs) 0 0) d
        && eqb (size_agrees (before_agrees [] (first_agrees cs a i) cs a i) (drop (first_agrees cs a i) cs) (agree_drop (first_agrees cs a i) cs a) i) 1

    skip_agrees : (cs : List ℕ) → Agree f g cs → skip_bytes f edition cs ≡ skip_bytes g edition cs
    unfolding skip_bytes is_aligned
    skip_agrees cs a =
        λ i. pick (second_agrees cs a less i || (second_agrees cs a caret i || second_agrees cs a greater i))
        (0 + length (encode_all (take (first_agrees cs a i) cs)) + 1) 0

    pub options_agrees : (cs : List ℕ) (l : Lexer) → Agree f g cs
        → consume_format_options f edition cs l ≡ consume_format_options g edition cs l
    unfolding consume_format_options
    options_agrees cs l a =
        λ i. options_token l (find_brace ((reach_of l).byte.0 + skip_agrees cs a i) (drop_bytes (skip_agrees cs a i) cs))
