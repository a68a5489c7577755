-- lexer.rs `consume_id_or_keyword`: a name whose first byte is no ASCII.
--     no_word, no_keyword     it is no word that begins with an ASCII byte, and so no keyword
--     id_token                its token is an Id
-- Assumes nothing.
use Rattle.std.specs.Prelude.{ℕ, zero, suc, ◌-◌, ◌≤◌, ◌<◌, ◌≡◌, Bool, true, false, List, [], ◌∷◌, ltb, eqb, length, get_or, take, drop}
use Rattle.std.proofs.Common.{arith, sym, ap, ◌∙◌, drop-cons, eq-eqb, ne_eqb, ltb-true}
use Rattle.std.proofs.Math.Path.{refl}
use Rattle.std.proofs.lemmas.Bool.{false≢true}
use Rattle.base.specs.PickLaws.{by_test}
use Rattle.base.specs.CasesLaws.{pick_yes, pick_no}
use Rattle.position.specs.declared.Reach.{Reach}
use Rattle.token.specs.Kind.{id, dot}
use Rattle.words.specs.Words.{is_word, else_word, r_word}
use Rattle.words.specs.WordsLaws.{by_first}
use Rattle.keywords.specs.Keywords.{keywords, keyword_of}
use Rattle.text.specs.Stands.{Stands, chars_from}
use Rattle.state.specs.Lexer.{reach_of, token_to}
use Rattle.state.specs.declared.Lexer.{Lexer}
use Rattle.state.specs.declared.Taken.{Taken}
use Rattle.names.specs.ConsumeIdOrKeyword.{name_token}
use Rattle.names.specs.NameLaws.{name_token_at, keyword_at}

-- the first byte is ASCII
abbrev pub opens_low : List ℕ → Bool
opens_low [] = false
opens_low (c ∷ w) = ltb c 128

pub no_word : (n b : ℕ) (bs : List ℕ) → 128 ≤ b → (w : List ℕ) → opens_low w ≡ true → is_word w (take n (b ∷ bs)) ≡ false
unfolding is_word
no_word n b bs h [] e = absurd (false≢true e)
no_word zero b bs h (c ∷ w) e = refl
no_word (suc n) b bs h (c ∷ w) e = let l = ltb-true c 128 e in rw (ne_eqb b c (λ q. omega arith))

module _ (n b : ℕ) (bs : List ℕ) (h : 128 ≤ b) where
  pub no_keyword : keyword_of (take n (b ∷ bs)) ≡ id
  unfolding keyword_of
  no_keyword =
      by_first (λ (k : ℕ). k ≡ id) (λ e. opens_low e.text) (λ e. is_word e.text (take n (b ∷ bs))) (λ e. e.kind) id
      (λ e low t. absurd (false≢true (sym (no_word n b bs h e.text low) ∙ t)))
      refl
      keywords
      refl

module _ (s : List ℕ) (l : Lexer) (end : Reach) (o : Stands s (reach_of l)) (m : (reach_of l).byte.0 < length s) (h : 128 ≤ get_or s (reach_of l).byte.0 0) where
  abbrev name : List ℕ
  name = take (end.byte.0 - (reach_of l).byte.0) (drop (reach_of l).byte.0 s)

  pub id_token : name_token (chars_from s (reach_of l)) end l ≡ token_to id end l
  id_token =
      let i = (reach_of l).byte.0 in
      let n = end.byte.0 - i in
      let split = drop-cons s i 0 m in
      let word : (w : List ℕ) → opens_low w ≡ true → is_word w name ≡ false =
      λ w e. ap (λ (x : List ℕ). is_word w (take n x)) split ∙ no_word n (get_or s i 0) _ h w e
      in
      let keyword : keyword_of name ≡ id = ap (λ (x : List ℕ). keyword_of (take n x)) split ∙ no_keyword n (get_or s i 0) _ h in
      name_token_at s l end o (reach_of l) refl
      ∙ pick_no _ _ _ _ (word else_word refl)
      (pick_no _ _ _ _ (word r_word refl)
      (keyword_at s l end o (reach_of l) refl (keyword_of name) refl
      ∙ by_test (λ (t : Taken). t ≡ token_to id end l) (eqb l.previous_token dot) (λ _. refl)
      (λ _. pick_yes _ _ _ _ (eq-eqb (keyword_of name) id keyword) refl)))
