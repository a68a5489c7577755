-- That no second answer fits a call: two calls on the same input return the same number and leave the same words, every one of them.
--     koto_read_char_has_one_answer, koto_check_utf8_has_one_answer, koto_check_table_has_one_answer
--     koto_read_table_has_one_answer, koto_first_cluster_has_one_answer
-- Assumes nothing.
use Rattle.std.specs.Prelude.{ℕ, ◌≡◌, List}
use Rattle.std.proofs.Common.{sym, ◌∙◌}
use Rattle.koto_text.specs.Bytes.{ReadCharIs, CheckUtf8Is}
use Rattle.koto_text.specs.Tables.{CheckTableIs, ReadTableIs}
use Rattle.koto_text.specs.Clusters.{FirstClusterIs}

pub koto_read_char_has_one_answer : {bytes : List ℕ} {at code len r code' len' r' : ℕ}
    → ReadCharIs bytes at code len r → ReadCharIs bytes at code' len' r'
    → (r ≡ r') × (code ≡ code') × (len ≡ len')
koto_read_char_has_one_answer p q = (
  p.number ∙ sym q.number,
  p.code_is ∙ sym q.code_is,
  p.len_is ∙ sym q.len_is,
)

pub koto_check_utf8_has_one_answer : {bytes : List ℕ} {place r place' r' : ℕ}
    → CheckUtf8Is bytes place r → CheckUtf8Is bytes place' r'
    → (r ≡ r') × (place ≡ place')
koto_check_utf8_has_one_answer p q = (
  p.number ∙ sym q.number,
  p.place_is ∙ sym q.place_is,
)

pub koto_check_table_has_one_answer : {table : List ℕ} {place r place' r' : ℕ}
    → CheckTableIs table place r → CheckTableIs table place' r'
    → (r ≡ r') × (place ≡ place')
koto_check_table_has_one_answer p q = (
  p.number ∙ sym q.number,
  p.place_is ∙ sym q.place_is,
)

pub koto_read_table_has_one_answer : {bytes old new new' : List ℕ} {count place r count' place' r' : ℕ}
    → ReadTableIs bytes old new count place r → ReadTableIs bytes old new' count' place' r'
    → (r ≡ r') × (new ≡ new') × (count ≡ count') × (place ≡ place')
koto_read_table_has_one_answer p q = (
  p.number ∙ sym q.number,
  p.row ∙ sym q.row,
  p.count_is ∙ sym q.count_is,
  p.place_is ∙ sym q.place_is,
)

pub koto_first_cluster_has_one_answer : {source table : List ℕ} {edition : ℕ} {len place r len' place' r' : ℕ}
    → FirstClusterIs source table edition len place r → FirstClusterIs source table edition len' place' r'
    → (r ≡ r') × (len ≡ len') × (place ≡ place')
koto_first_cluster_has_one_answer p q = (
  p.number ∙ sym q.number,
  p.len_is ∙ sym q.len_is,
  p.place_is ∙ sym q.place_is,
)
