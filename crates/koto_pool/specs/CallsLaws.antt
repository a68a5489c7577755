-- That no second answer fits a call: two calls on the same input return the same number and leave the same words, every one of them.
--     koto_add_string_has_one_answer, koto_parse_has_one_answer
-- Assumes nothing.
use Rattle.std.specs.Prelude.{ℕ, ◌≡◌, List}
use Rattle.std.proofs.Common.{sym, ◌∙◌}
use Rattle.pool_rows.specs.declared.Counts.{Counts}
use Rattle.pool_lent.specs.EntriesLaws.{same_numbers}
use Rattle.pool_lent.specs.declared.Entry.{Entry}
use Rattle.koto_pool.specs.Pools.{AddStringIs}
use Rattle.koto_pool.specs.Formats.{ParseIs}

pub koto_add_string_has_one_answer : {string bytes new_bytes newBytes' : List ℕ} {entries new_entries newEntries' : List Entry}
    {counts newCounts newCounts' : Counts} {index place r index' place' r' : ℕ}
    → AddStringIs string bytes entries counts new_bytes new_entries newCounts index place r
    → AddStringIs string bytes entries counts newBytes' newEntries' newCounts' index' place' r'
    → (r ≡ r') × (index ≡ index') × (place ≡ place') × (new_bytes ≡ newBytes') × (new_entries ≡ newEntries') × (newCounts ≡ newCounts')
koto_add_string_has_one_answer p q = (
  p.told.number ∙ sym q.told.number,
  p.told.index_is ∙ sym q.told.index_is,
  p.told.place_is ∙ sym q.told.place_is,
  p.bytes_left ∙ sym q.bytes_left,
  same_numbers _ _ (p.entries_left ∙ sym q.entries_left),
  p.counts_left ∙ sym q.counts_left,
)

pub koto_parse_has_one_answer : {format table bytes new_bytes newBytes' options options' : List ℕ}
    {entries new_entries newEntries' : List Entry} {counts newCounts newCounts' : Counts} {edition value r value' r' : ℕ}
    → ParseIs format table edition bytes entries counts new_bytes new_entries newCounts options value r
    → ParseIs format table edition bytes entries counts newBytes' newEntries' newCounts' options' value' r'
    → (r ≡ r') × (options ≡ options') × (value ≡ value') × (new_bytes ≡ newBytes') × (new_entries ≡ newEntries') × (newCounts ≡ newCounts')
koto_parse_has_one_answer p q = (
  p.told.number ∙ sym q.told.number,
  p.told.options_are ∙ sym q.told.options_are,
  p.told.value_is ∙ sym q.told.value_is,
  p.bytes_left ∙ sym q.bytes_left,
  same_numbers _ _ (p.entries_left ∙ sym q.entries_left),
  p.counts_left ∙ sym q.counts_left,
)
