-- That no second answer fits a call: two calls on the same input return the same number and leave the same words, every one of them.
--     koto_desk_add_string_has_one_answer, koto_desk_parse_has_one_answer, koto_compact_has_one_answer
-- Assumes nothing.
use Rattle.std.specs.Prelude.{ℕ, ◌≡◌, List}
use Rattle.std.proofs.Common.{sym, ◌∙◌}
use Rattle.desks.specs.Desks.{Shared}
use Rattle.koto_desks.specs.Words.{Leaves}
use Rattle.koto_desks.specs.Strings.{AddStringIs}
use Rattle.koto_desks.specs.Formats.{ParseIs}
use Rattle.koto_desks.specs.Compacts.{CompactIs}

-- the words that two calls leave are the same
pub record SameWords (bytes entries owners counts desks bytes' entries' owners' counts' desks' : List ℕ) : Type 0 where
  pub same_bytes : bytes ≡ bytes'
  pub same_entries : entries ≡ entries'
  pub same_owners : owners ≡ owners'
  pub same_counts_lem : counts ≡ counts'
  pub same_desks : desks ≡ desks'

module _ {bytes entries owners counts desks bytes' entries' owners' counts' desks' : List ℕ} where
  leaves_one : {t : Shared} → Leaves t bytes entries owners counts desks → Leaves t bytes' entries' owners' counts' desks' → SameWords bytes entries owners counts desks bytes' entries' owners' counts' desks'
  leaves_one p q =
      record {
        same_bytes = p.bytes_left ∙ sym q.bytes_left;
        same_entries = p.entries_left ∙ sym q.entries_left;
        same_owners = p.owners_left ∙ sym q.owners_left;
        same_counts_lem = p.counts_left ∙ sym q.counts_left;
        same_desks = p.desks_left ∙ sym q.desks_left;
      }

  pub koto_desk_add_string_has_one_answer : {string : List ℕ} {s : Shared} {desk index place r index' place' r' : ℕ}
      → AddStringIs desk string s bytes entries owners counts desks index place r
      → AddStringIs desk string s bytes' entries' owners' counts' desks' index' place' r'
      → (r ≡ r') × (index ≡ index') × (place ≡ place') × SameWords bytes entries owners counts desks bytes' entries' owners' counts' desks'
  koto_desk_add_string_has_one_answer p q = (
    p.number ∙ sym q.number,
    p.index_is ∙ sym q.index_is,
    p.place_is ∙ sym q.place_is,
    leaves_one p.left q.left,
  )

  pub koto_desk_parse_has_one_answer : {format table options options' : List ℕ} {s : Shared} {desk edition value r value' r' : ℕ}
      → ParseIs desk format table edition s bytes entries owners counts desks options value r
      → ParseIs desk format table edition s bytes' entries' owners' counts' desks' options' value' r'
      → (r ≡ r') × (options ≡ options') × (value ≡ value') × SameWords bytes entries owners counts desks bytes' entries' owners' counts' desks'
  koto_desk_parse_has_one_answer p q = (
    p.number ∙ sym q.number,
    p.options_are ∙ sym q.options_are,
    p.value_is ∙ sym q.value_is,
    leaves_one p.left q.left,
  )

  pub koto_compact_has_one_answer : {first second moved newMoved newMoved' : List ℕ} {s : Shared} {r r' : ℕ}
      → CompactIs first second s moved bytes entries owners counts desks newMoved r
      → CompactIs first second s moved bytes' entries' owners' counts' desks' newMoved' r'
      → (r ≡ r') × (newMoved ≡ newMoved') × SameWords bytes entries owners counts desks bytes' entries' owners' counts' desks'
  koto_compact_has_one_answer p q = (
    p.number ∙ sym q.number,
    p.moved_left ∙ sym q.moved_left,
    leaves_one p.left q.left,
  )
