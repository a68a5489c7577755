-- What `koto_check_table` and `koto_read_table` return and write, from the inner calls' answers.
-- Assumes nothing.
use Rattle.std.specs.Prelude.{ℕ, ◌≡◌, List, length}
use Rattle.fitness.specs.Fit as fit
use Rattle.fitness.specs.Fit.{table_check}
use Rattle.table_file.specs.File as file
use Rattle.table_file.specs.File.{read_table, row_after}

-- what `koto_check_table` ensures
pub record CheckTableIs (table : List ℕ) (place r : ℕ) : Type 0 where
  pub number : r ≡ fit.number_of (table_check table)
  pub place_is : place ≡ fit.place_of (table_check table)

-- what `koto_read_table` ensures, of the row `new` that it leaves of the row `old`
pub record ReadTableIs (bytes old new : List ℕ) (count place r : ℕ) : Type 0 where
  pub number : r ≡ file.number_of (read_table bytes (length old))
  pub count_is : count ≡ file.read_count (read_table bytes (length old))
  pub place_is : place ≡ file.place_of (read_table bytes (length old))
  pub row : new ≡ row_after (read_table bytes (length old)) bytes old
