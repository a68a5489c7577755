-- What a cursor makes of the status that a scan writes: the layout and how the scan ended, and nothing where it was refused, so that no call over its
-- list shows anything. And how the contracts come of what is written of an answer.
--     by_end, by_stuck, by_end_half, by_stuck_half, by_refused    what each number of a scan names
--     next_refused, peek_refused, look_refused    refusal 8, whatever the list and the other numbers are
--     given_shown, looked_shown, given_told_lem, looked_told       each number is that of an answer
-- Assumes nothing.
use Rattle.std.specs.Prelude.{ℕ, ◌≡◌, refl, List, Err}
use Rattle.std.proofs.Common.{ap, ◌∙◌}
use Rattle.lookahead.specs.Next as next
use Rattle.lookahead.specs.Peek as peek
use Rattle.lookahead.specs.Told.{record_numbers, given_told, peeked_told}
use Rattle.lookahead.specs.declared.answer.Told.{Told}
use Rattle.lookahead.specs.Next.{Given}
use Rattle.lookahead.specs.Peek.{Peeked}
use Rattle.lookahead.specs.declared.NextError.TheVariants as given
use Rattle.lookahead.specs.declared.LookError.TheVariants as peeked
use Rattle.layout.specs.declared.Layout.{Layout}
use Rattle.layout.specs.declared.Layout.TheVariants.{Whole, Half}
use Rattle.cursor.specs.declared.Status.{Status}
use Rattle.cursor.specs.declared.Status.TheVariants.{End, Stuck}
use Rattle.reading.specs.Status.{end_number, stuck_number, refused_number, end_half_number, stuck_half_number}
use Rattle.cursor_numbers.specs.Cursors.{by_status, ShownIs, next_by, GivenIs, LookedIs, peek_by, look_by}

module _ {A : Type 0} (f : Layout → Status → A) (y : A) where
  pub by_end : by_status f y end_number ≡ f Whole End
  by_end = refl

  pub by_stuck : by_status f y stuck_number ≡ f Whole Stuck
  by_stuck = refl

  pub by_end_half : by_status f y end_half_number ≡ f Half End
  by_end_half = refl

  pub by_stuck_half : by_status f y stuck_half_number ≡ f Half Stuck
  by_stuck_half = refl

  pub by_refused : by_status f y refused_number ≡ y
  by_refused = refl

pub next_refused : (list : List ℕ) (taken queued count : ℕ) → next_by list taken queued count refused_number ≡ Err given.BadState
next_refused list taken queued count = refl

pub peek_refused : (list : List ℕ) (taken queued count n : ℕ) → peek_by list taken queued count refused_number n ≡ Err peeked.BadState
peek_refused list taken queued count n = refl

pub look_refused : (list : List ℕ) (taken queued count n : ℕ) → look_by list taken queued count refused_number n ≡ Err peeked.BadState
look_refused list taken queued count n = refl

-- ---- for the code

pub given_shown : {given x : Given} (taken queued : ℕ) {shown : ℕ} {words : List ℕ} {place r : ℕ} → given ≡ x
    → let told = given_told x taken queued in
    ShownIs told.shown told.row (next.number_of x) (next.place_of x) shown words place r
    → GivenIs given taken queued told.taken told.queued shown words place r
given_shown taken queued e s =
    rw e
    (record {
      number = s.number_is;
      taken_is = refl;
      queued_is = refl;
      shown_is = s.shown_is;
      words_are = s.words_are;
      place_is = s.place_is;
    })

pub looked_shown : {looked x : Peeked} (taken queued : ℕ) {shown : ℕ} {words : List ℕ} {place r : ℕ} → looked ≡ x
    → let told = peeked_told x taken queued in
    ShownIs told.shown told.row (peek.number_of x) (peek.place_of x) shown words place r
    → LookedIs looked taken queued told.queued shown words place r
looked_shown taken queued e s =
    rw e
    (record {
      number = s.number_is;
      queued_is = refl;
      shown_is = s.shown_is;
      words_are = s.words_are;
      place_is = s.place_is;
    })

-- the same by an answer's own words
pub given_told_lem : {given : Given} {words : List ℕ} {taken queued place r : ℕ} {told : Told} → told ≡ given_told given taken queued
    → words ≡ record_numbers told.row → place ≡ next.place_of given → r ≡ next.number_of given
    → GivenIs given taken queued told.taken told.queued told.shown words place r
given_told_lem t w p r =
    record {
      number = r;
      taken_is = ap (λ (x : Told). x.taken) t;
      queued_is = ap (λ (x : Told). x.queued) t;
      shown_is = ap (λ (x : Told). x.shown) t;
      words_are = w ∙ ap (λ (x : Told). record_numbers x.row) t;
      place_is = p;
    }

pub looked_told : {looked x : Peeked} {words : List ℕ} {taken queued place r : ℕ} {told : Told} → x ≡ looked → told ≡ peeked_told x taken queued
    → words ≡ record_numbers told.row → place ≡ peek.place_of x → r ≡ peek.number_of x
    → LookedIs looked taken queued told.queued told.shown words place r
looked_told {looked} {taken} {queued} {told} e t w p r =
    let is : told ≡ peeked_told looked taken queued = t ∙ ap (λ (y : Peeked). peeked_told y taken queued) e in
    record {
      number = r ∙ ap peek.number_of e;
      queued_is = ap (λ (y : Told). y.queued) is;
      shown_is = ap (λ (y : Told). y.shown) is;
      words_are = w ∙ ap (λ (y : Told). record_numbers y.row) is;
      place_is = p ∙ ap peek.place_of e;
    }
