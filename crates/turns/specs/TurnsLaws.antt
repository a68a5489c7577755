-- Turns of a loop that reads on.
--     takes_half             what the read step answers, where it takes a known token
--     stands, half_is        at an ASCII byte a character stands, and it takes what `get_next_token` takes
--     writable, turned       the token's record may be written; with it a turn is made; writes: it was written
--     takes, writable_kept, turned_kept, written_token    the same, where everything is at hand for a turn
--     ran_none, ran_turn, ran_ran    no turn, one turn more, and as many more
--     turns_none, turns_one, turns_after    a step that makes no turn, one that makes one, and one after a run
-- Assumes nothing.
use Rattle.std.specs.Prelude.{ℕ, ◌+◌, ◌≤◌, ◌<◌, ◌≡◌, refl, true, false, List, eqb, length, get_or}
use Rattle.std.proofs.Common.{arith, sym, ap, subst, ◌∙◌}
use Rattle.base.specs.RangeLaws.{under}
use Rattle.base.specs.Refusal.{source_most}
use Rattle.utf8.specs.Read.{is_tail}
use Rattle.property.specs.Table.{properties_at}
use Rattle.fitness.specs.Fit.{FitTable}
use Rattle.token.specs.Kind.{error}
use Rattle.token.specs.declared.Token.{Token}
use Rattle.rows.specs.declared.Row.{Row}
use Rattle.half_rows.specs.Half.{marked}
use Rattle.layout.specs.Layout.{room_in, put_in}
use Rattle.layout.specs.LayoutLaws.{put_length}
use Rattle.layout.specs.declared.Layout.{Layout}
use Rattle.layout.specs.declared.Layout.TheVariants as layouts
use Rattle.text.specs.Stands.{Stands, chars_from}
use Rattle.state.specs.Lexer.{reach_of, settled, remembered}
use Rattle.state.specs.State.{state_of, changed_by}
use Rattle.state.specs.declared.Change.{Change}
use Rattle.state.specs.declared.Change.TheVariants.{Keep}
use Rattle.state.specs.declared.Lexer.{Lexer}
use Rattle.state.specs.declared.State.{State}
use Rattle.state.specs.declared.Taken.{Taken}
use Rattle.lexer.specs.GetNextToken.{take_token}
use Rattle.lexer.specs.Step.{is_full, stood_still, half_of, half}
use Rattle.lexer.specs.ArmLaws.{half_some}
use Rattle.lexer.specs.Fine.{Fine}
use Rattle.lexer.specs.declared.Half.{Half}
use Rattle.lexer.specs.declared.What.TheVariants as what
use Rattle.stepping.specs.Invariant.{Ok}
use Rattle.reading.specs.Reading.{row_of}
use Rattle.reading.specs.HeadLaws.{Head, found_by, changes_is, made, low, bounds, packs, falls, head_again}
use Rattle.reading.specs.GoingLaws.{again}
use Rattle.turns.specs.Turns.{Takes, after_of, Ready, Writable, Written, Turned, Ran, TurnsIs}
use Rattle.turns.specs.declared.Turns.{Turns}

no_two : {A : Type 0} → true ≡ false → A
no_two e = let z : ◌≡◌ {A = ℕ} 0 1 = cc in absurd (omega arith)

-- ---- the token

-- what the read step answers
abbrev pub taken_half : Taken → Half
taken_half t = record { what = what.Token t.token; lexer = after_of t; change = t.change }

half_taken : (l : Lexer) (t : Taken) → is_full t.change l.depth ≡ false → eqb t.token.kind error ≡ false → half_of l t ≡ taken_half t
unfolding stood_still
half_taken l t f r = rw (f, r)

pub takes_half : {s table : List ℕ} {edition : ℕ} {l : Lexer} {t : Taken} → Takes s table edition l t
    → taken_half t ≡ half (properties_at table) edition s l
takes_half {s} {table} {edition} {l} {t} k = sym (k.is ∙ half_taken l t k.fits k.real)

-- at an ASCII byte
module _ (s table : List ℕ) (edition : ℕ) (l : Lexer) (fine : Fine s l) (h : (reach_of l).byte.0 < length s) (low : get_or s (reach_of l).byte.0 0 < 128) where
  no_tail : is_tail (get_or s (reach_of l).byte.0 0) ≡ false
  no_tail = under (get_or s (reach_of l).byte.0 0) 0x80 0xbf (omega arith)

  pub stands : Stands s (reach_of l)
  stands = record { small = fine.small; inside = fine.inside; well = fine.whole no_tail; lines = fine.lines; columns = fine.columns }

  pub half_is : {t : Taken} → take_token (properties_at table) edition (chars_from s (reach_of l)) (settled l) ≡ t → half (properties_at table) edition s l ≡ half_of l t
  half_is e = half_some (properties_at table) edition s l no_tail (fine.whole no_tail) h ∙ ap (half_of l) e

-- ---- its record, and the turn

module _ (layout : Layout) (s table : List ℕ) (edition : ℕ) (l : Lexer) (codes : List ℕ) (k : ℕ) (list : List ℕ)
    (o : Ok s (state_of l codes)) (fit : FitTable table) (room : k < room_in layout list) where
  head : Head s table edition (state_of l codes)
  head = record { ok = o; fit = fit }

  module _ (t : Taken) (e : Takes s table edition l t) where
    finds : (half (properties_at table) edition s l).what ≡ what.Token t.token
    finds = found_by head (takes_half e) refl

    row_is : row_of t.token l (after_of t) ≡ row_of t.token l (half (properties_at table) edition s l).lexer
    row_is = made head t.token (takes_half e) refl

    pub writable : Writable layout list k t.token l (after_of t)
    writable =
        let b = subst (λ (x : Half). (x.lexer.place.previous_byte.0 ≤ source_most) × (x.lexer.place.current_byte.0 ≤ source_most)) (sym (takes_half e)) (bounds head) in
        record {
          room = room;
          start = b.0;
          end = b.1;
          line = omega (arith, o.fine.lines, o.fine.inside, o.fine.small);
          column = omega (arith, o.fine.columns, o.fine.inside, o.fine.small);
          depth = low head;
          packs = packs head t.token finds row_is;
        }

    pub turned : {x : State} {new : List ℕ} → new ≡ put_in layout list k (marked (row_of t.token l (after_of t)) false)
        → x ≡ changed_by t.change (state_of (after_of t) codes) → Turned layout s table edition (state_of l codes) k list x new
    turned {x} {new} p q =
        let next = changes_is head (takes_half e) q in
        record {
          ok = (head_again head next).ok;
          long = ap length p ∙ put_length layout list k (marked (row_of t.token l (after_of t)) false) room;
          goes = λ st₀ k₀ l₀ g. again g t.token finds room row_is p next;
          falls = falls head t.token finds next;
        }

-- what is written, as the code comes by it
pub writes : {layout : Layout} {list : List ℕ} {k : ℕ} (token : Token) (before : Lexer) {after x : Lexer} {row : Row} {new : List ℕ} → x ≡ after
    → row ≡ row_of token before x → new ≡ put_in layout list k (marked row false) → Written layout list k token before after x new
writes {layout} {list} {k} token before e q p =
    record { after_it = e; record_put = p ∙ ap (λ (r : Row). put_in layout list k (marked r false)) (q ∙ ap (row_of token before) e) }

module _ {layout : Layout} {s table : List ℕ} {edition : ℕ} {l : Lexer} {codes : List ℕ} {k : ℕ} {list : List ℕ} where
  pub takes : {t : Taken} → Ready layout s table edition l codes k list t → is_full t.change l.depth ≡ false → Takes s table edition l t
  takes r f = record { is = r.is; fits = f; real = r.real }

-- where the modes are kept
module _ {layout : Layout} {s table : List ℕ} {edition : ℕ} {l : Lexer} {codes : List ℕ} {k : ℕ} {list : List ℕ} {t : Taken}
    (r : Ready layout s table edition l codes k list t) (keeps : t.change ≡ Keep) where
  takes_kept : Takes s table edition l t
  takes_kept = takes r (ap (λ (c : Change). is_full c l.depth) keeps)

  pub writable_kept : Writable layout list k t.token l (after_of t)
  writable_kept = writable layout s table edition l codes k list r.ok r.fit r.room t takes_kept

  pub turned_kept : {x : Lexer} {new : List ℕ} → Written layout list k t.token l (after_of t) x new
      → Turned layout s table edition (state_of l codes) k list (state_of x codes) new
  turned_kept w =
      turned layout s table edition l codes k list r.ok r.fit r.room t takes_kept w.record_put
      (ap (λ (y : Lexer). state_of y codes) w.after_it ∙ ap (λ (c : Change). changed_by c (state_of (after_of t) codes)) (sym keeps))

-- by the same token
pub written_token : {layout : Layout} {list : List ℕ} {k : ℕ} {token same : Token} {before x : Lexer} {new : List ℕ} (y : Lexer) → token ≡ same
    → Written layout list k token before (remembered token.kind y) x new → Written layout list k same before (remembered same.kind y) x new
written_token {layout} {list} {k} {token} {same} {before} {x} {new} y e w =
    subst (λ (t : Token). Written layout list k t before (remembered t.kind y) x new) e w

-- there are no more records than words
pub room_most_lem : (layout : Layout) (l : List ℕ) → room_in layout l ≤ length l
room_most_lem layouts.Whole l = omega arith
room_most_lem layouts.Half l = omega arith

-- ---- many turns

module _ {layout : Layout} {s table : List ℕ} {edition : ℕ} {st : State} {k : ℕ} {list : List ℕ} where
  pub ran_none : Ok s st → Ran layout s table edition st k list st k list
  ran_none o = record { ok = o; long = refl; goes = λ st₀ k₀ l₀ g. g; less = omega arith }

  module _ {x : State} {j : ℕ} {new : List ℕ} (r : Ran layout s table edition st k list x j new) where
    pub ran_turn : {y : State} {last : List ℕ} → Turned layout s table edition x j new y last → Ran layout s table edition st k list y (j + 1) last
    ran_turn t =
        record { ok = t.ok; long = t.long ∙ r.long; goes = λ st₀ k₀ l₀ g. t.goes st₀ k₀ l₀ (r.goes st₀ k₀ l₀ g); less = omega (arith, t.falls, r.less) }

    pub ran_ran : {y : State} {i : ℕ} {last : List ℕ} → Ran layout s table edition x j new y i last → Ran layout s table edition st k list y i last
    ran_ran t =
        record { ok = t.ok; long = t.long ∙ r.long; goes = λ st₀ k₀ l₀ g. t.goes st₀ k₀ l₀ (r.goes st₀ k₀ l₀ g); less = omega (arith, t.less, r.less) }

-- ---- what a step answers

module _ {layout : Layout} {s table : List ℕ} {edition : ℕ} {l : Lexer} {codes : List ℕ} {k : ℕ} {list : List ℕ} where
  pub turns_none : Ok s (state_of l codes) → {r : Turns} → r ≡ record { on = false; lexer = l; count = k } → TurnsIs layout s table edition l codes k list r codes list
  turns_none o e =
      subst (λ (x : Turns). TurnsIs layout s table edition l codes k list x codes list) (sym e) (record { ran = ran_none o; falls = λ f. no_two (sym f) })

  pub turns_one : {x : Lexer} {codes' new : List ℕ} → Ok s (state_of l codes) → Turned layout s table edition (state_of l codes) k list (state_of x codes') new
      → TurnsIs layout s table edition l codes k list (record { on = true; lexer = x; count = k + 1 }) codes' new
  turns_one o t = record { ran = ran_turn (ran_none o) t; falls = λ _. t.falls }

  -- after as many turns as a run made
  pub turns_after : {m : Lexer} {j : ℕ} {mid : List ℕ} {r : Turns} {codes' new : List ℕ} → Ran layout s table edition (state_of l codes) k list (state_of m codes) j mid
      → TurnsIs layout s table edition m codes j mid r codes' new → TurnsIs layout s table edition l codes k list r codes' new
  turns_after a b = record { ran = ran_ran a b.ran; falls = λ e. omega (arith, a.less, b.falls e) }
