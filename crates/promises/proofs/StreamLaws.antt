-- The promise of `Stream`, proved: `stream_promise`. And what the stream does for ever, whatever the source: `error_for_ever`, `none_for_ever`.
-- Assumes nothing.
use Rattle.std.specs.Prelude.{ℕ, ◌≡◌, List, None}
use Rattle.base.specs.Refusal.{source_most}
use Rattle.property.specs.Table.{properties_at}
use Rattle.fitness.specs.Fit.{FitTable}
use Rattle.fitness.specs.FitLaws.{fit_of}
use Rattle.input.specs.Input.{Readable}
use Rattle.rust.specs.TokenLexer.{TokenLexer, new_token_lexer, get_next_token, state_at, handed, StandsStill}
use Rattle.rust.proofs.StillLaws as rust
use Rattle.rust.proofs.DepthLaws.{hands_depth, hands_near}
use Rattle.rust.proofs.HandsLaws.{reading_hands, stream_end, stream_stuck}
use Rattle.rust.proofs.OneLaws.{hands_one}
use Rattle.promises.specs.Stream.{our_reading, StreamPromise}

pub stream_promise : (source table : List ℕ) (edition : ℕ) → Readable source_most source table edition → StreamPromise source table edition
unfolding state_at
stream_promise source table edition h =
    let fit : FitTable table = fit_of table h.fit in
    let hands = reading_hands source table edition fit h.short h.well in
    record {
      hands = hands;
      only = λ r q. hands_one (properties_at table) edition source new_token_lexer r (our_reading source table edition) q hands;
      depths = record {
        before = hands_depth (properties_at table) edition source (our_reading source table edition) new_token_lexer hands;
        first = λ row e. hands_depth (properties_at table) edition source (our_reading source table edition) new_token_lexer hands 0 row e;
        near = λ i row next e f.
            let n = hands_near (properties_at table) edition source (our_reading source table edition) new_token_lexer hands i row next e f in
            (n.up, n.down);
      };
      at_end = stream_end source table edition fit h.short h.well;
      at_stuck = stream_stuck source table edition fit h.short h.well;
    }

-- from any state of the machine
module _ (look : ℕ → ℕ) (edition : ℕ) (source : List ℕ) (x : TokenLexer) where
  -- an Error that passes no byte is answered for ever
  pub error_for_ever : StandsStill look edition source x → (n : ℕ) → handed look edition source n x ≡ handed look edition source 0 x
  error_for_ever = rust.still_for_ever look edition source x

  -- and so is None
  pub none_for_ever : (get_next_token look edition source x).token ≡ None → (n : ℕ) → handed look edition source n x ≡ None
  none_for_ever = rust.none_for_ever look edition source x
