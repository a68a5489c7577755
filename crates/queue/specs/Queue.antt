-- lexer.rs `KotoLexer`, line by line: `next` and `peek` over a queue. The `TokenLexer` inside it is known by its stream, which is what its
-- calls answer one after the other, and by how many were made; the crate `rust` has the stream of a source. `QueueLaws` proves that a
-- cursor says the same. Beside them stands the look-ahead that the comment there describes.
-- Assumes nothing.
use Rattle.std.specs.Prelude.{ℕ, zero, suc, ◌+◌, ◌-◌, Bool, List, [], ◌∷◌, ◌++◌, ltb, length, Option, Some, None}
use Rattle.base.specs.Pick.{pick}
use Rattle.rows.specs.declared.Row.{Row}

-- how often the `TokenLexer` was called, and the queue
pub record KotoLexer : Type 0 where
  pub lexer : ℕ
  pub token_queue : List Row

-- `KotoLexer::new`
abbrev pub new_lexer : KotoLexer
new_lexer = record { lexer = 0; token_queue = [] }

-- what a call answers, and the lexer after it
pub record Answered : Type 0 where
  pub token : Option Row
  pub after : KotoLexer

-- `token_queue.get(n)`
unfoldable pub get : List Row → ℕ → Option Row
get [] n = None
get (t ∷ queue) zero = Some t
get (t ∷ queue) (suc n) = get queue n

-- the calls of a `TokenLexer`: the token that call i answers, or none
abbrev pub Stream : Type 0
Stream = ℕ → Option Row

-- `next_token`: one call more
abbrev pub next_token : Stream → KotoLexer → Answered
next_token stream k = record { token = stream k.lexer; after = record { lexer = k.lexer + 1; token_queue = k.token_queue } }

-- `if let Some(next) = token_queue.pop_front()`, or else what `next_token` answers
abbrev pub pop_front : List Row → ℕ → Answered → Answered
pop_front [] lexer other = other
pop_front (t ∷ queue) lexer other = record { token = Some t; after = record { lexer = lexer; token_queue = queue } }

-- `next`
unfoldable pub rust_next : Stream → KotoLexer → Answered
rust_next stream k = pop_front k.token_queue k.lexer (next_token stream k)

-- `n.max(token_queue_len)`
abbrev pub max_of : ℕ → ℕ → ℕ
max_of n len = pick (ltb len n) n len

-- `token_queue_len + 1 - n.max(token_queue_len)`, where that is no underflow
abbrev pub tokens_to_add : ℕ → ℕ → ℕ
tokens_to_add n len = len + 1 - max_of n len

-- where it is one
abbrev pub underflows : ℕ → ℕ → Bool
underflows n len = ltb (len + 1) (max_of n len)

-- `token_queue.push_back(next)`
abbrev pub push_back : KotoLexer → Row → KotoLexer
push_back k t = record { lexer = k.lexer; token_queue = k.token_queue ++ (t ∷ []) }

-- `if let Some(next)`: it goes on the queue and the loop goes on; or else `break`
abbrev pub pushed_by : (KotoLexer → KotoLexer) → Option Row → KotoLexer → KotoLexer
pushed_by go None k = k
pushed_by go (Some t) k = go (push_back k t)

-- `for _ in 0..tokens_to_add`
unfoldable pub add_tokens : Stream → ℕ → KotoLexer → KotoLexer
add_tokens stream zero k = k
add_tokens stream (suc m) k =
    pushed_by (λ x. add_tokens stream m x) (next_token stream k).token (next_token stream k).after

-- `peek`
unfoldable pub rust_peek : Stream → KotoLexer → ℕ → Answered
rust_peek stream k n =
    let after : KotoLexer = add_tokens stream (tokens_to_add n (length k.token_queue)) k in
    record { token = get after.token_queue n; after = after }

-- ---- not in lexer.rs: document 02, C-1, over the same queue, as the comment of `peek_n` says it

-- how many tokens a queue of so many lacks for its token n
abbrev pub lacking : ℕ → ℕ → ℕ
lacking n len = n + 1 - len

-- so many are added, as `peek` adds them, and then `token_queue.get(n)`
unfoldable pub comment_look : Stream → KotoLexer → ℕ → Answered
comment_look stream k n =
    let after : KotoLexer = add_tokens stream (lacking n (length k.token_queue)) k in
    record { token = get after.token_queue n; after = after }
