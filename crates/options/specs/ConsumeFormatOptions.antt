-- lexer.rs `consume_format_options`: if the first cluster is followed by a cluster that is exactly "<", "^" or ">", both are passed; the
-- literal then ends at the next "}". No "}" is an Error that stands still. Columns count bytes.
-- Assumes nothing.
use Rattle.std.specs.Prelude.{ℕ, ◌+◌, ◌-◌, Bool, ◌||◌, List, [], ◌∷◌, eqb, Option, Some, None}
use Rattle.base.specs.Pick.{pick}
use Rattle.token.specs.Kind.{string_literal}
use Rattle.cluster.specs.First.{first_end, second_is}
use Rattle.text.specs.Tests.{less, caret, greater, curly_close}
use Rattle.text.specs.Count.{len_utf8}
use Rattle.text.specs.Follow.{drop_bytes}
use Rattle.token.specs.Token.{token_of}
use Rattle.state.specs.Lexer.{reach_of, advanced_line, stuck_at}
use Rattle.state.specs.declared.Change.TheVariants.{Pop}
use Rattle.state.specs.declared.Lexer.{Lexer}
use Rattle.state.specs.declared.Taken.{Taken}

-- `Some("<" | "^" | ">")`, of the second cluster
unfoldable pub is_aligned : (ℕ → ℕ) → ℕ → List ℕ → Bool
is_aligned look edition cs = second_is look edition cs less || (second_is look edition cs caret || second_is look edition cs greater)

-- `skip_bytes`: the bytes of the fill and the alignment, if they are there
unfoldable pub skip_bytes : (ℕ → ℕ) → ℕ → List ℕ → ℕ
skip_bytes look edition cs = pick (is_aligned look edition cs) (first_end look edition 0 cs + 1) 0

-- `find('}')`: the byte of the first closing brace, where the characters begin at the byte i
unfoldable pub find_brace : ℕ → List ℕ → Option ℕ
find_brace i [] = None
find_brace i (c ∷ cs) = pick (eqb c curly_close) (Some i) (find_brace (i + len_utf8 c) cs)

-- the token up to the brace, or the Error that stands still
abbrev pub options_token : Lexer → Option ℕ → Taken
options_token l (Some end) =
    record { token = token_of string_literal; lexer = advanced_line (end - (reach_of l).byte.0) l; change = Pop }
options_token l None = stuck_at l

-- cs are the characters that are left
unfoldable pub consume_format_options : (ℕ → ℕ) → ℕ → List ℕ → Lexer → Taken
consume_format_options look edition cs l =
    options_token l (find_brace ((reach_of l).byte.0 + skip_bytes look edition cs) (drop_bytes (skip_bytes look edition cs) cs))
