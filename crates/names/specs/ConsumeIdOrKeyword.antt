-- lexer.rs `consume_id_or_keyword`, `parse_raw_string_start` and `consume_ignored`. The first character of a name counts one column, the
-- others their width. "else" and "r" are tested before the Dot rule; the other keywords are names after Dot. "else if" is taken by its
-- seven bytes.
-- Assumes nothing.
use Rattle.std.specs.Prelude.{ℕ, ◌+◌, ◌*◌, ◌-◌, List, [], ◌∷◌, ltb, eqb, drop, take, Option, Some, None}
use Rattle.base.specs.Pick.{pick}
use Rattle.position.specs.Place.{along_by}
use Rattle.position.specs.declared.Reach.{Reach}
use Rattle.utf8.specs.Encode.{encode_all}
use Rattle.token.specs.Kind.{id, dot, else, else_if, underscore, string_start}
use Rattle.words.specs.Words.{is_word, starts_with, else_word, else_if_word, r_word}
use Rattle.keywords.specs.Keywords.{keyword_of}
use Rattle.text.specs.Tests.{double_quote, single_quote, is_hash, id_continue}
use Rattle.text.specs.Count.{len_utf8, count_while, run_test}
use Rattle.text.specs.Follow.{next_is}
use Rattle.state.specs.Modes.{raw_start, mode_code, hash_count_of}
use Rattle.state.specs.Lexer.{reach_of, advanced_line, token_along, token_to}
use Rattle.state.specs.declared.Change.TheVariants.{Push}
use Rattle.state.specs.declared.Lexer.{Lexer}
use Rattle.state.specs.declared.Taken.{Taken}

-- ---- the name

-- `consume_and_count_utf8(&mut chars, is_id_continue)` after the first character, which has already been matched
unfoldable pub name_end : (ℕ → ℕ) → List ℕ → Lexer → Reach
name_end look [] l = reach_of l
name_end look (c ∷ cs) l = run_test look id_continue (along_by (len_utf8 c) 1 (reach_of l)) cs

-- the bytes that are left from `self.current_byte` on
abbrev pub remaining : List ℕ → List ℕ
remaining cs = encode_all cs

-- how many bytes a name has that reaches to `end`
abbrev pub name_bytes : Lexer → Reach → ℕ
name_bytes l end = end.byte.0 - (reach_of l).byte.0

-- ---- raw strings

-- `parse_raw_string_start`: up to 255 hashes and a quote; cs are the characters after the "r"
unfoldable pub parse_raw_string_start : List ℕ → Option ℕ
parse_raw_string_start cs =
    let count = count_while is_hash cs in
    pick (ltb 255 count) None
    (pick (next_is double_quote (drop count cs)) (Some (2 * count))
    (pick (next_is single_quote (drop count cs)) (Some (2 * count + 1)) None))

-- the token of the start of a raw string with this delimiter
abbrev pub raw_string_start : ℕ → Lexer → Taken
raw_string_start delimiter l =
    record {
      token = record { kind = string_start; detail = 2 + delimiter };
      lexer = advanced_line (2 + hash_count_of delimiter) l;
      change = Push (mode_code raw_start delimiter);
    }

-- ---- keywords and names

-- `check_keyword!`, but not after Dot; else the name
unfoldable pub keyword_or_id : List ℕ → Reach → Lexer → Taken
keyword_or_id cs end l =
    let kind = keyword_of (take (name_bytes l end) (remaining cs)) in
    pick (eqb l.previous_token dot) (token_to id end l)
    (pick (eqb kind id) (token_to id end l) (token_along kind (name_bytes l end) l))

-- a raw string, or else the token that follows
abbrev pub or_else : Option ℕ → Lexer → Taken → Taken
or_else (Some delimiter) l other = raw_string_start delimiter l
or_else None l other = other

-- "r": a raw string, or a name like any other
unfoldable pub raw_or_name : List ℕ → Reach → Lexer → Taken
raw_or_name cs end l = or_else (parse_raw_string_start (drop 1 cs)) l (keyword_or_id cs end l)

-- cs are the characters that are left, with the first, and the name reaches to `end`
unfoldable pub name_token : List ℕ → Reach → Lexer → Taken
name_token cs end l =
    let name = take (name_bytes l end) (remaining cs) in
    pick (is_word else_word name) (pick (starts_with else_if_word (remaining cs)) (token_along else_if 7 l) (token_along else 4 l))
    (pick (is_word r_word name) (raw_or_name cs end l) (keyword_or_id cs end l))

abbrev pub consume_id_or_keyword : (ℕ → ℕ) → List ℕ → Lexer → Taken
consume_id_or_keyword look cs l = name_token cs (name_end look cs l) l

-- `consume_ignored`: the "_" has already been matched
abbrev pub consume_ignored : (ℕ → ℕ) → List ℕ → Lexer → Taken
consume_ignored look cs l = token_to underscore (name_end look cs l) l
