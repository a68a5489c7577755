-- The one statement of document 01's P cases.
--     all_cases         the definitions give what every case says
--     reads_computed    `unfolding reads_computed` opens every definition of a scan at once: at written-out bytes each then computes, by `refl`
-- Assumes nothing.
use Rattle.std.specs.Prelude.{◌≡◌, refl, map}
use Rattle.base.specs.Range.{inside}
use Rattle.utf8.specs.CharsLaws.{computes}
use Rattle.fitness.specs.First.{first_bad}
use Rattle.fitness.specs.Fit.{start_ok, properties_ok, run_ok, table_check}
use Rattle.fitness.specs.Small.{small_table}
use Rattle.property.specs.Table.{last_from}
use Rattle.cluster.specs.First.{go_on}
use Rattle.input.specs.Input.{input_check}
use Rattle.uax29.specs.Uax29.{is_control, gb3, gb6, gb7, gb8, gb9, gb9c, gb11, gb12}
use Rattle.uax29.specs.Uax29.{pair_rule, ends_pict, ends_pict_zwj, ends_odd, ends_consonant, ends_linked}
use Rattle.words.specs.Words.{is_word, starts_with, first_in}
use Rattle.keywords.specs.Keywords.{keyword_of}
use Rattle.symbols.specs.Symbols.{symbol_in, symbol_of}
use Rattle.text.specs.Ascii.{ascii_properties}
use Rattle.text.specs.Count.{bytes_of, count_while, run_utf8}
use Rattle.text.specs.Follow.{next_is, drop_bytes, follow_in, turn_at}
use Rattle.text.specs.Tests.{is_whitespace, is_binary_digit, is_octal_digit, is_decimal_digit, is_hex_digit, is_line_end, no_line_end, id_continue}
use Rattle.state.specs.Stack.{top, rest, codes_of}
use Rattle.comments.specs.ConsumeComment.{comment_turn, consume_comment_multi, consume_comment}
use Rattle.newlines.specs.ConsumeNewline.{line_feed, consume_newline}
use Rattle.strings.specs.ConsumeRawString.{hashes, quote_turn, raw_turn, consume_raw_string_contents}
use Rattle.strings.specs.ConsumeStringLiteral.{escape_turn, literal_turn, consume_string_literal}
use Rattle.newlines.specs.PlainTurn.{plain_turn}
use Rattle.options.specs.ConsumeFormatOptions.{is_aligned, skip_bytes, find_brace, consume_format_options}
use Rattle.names.specs.ConsumeIdOrKeyword.{name_end, parse_raw_string_start, keyword_or_id, raw_or_name, name_token}
use Rattle.numbers.specs.ConsumeNumber.{next_passes, exponent_bytes, is_fraction, fraction_bytes, tail_bytes, zero_bytes, number_bytes}
use Rattle.symbol_tokens.specs.ConsumeSymbol.{symbol_change}
use Rattle.lexer.specs.GetNextToken.{in_literal, in_code, take_token, remaining_at}
use Rattle.lexer.specs.Step.{stood_still, half, step}
use Rattle.reading.specs.Reading.{read_in, read_from}
use Rattle.reading.specs.Scan.{end_of, scanned, written}
use Rattle.pool_rows.specs.Rows.{strings_from, index_of, room_of, runs_to, fit_in}
use Rattle.pool.specs.Pool.{placed, added, bytes_after, entries_after}
use Rattle.pool_rows.specs.Rows as rows
use Rattle.format_options.specs.Letters.{is_sign, is_digit, char_to_alignment, representation_of}
use Rattle.format_number.specs.Number.{peeked, digits_from, consume_u32}
use Rattle.format_arms.specs.Arms.{letter_of, last_arm, arm_of}
use Rattle.format.specs.Parse.{parse_from}
use Rattle.input.specs.Input.{input_check}
use Rattle.parse.specs.Call.{add_to, parsed, call}
use Rattle.promises.specs.Cases.{ran, want, cases}

unfoldable pub reads_computed : Unit {0}
unfolding computes first_bad start_ok properties_ok run_ok table_check small_table last_from input_check go_on is_control gb3 gb6 gb7 gb8 gb9 pair_rule ends_pict
    ends_pict_zwj ends_odd ends_consonant ends_linked gb9c gb11 gb12 is_word starts_with first_in keyword_of symbol_in symbol_of
    ascii_properties bytes_of count_while run_utf8 next_is drop_bytes follow_in turn_at inside is_whitespace is_binary_digit is_octal_digit
    is_decimal_digit is_hex_digit is_line_end no_line_end id_continue top rest codes_of comment_turn consume_comment_multi consume_comment line_feed
    consume_newline hashes quote_turn raw_turn consume_raw_string_contents escape_turn literal_turn consume_string_literal plain_turn is_aligned
    skip_bytes find_brace consume_format_options name_end parse_raw_string_start keyword_or_id raw_or_name name_token next_passes exponent_bytes
    is_fraction fraction_bytes tail_bytes zero_bytes number_bytes symbol_change in_literal in_code take_token remaining_at stood_still half
    step read_in read_from end_of scanned written
reads_computed = tt

-- and every definition of a parse
unfoldable pub formats_computed : Unit {0}
unfolding reads_computed strings_from rows.same index_of room_of runs_to fit_in placed added bytes_after entries_after peeked is_sign is_digit char_to_alignment
    digits_from consume_u32 representation_of letter_of last_arm arm_of parse_from input_check add_to parsed call
formats_computed = tt

pub all_cases : map ran cases ≡ map want cases
unfolding formats_computed
all_cases = refl
