-- span.rs: positions, spans, and the ways along a line and to the next. A line and a column count from 0.
-- Assumes nothing.
use Rattle.std.specs.Prelude.{ℕ, ◌+◌, ◌*◌}
use Rattle.base.specs.Refusal.{source_most}
use Rattle.position.specs.declared.Position.{Position}
use Rattle.position.specs.declared.Span.{Span}

-- the widest that a line of a source can be: a character has at most three columns, and at least one byte
abbrev pub column_most : ℕ
column_most = 3 * source_most

-- so many columns further along the line (lexer.rs, `position.column += ..`)
abbrev pub advanced : ℕ → Position → Position
advanced columns p = record { line = p.line; column = record { 0 = p.column.0 + columns } }

-- the start of the next line (lexer.rs, `position.line += 1; position.column = 0`)
abbrev pub next_line : Position → Position
next_line p = record { line = p.line + 1; column = record { 0 = 0 } }

-- the start of a line
abbrev pub start_of_line : ℕ → Position
start_of_line line = record { line = line; column = record { 0 = 0 } }

-- span.rs `line_start`: a span with zero size at the start of the line
abbrev pub line_start : ℕ → Span
line_start line = record { start = start_of_line line; end = start_of_line line }
