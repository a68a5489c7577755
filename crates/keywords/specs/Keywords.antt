-- lexer.rs `check_keyword!`: keywords as fixed byte strings, in the Rust's order. A name is told by all its bytes.
-- Assumes nothing.
use Rattle.std.specs.Prelude.{List, [], ◌∷◌, ℕ}
use Rattle.token.specs.Kind.{id, as_kind, and, break, catch, continue, debug, export, false_kind, finally, for, from, if, import, in_kind, loop, match, not_kind, null, or, return, self, switch, then, throw, true_kind, try, until, while, yield, await, const, let_kind}
use Rattle.words.specs.Words.{Entry, entry, is_word, first_in}

-- `check_keyword!`. The Rust asks for "let" a second time at the end, where it has been answered already
abbrev pub keywords : List Entry
keywords =
    entry "as" as_kind
    ∷ entry "and" and
    ∷ entry "await" await
    ∷ entry "break" break
    ∷ entry "catch" catch
    ∷ entry "const" const
    ∷ entry "continue" continue
    ∷ entry "debug" debug
    ∷ entry "export" export
    ∷ entry "false" false_kind
    ∷ entry "finally" finally
    ∷ entry "for" for
    ∷ entry "from" from
    ∷ entry "if" if
    ∷ entry "import" import
    ∷ entry "in" in_kind
    ∷ entry "let" let_kind
    ∷ entry "loop" loop
    ∷ entry "match" match
    ∷ entry "not" not_kind
    ∷ entry "null" null
    ∷ entry "or" or
    ∷ entry "return" return
    ∷ entry "self" self
    ∷ entry "switch" switch
    ∷ entry "then" then
    ∷ entry "throw" throw
    ∷ entry "true" true_kind
    ∷ entry "try" try
    ∷ entry "until" until
    ∷ entry "while" while
    ∷ entry "yield" yield
    ∷ []

-- the kind of the keyword that a name's bytes are; Id where they are none
unfoldable pub keyword_of : List ℕ → ℕ
keyword_of l = first_in (λ e. is_word e.text l) (λ e. e.kind) id keywords
