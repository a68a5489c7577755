-- lexer.rs `Token`: each kind of token by its number in a record (document 01, "Records"), 0 to 80 in the Rust's order and under its
-- names. `Kind` stands after a name that antt or its library has already: `at_kind`, `as_kind`, `false_kind`, `in_kind`, `not_kind`, `true_kind`,
-- `let_kind`.
-- Assumes nothing.
use Rattle.std.specs.Prelude.{ℕ}

-- ---- errors, blanks, comments, numbers and names

abbrev pub error : ℕ
error = 0

abbrev pub whitespace : ℕ
whitespace = 1

abbrev pub new_line : ℕ
new_line = 2

abbrev pub comment_single : ℕ
comment_single = 3

abbrev pub comment_multi : ℕ
comment_multi = 4

abbrev pub number : ℕ
number = 5

abbrev pub id : ℕ
id = 6

-- ---- strings; `Detail` says what else a StringStart tells

abbrev pub string_start : ℕ
string_start = 7

abbrev pub string_end : ℕ
string_end = 8

abbrev pub string_literal : ℕ
string_literal = 9

-- ---- symbols

abbrev pub at_kind : ℕ
at_kind = 10

abbrev pub colon : ℕ
colon = 11

abbrev pub comma : ℕ
comma = 12

abbrev pub dot : ℕ
dot = 13

abbrev pub ellipsis : ℕ
ellipsis = 14

abbrev pub function : ℕ
function = 15

abbrev pub round_open : ℕ
round_open = 16

abbrev pub round_close : ℕ
round_close = 17

abbrev pub square_open : ℕ
square_open = 18

abbrev pub square_close : ℕ
square_close = 19

abbrev pub curly_open : ℕ
curly_open = 20

abbrev pub curly_close : ℕ
curly_close = 21

abbrev pub range : ℕ
range = 22

abbrev pub range_inclusive : ℕ
range_inclusive = 23

abbrev pub semicolon : ℕ
semicolon = 24

abbrev pub underscore : ℕ
underscore = 25

abbrev pub question_mark : ℕ
question_mark = 26

-- ---- operators

abbrev pub add : ℕ
add = 27

abbrev pub subtract : ℕ
subtract = 28

abbrev pub multiply : ℕ
multiply = 29

abbrev pub divide : ℕ
divide = 30

abbrev pub remainder : ℕ
remainder = 31

abbrev pub power : ℕ
power = 32

abbrev pub assign : ℕ
assign = 33

abbrev pub add_assign : ℕ
add_assign = 34

abbrev pub subtract_assign : ℕ
subtract_assign = 35

abbrev pub multiply_assign : ℕ
multiply_assign = 36

abbrev pub divide_assign : ℕ
divide_assign = 37

abbrev pub remainder_assign : ℕ
remainder_assign = 38

abbrev pub power_assign : ℕ
power_assign = 39

abbrev pub equal : ℕ
equal = 40

abbrev pub not_equal : ℕ
not_equal = 41

abbrev pub greater : ℕ
greater = 42

abbrev pub greater_or_equal : ℕ
greater_or_equal = 43

abbrev pub less : ℕ
less = 44

abbrev pub less_or_equal : ℕ
less_or_equal = 45

abbrev pub arrow : ℕ
arrow = 46

-- ---- keywords

abbrev pub as_kind : ℕ
as_kind = 47

abbrev pub and : ℕ
and = 48

abbrev pub break : ℕ
break = 49

abbrev pub catch : ℕ
catch = 50

abbrev pub continue : ℕ
continue = 51

abbrev pub debug : ℕ
debug = 52

abbrev pub else : ℕ
else = 53

abbrev pub else_if : ℕ
else_if = 54

abbrev pub export : ℕ
export = 55

abbrev pub false_kind : ℕ
false_kind = 56

abbrev pub finally : ℕ
finally = 57

abbrev pub for : ℕ
for = 58

abbrev pub from : ℕ
from = 59

abbrev pub if : ℕ
if = 60

abbrev pub import : ℕ
import = 61

abbrev pub in_kind : ℕ
in_kind = 62

abbrev pub loop : ℕ
loop = 63

abbrev pub match : ℕ
match = 64

abbrev pub not_kind : ℕ
not_kind = 65

abbrev pub null : ℕ
null = 66

abbrev pub or : ℕ
or = 67

abbrev pub return : ℕ
return = 68

abbrev pub self : ℕ
self = 69

abbrev pub switch : ℕ
switch = 70

abbrev pub then : ℕ
then = 71

abbrev pub throw : ℕ
throw = 72

abbrev pub true_kind : ℕ
true_kind = 73

abbrev pub try : ℕ
try = 74

abbrev pub until : ℕ
until = 75

abbrev pub while : ℕ
while = 76

abbrev pub yield : ℕ
yield = 77

-- ---- reserved keywords

abbrev pub await : ℕ
await = 78

abbrev pub const : ℕ
const = 79

abbrev pub let_kind : ℕ
let_kind = 80

-- ---- the range

-- the last kind
abbrev pub kind_most : ℕ
kind_most = 80

-- no token yet, where the Rust has `previous_token: None`
abbrev pub no_token : ℕ
no_token = 81
