-- `pad_check` and `fill_check` by the cases of the checks' answers: rules for `search`, beside `cases`. r is what a check answered.
-- Assumes nothing.
use Rattle.std.specs.Prelude.{Result, Ok, Err}
use Prim.Native.Nat.{ℕ}
use mathlib.Core.Path.{◌≡◌, sym, ◌∙◌}
use mathlib.Core.List.{List}
use Rattle.std.specs.Prelude.{Result, Err}
use Rattle.base.specs.CasesLaws.{cases}
use Rattle.utf8.specs.declared.Utf8Error.{Utf8Error}
use Rattle.input.specs.Input.{of_utf8, on_utf8, on_input}
use Rattle.input.specs.declared.Refusal.{Refusal}
use Rattle.pad_input.specs.Check.{of_text, of_fill, format_check, fill_check}
use Rattle.pad_input.specs.declared.PadRefusal.{PadRefusal}
use Rattle.pad_input.specs.declared.PadRefusal.TheVariants.{Refused, FillRefused}

pub input_fine : (r a : Result (Unit {0}) Refusal) (b v : Result (Unit {0}) PadRefusal) → r ≡ a → r ≡ Ok tt → b ≡ v → on_input of_text a b ≡ v
input_fine r a b v e f g = let h : a ≡ Ok tt = sym e ∙ f in rw h g

pub input_refused : (r a : Result (Unit {0}) Refusal) (b : Result (Unit {0}) PadRefusal) (x : Refusal) → r ≡ a → r ≡ Err x → on_input of_text a b ≡ Err (Refused x)
input_refused r a b x e f = let h : a ≡ Err x = sym e ∙ f in rw h

pub fill_fine : (r a : Result (Unit {0}) Utf8Error) (b v : Result (Unit {0}) PadRefusal) → r ≡ a → r ≡ Ok tt → b ≡ v → on_input of_fill (on_utf8 a) b ≡ v
fill_fine r a b v e f g = let h : a ≡ Ok tt = sym e ∙ f in rw h g

pub fill_refused : (r a : Result (Unit {0}) Utf8Error) (b : Result (Unit {0}) PadRefusal) (e : Utf8Error) (x : Refusal) → r ≡ a → r ≡ Err e → x ≡ of_utf8 e
    → on_input of_fill (on_utf8 a) b ≡ Err (FillRefused x)
fill_refused r a b e x f g h = let k : a ≡ Err e = sym f ∙ g in rw (k, h)

-- the answer of `check_fill`, handed on, and that of `check_format`
pub fill_handed : (look : ℕ → ℕ) (edition alignment width : ℕ) (fill : List ℕ) (r : Result (Unit {0}) PadRefusal) → r ≡ fill_check look edition alignment width fill
    → fill_check look edition alignment width fill ≡ r
fill_handed look edition alignment width fill r e = sym e

pub format_handed : (alignment width : ℕ) (r : Result (Unit {0}) PadRefusal) → r ≡ format_check alignment width → format_check alignment width ≡ r
format_handed alignment width r e = sym e

pub ruleset checks = (cases, input_fine, input_refused, fill_fine, fill_refused)

pub ruleset hands = (cases, input_fine, fill_fine, fill_handed, format_handed)
