-- `pad::pad` meets its contract: a refusal of the checks is the answer, and else what `pad_text` makes of the fill. Assumes nothing.
use mathlib.Core.Path.{◌≡◌, refl, sym, ap, ◌∙◌}
use mathlib.Core.List.{List, []}
use Prim.Native.Nat.{ℕ}
use denote.Bor.{Bor}
use Rattle.std.specs.Prelude.{Ok, is_some, unwrap_or}
use Rattle.std.specs.Option.{option_copied}
use Rattle.std.proofs.lemmas.Result.{err_from_is_err_and}
use Rattle.utf8.specs.CharsLaws.{well_of_fine}
use Rattle.fitness.specs.FitLaws.{fit_of}
use Rattle.pad_input.specs.Check.{pad_check, Paddable}
use Rattle.pad_input.specs.CheckLaws.{fine_parts, width_of_lem}
use Rattle.pad.specs.Call.{fill_of}
use Rattle.pad.specs.CallLaws.{refused, told}
use Rattle.pad.proofs.Answers.{fill_used, fill_short}
use Rattle.pad.proofs.pad.Goals as goal
use Rattle.pad.proofs.pad.Goals.{In_ok-check_pad, After-unwrap_or}

-- the bytes of the fill that is given
abbrev bytes : (c : In_ok-check_pad) → List ℕ
bytes c = unwrap_or (option_copied c.args.fill) []

abbrev Checked : (c : In_ok-check_pad) → Type 0
Checked c =
    let a = c.args in
    pad_check a.text.now a.alignment a.width (is_some a.fill) (bytes c) a.table.now a.edition ≡ Ok tt

checked : (c : In_ok-check_pad) → Checked c
checked c = sym c.check_pad.ensures ∙ c.in_ok-check_pad.was

paddable : (c : In_ok-check_pad)
    → let a = c.args in
    Paddable a.text.now a.alignment a.width (is_some a.fill) (bytes c) a.table.now a.edition
paddable c =
    let a = c.args in
    fine_parts a.text.now a.alignment a.width (is_some a.fill) (bytes c) a.table.now a.edition (checked c)

used : (c : After-unwrap_or) → c.unwrap_or.result.now ≡ fill_of (is_some c.args.fill) (unwrap_or (option_copied c.args.fill) [])
used c = ap (λ (b : Bor (List ℕ)). b.now) c.unwrap_or.ensures ∙ fill_used c.args.fill _ refl

pub pad_text-requires : goal.pad_text-requires
pad_text-requires c =
    let p = paddable (goal.at.pad_text-requires c).In_ok-check_pad in
    let e = used (goal.at.pad_text-requires c).After-unwrap_or in
    let h = fill_short (is_some c.args.fill) _ p.begun.short.fill_short in
    record { well_formed = (well_of_fine 0 _ p.well, fit_of _ p.fit, p.begun.short.text_short, rw e h); width_value = width_of_lem _ _ p.format }

pub returns-in_err-check_pad : goal.returns-in_err-check_pad
returns-in_err-check_pad c =
    let a = c.args in
    let p = err_from_is_err_and c.from_residual.result c.from_residual.ensures.1 in
    rw (p.1, p.2)
    (refused a.text.now a.alignment a.width (is_some a.fill) (unwrap_or (option_copied a.fill) []) a.table.now a.edition a.buffer.now
    (sym c.check_pad.ensures ∙ c.in_err-check_pad.was) refl (λ text buffer. refl))

pub returns : goal.returns
returns c =
    let a = c.args in
    told a.text.now a.alignment a.width (is_some a.fill) (unwrap_or (option_copied a.fill) []) a.table.now a.edition a.buffer.now
    (checked (goal.at.returns c).In_ok-check_pad) _ (used (goal.at.returns c).After-unwrap_or) c.pad_text.ensures
