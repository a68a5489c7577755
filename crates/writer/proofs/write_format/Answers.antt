-- `writer::write_format` meets its contract: by what was asked first, then by the numbers and the fill. Assumes nothing.
use Rattle.std.specs.Prelude.{Ok, Err, is_some, unwrap_or}
use Rattle.std.proofs.Common.{rules}
use Rattle.std.specs.Option.{option_copied}
use mathlib.Core.Path.{◌≡◌, sym, ◌∙◌}
use mathlib.Core.Bool.{true}
use mathlib.Core.List.{[]}
use Rattle.property.specs.Table.{properties_at}
use Rattle.fitness.specs.FitLaws.{fit_of}
use Rattle.input.specs.Input.{input_check}
use Rattle.input.specs.InputLaws.{fine_of}
use Rattle.asked.specs.Fields.{are_fields}
use Rattle.wanted.specs.Wanted.{Bytes, Unfilled}
use Rattle.writer.specs.CallLaws.{refused, no_options_lem, told, same_test, no_fill}
use Rattle.writer.specs.declared.WriteError.TheVariants.{Refused}
use Rattle.writer.proofs.write_format.Goals as goal
use Rattle.writer.proofs.write_format.Goals.{After-are_fields}

checked : (a : After-are_fields) → input_check 0 [] a.args.table.now a.args.edition ≡ Ok tt
checked a = sym a.check_input.ensures ∙ a.in_ok-check_input.was

some : (a : After-are_fields) → a.are_fields.result ≡ true
    → are_fields a.args.alignment a.args.width a.args.precision a.args.representation ≡ true
some a e = sym a.are_fields.ensures ∙ e

pub returns-then-not-are_fields : goal.returns-then-not-are_fields
returns-then-not-are_fields c =
    let b = c.args in
    no_options_lem b.alignment b.width b.precision b.representation (is_some b.fill) (unwrap_or (option_copied b.fill) []) b.table.now b.edition b.buffer.now
    (checked (goal.at.returns-then-not-are_fields c).After-are_fields) (sym c.are_fields.ensures ∙ c.if-not-are_fields.true)

pub fields_of-fields-requires : goal.fields_of-fields-requires
fields_of-fields-requires c = some (goal.at.fields_of-fields-requires c).After-are_fields c.if-not-are_fields.false

pub write_filled-requires : goal.write_filled-requires
write_filled-requires c =
    fit_of _ (fine_of _ _ _ _ (checked (goal.at.write_filled-requires c).After-are_fields)).fit

pub returns-in-Some : goal.returns-in-Some
returns-in-Some c =
    let b = c.args in
    told b.alignment b.width b.precision b.representation (is_some b.fill) (unwrap_or (option_copied b.fill) []) b.table.now b.edition b.buffer.now
    (checked (goal.at.returns-in-Some c).After-are_fields) (some (goal.at.returns-in-Some c).After-are_fields c.if-not-are_fields.false) c.fields_of-fields.result c.fields_of-fields.ensures (Bytes c.in-Some.fill.now)
    (rw c.in-Some.is) c.write_filled.ensures

pub returns-in_err-check_input : goal.returns-in_err-check_input
returns-in_err-check_input c =
    let b = c.args in
    let e : c.from_residual.result ≡ Err (Refused _) = search rules in
    rw e
    (refused b.alignment b.width b.precision b.representation (is_some b.fill) (unwrap_or (option_copied b.fill) []) b.table.now b.edition b.buffer.now _
    (sym c.check_input.ensures ∙ c.in_err-check_input.was))

pub returns-in-None : goal.returns-in-None
returns-in-None c =
    let b = c.args in
    told b.alignment b.width b.precision b.representation (is_some b.fill) (unwrap_or (option_copied b.fill) []) b.table.now b.edition b.buffer.now
    (checked (goal.at.returns-in-None c).After-are_fields) (some (goal.at.returns-in-None c).After-are_fields c.if-not-are_fields.false) c.fields_of-fields.result c.fields_of-fields.ensures Unfilled
    (rw c.in-None.is)
    (same_test (no_fill (properties_at b.table.now) b.edition c.fields_of-fields.result) c.put_format.ensures)
