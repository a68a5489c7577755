-- `fill_fits::joins_sign` meets its contract: the state of the last character alone decides. Assumes nothing.
use Prim.Native.Nat.{ℕ}
use mathlib.Core.Path.{ap, ◌∙◌}
use mathlib.Core.List.{[], ◌∷◌}
use Rattle.utf8.specs.Chars.{chars}
use Rattle.property.specs.Table.{properties_at}
use Rattle.uax29.specs.State.{left_of, passed, joined_by}
use Rattle.uax29.specs.StateLaws.{step, by_state}
use Rattle.uax29.specs.declared.Left.{Left}
use Rattle.format_options.specs.Letters.{less}
use Rattle.fill_fits.specs.Apart.{last_of}
use Rattle.fill_fits.proofs.joins_sign.Goals as goal

pub returns : goal.returns
returns c =
    let look : ℕ → ℕ = properties_at c.args.table.now in
    let last = c.lookup-last.ensures ∙ ap look c.last_code.ensures in
    let left = c.pass.ensures ∙ ap (λ (x : Left). passed x c.lookup-last.result) c.new-left.ensures ∙ step [] c.lookup-last.result ∙ ap (λ (p : ℕ). left_of (p ∷ [])) last in
    let edition = c.args.edition in
    let lastly = look (last_of 0 (chars c.args.fill.now)) ∷ [] in
    c.is_joined.ensures
    ∙ ap (λ (x : Left). joined_by edition x c.lookup-sign.result) left
    ∙ ap (λ (p : ℕ). joined_by edition (left_of lastly) p) c.lookup-sign.ensures
    ∙ by_state edition lastly (look less)
