use Rattle.std.proofs.Common.{◌∙◌, Some, ap, sym}
use Rattle.std.specs.FinMap as finite
use Rattle.idl_inputs.specs.Columns.{column_at}
use Rattle.idl_inputs.specs.declared.columns.ChunkPlace.{ChunkPlace}
use Rattle.idl_inputs.proofs.ColumnLemmas.{column-there, found-chunk, with-chunk}
use Rattle.idl_inputs.proofs.columns.Columns.column.Goals as goal

pub returns-in-Some-get-clause-column : goal.returns-in-Some-get-clause-column
returns-in-Some-get-clause-column c =
    let files = c.self.inside.bank.now.files in
    let chunk : ChunkPlace = record { file = c.in_ok-clone.field-0; before = c.lines_before.result } in
    let found = found-chunk files chunk c.in-Some-get.columns.now c.self.inside.chunks.entries c.self.invariant (sym c.in-Some-get.ensures.value) in
    c.column.ensures
    ∙ sym (column-there files c.args.place.now c.args.number c.args.text.now c.in-Some-get.columns.now (ap (finite.get files) (sym c.in_ok-clone.ensures.cases) ∙ found))
    ∙ ap (λ fs. column_at fs c.args.place.now c.args.number c.args.text.now) c.self.view_is

pub returns-clause-column : goal.returns-clause-column
returns-clause-column c =
    let files = c.self.inside.bank.now.files in
    let there = sym c.in-Some.ensures ∙ ap Some (sym c.in_ok-columns.ensures) in
    c.column-column.ensures
    ∙ sym (column-there files c.args.place.now c.args.number c.args.text.now c.in_ok-columns.columns there)
    ∙ ap (λ fs. column_at fs c.args.place.now c.args.number c.args.text.now) c.self.view_is

pub invariant_of-self-2 : goal.invariant_of-self-2
invariant_of-self-2 c =
    let files = c.self.inside.bank.now.files in
    let chunk : ChunkPlace = record { file = c.in_ok-clone.field-0; before = c.lines_before.result } in
    let there = ap (finite.get files) c.in_ok-clone.ensures.cases ∙ sym c.in-Some.ensures ∙ ap Some (sym c.in_ok-columns.ensures) in
    rw c.in_ok-insert.ensures.entries (with-chunk files chunk c.in_ok-columns.columns there c.self.inside.chunks.entries c.self.invariant)
