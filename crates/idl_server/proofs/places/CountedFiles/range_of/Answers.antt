use Rattle.std.proofs.Common.{◌∙◌, ap, sym}
use Rattle.idl_server.specs.Places.{lines_of}
use Rattle.idl_server.proofs.PlaceLemmas.{found-file, with-file}
use Rattle.idl_server.proofs.places.CountedFiles.range_of.Goals as goal

pub token_range-requires : goal.token_range-requires
token_range-requires c = found-file c.self.inside.session.now.project c.args.token.place.now.file c.in-Some.lines.now c.self.inside.files.entries c.self.invariant (sym c.in-Some.ensures.value)

pub invariant_of-self-2 : goal.invariant_of-self-2
invariant_of-self-2 c =
    let project = c.self.inside.session.now.project in
    let of = c.in_ok-lines.ensures ∙ c.lines_of.ensures.lines ∙ ap (lines_of project) (sym c.in_ok-clone.ensures.cases) in
    rw c.in_ok-insert.ensures.entries (with-file project c.in_ok-clone.field-0 c.in_ok-lines.lines of c.self.inside.files.entries c.self.invariant)
