use Rattle.std.proofs.Common.{◌∙◌, refl}
use Rattle.idl_server.specs.Places.{range_of}
use Rattle.idl_server.specs.References.{with_place}
use Rattle.idl_server.proofs.references.NamedPlaces.add.Goals as goal

pub returns : goal.returns
returns c =
    let project = c.args.self.now.files.project in
    let encoding = c.args.self.now.encoding in
    let range = c.in_ok-range.ensures.range ∙ (λ i. range_of encoding project (c.of.ensures.place i) (c.of.ensures.number i) (c.of.ensures.text i)) in
    record {
      files = c.in_ok-range.ensures.same;
      encoding = refl;
      places = c.in_ok-insert.ensures.keys ∙ (λ i. with_place c.args.self.now.places.keys (record { file = c.in_ok-file.ensures.cases i; range = range i }));
    }
