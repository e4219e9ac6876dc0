use Rattle.std.proofs.Common.{◌≡◌, ◌∙◌, ◌<◌, arith}
use Rattle.std.specs.Prelude.{All}
use Rattle.std.proofs.lemmas.List.Elements.{All-from_get_or}
use Rattle.idl_editor.specs.uris.Folders.{name_of}
use Rattle.idl_editor.proofs.FolderLemmas.{leads-back}
use Rattle.idl_editor.proofs.uris.folders.Folders.name_of.Goals as goal

pub returns-clause-leads : goal.returns-clause-leads
returns-clause-leads c = λ rooted.
    let path = c.args.path.now in
    let bytes : All (λ b. b < 256) path = All-from_get_or (λ b. b < 256) path 0 (λ i within. omega (arith, c.type_inv.path i)) in
    let text : c.deref.result.now ≡ name_of c.args.self.now path = c.deref.ensures.value ∙ c.in_ok-text.ensures in
    leads-back c.new.result c.args.self.now path c.deref.result.now text c.new.ensures.same c.stays_apart.ensures bytes rooted
