use Rattle.std.proofs.Common.{◌≡◌, ◌∙◌, ℕ, List, true, ap, sym}
use Rattle.std.specs.FinMap.{insert}
use Rattle.idl_source.specs.names.Name.{is_name}
use Rattle.idl_source.specs.texts.Texts.{is_over}
use Rattle.idl_source.proofs.TextLemmas.{put-accepted}
use Rattle.idl_source.proofs.texts.files.Files.put.Goals as goal

pub returns-clause-ok : goal.returns-clause-ok
returns-clause-ok c =
    let name = c.args.name.now in
    let files = c.args.self.now in
    let lines = c.args.lines.items in
    let allowed : is_name name ≡ true = c.in_ok-name.ensures.ok.0 in
    put-accepted files c.in_ok-files.files name lines allowed
    (ap (λ (n : List ℕ). is_over files n lines) (sym c.in_ok-name.ensures.ok.1)
    ∙ ap (λ (ls : List (List ℕ)). is_over files c.in_ok-name.name ls) (sym c.deref.ensures.value)
    ∙ sym c.is_over.ensures ∙ c.if-is_over.false)
    (ap (λ (n : List ℕ). insert files n lines) (sym c.in_ok-name.ensures.ok.1) ∙ sym c.in_ok-files.ensures)
