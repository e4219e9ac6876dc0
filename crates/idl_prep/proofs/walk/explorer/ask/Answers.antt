use Rattle.std.proofs.Common.{◌≡◌, None, ap, refl, sym, subst, ◌∙◌}
use Rattle.std.specs.List.{All}
use Rattle.idl_event.specs.Expanding.{reached}
use Rattle.idl_event.specs.declared.asked.key.RootKey.TheVariants.{File}
use Rattle.idl_prep.specs.Include.{file_of}
use Rattle.idl_prep.proofs.WalkLaws.ExploreLemmas.{absent-of}
use Rattle.idl_prep.proofs.walk.explorer.ask.Goals as goal

pub returns : goal.returns
returns g c =
    let bank = g.B.Bank.at c.args.site.now.bank.now in
    let query = file_of c.args.site.now.file.now c.args.operand.now in
    let came = ap (λ r. r.0) c.in_ok-found.ensures ∙ ap (reached bank query) c.new-asking.ensures in
    subst (All (λ name. bank (File name) ≡ None)) (sym c.in_ok-absent.ensures)
    (absent-of bank query c.find.new.progress _ came refl)
