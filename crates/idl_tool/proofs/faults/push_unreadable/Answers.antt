use Rattle.std.proofs.Common.{◌≡◌, ◌∙◌, ◌++◌, ℕ, List, ap, append_assoc, codes, refl}
use Rattle.std.proofs.lemmas.Result.{on_ok_weaker}
use Rattle.idl_tool.specs.Messages.{line_about}
use Rattle.idl_tool.proofs.ShownLemmas.{grown-on_ok}
use Rattle.idl_tool.proofs.faults.push_unreadable.Goals as goal

pub returns : goal.returns
returns c =
    let out = c.args.out.now.items in
    let name = c.args.name.now in
    let about = codes "idltool: " ++ name ++ codes ": " in
    let told = codes "cannot read\n" in
    let line : about ++ told ≡ line_about name (codes "cannot read") = refl in
    on_ok_weaker c.extend_from_slice.result
    (λ more. more ∙ ap (λ (t : List ℕ). t ++ told) c.in_ok-push_about.ensures ∙ append_assoc out about told ∙ ap (λ (t : List ℕ). out ++ t) line)
    (grown-on_ok _ _ c.extend_from_slice.result c.extend_from_slice.ensures.items)
