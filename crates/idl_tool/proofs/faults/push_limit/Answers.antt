use Rattle.std.proofs.Common.{◌∙◌, ◌++◌, ◌∷◌, [], ℕ, List, ap, append_assoc, codes}
use Rattle.std.proofs.lemmas.Result.{on_ok_weaker}
use Rattle.idl_tool.specs.Messages.{limit_words}
use Rattle.idl_tool.proofs.ShownLemmas.{grown-on_ok}
use Rattle.idl_tool.proofs.faults.push_limit.Goals as goal

pub returns : goal.returns
returns c =
    let out = c.args.out.now.items in
    let front = codes "idltool: " ++ c.args.name.now in
    let about = front ++ codes ": " in
    let refused = codes "refused 5: " in
    let words = limit_words c.args.limit in
    let end : List ℕ = 10 ∷ [] in
    let first = c.in_ok-extend_from_slice.ensures.items ∙ ap (λ (t : List ℕ). t ++ refused) c.in_ok-push_about.ensures in
    let second = c.in_ok-extend_from_slice-2.ensures.items ∙ ap (λ (t : List ℕ). c.extend_from_slice.new.self.items ++ t) c.limit_words.ensures ∙ ap (λ (t : List ℕ). t ++ words) first in
    let joined = append_assoc ((out ++ about) ++ refused) words end ∙ ap (λ (t : List ℕ). t ++ (words ++ end)) (append_assoc out about refused)
    ∙ append_assoc out (about ++ refused) (words ++ end) ∙ ap (λ (t : List ℕ). out ++ (t ++ (words ++ end))) (append_assoc front (codes ": ") refused) in
    on_ok_weaker c.extend_from_slice-3.result (λ more. more ∙ ap (λ (t : List ℕ). t ++ end) second ∙ joined)
    (grown-on_ok _ _ c.extend_from_slice-3.result c.extend_from_slice-3.ensures.items)
