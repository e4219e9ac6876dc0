use Rattle.std.proofs.Common.{◌≡◌, ◌++◌, ◌∙◌, ℕ, List, ap, append_assoc}
use Rattle.std.proofs.lemmas.List.Elements.{same_from_all_zip}
use Rattle.idl_source.proofs.texts.files.spliced.Goals as goal

-- a line's clone is the line
pub returns : goal.returns
returns c =
    let front = c.in_ok-extend_with_clones.ensures.items in
    let back = c.in_ok-extend_with_clones-2.ensures.items in
    let before : front.0 ≡ c.args.before.now = same_from_all_zip (λ (x : List ℕ) (y : List ℕ). y ≡ x) _ _ front.2 (λ x y h. h) in
    let after : back.0 ≡ c.args.after.now = same_from_all_zip (λ (x : List ℕ) (y : List ℕ). y ≡ x) _ _ back.2 (λ x y h. h) in
    back.1
    ∙ ap (λ (l : List (List ℕ)). l ++ back.0) (c.in_ok-append.ensures.items ∙ ap (λ (l : List (List ℕ)). l ++ c.args.lines.items) (front.1 ∙ ap (λ (l : List (List ℕ)). l ++ front.0) c.new-all.ensures.items))
    ∙ (λ i. (before i ++ c.args.lines.items) ++ after i)
    ∙ append_assoc c.args.before.now c.args.lines.items c.args.after.now
