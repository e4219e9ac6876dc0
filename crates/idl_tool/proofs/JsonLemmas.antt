-- Lines of roots, one after another.
use Rattle.std.proofs.Common.{◌≡◌, ◌∙◌, ◌+◌, ◌<◌, ◌++◌, ◌∷◌, [], ℕ, Err, IfOk, List, Ok, Result, ap, get_or, length, map, subst, sym, take}
use Rattle.std.proofs.lemmas.List.{append-nil, get_or-map, take_more}
use Rattle.std.proofs.lemmas.List.Folds.{concat-append}
use Rattle.std.specs.List.{AllZip, concat}
use Rattle.idl_driver.specs.idl_sources.Compile.{compiled_root}
use Rattle.idl_inputs.specs.Project.{Inputs}
use Rattle.idl_driver.specs.idl_sources.declared.compile.CompiledRoot.{CompiledRoot}
use Rattle.idl_tool.specs.Json.{IsLineOf, IsLineWith}

-- items that belong together, place by place, and two more
pub zip-push : {Y Z : Type 0} (R : Y → Z → Type 0) (ys : List Y) (zs : List Z) (y : Y) (z : Z) → AllZip R ys zs → R y z → AllZip R (ys ++ y ∷ []) (zs ++ z ∷ [])
zip-push R [] [] y z are next = (next, tt)
zip-push R [] (b ∷ zs) y z are next = absurd are
zip-push R (a ∷ ys) [] y z are next = absurd are
zip-push R (a ∷ ys) (b ∷ zs) y z are next = (are.0, zip-push R ys zs y z are.1 next)

-- the line of one root more
pub lines-next : (inputs : Inputs) (roots : List (List ℕ)) (compiled : List CompiledRoot) (i : ℕ) (root : List ℕ) (one : CompiledRoot) (lines : List (List ℕ)) (line : List ℕ)
    → compiled ≡ map (compiled_root inputs) roots → i < length roots → root ≡ get_or roots i root → one ≡ get_or compiled i one
    → AllZip (IsLineOf inputs) (take i roots) lines → IsLineWith inputs root one line → AllZip (IsLineOf inputs) (take (i + 1) roots) (lines ++ line ∷ [])
lines-next inputs roots compiled i root one lines line rows within is at are tells =
    let same : one ≡ compiled_root inputs root =
    at ∙ ap (λ (rs : List CompiledRoot). get_or rs i one) rows ∙ get_or-map (compiled_root inputs) roots i root one within ∙ ap (compiled_root inputs) (sym is) in
    let next = subst (λ (r : CompiledRoot). IsLineWith inputs root r line) same tells in
    subst (λ (rs : List (List ℕ)). AllZip (IsLineOf inputs) rs (lines ++ line ∷ []))
    (sym (take_more roots i root within ∙ ap (λ (r : List ℕ). take i roots ++ r ∷ []) (sym is)))
    (zip-push (IsLineOf inputs) (take i roots) lines root line are next)

-- lines that are joined, and one more
pub joined-next : (lines : List (List ℕ)) (line before after : List ℕ) → before ≡ concat lines → after ≡ before ++ line → after ≡ concat (lines ++ line ∷ [])
joined-next lines line before after are is =
    is ∙ ap (λ (t : List ℕ). t ++ line) are ∙ ap (λ (t : List ℕ). concat lines ++ t) (sym (append-nil line)) ∙ sym (concat-append lines (line ∷ []))

-- what follows from what holds of a value
pub ok-weaker : {X E : Type 0} (P Q : X → Type 0) (result : Result X E) → ((x : X) → P x → Q x) → IfOk result P → IfOk result Q
ok-weaker P Q (Ok x) more holds = more x holds
ok-weaker P Q (Err e) more holds = tt
