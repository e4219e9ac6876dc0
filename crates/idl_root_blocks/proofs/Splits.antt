-- What stands behind a text is over what it adds.
use Rattle.std.proofs.Common.{◌≡◌, ◌∙◌, List, [], ◌∷◌, ◌++◌, append_assoc, refl, sym, ap}
use Rattle.idl_env.specs.Facts.{UnitFacts}
use Rattle.idl_root_blocks.specs.Places.{DeclarationPlace, declaration_at, declarations_over, facts_over}
use Rattle.idl_root_blocks.specs.declared.text.BlockPart.{BlockPart as Part}
use Rattle.idl_root_blocks.specs.declared.text.BlockPart.TheVariants.{Text, Enters, Leaves}

-- a part more in front
pub facts-first : (part : Part) (text : List Part) (facts : List UnitFacts) → facts_over facts (part ∷ text) ≡ facts_over (facts_over facts (part ∷ [])) text
facts-first (Text unit) text facts = refl
facts-first (Enters inside) text facts = refl
facts-first (Leaves inside) text facts = refl

pub facts-split : (a b : List Part) (facts : List UnitFacts) → facts_over facts (a ++ b) ≡ facts_over (facts_over facts a) b
facts-split [] b facts = refl
facts-split (part ∷ a) b facts =
    facts-first part (a ++ b) facts ∙ facts-split a b (facts_over facts (part ∷ [])) ∙ ap (λ (f : List UnitFacts). facts_over f b) (sym (facts-first part a facts))

pub declarations-split : (a b : List Part) (facts : List UnitFacts) → declarations_over facts (a ++ b) ≡ declarations_over facts a ++ declarations_over (facts_over facts a) b
unfolding declarations_over
declarations-split [] b facts = refl
declarations-split (part ∷ a) b facts =
    let next = facts_over facts (part ∷ []) in
    let later : declarations_over next (a ++ b) ≡ declarations_over next a ++ declarations_over (facts_over facts (part ∷ a)) b =
    declarations-split a b next ∙ ap (λ (f : List UnitFacts). declarations_over next a ++ declarations_over f b) (sym (facts-first part a facts)) in
    ap (λ (places : List DeclarationPlace). declaration_at facts part ++ places) later
    ∙ sym (append_assoc (declaration_at facts part) (declarations_over next a) (declarations_over (facts_over facts (part ∷ a)) b))
