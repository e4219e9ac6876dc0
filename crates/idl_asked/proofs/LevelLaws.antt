-- A text is a block's where it leaves what it enters, and closes what it opened.
use Rattle.std.proofs.Common.{◌≡◌, ℕ, zero, suc, Bool, true, false, List, [], ◌∷◌, Option, None, Some, ap}
use Rattle.std.proofs.lemmas.Option.{same_Some}
use Rattle.std.specs.Prelude.{◌↔◌, if◌then◌else◌}
use Rattle.idl_asked.specs.Blocks.{IsLevel}
use Rattle.idl_block.specs.facts.Beneath.{Depth, deepened}
use Rattle.idl_check_laws.specs.idl_check.walk.Placing.{opened_kind}
use Rattle.idl_entity.specs.declared.kind.Kind.{Kind}
use Rattle.idl_env.specs.declared.additions.addition.Step.{Step}
use Rattle.idl_env.specs.declared.additions.addition.Step.TheVariants.{Closes, OpensNameless, Stays}
use Rattle.idl_root_blocks.proofs.Cuts.{at, no-none}
use Rattle.idl_root_blocks.specs.Blocks.{IsOfBlock, depth_behind}
use Rattle.idl_root_blocks.specs.declared.text.BlockPart.{BlockPart}
use Rattle.idl_root_blocks.specs.declared.text.BlockPart.TheVariants.{Text, Enters, Leaves}
use Rattle.idl_unit.specs.Ending.{rule_of}
use Rattle.idl_unit.specs.Scoping.{is_closing_by}
use Rattle.idl_unit.specs.declared.unit.UnitText.TheVariants.{Pragma, Tokens}

-- the step of a unit, by the scope that it opens and whether it is a closing
abbrev step_by : Option Kind → Bool → Step
step_by o b = elim o [ None ↦ if b then Closes else Stays | Some kind ↦ OpensNameless kind ]

abbrev onward : List BlockPart → Option Depth → Option Depth
onward text o = elim o [ None ↦ None | Some next ↦ depth_behind next text ]

abbrev Goes : ℕ → ℕ → List BlockPart → Step → Type 0
Goes scopes files text s = elim s [
  | Closes ↦ elim scopes [ zero ↦ ⊥ | suc n ↦ IsLevel n files text ]
  | OpensNameless kind ↦ IsLevel (suc scopes) files text
  | other ↦ IsLevel scopes files text
]

level-of : (text : List BlockPart) (scopes files s : ℕ) → depth_behind (at scopes files) text ≡ Some (at s 0) → IsLevel scopes files text
level-of [] scopes files s h = ap (λ (d : Depth). d.files) (same_Some _ _ h)
level-of (Enters inside ∷ text) scopes files s h = level-of text scopes (suc files) s h
level-of (Leaves inside ∷ text) scopes zero s h = absurd (no-none (at s 0) h)
level-of (Leaves inside ∷ text) scopes (suc n) s h = level-of text scopes n s h
level-of (Text (Pragma tokens inside) ∷ text) scopes files s h = level-of text scopes files s h
level-of (Text (Tokens tokens) ∷ text) scopes files s h =
    by (opened_kind tokens) (is_closing_by (rule_of tokens)) scopes (λ m n k. level-of text m n s k) h
  where
    by : (o : Option Kind) (b : Bool) (m : ℕ) → ((m n : ℕ) → depth_behind (at m n) text ≡ Some (at s 0) → IsLevel m n text)
        → onward text (deepened (at m files) (step_by o b)) ≡ Some (at s 0) → Goes m files text (step_by o b)
    by (Some kind) b m more k = more (suc m) files k
    by None false m more k = more m files k
    by None true zero more k = absurd (no-none (at s 0) k)
    by None true (suc n) more k = more n files k

abbrev Ends : ℕ → ℕ → List BlockPart → Type 0
Ends scopes files text = (s : ℕ) × (depth_behind (at scopes files) text ≡ Some (at s 0))

of-level : (text : List BlockPart) (scopes files : ℕ) → IsLevel scopes files text → Ends scopes files text
of-level [] scopes files h = (scopes, ap (λ n. Some (at scopes n)) h)
of-level (Enters inside ∷ text) scopes files h = of-level text scopes (suc files) h
of-level (Leaves inside ∷ text) scopes zero h = absurd h
of-level (Leaves inside ∷ text) scopes (suc n) h = of-level text scopes n h
of-level (Text (Pragma tokens inside) ∷ text) scopes files h = of-level text scopes files h
of-level (Text (Tokens tokens) ∷ text) scopes files h =
    by (opened_kind tokens) (is_closing_by (rule_of tokens)) scopes (λ m n k. of-level text m n k) h
  where
    by : (o : Option Kind) (b : Bool) (m : ℕ) → ((m n : ℕ) → IsLevel m n text → Ends m n text)
        → Goes m files text (step_by o b) → (s : ℕ) × (onward text (deepened (at m files) (step_by o b)) ≡ Some (at s 0))
    by (Some kind) b m more k = more (suc m) files k
    by None false m more k = more m files k
    by None true zero more k = absurd k
    by None true (suc n) more k = more n files k

pub texts-told : (text : List BlockPart) → IsOfBlock text ↔ IsLevel 0 0 text
texts-told text = (
  λ b. level-of text 0 0 b.scopes b.behind,
  λ h. (let r = of-level text 0 0 h in record { scopes = r.0; behind = r.1 }),
)
