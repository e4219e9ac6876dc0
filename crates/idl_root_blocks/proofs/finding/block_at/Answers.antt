use Rattle.std.proofs.Common.{◌≡◌, ◌∙◌, false, [], ◌∷◌, ◌++◌, Bor, List, IfNone, IfSome, subst, sym, ap}
use Rattle.idl_root_blocks.specs.Blocks.{Block, Split, cut}
use Rattle.idl_root_blocks.specs.Finding.{in_front}
use Rattle.idl_root_blocks.specs.Units.{parts_of_unit, text_of}
use Rattle.idl_root_blocks.specs.declared.text.BlockPart.{BlockPart}
use Rattle.idl_root_blocks.specs.declared.text.BlockPart.TheVariants.{Enters}
use Rattle.idl_root_blocks.proofs.Finds.{IsAlone, alone-inside, alone-left, alone-text, begins-none, begins-some, first-units}
use Rattle.idl_unit.specs.declared.unit.Unit.{Unit}
use Rattle.idl_root_blocks.proofs.finding.block_at.Goals as goal

pub returns-then-is_inside-clause-none : goal.returns-then-is_inside-clause-none
returns-then-is_inside-clause-none c =
    let text = text_of c.args.behind.now in
    subst (λ (u : Unit). IsAlone u text) (sym c.in-Entered.is) (alone-inside c.in-Entered.is_inside text c.if-is_inside.true)

pub returns-in-Spelled-clause-none : goal.returns-in-Spelled-clause-none
returns-in-Spelled-clause-none c =
    let text = text_of c.args.behind.now in
    subst (λ (u : Unit). IsAlone u text) (sym c.in-Spelled.is) (alone-text c.in-Spelled._text text)

pub returns-in-Left-clause-none : goal.returns-in-Left-clause-none
returns-in-Left-clause-none c =
    let text = text_of c.args.behind.now in
    subst (λ (u : Unit). IsAlone u text) (sym c.in-Left.is) (alone-left c.in-Left._is_inside text)

pub returns-else-is_inside-clause-some : goal.returns-else-is_inside-clause-some
returns-else-is_inside-clause-some c =
    let text = text_of c.args.behind.now in
    let to : Bor (List Unit) × Bor (List Unit) → Split = λ b. record { inside = text_of b.0.now; behind = text_of b.1.now } in
    let begins : parts_of_unit c.args.unit.now ≡ Enters false ∷ [] = ap parts_of_unit c.in-Entered.is ∙ ap (λ b. Enters b ∷ []) c.if-is_inside.false in
    subst (λ (parts : List BlockPart). IfSome c.inside_of.result (λ b. cut (parts ++ text) ≡ Block (cut (to b).inside) (cut (to b).behind))) (sym begins)
    (begins-some to c.inside_of.result text c.inside_of.ensures.found)

pub returns-else-is_inside-clause-none : goal.returns-else-is_inside-clause-none
returns-else-is_inside-clause-none c =
    let text = text_of c.args.behind.now in
    let to : Bor (List Unit) × Bor (List Unit) → Split = λ b. record { inside = text_of b.0.now; behind = text_of b.1.now } in
    let begins : parts_of_unit c.args.unit.now ≡ Enters false ∷ [] = ap parts_of_unit c.in-Entered.is ∙ ap (λ b. Enters b ∷ []) c.if-is_inside.false in
    subst (λ (parts : List BlockPart). IfNone c.inside_of.result (cut (parts ++ text) ≡ in_front parts (cut text))) (sym begins)
    (begins-none to c.inside_of.result text c.inside_of.ensures.found)

pub returns-else-is_inside-clause-units : goal.returns-else-is_inside-clause-units
returns-else-is_inside-clause-units c =
    let begins : parts_of_unit c.args.unit.now ≡ Enters false ∷ [] = ap parts_of_unit c.in-Entered.is ∙ ap (λ b. Enters b ∷ []) c.if-is_inside.false in
    first-units c.args.unit.now c.args.behind.now c.inside_of.result begins c.inside_of.ensures.units
