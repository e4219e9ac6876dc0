use Rattle.std.proofs.Common.{◌≡◌, ◌+◌, ◌∷◌, [], ap, ◌∙◌, arith}
use Rattle.idl_tree.specs.NameParts.{last_at}
use Rattle.idl_check.specs.walk.Walk.{noted}
use Rattle.idl_unit.specs.TokenRules.{fault_at}
use Rattle.idl_check.proofs.walk.walker.Walker.use_nothing.Goals as goal

pub last_at-requires : goal.last_at-requires
last_at-requires c =
    let at : c.note.new.self.at ≡ c.args.self.now.at = ap (λ w. w.at) c.note.ensures in
    omega (arith, at, c.requires.room)

pub overflow_add-self : goal.overflow_add-self
overflow_add-self c =
    let at : c.note.new.self.at ≡ c.args.self.now.at = ap (λ w. w.at) c.note.ensures in
    omega (arith, at, c.requires.room, c.last_at.ensures)

pub returns : goal.returns
returns c =
    let old = c.args.self.now in
    let before : c.note.new.self.at ≡ old.at = ap (λ w. w.at) c.note.ensures in
    let at : c.last_at.result + 1 ≡ last_at old.at c.args.name.now + 1 = omega (arith, before, c.last_at.ensures) in
    let fault = ap (λ w. w.fault) c.note.ensures ∙ (λ i. noted old.fault (fault_at (c.part_at.ensures i) (c.name_code.ensures i) ∷ [])) in
    λ i. record (c.note.ensures i) { at = at i; fault = fault i }
