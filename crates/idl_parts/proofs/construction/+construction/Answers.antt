use Rattle.std.proofs.Common.{[], ◌∷◌, ◌++◌, ap, arith, length, refl, ◌≡◌}
use Rattle.std.proofs.lemmas.Grind.{common_steps}
use Rattle.idl_lex.specs.declared.kinds.mark.Mark.TheVariants as mark
use Rattle.idl_parts.specs.ConstructionParts.{base_parts, case_parts, discriminator_parts, label_parts, member_parts, member_type_parts, structure_parts, union_parts}
use Rattle.idl_parts.specs.Part.{ScopeEnds, all_parts, if_some, listed, punctuation}
use Rattle.idl_parts.specs.TypeParts.{declarator_parts}
use Rattle.idl_parts.specs.declared.part.Declaration.TheVariants as declaration
use Rattle.idl_parts.specs.declared.part.UnitPart.TheVariants as site
use Rattle.idl_tree.specs.declared.declarations.construction.Structure.{out-Structure}
use Rattle.idl_tree.specs.declared.declarations.construction.Union.{out-Union}
use Rattle.idl_parts.proofs.ConstructionEquations.{case_parts-out, construction_parts-enumeration, construction_parts-structure, construction_parts-union, member_parts-out, member_type_parts-construction, member_type_parts-type, structure_brace, structure_opening, structure_parts-out, union_brace, union_opening, union_parts-out}
use Rattle.idl_parts.proofs.PushLemmas.{pushes-append, pushes-close_behind, pushes-one}
use Rattle.idl_parts.proofs.construction.+construction.Goals as goal

pub push_construction-returns-in-Structure : goal.push_construction-returns-in-Structure
push_construction-returns-in-Structure t c = rw (c.in-Structure.is, construction_parts-structure) (rw c.get.ensures at c.push_structure.ensures)

pub push_construction-returns-in-Union : goal.push_construction-returns-in-Union
push_construction-returns-in-Union t c = rw (c.in-Union.is, construction_parts-union) (rw c.get-in-Union.ensures at c.push_union.ensures)

pub push_member_type-returns-in-Construction : goal.push_member_type-returns-in-Construction
push_member_type-returns-in-Construction t c =
    rw (c.in-Construction.is, member_type_parts-construction) (rw c.get.ensures at c.push_construction.ensures)

pub push_member-returns : goal.push_member-returns
push_member-returns t c =
    let a = c.args.sites.now.items in
    let b = c.push_member_type.new.sites.items in
    let m = c.push_declarators.new.sites.items in
    let z = c.push.new.self.items in
    let declarators = listed (declarator_parts declaration.Member) c.args.member.now.declarators in
    rw member_parts-out
    (pushes-append a b z (member_type_parts c.args.member.now.kind) (declarators ++ punctuation mark.Semicolon ∷ []) c.in_ok-push_member_type.ensures
    (pushes-append b m z declarators (punctuation mark.Semicolon ∷ []) c.in_ok-push_declarators.ensures
    (pushes-one m z (site.Tokens 1) (punctuation mark.Semicolon) c.in_ok-push.ensures.items refl)))

pub push_case-returns : goal.push_case-returns
push_case-returns t c =
    let a = c.args.sites.now.items in
    let b = c.push_labels.new.sites.items in
    let m = c.push_member_type.new.sites.items in
    let n = c.push_declarator.new.sites.items in
    let z = c.push.new.self.items in
    let x = c.args.case.now in
    let declared = declarator_parts declaration.Member x.declarator in
    rw case_parts-out
    (pushes-append a b z (all_parts label_parts x.labels) (member_type_parts x.kind ++ (declared ++ punctuation mark.Semicolon ∷ [])) c.in_ok-push_labels.ensures
    (pushes-append b m z (member_type_parts x.kind) (declared ++ punctuation mark.Semicolon ∷ []) c.in_ok-push_member_type.ensures
    (pushes-append m n z declared (punctuation mark.Semicolon ∷ []) c.in_ok-push_declarator.ensures
    (pushes-one n z (site.Tokens 1) (punctuation mark.Semicolon) c.in_ok-push.ensures.items refl))))

pub push_structure-returns : goal.push_structure-returns
push_structure-returns t c =
    let x = out-Structure c.args.structure.now in
    let same : c.as_slice-member-items.result.now ≡ x.members = c.as_slice-member-items.ensures in
    let long = ap length same in
    let b = c.loop-member.sites.items in
    let m = c.push.new.self.items in
    let z = c.push-2.new.self.items in
    rw structure_parts-out
    (pushes-close_behind member_parts x.members c.loop-member.member-index c.args.sites.now.items b z (structure_opening x.name) (if_some base_parts x.base) (structure_brace x.name)
    (ScopeEnds ∷ punctuation mark.CloseBrace ∷ []) (omega arith) c.loop-member.invariant
    (pushes-append b m z (ScopeEnds ∷ []) (punctuation mark.CloseBrace ∷ []) (pushes-one b m site.ScopeEnds ScopeEnds c.in_ok-push.ensures.items refl)
    (pushes-one m z (site.Tokens 1) (punctuation mark.CloseBrace) c.in_ok-push-2.ensures.items refl)))

pub push_union-returns : goal.push_union-returns
push_union-returns t c =
    let x = out-Union c.args.union.now in
    let same : c.as_slice-case-items.result.now ≡ x.rest = c.as_slice-case-items.ensures in
    let long = ap length same in
    let b = c.loop-case.sites.items in
    let m = c.push.new.self.items in
    let z = c.push-2.new.self.items in
    rw union_parts-out
    (pushes-close_behind case_parts x.rest c.loop-case.case-index c.args.sites.now.items b z (union_opening x.name) (discriminator_parts x.discriminator) (union_brace x.name ++ case_parts x.first)
    (ScopeEnds ∷ punctuation mark.CloseBrace ∷ []) (omega arith) c.loop-case.invariant
    (pushes-append b m z (ScopeEnds ∷ []) (punctuation mark.CloseBrace ∷ []) (pushes-one b m site.ScopeEnds ScopeEnds c.in_ok-push.ensures.items refl)
    (pushes-one m z (site.Tokens 1) (punctuation mark.CloseBrace) c.in_ok-push-2.ensures.items refl)))

pub push_structure-loop-member-preserved : goal.push_structure-loop-member-preserved
unfolding structure_parts
push_structure-loop-member-preserved t c = grind (arith, common_steps)

pub push_structure-loop-member-init : goal.push_structure-loop-member-init
unfolding structure_parts
push_structure-loop-member-init t c = grind (arith, common_steps)

pub push_union-loop-case-preserved : goal.push_union-loop-case-preserved
unfolding union_parts
push_union-loop-case-preserved t c = grind (arith, common_steps)

pub push_union-loop-case-init : goal.push_union-loop-case-init
unfolding union_parts
push_union-loop-case-init t c = grind (arith, common_steps)

pub push_construction-returns-in-Enumeration : goal.push_construction-returns-in-Enumeration
push_construction-returns-in-Enumeration t c = rw (c.in-Enumeration.is, construction_parts-enumeration) c.push_enumeration.ensures

pub push_member_type-returns-in-Type : goal.push_member_type-returns-in-Type
push_member_type-returns-in-Type t c = rw (c.in-Type.is, member_type_parts-type) c.push_type.ensures
