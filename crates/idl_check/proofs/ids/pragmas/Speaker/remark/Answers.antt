use Rattle.std.proofs.Common.{◌+◌, ◌∷◌, [], ◌∙◌, arith}
use Rattle.idl_check.proofs.PartLemmas.{part-within}
use Rattle.idl_check.proofs.PragmaLaws.PragmaLemmas.{told-found, told-unfound}
use Rattle.idl_check.proofs.Visits.JudgeLemmas.{turns-none, under-none}
use Rattle.idl_check.proofs.Visits.VisitLemmas.{runs_over}
use Rattle.idl_check.specs.ids.About.{refused_for}
use Rattle.idl_check.specs.ids.Remarks.{identified, remarked}
use Rattle.idl_check.specs.tables.Using.{name_code}
use Rattle.idl_check.specs.walk.Held.{fixed_by, identified_by}
use Rattle.idl_env.specs.Facts.{answers}
use Rattle.idl_env.specs.Turns.{turns_among, turns_for}
use Rattle.idl_scope.proofs.LookupLaws.RunLemmas.{runs}
use Rattle.idl_scope.specs.Lookup.{under}
use Rattle.idl_scope.specs.declared.fault.NameFault.TheVariants.{At}
use Rattle.idl_tree.specs.NameParts.{last_at, part_at}
use Rattle.idl_unit.specs.TokenRules.{fault_at}
use Rattle.idl_check.proofs.ids.pragmas.Speaker.remark.Goals as goal

pub returns-in-Ok-clause-said : goal.returns-in-Ok-clause-said
returns-in-Ok-clause-said c = λ turns more.
    let bank = answers c.args.self.env.now in
    let own = c.new-own.result.additions in
    let change = fixed_by c.args.statement in
    let scopes = c.args.self.scopes.now in
    let name = c.args.name.now in
    let log = c.args.log.now in
    let found = c.in-Ok.found in
    let middle = c.resolve.new.log in
    let at = last_at 2 name in
    let gives = c.in-Ok.ensures.asked turns (turns-none c.args.self.env.now c.new-own.result turns c.new-own.ensures more) in
    let told = c.in_ok-remark-in-Ok.ensures at ∙ (λ i. runs own bank (identified at change (c.get.ensures i)) middle) in
    told-found own bank change turns scopes name log found middle (remarked at c.in_ok-remark-in-Ok.remark) c.remark.new.log gives told
    ∙ (λ i. runs_over bank (under (c.new-own.ensures i).additions (identified_by turns scopes name change)) log)
    ∙ (λ i. runs_over bank (under-none (identified_by turns scopes name change) i) log)

pub part_at-requires : goal.part_at-requires
part_at-requires c =
    let own = c.new-own.result.additions in
    let turns = turns_for c.args.self.env.now + turns_among own in
    let asked = rw c.in-Err-At.field-0-is at c.in-Err-At.ensures.asked in
    let within =
    part-within own (answers c.args.self.env.now) turns c.args.self.scopes.now c.args.name.now c.args.log.now c.resolve.new.log c.in-Err-At.code c.in-Err-At.part
    (asked turns (omega arith)) in
    omega (arith, within, c.requires, c.in-Err-At.part-is)

pub returns-clause-said : goal.returns-clause-said
returns-clause-said c = λ turns more.
    let bank = answers c.args.self.env.now in
    let own = c.new-own.result.additions in
    let change = fixed_by c.args.statement in
    let scopes = c.args.self.scopes.now in
    let name = c.args.name.now in
    let log = c.args.log.now in
    let after = c.resolve.new.log in
    let asked = rw c.in-Err-At.field-0-is at c.in-Err-At.ensures.asked in
    let gives = asked turns (turns-none c.args.self.env.now c.new-own.result turns c.new-own.ensures more) in
    (λ i. (refused_for (fault_at (c.part_at.ensures i) (c.name_code.ensures i) ∷ []), after))
    ∙ (λ i. (refused_for (fault_at (part_at 2 name (c.in-Err-At.part-is i)) (name_code (c.in-Err-At.code-is i)) ∷ []), after))
    ∙ told-unfound own bank change turns scopes name log (At c.in-Err-At.code c.in-Err-At.part) after gives
    ∙ (λ i. runs_over bank (under (c.new-own.ensures i).additions (identified_by turns scopes name change)) log)
    ∙ (λ i. runs_over bank (under-none (identified_by turns scopes name change) i) log)

pub returns-clause-place : goal.returns-clause-place
returns-clause-place c =
    let own = c.new-own.result.additions in
    let turns = turns_for c.args.self.env.now + turns_among own in
    let asked = rw c.in-Err-At.field-0-is at c.in-Err-At.ensures.asked in
    let within =
    part-within own (answers c.args.self.env.now) turns c.args.self.scopes.now c.args.name.now c.args.log.now c.resolve.new.log c.in-Err-At.code c.in-Err-At.part
    (asked turns (omega arith)) in
    omega (arith, within, c.part_at.ensures, c.in-Err-At.part-is)
