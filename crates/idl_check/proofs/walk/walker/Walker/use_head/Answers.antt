use Rattle.std.proofs.Common.{◌+◌, ◌∷◌, [], Ok, sym, ap, ◌∙◌}
use Rattle.idl_check.proofs.Faults.NotedLemmas.{head-other, head-scope}
use Rattle.idl_check.proofs.Visits.VisitLemmas.{head_by, runs_over, turns-here}
use Rattle.idl_check.specs.walk.Held.{held}
use Rattle.idl_tree.specs.NameParts.{last_at}
use Rattle.idl_check.specs.tables.Using.{name_code}
use Rattle.idl_check.specs.walk.Walk.{noted, turns_at}
use Rattle.idl_fault.specs.declared.code.Code.TheVariants.{NoScope}
use Rattle.idl_env.specs.Facts.{answers}
use Rattle.idl_entity.specs.Kind.{is_scope}
use Rattle.idl_scope.specs.Lookup.{denoted, under}
use Rattle.idl_entity.specs.declared.entity.Entity.{Entity}
use Rattle.idl_unit.specs.TokenRules.{fault_at}
use Rattle.idl_check.proofs.walk.walker.Walker.use_head.Goals as goal

pub returns-then-is_scope-clause-run : goal.returns-then-is_scope-clause-run
returns-then-is_scope-clause-run c = λ turns more.
    let w = held c.args.self.now in
    let bank = answers c.args.self.now.env.now in
    let name = c.args.name.now in
    let log = c.args.log.now in
    let found = c.in-Ok.found in
    let after = c.resolve.new.log in
    let gives = c.in-Ok.ensures.asked (turns_at turns w) (turns-here c.args.self.now.env.now w.own turns more)
    ∙ (λ i. runs_over bank (under w.own (denoted (turns_at turns w) (c.scopes.ensures.value i) (record {
      is_global = sym c.requires.local i;
      first = c.in_ok-clone.ensures.cases i;
      rest = c.new.ensures i;
    }))) log) in
    let scope = ap (λ (e : Entity). is_scope e.kind) (sym c.get.ensures) ∙ ap is_scope (sym c.kind.ensures) ∙ sym c.is_scope.ensures ∙ c.if-is_scope.true in
    (λ i. (record w { at = c.last_at.ensures i + 1 }, after))
    ∙ (λ i. (sym (head-scope name w found w.fault scope) i, after))
    ∙ sym (head_by bank turns name w log (Ok found) after gives)

pub returns-in-Ok-clause-run : goal.returns-in-Ok-clause-run
returns-in-Ok-clause-run c = λ turns more.
    let w = held c.args.self.now in
    let bank = answers c.args.self.now.env.now in
    let name = c.args.name.now in
    let log = c.args.log.now in
    let found = c.in-Ok.found in
    let after = c.resolve.new.log in
    let gives = c.in-Ok.ensures.asked (turns_at turns w) (turns-here c.args.self.now.env.now w.own turns more)
    ∙ (λ i. runs_over bank (under w.own (denoted (turns_at turns w) (c.scopes.ensures.value i) (record {
      is_global = sym c.requires.local i;
      first = c.in_ok-clone.ensures.cases i;
      rest = c.new.ensures i;
    }))) log) in
    let other = ap (λ (e : Entity). is_scope e.kind) (sym c.get.ensures) ∙ ap is_scope (sym c.kind.ensures) ∙ sym c.is_scope.ensures ∙ c.if-is_scope.false in
    (λ i. (held (c.note.ensures i), after))
    ∙ (λ i. (record w { at = c.last_at.ensures i + 1; fault = noted w.fault (fault_at w.at NoScope ∷ []) }, after))
    ∙ (λ i. (sym (head-other name w found w.fault other) i, after))
    ∙ sym (head_by bank turns name w log (Ok found) after gives)

pub returns-clause-run : goal.returns-clause-run
returns-clause-run c = λ turns more.
    let w = held c.args.self.now in
    let bank = answers c.args.self.now.env.now in
    let name = c.args.name.now in
    let log = c.args.log.now in
    let after = c.resolve.new.log in
    let asked = rw c.in-Err-At.field-0-is at c.in-Err-At.ensures.asked in
    let gives = asked (turns_at turns w) (turns-here c.args.self.now.env.now w.own turns more)
    ∙ (λ i. runs_over bank (under w.own (denoted (turns_at turns w) (c.scopes.ensures.value i) (record {
      is_global = sym c.requires.local i;
      first = c.in_ok-clone.ensures.cases i;
      rest = c.new.ensures i;
    }))) log) in
    (λ i. (held (c.note-in-Err-At.ensures i), after))
    ∙ (λ i. (record w { at = c.last_at.ensures i + 1; fault = noted w.fault (fault_at w.at (c.name_code.ensures i) ∷ []) }, after))
    ∙ (λ i. (record w { at = last_at w.at name + 1; fault = noted w.fault (fault_at w.at (name_code (c.in-Err-At.code-is i)) ∷ []) }, after))
    ∙ sym (head_by bank turns name w log _ after gives)
