use Rattle.std.proofs.Common.{◌≡◌, ◌∷◌, [], sym, ap, ◌∙◌}
use Rattle.idl_env.specs.Facts.{answers, global_scope}
use Rattle.idl_scope.specs.Finds.{those}
use Rattle.idl_scope.specs.Lookup.{decided, has, searched}
use Rattle.idl_entity.specs.declared.kind.Kind.TheVariants.{Module}
use Rattle.idl_scope.proofs.LookupLaws.RunLemmas.{decided_alone, runs}
use Rattle.idl_scope.proofs.lookup.View.first_found.Goals as goal

pub returns-then-name : goal.returns-then-name
returns-then-name c turns more =
    let own = c.args.self.own.now.additions in
    let bank = answers c.args.self.env.now in
    let name = c.args.name.now in
    let log = c.args.log.now in
    let folded = c.in_ok-folded.folded in
    let same = c.in_ok-folded.ensures in
    let scopes : global_scope ∷ [] ≡ searched name.is_global c.args.cursor.now = sym (ap (λ b. searched b c.args.cursor.now) c.if-name.true) in
    decided_alone own bank turns global_scope folded log (those c.in_ok-found_in.field-0) _
    (c.in_ok-found_in.ensures turns more ∙ (λ i. runs own bank (has turns Module (c.global-path.ensures i) folded) log))
    ∙ (λ i. runs own bank (decided turns 0 (scopes i) (same i)) log)
