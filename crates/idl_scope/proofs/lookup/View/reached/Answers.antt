use Rattle.std.proofs.Common.{◌≡◌, [], None, sym, ap, ◌∙◌, map}
use Rattle.std.proofs.lemmas.Bool.{eqb-true}
use Rattle.std.proofs.lemmas.List.{nil_from_length}
use Rattle.std.specs.Prelude.{length, slice_get}
use Rattle.idl_env.specs.Facts.{answers, joined}
use Rattle.idl_scope.proofs.LookupLaws.RunLemmas.{walk_end}
use Rattle.idl_scope.proofs.lookup.View.reached.Goals as goal

pub returns-then-is_empty : goal.returns-then-is_empty
returns-then-is_empty c turns more =
    let own = c.args.self.own.now.additions in
    let bank = answers c.args.self.env.now in
    let bases = c.args.bases.now in
    let none = nil_from_length bases (eqb-true (length bases) 0 (sym c.is_empty.ensures ∙ c.if-is_empty.true)) in
    let end : slice_get (joined [] bases) 0 ≡ None = ap (λ paths. slice_get (joined [] paths) 0) none in
    (λ i. (map (λ e. e.now) (c.new.ensures.items i), c.args.log.now))
    ∙ sym (walk_end own bank turns c.args.name.now 0 (joined [] bases) [] c.args.log.now end)
