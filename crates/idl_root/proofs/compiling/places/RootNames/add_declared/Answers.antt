use Rattle.std.proofs.Common.{◌≡◌, ◌∙◌, ◌∷◌, ◌++◌, [], ap, arith, length, subst, sym}
use Rattle.idl_root.specs.NamePlaces.{AreNumbered, numbers_at}
use Rattle.idl_root.proofs.NamingLemmas.{numbered-with}
use Rattle.idl_root.proofs.compiling.places.RootNames.add_declared.Goals as goal

pub returns-clause-numbers : goal.returns-clause-numbers
returns-clause-numbers c =
    let names = c.args.self.now.declared in
    let name = c.in-Some.name in
    let old = c.args.self.now.numbers in
    let count : c.len.result ≡ length names.items = omega (arith, c.len.ensures, names.ok.0) in
    let value : c.push.new.self ≡ numbers_at old name.path ++ length names.items ∷ [] =
    c.in_ok-push.ensures.items ∙ ap (λ ns. ns ++ c.len.result ∷ []) c.in_ok-numbers.ensures ∙ ap (λ n. numbers_at old name.path ++ n ∷ []) count in
    subst (λ ns. AreNumbered ns c.insert.new.self) (sym c.in_ok-push-2.ensures.items)
    (numbered-with names.items name old c.insert.new.self c.in_ok-clone.field-0 c.push.new.self c.in_ok-clone.ensures.cases value c.in_ok-insert.ensures.each_key c.requires)
