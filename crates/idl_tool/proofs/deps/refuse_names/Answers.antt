use Rattle.std.proofs.Common.{◌∙◌, ℕ, IsTrue, List, ap, sym, take}
use Rattle.std.proofs.lemmas.List.{take_all}
use Rattle.std.proofs.lemmas.List.Elements.{All-same}
use Rattle.idl_tool.specs.make_rules.Make.{is_make_name}
use Rattle.idl_loader.proofs.ListLemmas.{All-take_more}
use Rattle.idl_tool.proofs.deps.refuse_names.Goals as goal

pub names-preserved : goal.names-preserved
names-preserved c =
    All-take_more (λ (n : List ℕ). IsTrue (is_make_name n)) c.args.names.now c.names.name-index c.name-item.result c.names-test.true c.name-item.is c.names.invariant
    (ap is_make_name (sym c.as_bytes.ensures.bytes) ∙ sym c.is_make_name.ensures ∙ c.if-not-is_make_name.false)

pub returns : goal.returns
returns c =
    let names = c.args.names.now in
    All-same (λ (n : List ℕ). IsTrue (is_make_name n)) names (take c.names.name-index names) (sym (take_all c.names.name-index names c.names-test.false)) c.names.invariant
