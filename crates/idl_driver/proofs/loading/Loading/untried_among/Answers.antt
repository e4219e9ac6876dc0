use Rattle.std.proofs.Common.{◌≡◌, ◌∙◌, ℕ, Contains, List, sym, take, true}
use Rattle.std.proofs.lemmas.List.{take_all}
use Rattle.std.proofs.lemmas.List.Elements.{All-same}
use Rattle.std.specs.Cmp.Lexicographic.{bytes_decides}
use Rattle.std.specs.List.{list_any}
use Rattle.std.specs.Str.{bytes_eq}
use Rattle.indexmap.proofs.CallerLemmas.{Contains-list_any}
use Rattle.idl_loader.proofs.ListLemmas.{All-take_more}
use Rattle.idl_driver.proofs.loading.Loading.untried_among.Goals as goal

pub names-preserved : goal.names-preserved
names-preserved c =
    let missing = c.args.self.now.missing.keys in
    let name = c.name-item.result in
    let there : list_any (bytes_eq name) missing ≡ true = sym c.contains.ensures ∙ c.if-not-contains.false in
    All-take_more (λ (n : List ℕ). Contains missing n) c.args.names.now c.names.name-index name c.names-test.true c.name-item.is c.names.invariant
    (Contains-list_any bytes_eq (λ x y. (bytes_decides x y).0) missing name there)

pub returns : goal.returns
returns c =
    let names = c.args.names.now in
    All-same (λ (n : List ℕ). Contains c.args.self.now.missing.keys n) names (take c.names.name-index names) (sym (take_all c.names.name-index names c.names-test.false)) c.names.invariant
