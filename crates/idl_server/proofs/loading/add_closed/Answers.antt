use Rattle.std.proofs.Common.{◌≡◌, ◌∙◌, ℕ, All, List, None, cond, inr, subst, sym, take, true}
use Rattle.std.proofs.lemmas.List.{take_all}
use Rattle.std.proofs.lemmas.List.Elements.{All-same, All-weaker}
use Rattle.std.specs.List.{list_any}
use Rattle.std.specs.Map.{lookup}
use Rattle.std.specs.Str.{bytes_eq}
use Rattle.idl_loader.proofs.ListLemmas.{All-take_more}
use Rattle.idl_server.specs.Files.{IsNamed}
use Rattle.idl_server.proofs.FileLemmas.{none-there}
use Rattle.idl_server.proofs.RootLemmas.{all-inserted, one-among, still-among}
use Rattle.idl_server.proofs.loading.add_closed.Goals as goal

-- one that is open
pub asked-preserved-then-contains_key : goal.asked-preserved-then-contains_key
asked-preserved-then-contains_key c = record {
  closed = c.asked.invariant.closed;
  all =
      All-take_more (IsNamed c.asked.names.keys c.args.documents.now.entries) c.args.asked.now c.asked.name-index c.name-item.result c.asked-test.true c.name-item.is c.asked.invariant.all
      (inr (sym c.contains_key.ensures ∙ c.if-contains_key.true));
  kept = c.asked.invariant.kept;
}

-- one that isn't
pub asked-preserved : goal.asked-preserved
asked-preserved c =
    let documents = c.args.documents.now.entries in
    let names = c.asked.names.keys in
    let new = c.insert.new.self.keys in
    let name = c.name-item.result in
    let made : (q : List ℕ) → list_any (bytes_eq q) new ≡ cond (bytes_eq name q) true (list_any (bytes_eq q) names) =
    λ q. subst (λ (n : List ℕ). list_any (bytes_eq q) new ≡ cond (bytes_eq n q) true (list_any (bytes_eq q) names)) c.copied.ensures (c.in_ok-insert.ensures.updates.0 q) in
    record {
      closed = λ all.
          subst (λ (ns : List (List ℕ)). All (λ n. lookup (bytes_eq n) documents ≡ None) ns) (sym c.in_ok-insert.ensures.keys)
          (all-inserted (λ n. lookup (bytes_eq n) documents ≡ None) names c.copied.result (c.asked.invariant.closed all)
          (subst (λ (n : List ℕ). lookup (bytes_eq n) documents ≡ None) (sym c.copied.ensures)
          (none-there (lookup (bytes_eq name) documents) (sym c.contains_key.ensures ∙ c.if-contains_key.false))));
      all =
          All-take_more (IsNamed new documents) c.args.asked.now c.asked.name-index name c.asked-test.true c.name-item.is
          (All-weaker (IsNamed names documents) (IsNamed new documents) (still-among documents names new name made) _ c.asked.invariant.all) (one-among documents names new name made);
      kept = λ q there. still-among documents names new name made q (c.asked.invariant.kept q there);
    }

pub returns-clause-all : goal.returns-clause-all
returns-clause-all c =
    let asked = c.args.asked.now in
    All-same (IsNamed c.asked.names.keys c.args.documents.now.entries) asked (take c.asked.name-index asked) (sym (take_all c.asked.name-index asked c.asked-test.false)) c.asked.invariant.all
