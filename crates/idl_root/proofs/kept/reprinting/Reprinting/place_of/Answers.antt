use Rattle.std.proofs.Common.{◌≡◌, ◌∙◌, Some, ap, map, rules, subst, sym, true}
use Rattle.std.proofs.lemmas.List.Elements.{All-contains}
use Rattle.std.proofs.lemmas.Option.{same_Some}
use Rattle.idl_env.specs.Facts.{answers}
use Rattle.idl_env.specs.keys.Key.{key_digest}
use Rattle.idl_store.specs.Stored.{list_at, result_at}
use Rattle.idl_repo.specs.Entry.{entry}
use Rattle.idl_root.specs.Changed.{ShareNone}
use Rattle.idl_root.specs.Results.{EntryResult, entry_result}
use Rattle.idl_root.proofs.AgainLemmas.{result-again}
use Rattle.idl_root.proofs.StoredLemmas.{list-contains}
use Rattle.idl_root.proofs.kept.reprinting.Reprinting.place_of.Goals as goal

pub returns-clause-printed : goal.returns-clause-printed
returns-clause-printed c =
    let stored = c.args.kept.now in
    let old = c.args.self.now in
    let now = c.next_at.new.self in
    let place = c.in_ok-place.place in
    let e : EntryResult = c.in_ok-entry.entry.now in
    let found = c.in_ok-place.ensures.found in
    let at : result_at stored now.list place ≡ Some e = search rules in
    let there : result_at stored old.list place ≡ Some e = ap (λ l. result_at stored l place) (sym c.next_at.ensures.list) ∙ at in
    let same : e ≡ found.0 = same_Some e found.0 (sym there ∙ found.1.0) in
    let text : e.text ≡ c.args.path.now = ap (λ (k : EntryResult). k.text) same ∙ found.1.1 in
    let yes : c.shares_none_of.result ≡ true = search rules in
    let log : c.log.result.now ≡ e.log = c.log.ensures in
    let apart : ShareNone (map (λ e. key_digest e.0) e.log) old.changed =
    subst (λ l. ShareNone (map (λ e. key_digest e.0) l) old.changed) log
    (subst (λ d. ShareNone (map (λ e. key_digest e.0) c.log.result.now) d) c.next_at.ensures.changed (c.shares_none_of.ensures yes)) in
    record {
      result = e;
      found = at;
      again = λ facts b.
          let own = All-contains (λ (k : EntryResult). k ≡ entry_result (k.text, answers b.before)) (list_at stored.lists old.list) e b.entries
          (list-contains stored.lists old.list place e there) in
          result-again entry true old.changed b.before facts e own b.but apart
          ∙ ap (λ t. entry_result (t, answers facts)) text;
    }
